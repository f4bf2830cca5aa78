use Rattle.net_text.proofs.Only.{only_answer}
use Rattle.net_text.proofs.laws.net_texts_have_one_answer.Goals as goal

pub returns : goal.returns
returns c = only_answer
