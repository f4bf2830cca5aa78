use Rattle.net_replay.proofs.EndLemmas.{one_answer}
use Rattle.net_replay.proofs.laws.one_answer.Goals as goal

pub returns : goal.returns
returns c = one_answer
