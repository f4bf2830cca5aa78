use Rattle.inputs_text.proofs.OnlyLemmas.{one_inputs}
use Rattle.inputs_text.proofs.laws.inputs_texts_have_one_reading.Goals as goal

pub returns : goal.returns
returns c = one_inputs
