use Rattle.inputs_text.proofs.OnlyLemmas.{only_answer}
use Rattle.inputs_text.proofs.reader.read_inputs_of.Goals as goal

pub returns-clause-only : goal.returns-clause-only
returns-clause-only c = only_answer c.args.scalars.now c.args.arrays.now c.args.bytes.now c.read_text.result c.read_text.ensures.says
