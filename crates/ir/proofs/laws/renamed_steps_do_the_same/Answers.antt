use Rattle.ir.proofs.Renamings.{renamed_steps, renamed_values}
use Rattle.ir.proofs.laws.renamed_steps_do_the_same.Goals as goal

pub returns : goal.returns
returns c = record {
  steps = renamed_steps;
  values = renamed_values;
}
