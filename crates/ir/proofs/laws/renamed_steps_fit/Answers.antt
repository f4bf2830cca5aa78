use Rattle.ir.proofs.Fitting.{fitting_steps_name, renamed_steps_fit}
use Rattle.ir.proofs.laws.renamed_steps_fit.Goals as goal

pub returns : goal.returns
returns c = record {
  names = fitting_steps_name;
  steps = renamed_steps_fit;
}
