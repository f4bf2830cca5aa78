use Rattle.c_norm.proofs.FewVars.{form_small}
use Rattle.c_norm.proofs.laws.normal_forms_are_small.Goals as goal

pub returns : goal.returns
returns c = form_small
