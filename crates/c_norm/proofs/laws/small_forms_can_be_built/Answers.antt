use Rattle.c_norm.proofs.FewVars.{sizes_small}
use Rattle.c_norm.proofs.laws.small_forms_can_be_built.Goals as goal

pub returns : goal.returns
returns c = sizes_small
