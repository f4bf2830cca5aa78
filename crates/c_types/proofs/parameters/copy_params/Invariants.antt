use Rattle.std.proofs.Common.{◌≡◌, take}
use Rattle.c_types.proofs.parameters.copy_params.Given as goal

abbrev pub invariant-loop-param : goal.invariant-loop-param
invariant-loop-param l = l.copies ≡ take l.param-index l.params
