use Rattle.std.proofs.Common.{take}
use Rattle.c_ast.specs.Casts.{parameters}
use Rattle.c_types.specs.Contexts.{AreParameters}
use Rattle.c_types.proofs.parameters.declare_params.Given as goal

abbrev pub invariant-loop-param : goal.invariant-loop-param
invariant-loop-param l = AreParameters l.known l.arrays (parameters (take l.param-index l.params))
