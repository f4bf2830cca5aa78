use Rattle.struct_cfg.specs.Code.{GoesOn}
use Rattle.struct_cfg.proofs.exprs.Scope.+expr.Given as goal

abbrev pub invariant-place-loop-e : goal.invariant-place-loop-e
invariant-place-loop-e l = GoesOn l.self.arrays.now l.self.env.now l.dims l.indices l.fn.steps l.e-index l.k l.at l.steps
