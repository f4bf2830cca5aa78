use Rattle.std.proofs.Common.{◌≡◌, take}
use Rattle.c_types.specs.Places.{first_of}
use Rattle.c_types.specs.Faults.{exprs_faults}
use Rattle.c_types.proofs.faults.+expr_faults.Given as goal

abbrev pub invariant-of_exprs-loop-expr : goal.invariant-of_exprs-loop-expr
invariant-of_exprs-loop-expr l = l.first ≡ first_of (exprs_faults l.scopes (take l.expr-index l.exprs))
