use Rattle.std.proofs.Common.{◌≡◌, take}
use Rattle.c_types.specs.Places.{first_of}
use Rattle.c_types.specs.CallPlaces.{exprs_places}
use Rattle.c_types.proofs.calls.+expr_places.Given as goal

abbrev pub invariant-of_exprs-loop-expr : goal.invariant-of_exprs-loop-expr
invariant-of_exprs-loop-expr l = l.first ≡ first_of (exprs_places l.may (take l.expr-index l.exprs))
