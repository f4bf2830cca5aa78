use Rattle.std.proofs.Common.{◌≡◌, take}
use Rattle.c_types.specs.Places.{first_of}
use Rattle.c_types.specs.CallPlaces.{stmts_places}
use Rattle.c_types.proofs.calls.+stmt_places.Given as goal

abbrev pub invariant-of_stmts-loop-stmt : goal.invariant-of_stmts-loop-stmt
invariant-of_stmts-loop-stmt l = l.first ≡ first_of (stmts_places (take l.stmt-index l.stmts))
