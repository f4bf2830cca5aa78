use Rattle.std.proofs.Common.{length}
use Rattle.std.specs.Prelude.{All}
use Rattle.el_base.specs.declared.ty.Ty.{Ty}
use Rattle.c_meaning.specs.Lawful.{LawfulExpr, IsElement}
use Rattle.ref_interp.specs.Runs.{objects_of}
use Rattle.ref_interp.specs.Evaluations.{IsReady}
use Rattle.ref_interp.proofs.Places.{Walked}
use Rattle.ref_interp.proofs.expressions.Interpreter.+eval.Given as goal

abbrev pub invariant-place_of-loop-i : goal.invariant-place_of-loop-i
invariant-place_of-loop-i l =
    let k = objects_of l.self in
    (t : Ty) → IsElement k l.array (length l.indices) t → All (LawfulExpr k) l.indices → IsReady k l.cells l.initial.trace → Walked k l.cells l.indices l.array l.i l.initial.trace.turns l.spot l.trace
