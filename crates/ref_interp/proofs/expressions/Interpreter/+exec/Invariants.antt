use Rattle.std.specs.Prelude.{Bool, true, false, All, option_map}
use Rattle.c_meaning.specs.Expressions.{meaning}
use Rattle.c_meaning.specs.Statements.{act, part, nothing, condition, meant_if_any, run_if_any}
use Rattle.c_meaning.specs.Lawful.{LawfulExpr, LawfulOption}
use Rattle.c_meaning.specs.PartLaws.{LawfulAt, IfAny}
use Rattle.ref_interp.specs.Runs.{objects_of}
use Rattle.ref_interp.specs.Machines.{CanRun}
use Rattle.ref_interp.proofs.Running.{Gone, Rounded}
use Rattle.ref_interp.proofs.expressions.Interpreter.+exec.Given as goal

abbrev pub invariant-exec_all-loop-stmt : goal.invariant-exec_all-loop-stmt
invariant-exec_all-loop-stmt l =
    let k = objects_of l.self in
    (b : Bool) → All (LawfulAt k l.self.typed.now.result b) l.stmts → CanRun k l.initial.m → Gone k l.stmts l.stmt-index l.initial.m l.m

abbrev pub invariant-for_rounds-loop-i : goal.invariant-for_rounds-loop-i
invariant-for_rounds-loop-i l =
    let k = objects_of l.self in
    LawfulOption (LawfulExpr k) l.cond → IfAny (LawfulAt k l.self.typed.now.result false) l.step → LawfulAt k l.self.typed.now.result true l.body → CanRun k l.initial.m
    → Rounded k (condition (meant_if_any k l.cond)) (part (act k l.body)) (run_if_any (option_map (act k) l.step)) l.initial.m l.i l.m

abbrev pub invariant-rounds-loop-i : goal.invariant-rounds-loop-i
invariant-rounds-loop-i l =
    let k = objects_of l.self in
    LawfulAt k l.self.typed.now.result true l.body → LawfulExpr k l.cond → CanRun k l.initial.m → Rounded k (meaning k l.cond) (part (act k l.body)) nothing l.initial.m l.i l.m
