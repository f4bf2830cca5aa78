use Rattle.c_meaning.specs.Stores.{Objects}
use Rattle.ref_interp.specs.Machines.{CanRun}
use Rattle.ref_interp.proofs.Moves.{Entered}
use Rattle.ref_interp.proofs.statements.enter.Given as goal

abbrev pub invariant-loop-stmt : goal.invariant-loop-stmt
invariant-loop-stmt l = (k : Objects) → CanRun k l.initial.m → Entered k l.stmts l.stmt-index l.initial.m l.m
