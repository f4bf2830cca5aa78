use Rattle.worker_run.specs.private.Orders.{rests_of}
use Rattle.worker_run.proofs.OrderLemmas.{IsFirstOf}
use Rattle.worker_run.proofs.order.Rests.first.Given as goal

abbrev pub invariant-loop-worker : goal.invariant-loop-worker
invariant-loop-worker l = IsFirstOf (rests_of l.self) l.worker l.first
