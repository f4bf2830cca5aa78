use Rattle.std.proofs.Common.{◌≡◌, take}
use Rattle.worker_run.specs.Crews.{logs_of}
use Rattle.worker_run.proofs.order.Rests.new.Given as goal

abbrev pub invariant-loop-worker : goal.invariant-loop-worker
invariant-loop-worker l = l.logs.items ≡ logs_of (take l.worker-index l.workers)
