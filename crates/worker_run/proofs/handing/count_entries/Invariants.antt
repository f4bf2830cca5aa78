use Rattle.std.proofs.Common.{◌≡◌, ◌+◌, drop}
use Rattle.net_worker.specs.Merged.{entries_of}
use Rattle.worker_run.specs.Crews.{logs_of}
use Rattle.worker_run.proofs.handing.count_entries.Given as goal

abbrev pub invariant-loop-worker : goal.invariant-loop-worker
invariant-loop-worker l = l.count + entries_of (logs_of (drop l.worker-index l.workers)) ≡ entries_of (logs_of l.workers)
