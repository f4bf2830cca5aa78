use Rattle.std.proofs.Common.{◌≡◌, ◌++◌}
use Rattle.net_worker.specs.Merged.{entries_of, merged}
use Rattle.worker_run.specs.Crews.{merged_of}
use Rattle.worker_run.specs.private.Orders.{rests_of}
use Rattle.worker_run.proofs.gathering.merged_log.Given as goal

abbrev pub invariant-entries : goal.invariant-entries
invariant-entries l = l.log ++ merged (rests_of l.rests) ≡ merged_of l.crew.workers.items

abbrev pub decreases-entries : goal.decreases-entries
decreases-entries l = entries_of (rests_of l.rests)
