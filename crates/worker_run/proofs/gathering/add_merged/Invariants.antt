use Rattle.std.proofs.Common.{◌≡◌, ◌+◌, ◌++◌}
use Rattle.net_worker.specs.Merged.{entries_of, merged}
use Rattle.worker_run.specs.Crews.{logs_of, merged_of}
use Rattle.worker_run.specs.private.Orders.{rests_of}
use Rattle.worker_run.proofs.gathering.add_merged.Given as goal

abbrev pub invariant-entries : goal.invariant-entries
invariant-entries l = record {
  whole : l.log.items ++ merged (rests_of l.rests) ≡ merged_of l.crew.workers.items;
  room : l.log.room + entries_of (logs_of l.crew.workers.items) ≡ l.fn.log.room + entries_of (rests_of l.rests);
}

abbrev pub decreases-entries : goal.decreases-entries
decreases-entries l = entries_of (rests_of l.rests)
