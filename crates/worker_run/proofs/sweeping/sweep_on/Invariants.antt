use Rattle.std.proofs.Common.{◌<◌, ◌≤◌, ◌+◌, ◌-◌, ◌*◌, length}
use Rattle.net_worker.specs.Views.{log_share, log_of}
use Rattle.net_worker.specs.Workers.{IsMadeOf}
use Rattle.worker_run.specs.private.Sweepings.{IsSweptFrom}
use Rattle.worker_run.proofs.sweeping.sweep_on.Given as goal

abbrev pub invariant-loop-worker : goal.invariant-loop-worker
invariant-loop-worker g l = record {
  swept : IsSweptFrom l.tables l.fn.worker l.worker;
  idle : l.idle < 10000;
  debt : l.debt ≤ 4096;
}

-- the share that is left counts for more than all idle sweeps in a row
abbrev pub decreases-loop-worker : goal.decreases-loop-worker
decreases-loop-worker g l = (log_share l.worker - length (log_of l.worker)) * 10001 + (10000 - l.idle)
