use Rattle.std.proofs.Common.{ℕ, ◌<◌, get_or}
use Rattle.cycle_engine.specs.private.Pending.{IsFreedOut, IsOpened}
use Rattle.cycle_engine.proofs.pending.Pending.add_freed.Given as goal

-- the outputs that put on the channels so far are pending
abbrev pub invariant-loop-chan : goal.invariant-loop-chan
invariant-loop-chan l = record {
  opened : IsOpened l.fn.self l.self;
  freed : (k : ℕ) → k < l.chan-index → IsFreedOut l.net l.used.base.items l.self (get_or l.chans k 0);
}
