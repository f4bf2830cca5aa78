use Rattle.std.proofs.Common.{ℕ, ◌<◌, ◌≤◌, ◌^◌}
use Rattle.net_types.specs.Nets.{chan_at}
use Rattle.cycle_engine.proofs.notes.greatest_delay.Given as goal

abbrev pub invariant-loop-chan : goal.invariant-loop-chan
invariant-loop-chan l = record {
  most : (d : ℕ) → d < l.chan-index → (chan_at l.net d).delay ≤ l.most;
  small : l.most < 2 ^ 32;
}
