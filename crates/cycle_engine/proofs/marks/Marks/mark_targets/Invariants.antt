use Rattle.std.proofs.Common.{ℕ, ◌<◌, length, get_or}
use Rattle.net_core.specs.States.{state_of}
use Rattle.cycle_engine.specs.private.Marking.{KeepsMarks, IsFedMarked}
use Rattle.cycle_engine.proofs.marks.Marks.mark_targets.Given as goal

abbrev pub invariant-loop-chan : goal.invariant-loop-chan
invariant-loop-chan l = record {
  kept : KeepsMarks l.fn.self l.self;
  each : (k : ℕ) → k < l.chan-index → IsFedMarked l.net (state_of l.state) (length l.fn.self.marked.items) l.self (get_or l.chans k 0);
}
