use Rattle.std.proofs.Common.{◌≡◌, ℕ, ◌<◌, true, length, get_or}
use Rattle.net_types.specs.Nets.{kind_of}
use Rattle.net_check.specs.Ends.{is_lsq}
use Rattle.net_core.specs.States.{state_of}
use Rattle.cycle_engine.specs.private.Marking.{KeepsMarks, IsMarked, IsStarved, entries_at}
use Rattle.cycle_engine.proofs.engine.settle.Given as goal

abbrev pub invariant-loop-unit : goal.invariant-loop-unit
invariant-loop-unit l = record {
  kept : KeepsMarks l.fn.marks l.marks;
  marked : (k : ℕ) → k < l.unit-index → (IsStarved l.net (state_of l.state) (get_or l.units k 0) → ⊥) → get_or l.units k 0 < length l.fn.marks.marked.items → IsMarked l.marks (get_or l.units k 0);
  long : length l.begun.items ≡ length l.net.units;
  same : (u : ℕ) → is_lsq (kind_of l.net u) ≡ true → get_or l.fn.begun.items u 0 ≡ entries_at (state_of l.state) u → get_or l.begun.items u 0 ≡ entries_at (state_of l.state) u;
  noted : (k : ℕ) → k < l.unit-index → is_lsq (kind_of l.net (get_or l.units k 0)) ≡ true → get_or l.begun.items (get_or l.units k 0) 0 ≡ entries_at (state_of l.state) (get_or l.units k 0);
}
