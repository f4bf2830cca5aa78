use Rattle.std.proofs.Common.{◌≡◌, ℕ, ◌<◌, true, false, get_or, length}
use Rattle.cycle_engine.proofs.freed.unmark_all.Given as goal

abbrev pub invariant-loop-chan : goal.invariant-loop-chan
invariant-loop-chan l = record {
  long : length l.marked.items ≡ length l.fn.marked.items;
  kept : (d : ℕ) → get_or l.marked.items d false ≡ true → get_or l.fn.marked.items d false ≡ true;
  none : (k : ℕ) → k < l.chan-index → get_or l.marked.items (get_or l.chans k 0) false ≡ false;
}
