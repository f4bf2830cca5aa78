use Rattle.std.proofs.Common.{◌≡◌, ℕ, ◌<◌, length, get_or}
use Rattle.net_types.specs.declared.net.Chan.{Chan}
use Rattle.net_worker.specs.Crossing.{IsMarked}
use Rattle.net_worker.proofs.crossing.crossing_units.Given as goal

abbrev pub invariant-loop-chan : goal.invariant-loop-chan
invariant-loop-chan l = record {
  long : length l.marks.items ≡ length l.fn.owners;
  marked : (i : ℕ) (d : Chan) → i < l.chan-index → IsMarked l.fn.owners l.marks.items (get_or l.chan-items i d);
}
