use Rattle.std.proofs.Common.{◌≡◌, ℕ, ◌<◌, length}
use Rattle.cycle_engine.specs.private.Marking.{IsMarked, IsListed}
use Rattle.cycle_engine.proofs.marks.Marks.new.Given as goal

abbrev pub invariant-loop-at : goal.invariant-loop-at
invariant-loop-at l = record {
  long : length l.marks.marked.items ≡ length l.net.units;
  listed : IsListed l.net l.marks;
  each : (u : ℕ) → u < l.at → IsMarked l.marks u;
}
