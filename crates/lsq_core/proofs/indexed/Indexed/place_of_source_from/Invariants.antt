use Rattle.std.proofs.Common.{◌≡◌, ◌-◌, ◌<◌, ◌≤◌, ℕ, Some, option_map, length, take}
use Rattle.lsq_core.specs.Views.{entry_at}
use Rattle.lsq_core.specs.Acts.{last_such, waiting}
use Rattle.lsq_core.proofs.indexed.Indexed.place_of_source_from.Given as goal

abbrev pub invariant-loop-at : goal.invariant-loop-at
invariant-loop-at l = record {
  found : option_map (entry_at l.self.queue.items) l.found ≡ last_such (waiting l.load) (take l.from l.self.queue.items);
  within : (at : ℕ) → l.found ≡ Some at → at < length l.self.queue.items;
  some : l.from ≤ length l.self.queue.items;
}

abbrev pub decreases-loop-at : goal.decreases-loop-at
decreases-loop-at l = length l.self.queue.items - l.from
