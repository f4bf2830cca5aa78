use Rattle.std.proofs.Common.{◌≡◌, ℕ, ◌<◌, None, length, get_or}
use Rattle.net_types.specs.Nets.{nowhere}
use Rattle.net_worker.specs.Crossing.{HasOneOwner}
use Rattle.net_worker.proofs.end_places.places_of_ends.Given as goal

abbrev pub invariant-loop-chan : goal.invariant-loop-chan
invariant-loop-chan l = record {
  long : length l.places.items ≡ l.chan-index;
  placed : (i : ℕ) → i < l.chan-index → get_or l.places.items i None ≡ None → HasOneOwner l.fn.owners (get_or l.chans i nowhere);
}
