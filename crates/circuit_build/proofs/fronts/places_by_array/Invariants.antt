use Rattle.std.proofs.Common.{◌≡◌, ◌<◌, ◌++◌, [], ℕ, length, get_or, drop}
use Rattle.circuit_build.specs.Sorting.{picked, own}
use Rattle.circuit_build.proofs.fronts.places_by_array.Given as goal

abbrev pub invariant-loop-access : goal.invariant-loop-access
invariant-loop-access l = record {
  counted : l.place ≡ l.access-index;
  many : length l.table ≡ l.count;
  each : (a : ℕ) → a < l.count → picked l.accesses (get_or l.table a []) ++ own a (drop l.access-index l.accesses) ≡ own a l.accesses;
}
