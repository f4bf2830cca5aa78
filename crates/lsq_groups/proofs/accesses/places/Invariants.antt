use Rattle.std.proofs.Common.{◌≡◌, ◌++◌, drop}
use Rattle.ir.specs.Accesses.{places_from}
use Rattle.lsq_groups.proofs.accesses.places.Given as goal

abbrev pub invariant-loop-step : goal.invariant-loop-step
invariant-loop-step l = record {
  counted : l.place ≡ l.step-index;
  found : l.places ++ places_from l.array l.place (drop l.step-index l.steps) ≡ places_from l.array 0 l.steps;
}
