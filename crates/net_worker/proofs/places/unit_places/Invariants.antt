use Rattle.net_worker.specs.Places.{AreCounts, AreValues, owns_unit, unit_place}
use Rattle.net_worker.proofs.places.unit_places.Given as goal

abbrev pub invariant-loop-owner : goal.invariant-loop-owner
invariant-loop-owner l = record {
  counts : AreCounts (owns_unit l.owners) l.owner-index l.counts.items;
  placed : AreValues (unit_place l.owners) l.owner-index l.places.items;
}
