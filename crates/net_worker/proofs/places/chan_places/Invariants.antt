use Rattle.net_worker.specs.Places.{AreCounts, AreValues, has_end, put_place, take_place}
use Rattle.net_worker.proofs.places.chan_places.Given as goal

abbrev pub invariant-loop-chan : goal.invariant-loop-chan
invariant-loop-chan l = record {
  counts : AreCounts (has_end l.net l.owners) l.chan-index l.counts.items;
  outs : AreValues (put_place l.net l.owners) l.chan-index l.outs.items;
  ins : AreValues (take_place l.net l.owners) l.chan-index l.ins.items;
}
