use Rattle.net_core.proofs.OpenLemmas.{owners_next}
use Rattle.net_core.proofs.opening.owners.Goals as goal

pub loop-at-preserved : goal.loop-at-preserved
loop-at-preserved c =
    owners_next c.args.units.now c.loop-at.at c.args.arrays c.index-units-at.result c.loop-at.owners.items c.note_owner.new.owners.items c.loop-at-test.true c.index-units-at.is c.note_owner.ensures c.loop-at.invariant
