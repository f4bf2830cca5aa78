use Rattle.net_worker.specs.Places.{owns_unit}
use Rattle.net_worker.proofs.Holdings.{numbers_more}
use Rattle.net_worker.proofs.making.own_units.Goals as goal

pub loop-at-preserved : goal.loop-at-preserved
loop-at-preserved c =
    numbers_more (owns_unit c.args.tables.now.owners c.args.number) c.loop-at.at c.loop-at.units.items c.note_if.new.chans.items c.is_of-own.result c.is_of-own.ensures c.in_ok-note_if.ensures c.loop-at.invariant
