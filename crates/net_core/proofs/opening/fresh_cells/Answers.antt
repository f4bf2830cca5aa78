use Rattle.net_core.proofs.OpenLemmas.{cells_more}
use Rattle.net_core.proofs.opening.fresh_cells.Goals as goal

pub loop-unit-preserved : goal.loop-unit-preserved
loop-unit-preserved c =
    cells_more c.args.arrays.now c.args.units.now c.loop-unit.unit-index c.unit-item.result c.loop-unit.cells.items c.push.new.self.items c.in_ok-new.field-0 c.loop-unit-test.true c.unit-item.is c.loop-unit.invariant
    c.in_ok-new.ensures.own c.in_ok-new.ensures.kept c.in_ok-new.ensures.shape c.in_ok-push.ensures.items
