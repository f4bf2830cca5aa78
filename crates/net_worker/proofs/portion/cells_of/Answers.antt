use Rattle.std.proofs.Common.{ap, get_or, ◌∙◌}
use Rattle.net_types.specs.declared.net.Net.{Net}
use Rattle.net_worker.proofs.PortionMoves.{kind_read}
use Rattle.net_worker.proofs.PortionOpening.{cells_more}
use Rattle.net_worker.proofs.portion.cells_of.Goals as goal

pub loop-unit-preserved : goal.loop-unit-preserved
loop-unit-preserved c =
    cells_more c.args.net.now c.args.inputs.now c.args.units.now c.index-kinds-unit.result c.as_slice-arrays.result.now c.loop-unit.cells.items c.push.new.self.items c.in_ok-new.field-0 c.loop-unit.unit-index c.loop-unit-test.true
    (kind_read c.args.net.now c.as_slice-kinds.result.now (get_or c.args.units.now c.loop-unit.unit-index 0) c.index-kinds-unit.result (c.as_slice-kinds.ensures ∙ ap (λ (n : Net). n.units) c.net.ensures.net) (c.requires.within c.loop-unit.unit-index c.loop-unit-test.true) c.index-kinds-unit.is)
    c.as_slice-arrays.ensures c.in_ok-new.ensures.own c.in_ok-new.ensures.kept c.in_ok-new.ensures.shape c.in_ok-push.ensures.items c.loop-unit.invariant
