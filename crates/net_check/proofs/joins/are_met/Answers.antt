use Rattle.net_check.proofs.AloneLemmas.{met_unit, met_units}
use Rattle.net_check.proofs.joins.are_met.Goals as goal

pub loop-u-preserved : goal.loop-u-preserved
loop-u-preserved c =
    met_unit c.args.side c.args.net.now c.as_slice-unit-items.result.now c.loop-u.u c.bound.result _ c.is_met.result c.as_slice-unit-items.ensures c.loop-u-test.true c.unit-item.is c.bound.ensures c.is_met.ensures c.if-not-is_met.false c.loop-u.invariant

pub returns : goal.returns
returns c t = met_units c.args.side c.args.net.now c.as_slice-unit-items.result.now c.loop-u.u c.as_slice-unit-items.ensures c.loop-u-test.false c.loop-u.invariant
