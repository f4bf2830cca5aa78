use Rattle.std.proofs.Common.{rules}
use Rattle.net_check.specs.declared.wires.Side.TheVariants.{In, Out}
use Rattle.net_check.proofs.BoundLemmas.{bounded_read, missing_crowded, missing_unit, known_next, none_missing}
use Rattle.net_check.proofs.places.first_missing.Goals as goal

pub returns-then-is_crowded : goal.returns-then-is_crowded
returns-then-is_crowded c =
    missing_crowded c.args.net.now c.args.ins.now.known c.args.outs.now.known c.args.ins.now.twice c.as_slice-unit-items.result.now c.loop-u.u _ _ c.is_crowded.result c.requires.ins c.as_slice-unit-items.ensures c.loop-u-test.true c.unit-item.is
    (search rules) c.is_crowded.ensures c.if-is_crowded.true c.loop-u.invariant

pub is_known_unit-requires-clause-ins : goal.is_known_unit-requires-clause-ins
is_known_unit-requires-clause-ins c =
    bounded_read In c.args.net.now c.as_slice-unit-items.result.now c.loop-u.u _ _ c.is_crowded.result c.requires.numbered c.requires.shapes c.as_slice-unit-items.ensures c.loop-u-test.true c.unit-item.is (search rules) c.is_crowded.ensures c.if-is_crowded.false

pub is_known_unit-requires-clause-outs : goal.is_known_unit-requires-clause-outs
is_known_unit-requires-clause-outs c =
    bounded_read Out c.args.net.now c.as_slice-unit-items.result.now c.loop-u.u _ _ c.is_crowded.result c.requires.numbered c.requires.shapes c.as_slice-unit-items.ensures c.loop-u-test.true c.unit-item.is (search rules) c.is_crowded.ensures c.if-is_crowded.false

pub returns-then-not-is_known_unit : goal.returns-then-not-is_known_unit
returns-then-not-is_known_unit c =
    missing_unit c.args.net.now c.args.ins.now.known c.args.outs.now.known c.as_slice-unit-items.result.now c.loop-u.u _ c.is_known_unit.result c.as_slice-unit-items.ensures c.loop-u-test.true c.unit-item.is c.is_known_unit.ensures c.if-not-is_known_unit.true c.loop-u.invariant

pub loop-u-preserved : goal.loop-u-preserved
loop-u-preserved c =
    known_next c.args.net.now c.args.ins.now.known c.args.outs.now.known c.as_slice-unit-items.result.now c.loop-u.u _ c.is_known_unit.result c.as_slice-unit-items.ensures c.loop-u-test.true c.unit-item.is c.is_known_unit.ensures c.if-not-is_known_unit.false c.loop-u.invariant

pub returns : goal.returns
returns c = none_missing c.args.net.now c.args.ins.now.known c.args.outs.now.known c.as_slice-unit-items.result.now c.loop-u.u c.as_slice-unit-items.ensures c.loop-u-test.false c.loop-u.invariant
