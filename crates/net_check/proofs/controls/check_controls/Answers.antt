use Rattle.net_check.specs.declared.wires.Side.TheVariants.{In, Out}
use Rattle.net_check.proofs.BoundLemmas.{bounded_unit}
use Rattle.net_check.proofs.SteerLemmas.{broken_at, kept_at, all_marked}
use Rattle.net_check.proofs.controls.check_controls.Goals as goal

pub is_steered-requires-clause-ins : goal.is_steered-requires-clause-ins
is_steered-requires-clause-ins c = bounded_unit In c.args.net.now c.as_slice-unit-items.result.now c.loop-u.u _ c.requires.places c.requires.numbered c.as_slice-unit-items.ensures c.loop-u-test.true c.unit-item.is

pub is_steered-requires-clause-outs : goal.is_steered-requires-clause-outs
is_steered-requires-clause-outs c = bounded_unit Out c.args.net.now c.as_slice-unit-items.result.now c.loop-u.u _ c.requires.places c.requires.numbered c.as_slice-unit-items.ensures c.loop-u-test.true c.unit-item.is

pub returns-then-not-is_steered : goal.returns-then-not-is_steered
returns-then-not-is_steered c =
    broken_at c.args.net.now c.as_slice-unit-items.result.now c.args.into.now c.args.out_of.now c.loop-u.u c.unit-item.result c.is_steered.result c.as_slice-unit-items.ensures
    c.loop-u-test.true c.unit-item.is c.requires.ins c.requires.outs c.loop-u.invariant c.is_steered.ensures c.if-not-is_steered.true

pub loop-u-preserved : goal.loop-u-preserved
loop-u-preserved c =
    kept_at c.args.net.now c.as_slice-unit-items.result.now c.args.into.now c.args.out_of.now c.loop-u.u c.unit-item.result c.is_steered.result c.as_slice-unit-items.ensures
    c.loop-u-test.true c.unit-item.is c.requires.ins c.requires.outs c.loop-u.invariant c.is_steered.ensures c.if-not-is_steered.false

pub returns : goal.returns
returns c = all_marked c.args.net.now c.as_slice-unit-items.result.now c.loop-u.u c.as_slice-unit-items.ensures c.loop-u-test.false c.loop-u.invariant
