use Rattle.net_check.specs.declared.wires.Side.TheVariants.{In, Out}
use Rattle.net_check.proofs.JoinLemmas.{place_absent, place_found}
use Rattle.net_check.proofs.places.is_place.Goals as goal

pub returns-then-unit-as_slice : goal.returns-then-unit-as_slice
returns-then-unit-as_slice c = place_absent c.args.side c.args.net.now c.as_slice.result.now c.args.unit c.args.place c.as_slice.ensures c.if-unit-as_slice.true

pub returns-in-In : goal.returns-in-In
returns-in-In c = place_found c.args.side In c.args.net.now c.as_slice.result.now c.args.unit c.args.place c.in_width_of.result c.is_some.result c.in-In.is c.as_slice.ensures c.if-unit-as_slice.false c.in_width_of.ensures c.is_some.ensures

pub returns-in-Out : goal.returns-in-Out
returns-in-Out c =
    place_found c.args.side Out c.args.net.now c.as_slice.result.now c.args.unit c.args.place c.out_width_of.result c.is_some-in-Out.result c.in-Out.is c.as_slice.ensures c.if-unit-as_slice.false c.out_width_of.ensures c.is_some-in-Out.ensures
