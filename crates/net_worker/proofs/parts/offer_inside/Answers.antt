use Rattle.net_core.specs.States.{state_of}
use Rattle.net_worker.proofs.Inside.{inside_none, inside_late}
use Rattle.net_worker.proofs.Holdings.{out_chan}
use Rattle.net_worker.proofs.parts.offer_inside.Goals as goal

pub returns-in-None-clause-none : goal.returns-in-None-clause-none
returns-in-None-clause-none c = rw c.in-None.is (inside_late c.args.net.now (state_of c.args.portion.now.state) c.args.unit c.args.above c.one_above.result c.one_above.ensures.none)

pub returns-in-Some-clause-none : goal.returns-in-Some-clause-none
returns-in-Some-clause-none c =
    rw c.in-Some.is (inside_none c.args.net.now (state_of c.args.portion.now.state) c.args.unit c.args.above c.in-Some.put c.out_of_place.result c.out_of_place.ensures c.offer_inner.result c.offer_inner.ensures.none)

pub offer_inner-requires-clause-here : goal.offer_inner-requires-clause-here
offer_inner-requires-clause-here c = out_chan c.args.net.now c.args.portion.now c.args.unit c.in-Some.put.place c.out_of_place.result c.out_of_place.ensures c.requires.here
