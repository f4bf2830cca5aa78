use Rattle.std.proofs.Common.{◌∙◌, sym, ap}
use Rattle.std.specs.Option.{option_copied_mut}
use Rattle.net_core.specs.States.{state_of}
use Rattle.net_worker.proofs.Offering.{asked_none, end_some, end_none, inner_some, inner_none, plain_none}
use Rattle.net_worker.proofs.Holdings.{out_chan}
use Rattle.net_worker.proofs.parts.offer.Goals as goal

pub returns-in_default-clause-none : goal.returns-in_default-clause-none
returns-in_default-clause-none c =
    rw c.in_default.is (plain_none c.args.net.now (state_of c.args.portion.now.state) c.args.unit c.args.above c.args.puts.now.items c.one_above.result c.one_above.ensures.none)

pub returns-in-Some-get_mut-clause-some : goal.returns-in-Some-get_mut-clause-some
returns-in-Some-get_mut-clause-some c =
    rw c.in-Some.is (end_some c.args.net.now (state_of c.args.portion.now.state) c.args.unit c.args.above c.in-Some.put c.args.puts.now.items c.out_of_place-chan.result c.out_of_place-chan.ensures
    c.in-Some-get_mut.end.now c.put_above.new.end (sym c.get_mut.ensures.value ∙ ap option_copied_mut c.in-Some-get_mut.is)
    c.put_above.result c.put_above.ensures.same c.put_above.ensures.received c.put_above.ensures.put)

pub returns-in-Some-get_mut-clause-asked : goal.returns-in-Some-get_mut-clause-asked
returns-in-Some-get_mut-clause-asked c =
    asked_none c.args.net.now (state_of c.args.portion.now.state) c.args.unit c.args.above c.in-Some.put c.args.puts.now.items c.out_of_place-chan.result c.out_of_place-chan.ensures
    c.in-Some-get_mut.end.now c.put_above.new.end (sym c.get_mut.ensures.value ∙ ap option_copied_mut c.in-Some-get_mut.is)
    c.put_above.result c.put_above.ensures.same c.put_above.ensures.received c.put_above.ensures.kept c.put_above.ensures.slots c.put_above.ensures.messages c.put_above.ensures.hand

pub returns-in-Some-get_mut-clause-none : goal.returns-in-Some-get_mut-clause-none
returns-in-Some-get_mut-clause-none c =
    rw c.in-Some.is (end_none c.args.net.now (state_of c.args.portion.now.state) c.args.unit c.args.above c.in-Some.put c.args.puts.now.items c.out_of_place-chan.result c.out_of_place-chan.ensures
    c.in-Some-get_mut.end.now c.put_above.new.end (sym c.get_mut.ensures.value ∙ ap option_copied_mut c.in-Some-get_mut.is)
    c.put_above.result c.put_above.ensures.received c.put_above.ensures.none)

pub returns-in-None-clause-some : goal.returns-in-None-clause-some
returns-in-None-clause-some c =
    rw c.in-Some.is (inner_some c.args.net.now (state_of c.args.portion.now.state) c.args.unit c.args.above c.in-Some.put c.args.puts.now.items c.out_of_place-chan.result c.out_of_place-chan.ensures
    (sym c.get_mut.ensures.value ∙ ap option_copied_mut c.in-None.is) c.offer_inner.result c.offer_inner.ensures.some c.offer_inner.ensures.room)

pub returns-in-None-clause-none : goal.returns-in-None-clause-none
returns-in-None-clause-none c =
    rw c.in-Some.is (inner_none c.args.net.now (state_of c.args.portion.now.state) c.args.unit c.args.above c.in-Some.put c.args.puts.now.items c.out_of_place-chan.result c.out_of_place-chan.ensures
    (sym c.get_mut.ensures.value ∙ ap option_copied_mut c.in-None.is) c.offer_inner.result c.offer_inner.ensures.none)

pub offer_inner-requires-clause-here : goal.offer_inner-requires-clause-here
offer_inner-requires-clause-here c = out_chan c.args.net.now c.args.portion.now c.args.unit c.in-Some.put.place c.out_of_place-chan.result c.out_of_place-chan.ensures c.requires.here
