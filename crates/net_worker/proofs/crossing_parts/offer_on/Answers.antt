use Rattle.std.proofs.Common.{◌∙◌, sym, ap}
use Rattle.std.specs.Option.{option_copied_mut}
use Rattle.net_core.specs.States.{state_of}
use Rattle.net_worker.proofs.Moved.{laid_end, laid_asked, laid_inner}
use Rattle.net_worker.proofs.Moved.{laid_none}
use Rattle.net_worker.proofs.Holdings.{laid_on}
use Rattle.net_worker.proofs.crossing_parts.offer_on.Goals as goal

pub returns-in_default-end_places-clause-some : goal.returns-in_default-end_places-clause-some
returns-in_default-end_places-clause-some c =
    laid_inner c.args.tables.now.net.now (state_of c.args.portion.now.state) c.args.offered.unit c.args.above c.args.puts.now.items c.args.offered.put c.in-Some.laid (sym c.requires.laid ∙ c.in-Some.is)
    (c.requires.between c.in-Some.laid.chan c.in_default-end_places.ensures) c.offer_inner.result c.offer_inner.ensures.some c.offer_inner.ensures.room

pub returns-in-Some-get_mut-clause-some : goal.returns-in-Some-get_mut-clause-some
returns-in-Some-get_mut-clause-some c =
    laid_end c.args.tables.now.net.now (state_of c.args.portion.now.state) c.args.offered.unit c.args.above c.args.puts.now.items c.args.offered.put c.in-Some.laid (sym c.requires.laid ∙ c.in-Some.is)
    c.in-Some-get_mut.end.now c.put_above.new.end (sym c.get_mut.ensures.value ∙ ap option_copied_mut c.in-Some-get_mut.is)
    c.put_above.result c.put_above.ensures.same c.put_above.ensures.received c.put_above.ensures.put

pub returns-in-Some-get_mut-clause-asked : goal.returns-in-Some-get_mut-clause-asked
returns-in-Some-get_mut-clause-asked c =
    laid_asked c.args.tables.now.net.now (state_of c.args.portion.now.state) c.args.offered.unit c.args.above c.args.puts.now.items c.args.offered.put c.in-Some.laid (sym c.requires.laid ∙ c.in-Some.is)
    c.in-Some-get_mut.end.now c.put_above.new.end (sym c.get_mut.ensures.value ∙ ap option_copied_mut c.in-Some-get_mut.is)
    c.put_above.result c.put_above.ensures.same c.put_above.ensures.received c.put_above.ensures.kept c.put_above.ensures.slots c.put_above.ensures.messages c.put_above.ensures.hand

pub returns-in-None-clause-some : goal.returns-in-None-clause-some
returns-in-None-clause-some c =
    laid_inner c.args.tables.now.net.now (state_of c.args.portion.now.state) c.args.offered.unit c.args.above c.args.puts.now.items c.args.offered.put c.in-Some.laid (sym c.requires.laid ∙ c.in-Some.is)
    (sym c.get_mut.ensures.value ∙ ap option_copied_mut c.in-None.is) c.offer_inner-in-None.result c.offer_inner-in-None.ensures.some c.offer_inner-in-None.ensures.room

pub returns-in_default-clause-some : goal.returns-in_default-clause-some
returns-in_default-clause-some c =
    laid_none c.args.tables.now.net.now (state_of c.args.portion.now.state) c.args.offered.unit c.args.above c.args.puts.now.items c.args.offered.put (sym c.requires.laid ∙ c.in_default.is)
    c.one_above.result c.one_above.ensures.some c.one_above.ensures.fits

pub offer_inner-requires-clause-here : goal.offer_inner-requires-clause-here
offer_inner-requires-clause-here c = laid_on c.args.tables.now.net.now c.args.portion.now c.args.offered.unit c.args.offered.put c.in-Some.laid (sym c.requires.laid ∙ c.in-Some.is) c.requires.here

pub offer_inner-requires-in-None-clause-here : goal.offer_inner-requires-in-None-clause-here
offer_inner-requires-in-None-clause-here c = laid_on c.args.tables.now.net.now c.args.portion.now c.args.offered.unit c.args.offered.put c.in-Some.laid (sym c.requires.laid ∙ c.in-Some.is) c.requires.here
