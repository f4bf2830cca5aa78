use Rattle.std.proofs.Common.{◌≡◌, ◌<◌, ◌∙◌, length, None, IsSome, IsTrue, get_or, sym, subst}
use Rattle.std.proofs.lemmas.Bool.{false≢true}
use Rattle.std.proofs.lemmas.List.{get_or_read}
use Rattle.net_worker.specs.ChannelEnds.{StandsAt, IsNotAmong}
use Rattle.net_worker.proofs.EndPlaces.{some_at, spread_none, length-spread}
use Rattle.net_worker.proofs.channel_ends.ChannelEnds.has_near.Goals as goal

pub place_of-requires : goal.place_of-requires
place_of-requires g c = (c.self.inside.count, rw c.deref.ensures.value c.self.invariant.channels)

pub returns-in-Some : goal.returns-in-Some
returns-in-Some g c =
    let s = c.self.inside in
    let cs = s.chans.items in
    let es = s.ends.items in
    let at = c.in-Some.at in
    let here : StandsAt cs c.args.chan at = subst (λ xs. StandsAt xs c.args.chan at) c.deref.ensures.value c.in-Some.ensures.some in
    let within : at < length es = subst (λ m. at < m) (sym c.self.invariant.long) here.0 in
    let read : c.index.result.now ≡ get_or c.args.self.now.items c.args.chan None = rw (← c.self.view_is) (get_or_read es at _ within c.index.ensures None ∙ sym (some_at s.count cs es c.args.chan at c.self.invariant here)) in
    let inside : c.args.chan < length c.args.self.now.items = rw (← c.self.view_is) (subst (λ m. c.args.chan < m) (sym (length-spread s.count cs es)) (subst (λ d. d < s.count) here.1 (c.self.invariant.channels.within at here.0))) in
    record {
      end = subst (λ o. (IsTrue c.is_some.result → IsSome o) × (IsSome o → IsTrue c.is_some.result)) read (λ q. sym c.is_some.ensures ∙ q, λ q. c.is_some.ensures ∙ q);
      within = λ _. inside;
    }

pub returns-in-None : goal.returns-in-None
returns-in-None g c =
    let s = c.self.inside in
    let gone : IsNotAmong s.chans.items c.args.chan = subst (λ xs. IsNotAmong xs c.args.chan) c.deref.ensures.value c.in-None.ensures.none in
    let none : get_or c.args.self.now.items c.args.chan None ≡ None = rw (← c.self.view_is) (spread_none s.count s.chans.items s.ends.items c.args.chan gone) in
    record { end = (λ q. absurd (false≢true q), λ q. subst IsSome none q); within = λ q. absurd (false≢true q) }
