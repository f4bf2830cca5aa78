use Rattle.std.proofs.Common.{◌≡◌, ◌⊎◌, ◌<◌, ◌∙◌, length, Some, None, set, sym, ap, subst, inl, inr}
use Rattle.std.proofs.lemmas.List.{get_or_read, set-get_or}
use Rattle.net_worker.specs.ChannelEnds.{spread, StandsAt, IsNotAmong}
use Rattle.net_worker.proofs.EndPlaces.{some_at, set_at, spread_none}
use mathlib.Core.Path.{fun_ext}
use Rattle.net_worker.proofs.channel_ends.ChannelEnds.get_mut.Goals as goal

-- two functions that agree, under one name
same_name : {G D E : Type 0} {n : G} {f h : E → D} → ((w : E) → f w ≡ h w) → ◌≡◌ {A = (G × (E → D)) ⊎ D} (inl (n, f)) (inl (n, h))
same_name {n = n} e = ap (λ h. inl (n, h)) (fun_ext e)

pub place_of-requires : goal.place_of-requires
place_of-requires g c = (c.self.inside.count, rw c.deref.ensures.value c.self.invariant.channels)

pub returns-in-Some-index_mut : goal.returns-in-Some-index_mut
returns-in-Some-index_mut g c =
    let s = c.self.inside in
    let cs = s.chans.items in
    let es = s.ends.items in
    let at = c.in-Some.at in
    let here : StandsAt cs c.args.chan at = subst (λ xs. StandsAt xs c.args.chan at) c.deref.ensures.value c.in-Some.ensures.some in
    let within : at < length es = subst (λ m. at < m) (sym c.self.invariant.long) here.0 in
    let held = λ (x : g.row.T.Denot) (q : c.index_mut.result.now ≡ Some x). (some_at s.count cs es c.args.chan at c.self.invariant here ∙ sym (get_or_read es at _ within c.index_mut.ensures.value None)) ∙ q in
    rw (← c.self.view_is) (
      same_name (λ w. rw c.in-Some-index_mut.is (ap (λ l. record { items = l; chans = cs }) (set_at s.count cs es c.args.chan at (Some w) c.self.invariant here))),
      record {
        writes_back = tt;
        value = rw c.in-Some-index_mut.is (sym (held c.in-Some-index_mut.end c.in-Some-index_mut.is));
      },
    )

pub returns-in-None-index_mut : goal.returns-in-None-index_mut
returns-in-None-index_mut g c =
    let s = c.self.inside in
    let cs = s.chans.items in
    let es = s.ends.items in
    let at = c.in-Some.at in
    let x = c.index_mut.result.now in
    let here : StandsAt cs c.args.chan at = subst (λ xs. StandsAt xs c.args.chan at) c.deref.ensures.value c.in-Some.ensures.some in
    let within : at < length es = subst (λ m. at < m) (sym c.self.invariant.long) here.0 in
    rw (← c.self.view_is) (
      (λ i. inr (record { items = (ap (λ y. spread s.count cs (set es at y)) c.index_mut.ensures.value ∙ ap (spread s.count cs) (set-get_or es at x)) i; chans = cs })),
      record {
        writes_back = tt;
        value = sym c.in-None-index_mut.is ∙ (get_or_read es at _ within c.index_mut.ensures.value None ∙ sym (some_at s.count cs es c.args.chan at c.self.invariant here));
      },
    )

pub returns-in-None : goal.returns-in-None
returns-in-None g c =
    let s = c.self.inside in
    let gone : IsNotAmong s.chans.items c.args.chan = subst (λ xs. IsNotAmong xs c.args.chan) c.deref.ensures.value c.in-None.ensures.none in
    rw (← c.self.view_is) (
      (λ i. inr (record { items = spread s.count s.chans.items s.ends.items; chans = s.chans.items })),
      record { writes_back = tt; value = sym (spread_none s.count s.chans.items s.ends.items c.args.chan gone) },
    )
