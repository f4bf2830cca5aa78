-- Firings of units all of whose channels stay in the worker.
use Rattle.std.proofs.Common.{◌≡◌, ◌⊎◌, inl, inr, ℕ, suc, ◌≤◌, ◌^◌, Option, Some, None, IfSome, IfNone, List, [], ◌∷◌, length, get_or, refl, ap, ◌∙◌, sym, subst, arith}
use Rattle.std.proofs.lemmas.Bool.{cases_eq}
use Rattle.elastic_link.specs.declared.put_end.PutEnd.{PutEnd}
use Rattle.elastic_link.specs.declared.take_end.TakeEnd.{TakeEnd}
use Rattle.elastic_link.specs.Credits.{IsStamp}
use Rattle.net_types.specs.declared.net.Net.{Net}
use Rattle.net_types.specs.declared.firing.Firing.{Firing}
use Rattle.net_types.specs.Nets.{into, out_of, chan_at}
use Rattle.net_core.specs.declared.plan.Put.{Put}
use Rattle.net_core.specs.Fire.{State, tokens_at, among, has_room}
use Rattle.net_core.specs.States.{state_of}
use Rattle.net_core.specs.Uses.{used}
use Rattle.net_core.proofs.ApartLemmas.{is_at-inv, into-at, out_of-at}
use Rattle.net_worker.specs.Fires.{TakeStep}
use Rattle.net_worker.specs.Firings.{AreTaken, IsHandedOver, chans_into}
use Rattle.net_worker.specs.Going.{base_of}
use Rattle.net_worker.specs.Inside.{IsInnerUnit, HasNoEnd, IsOfferedInside, IsNotOfferedInside}
use Rattle.net_worker.specs.Offers.{greatest_in}
use Rattle.net_worker.specs.Workers.{owner_in, IsMadeOf, put_end, take_end, held_by}
use Rattle.net_worker.specs.declared.tables.Tables.{Tables}
use Rattle.net_worker.specs.declared.worker.Worker.{Worker}
use Rattle.net_worker.proofs.Asking.{take_asked_self, take_asked_step}
use Rattle.net_worker.proofs.Offering.{offered_none, offered_inner, inner_none, plain_none}
use Rattle.net_worker.proofs.Paying.{among_there}

-- ---- the stamp

pub inside_some : (net : Net) (s : State) (u above : ℕ) (put : Option Put) (o : Option ℕ) → IfSome o (λ n. n ≡ suc above) → IfSome o (λ n. IsStamp n) → IfSome o (λ _. has_room net s u put) → IfSome o (λ n. IsOfferedInside net s u put above n)
inside_some net s u above put None is fits room = tt
inside_some net s u above None (Some n) is fits room = λ ps l. offered_none net s u above n ps is fits
inside_some net s u above (Some w) (Some n) is fits room = λ ps l. offered_inner net s u above w ps (out_of u w.place net.chans) refl l n is fits room

pub inside_none : (net : Net) (s : State) (u above : ℕ) (w : Put) (c : ℕ) → c ≡ out_of u w.place net.chans → (o : Option ℕ)
    → IfNone o (((chan_at net c).slots ≤ length (tokens_at s c)) ⊎ (2 ^ 62 ≤ suc above)) → IfNone o (IsNotOfferedInside net s u (Some w) above)
inside_none net s u above w c at None h = λ ps l. inner_none net s u above w ps c at (ap (λ k. get_or ps k None) at ∙ l) None h
inside_none net s u above w c at (Some n) h = tt

pub inside_late : (net : Net) (s : State) (u above : ℕ) (o : Option ℕ) → IfNone o (2 ^ 62 ≤ suc above) → IfNone o (IsNotOfferedInside net s u None above)
inside_late net s u above None h = λ ps l. plain_none net s u above ps None h
inside_late net s u above (Some n) h = tt

-- ---- the ends

none_taken : (net : Net) (u n : ℕ) (es : List (Option TakeEnd)) (ps : List ℕ) → ((p : ℕ) → get_or es (into u p net.chans) None ≡ None) → (c : ℕ) → TakeStep (among c (chans_into net u ps)) n (get_or es c None) (get_or es c None)
none_taken net u n es [] none c = take_asked_step n (get_or es c None) (get_or es c None) (take_asked_self (get_or es c None))
none_taken net u n es (p ∷ ps) none c = by (cases_eq c (into u p net.chans)) (none_taken net u n es ps none c)
  where
    by : (c ≡ into u p net.chans) ⊎ (c ≡ into u p net.chans → ⊥) → TakeStep (among c (chans_into net u ps)) n (get_or es c None) (get_or es c None)
        → TakeStep (among c (chans_into net u (p ∷ ps))) n (get_or es c None) (get_or es c None)
    by (inl q) rest = subst (λ o. TakeStep (among c (chans_into net u (p ∷ ps))) n o o) (sym (ap (λ k. get_or es k None) q ∙ none p)) tt
    by (inr m) rest = subst (λ g. TakeStep g n (get_or es c None) (get_or es c None)) (sym (among_there c (into u p net.chans) (chans_into net u ps) m)) rest

pub handed_inside : (net : Net) (u : ℕ) (put : Option Put) (ps : List (Option PutEnd)) (s : State) → HasNoEnd net u put ps → IsHandedOver net u put ps s s
handed_inside net u None ps s h = refl
handed_inside net u (Some w) ps s h = subst (λ o. Rattle.net_worker.specs.Firings.OutAt (out_of u w.place net.chans) o s s) (sym h) refl

module _ (t : Tables) (a : Worker) (m : IsMadeOf t a) (u : ℕ) (inner : IsInnerUnit t.net.now (owner_in t) u) where
  no_take : (p : ℕ) → take_end a (into u p t.net.now.chans) ≡ None
  no_take p = by (take_end a (into u p t.net.now.chans)) refl
    where
      by : (o : Option TakeEnd) → take_end a (into u p t.net.now.chans) ≡ o → o ≡ None
      by None is = refl
      by (Some e) is =
          let i = (m.takes_in (into u p t.net.now.chans) e is).0 in
          let at = (is_at-inv (chan_at t.net.now (into u p t.net.now.chans)).to u p (into-at u p t.net.now.chans i.0)).0 in
          absurd (i.2 (inner (into u p t.net.now.chans) i.0 (inr at) ∙ i.1))

  pub no_put : (put : Option Put) → HasNoEnd t.net.now u put a.puts.items
  no_put None = tt
  no_put (Some w) = by (put_end a (out_of u w.place t.net.now.chans)) refl
    where
      by : (o : Option PutEnd) → put_end a (out_of u w.place t.net.now.chans) ≡ o → o ≡ None
      by None is = refl
      by (Some p) is =
          let i = (m.puts_out (out_of u w.place t.net.now.chans) p is).0 in
          let at = (is_at-inv (chan_at t.net.now (out_of u w.place t.net.now.chans)).from u w.place (out_of-at u w.place t.net.now.chans i.0)).0 in
          absurd (i.2 (sym (inner (out_of u w.place t.net.now.chans) i.0 (inl at)) ∙ i.1))

  pub taken_inside : (n : ℕ) (ps : List ℕ) → AreTaken t.net.now u n ps a.takes.items a.takes.items
  taken_inside n ps = record { long = refl; each = none_taken t.net.now u n a.takes.items ps no_take }

  greatest_inside : (ps : List ℕ) → greatest_in t.net.now a.takes.items u ps ≡ 0
  greatest_inside [] = refl
  greatest_inside (p ∷ ps) = (let h : Rattle.net_worker.specs.Offers.held_stamp (held_by (take_end a (into u p t.net.now.chans))) ≡ 0 = ap (λ o. Rattle.net_worker.specs.Offers.held_stamp (held_by o)) (no_take p) in omega (arith, h, greatest_inside ps))

  -- no token from another worker is above the clock
  pub base_inside : (f : Firing) → f.unit ≡ u → base_of t a f ≡ a.clock
  base_inside f is = (let h = subst (λ v. greatest_in t.net.now a.takes.items v (used t.net.now (state_of a.portion.state) f) ≡ 0) (sym is) (greatest_inside (used t.net.now (state_of a.portion.state) f)) in omega (arith, h))
