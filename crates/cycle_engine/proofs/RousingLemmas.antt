-- What firings, and the next cycle, rouse.
use Rattle.std.proofs.Common.{◌≡◌, ◌≢◌, ◌⊎◌, inl, inr, ℕ, suc, zero, ◌<◌, Bool, true, false, Option, Some, None, List, [], ◌∷◌, length, get_or, refl, sym, ap, subst, ◌∙◌, arith, IsSomeAnd}
use Rattle.std.proofs.lemmas.Bool.{cases_eq}
use Rattle.net_types.specs.declared.net.Chan.{Chan}
use Rattle.net_types.specs.declared.net.Net.{Net}
use Rattle.net_types.specs.declared.firing.Firing.{Firing}
use Rattle.net_types.specs.Nets.{into, out_of, nowhere, kind_of, chan_at}
use Rattle.net_core.specs.Fire.{Effect, idle, effect, has_room, tokens_at, puts_on, takes_from, moved, added, taken}
use Rattle.net_core.specs.declared.plan.Put.{Put}
use Rattle.net_core.proofs.Premises.{Alone}
use Rattle.net_core.proofs.RowLemmas.{get-changed}
use Rattle.net_core.proofs.ApartLemmas.{into-at, is_at-inv, puts-inv, not_put}
use Rattle.std.specs.List.{AllByRecursion}
use Rattle.cycle_engine.specs.Cycles.{Dated, after_by, after_in, IsRipe, HasDepth, May, AreDated}
use Rattle.net_core.specs.Uses.{used}
use Rattle.cycle_engine.specs.Rousing.{Could, GoesTo, ComesFrom, Rouses, NextRouses}
use Rattle.cycle_engine.proofs.BeforeLemmas.{after_of, IsLate, before, may_could}

pub slots_within : (cs : List Chan) (k n : ℕ) → n < (get_or cs k nowhere).slots → k < length cs
slots_within [] k n h = absurd (omega arith)
slots_within (c ∷ cs) zero n h = omega arith
slots_within (c ∷ cs) (suc k) n h = let r = slots_within cs k n h in omega arith

-- a put is late at a unit, or goes there at once
pub late_or : (net : Net) (v u : ℕ) (e : Effect) → IsLate net v u e
    ⊎ IsSomeAnd e.put (λ w. ((chan_at net (out_of v w.place net.chans)).delay ≡ 0) × ((chan_at net (out_of v w.place net.chans)).to.unit ≡ u))
late_or net v u e = by e.put refl
  where
    Goal : Option Put → Type 0
    Goal o = IsLate net v u e ⊎ IsSomeAnd o (λ w. ((chan_at net (out_of v w.place net.chans)).delay ≡ 0) × ((chan_at net (out_of v w.place net.chans)).to.unit ≡ u))

    -- the channel at an input place of u on which v puts
    same : (w : Put) (p : ℕ) → e.put ≡ Some w → puts_on net v e.put (into u p net.chans) ≢ None → into u p net.chans ≡ out_of v w.place net.chans
    same w p q h =
        let x = puts-inv net v (into u p net.chans) e.put h in
        let z : Some w ≡ Some x.0 = sym q ∙ x.1 in
        let y : w ≡ x.0 = cc in
        x.2 ∙ ap (λ (k : Put). out_of v k.place net.chans) (sym y)

    by : (o : Option Put) → e.put ≡ o → IsLate net v u e ⊎ IsSomeAnd o (λ w. ((chan_at net (out_of v w.place net.chans)).delay ≡ 0) × ((chan_at net (out_of v w.place net.chans)).to.unit ≡ u))
    by None q = inl (λ p l h. absurd (h (ap (λ o. puts_on net v o (into u p net.chans)) q)))
    by (Some w) q = at (cases_eq (chan_at net (out_of v w.place net.chans)).delay 0) (cases_eq (chan_at net (out_of v w.place net.chans)).to.unit u)
      where
        positive : (n : ℕ) → n ≢ 0 → 0 < n
        positive zero h = absurd (h refl)
        positive (suc n) h = omega arith

        at : ((chan_at net (out_of v w.place net.chans)).delay ≡ 0) ⊎ ((chan_at net (out_of v w.place net.chans)).delay ≢ 0)
            → ((chan_at net (out_of v w.place net.chans)).to.unit ≡ u) ⊎ ((chan_at net (out_of v w.place net.chans)).to.unit ≢ u)
            → IsLate net v u e ⊎ (((chan_at net (out_of v w.place net.chans)).delay ≡ 0) × ((chan_at net (out_of v w.place net.chans)).to.unit ≡ u))
        at (inl z) (inl t) = inr (z, t)
        at (inl z) (inr t) = inl (λ p l h. (let i = same w p q h in
            let a = is_at-inv (get_or net.chans (into u p net.chans) nowhere).to u p (into-at u p net.chans l) in
            absurd (t (ap (λ d. (chan_at net d).to.unit) (sym i) ∙ a.0))))
        at (inr z) t = inl (λ p l h. (let i = same w p q h in
            let P : ℕ → Type 0 = λ d. 0 < (chan_at net d).delay in subst P (sym i) (positive (chan_at net (out_of v w.place net.chans)).delay z)))

-- room at a channel from which v does not take was there before
pub room_before : (net : Net) (c : ℕ) (s : Dated) (v u : ℕ) (e : Effect) (w : Put) → u ≢ v → AreDated net s → takes_from net v e (out_of u w.place net.chans) ≡ false
    → has_room net (after_of net c s v e).state u (Some w) → has_room net s.state u (Some w)
room_before net c s v u e w ne ok free h =
    let d : ℕ = out_of u w.place net.chans in
    let l : d < length net.chans = slots_within net.chans d (length (tokens_at (after_of net c s v e).state d)) h in
    let a = ok.chans in
    let t : tokens_at (after_of net c s v e).state d ≡ moved net v e d (tokens_at s.state d) = get-changed (moved net v e) 0 s.state.tokens d d (omega arith) (omega arith) in
    let n : puts_on net v e.put d ≡ None = not_put net u v w.place e.put ne l in
    let q : tokens_at (after_of net c s v e).state d ≡ tokens_at s.state d = t ∙ ap (λ o. added o (taken (takes_from net v e d) (tokens_at s.state d))) n ∙ ap (λ b. taken b (tokens_at s.state d)) free in
    let m = ap length q in
    omega arith

pub rouses : Rouses
rouses net c start s f g e checked ok is m =
    let q : after_in net c s f ≡ after_of net c s f.unit e = ap (after_by net c s f.unit) is in
    let P : Dated → Type 0 = λ x. May net c start x g in
    by (λ u v a differ o r. differ (sym (checked.alone u v a o r))) (cases_eq g.unit f.unit) (late_or net f.unit g.unit e) (subst P q m)
  where
    by : Alone net → (g.unit ≡ f.unit) ⊎ (g.unit ≢ f.unit) → IsLate net f.unit g.unit e ⊎ GoesTo net f.unit e g.unit → May net c start (after_of net c s f.unit e) g
        → May net c start s g ⊎ ((g.unit ≡ f.unit) ⊎ (GoesTo net f.unit e g.unit ⊎ ComesFrom net f.unit e s g))
    by alone (inl z) l m = inr (inl z)
    by alone (inr z) (inr l) m = inr (inr (inl l))
    by alone (inr z) (inl l) m = near (effect net s.state g) refl (subst Q b.1 m.turn)
      where
        b : Could net c start s g × (effect net (after_of net c s f.unit e).state g ≡ effect net s.state g)
        b = before net c start s f.unit g e alone z ok l (may_could net c start (after_of net c s f.unit e) g m)

        Q : Option Effect → Type 0
        Q o = IsSomeAnd o (λ x. has_room net (after_of net c s f.unit e).state g.unit x.put)

        made : IsSomeAnd (effect net s.state g) (λ x. has_room net s.state g.unit x.put) → May net c start s g
        made t = record { turn = t; ripe = b.0.ripe; room = b.0.acts; depth = b.0.depth }

        near : (o : Option Effect) → effect net s.state g ≡ o → IsSomeAnd o (λ x. has_room net (after_of net c s f.unit e).state g.unit x.put)
            → May net c start s g ⊎ ((g.unit ≡ f.unit) ⊎ (GoesTo net f.unit e g.unit ⊎ ComesFrom net f.unit e s g))
        near None i h = absurd h
        near (Some x) i h = at x.put refl
          where
            back : IsSomeAnd (Some x) (λ y. has_room net s.state g.unit y.put) → May net c start s g
            back t = let R : Option Effect → Type 0 = λ o. IsSomeAnd o (λ y. has_room net s.state g.unit y.put) in made (subst R (sym i) t)

            at : (p : Option Put) → x.put ≡ p → May net c start s g ⊎ ((g.unit ≡ f.unit) ⊎ (GoesTo net f.unit e g.unit ⊎ ComesFrom net f.unit e s g))
            at None r = inl (back (let S : Option Put → Type 0 = has_room net s.state g.unit in subst S (sym r) tt))
            at (Some w) r = took (takes_from net f.unit e (out_of g.unit w.place net.chans)) refl
              where
                took : (t : Bool) → takes_from net f.unit e (out_of g.unit w.place net.chans) ≡ t → May net c start s g ⊎ ((g.unit ≡ f.unit) ⊎ (GoesTo net f.unit e g.unit ⊎ ComesFrom net f.unit e s g))
                took false free =
                    let S : Option Put → Type 0 = has_room net s.state g.unit in
                    let T : Option Put → Type 0 = has_room net (after_of net c s f.unit e).state g.unit in
                    inl (back (subst S (sym r) (room_before net c s f.unit g.unit e w z ok free (subst T r h))))
                took true there =
                    let S : Option Put → Type 0 = λ o. IsSomeAnd o (λ k. takes_from net f.unit e (out_of g.unit k.place net.chans) ≡ true) in
                    let R : Option Effect → Type 0 = λ o. IsSomeAnd o (λ y. IsSomeAnd y.put (λ k. takes_from net f.unit e (out_of g.unit k.place net.chans) ≡ true)) in
                    inr (inr (inr (subst R (sym i) (subst S (sym r) there))))

each_map : {A : Type 0} (P Q : A → Type 0) (xs : List A) → ((x : A) → P x → Q x) → AllByRecursion P xs → AllByRecursion Q xs
each_map P Q [] f h = tt
each_map P Q (x ∷ xs) f h = (f x h.0, each_map P Q xs f h.1)

-- what could be made as the next cycle begins, where what the unit may put had room in this one too
pub next_could : (net : Net) (c : ℕ) (s t : Dated) (f : Firing) → ((o : Option Put) → has_room net t.state f.unit o → has_room net s.state f.unit o)
    → ((p : ℕ) → IsRipe net (suc c) t (into f.unit p net.chans) → IsRipe net c t (into f.unit p net.chans))
    → (HasDepth (kind_of net f.unit) (get_or t.state.own f.unit idle) f.act → HasDepth (kind_of net f.unit) (get_or s.state.own f.unit idle) f.act)
    → Could net (suc c) t t f → Could net c s t f
next_could net c s t f rooms ripes depth o = record {
  acts = room (effect net t.state f) o.acts;
  ripe = each_map (λ p. IsRipe net (suc c) t (into f.unit p net.chans)) (λ p. IsRipe net c t (into f.unit p net.chans)) (used net t.state f) ripes o.ripe;
  depth = depth o.depth;
}
  where
    room : (q : Option Effect) → IsSomeAnd q (λ e. has_room net t.state f.unit e.put) → IsSomeAnd q (λ e. has_room net s.state f.unit e.put)
    room None x = x
    room (Some e) x = rooms e.put x

pub next_rouses : NextRouses
next_rouses net c s t f rooms ripes depth o = next_could net c s t f one ripes depth o
  where
    one : (w : Option Put) → has_room net t.state f.unit w → has_room net s.state f.unit w
    one None x = tt
    one (Some w) x = let z = rooms w.place in omega arith
