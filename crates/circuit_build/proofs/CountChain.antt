-- The ends of the queues stand in one chain, from the return join to the exit: rule C6.
use Rattle.std.proofs.Common.{◌≡◌, ◌⊎◌, ℕ, suc, ◌+◌, ◌≤◌, List, [], ◌∷◌, ◌++◌, get_or, Bool, true, false, Option, Some, None, refl, sym, ap, ◌∙◌, subst, inl, inr, arith}
use Rattle.std.specs.Prelude.{cond, ◌==◌}
use Rattle.std.proofs.lemmas.Bool.{cases_eq, eq-eqb, ne_eqb}
use Rattle.std.proofs.lemmas.List.Sums.{sum_by-cons}
use Rattle.el_base.specs.declared.ty.Ty.{Ty}
use Rattle.net_types.specs.declared.net.Place.{Place}
use Rattle.net_types.specs.declared.net.Chan.{Chan}
use Rattle.net_types.specs.declared.net.Net.{Net}
use Rattle.net_types.specs.declared.net.Unit.{Unit as Kind}
use Rattle.net_types.specs.declared.net.Unit.TheVariants.{Exit}
use Rattle.net_check.specs.Headers.{is_exit}
use Rattle.net_types.specs.Nets.{is_at, at, into, out_of, nowhere, kind_of, chan_at}
use Rattle.net_check.specs.Ends.{is_lsq, end_place, IsEnd, IsAtExit, IsQueue, end_target, EndsWell, source_of, WalksBack, stops, meets, times_met}
use Rattle.circuit_build.specs.declared.draft.Draft.{Draft}
use Rattle.circuit_build.specs.declared.draft.Queue.{Queue}
use Rattle.circuit_build.specs.Drafts.{next}
use Rattle.circuit_build.specs.Steps.{through_queue}
use Rattle.circuit_build.specs.Endings.{all_ended, exited}
use Rattle.circuit_build.proofs.CountBooks.{froms, tos, chan}
use Rattle.circuit_build.proofs.CountRules.{at_place}

-- ---- a channel that is there is the one at its places

abbrev pub Has : Chan → List Chan → Type 0
Has c [] = ⊥
Has c (x ∷ cs) = (x ≡ c) ⊎ Has c cs

pub has_more : (c : Chan) (cs ds : List Chan) → Has c cs → Has c (cs ++ ds)
has_more c [] ds h = absurd h
has_more c (x ∷ cs) ds (inl e) = inl e
has_more c (x ∷ cs) ds (inr h) = inr (has_more c cs ds h)

pub has_last : (c : Chan) (cs : List Chan) → Has c (cs ++ c ∷ [])
has_last c [] = inl refl
has_last c (x ∷ cs) = inr (has_last c cs)

pub at_own : (p : Place) (u v : ℕ) → p ≡ at u v → is_at p u v ≡ true
at_own p u v e = ap (λ (q : Place). is_at q u v) e ∙ rw (eq-eqb u u refl, eq-eqb v v refl) refl

pub counts_to : (c : Chan) (u v : ℕ) (cs : List Chan) → c.to ≡ at u v → Has c cs → 1 ≤ tos (at_place u v) cs
counts_to c u v [] e h = absurd h
counts_to c u v (x ∷ cs) e (inl z) = let a : at_place u v x.to x.width x.ctl ≡ 1 = ap (λ b. cond b 1 0) (at_own x.to u v (ap (λ (d : Chan). d.to) z ∙ e)) in omega (arith, a)
counts_to c u v (x ∷ cs) e (inr h) = let i = counts_to c u v cs e h in omega (arith, i)

pub counts_from : (c : Chan) (u v : ℕ) (cs : List Chan) → c.from ≡ at u v → Has c cs → 1 ≤ froms (at_place u v) cs
counts_from c u v [] e h = absurd h
counts_from c u v (x ∷ cs) e (inl z) = let a : at_place u v x.from x.width x.ctl ≡ 1 = ap (λ b. cond b 1 0) (at_own x.from u v (ap (λ (d : Chan). d.from) z ∙ e)) in omega (arith, a)
counts_from c u v (x ∷ cs) e (inr h) = let i = counts_from c u v cs e h in omega (arith, i)

found_to : (c : Chan) (u v : ℕ) (cs : List Chan) → c.to ≡ at u v → tos (at_place u v) cs ≤ 1 → Has c cs → get_or cs (into u v cs) nowhere ≡ c
found_to c u v [] e l h = absurd h
found_to c u v (x ∷ cs) e l (inl z) = ap (λ b. get_or (x ∷ cs) (cond b 0 (suc (into u v cs))) nowhere) (at_own x.to u v (ap (λ (d : Chan). d.to) z ∙ e)) ∙ z
found_to c u v (x ∷ cs) e l (inr h) = by (is_at x.to u v) refl (counts_to c u v cs e h) (found_to c u v cs e)
  where
    by : (b : Bool) → is_at x.to u v ≡ b → 1 ≤ tos (at_place u v) cs → (tos (at_place u v) cs ≤ 1 → Has c cs → get_or cs (into u v cs) nowhere ≡ c) → get_or (x ∷ cs) (cond (is_at x.to u v) 0 (suc (into u v cs))) nowhere ≡ c
    by true s o i = let a : at_place u v x.to x.width x.ctl ≡ 1 = ap (λ b. cond b 1 0) s in absurd (omega (arith, a, o, l))
    by false s o i = let a : at_place u v x.to x.width x.ctl ≡ 0 = ap (λ b. cond b 1 0) s in ap (λ b. get_or (x ∷ cs) (cond b 0 (suc (into u v cs))) nowhere) s ∙ i (omega (arith, a, l)) h

pub found_from : (c : Chan) (u v : ℕ) (cs : List Chan) → c.from ≡ at u v → froms (at_place u v) cs ≤ 1 → Has c cs → get_or cs (out_of u v cs) nowhere ≡ c
found_from c u v [] e l h = absurd h
found_from c u v (x ∷ cs) e l (inl z) = ap (λ b. get_or (x ∷ cs) (cond b 0 (suc (out_of u v cs))) nowhere) (at_own x.from u v (ap (λ (d : Chan). d.from) z ∙ e)) ∙ z
found_from c u v (x ∷ cs) e l (inr h) = by (is_at x.from u v) refl (counts_from c u v cs e h) (found_from c u v cs e)
  where
    by : (b : Bool) → is_at x.from u v ≡ b → 1 ≤ froms (at_place u v) cs → (froms (at_place u v) cs ≤ 1 → Has c cs → get_or cs (out_of u v cs) nowhere ≡ c) → get_or (x ∷ cs) (cond (is_at x.from u v) 0 (suc (out_of u v cs))) nowhere ≡ c
    by true s o i = let a : at_place u v x.from x.width x.ctl ≡ 1 = ap (λ b. cond b 1 0) s in absurd (omega (arith, a, o, l))
    by false s o i = let a : at_place u v x.from x.width x.ctl ≡ 0 = ap (λ b. cond b 1 0) s in ap (λ b. get_or (x ∷ cs) (cond b 0 (suc (out_of u v cs))) nowhere) s ∙ i (omega (arith, a, l)) h

-- ---- the chain: from the place c through the ends ps to the place e

abbrev pub link : Place → Place → Chan
link p q = chan p q 32 true

abbrev pub Linked : List Chan → Place → List Place → Place → Type 0
Linked cs c [] e = Has (link c e) cs
Linked cs c (p ∷ ps) e = Has (link c p) cs × Linked cs p ps e

pub linked_more : (cs ds : List Chan) (c : Place) (ps : List Place) (e : Place) → Linked cs c ps e → Linked (cs ++ ds) c ps e
linked_more cs ds c [] e h = has_more (link c e) cs ds h
linked_more cs ds c (p ∷ ps) e h = (has_more (link c p) cs ds h.0, linked_more cs ds p ps e h.1)

-- the ends of the queues
abbrev pub ends_at : List (Option Queue) → List Place
ends_at [] = []
ends_at (None ∷ qs) = ends_at qs
ends_at (Some q ∷ qs) = at q.unit q.groups ∷ ends_at qs

-- what lies behind the chain's beginning
all_ended_has : (qs : List (Option Queue)) (d : Draft) (c : Chan) → Has c d.chans → Has c (all_ended qs d).chans
all_ended_has [] d c h = h
all_ended_has (None ∷ qs) d c h = all_ended_has qs d c h
all_ended_has (Some q ∷ qs) d c h = all_ended_has qs (through_queue q q.groups d) c (has_more c d.chans (link d.control (at q.unit q.groups) ∷ []) h)

exited_has : (t : Option Ty) (d : Draft) (c : Chan) → Has c d.chans → Has c (exited t d).chans
exited_has None d c h = has_more c d.chans (link d.control (at (next d) 0) ∷ []) h
exited_has (Some t) d c h = has_more c (d.chans ++ link d.control (at (next d) 0) ∷ []) _ (has_more c d.chans (link d.control (at (next d) 0) ∷ []) h)

exited_link : (t : Option Ty) (d : Draft) → Has (link d.control (at (next d) 0)) (exited t d).chans
exited_link None d = has_last (link d.control (at (next d) 0)) d.chans
exited_link (Some t) d = has_more (link d.control (at (next d) 0)) (d.chans ++ link d.control (at (next d) 0) ∷ []) _ (has_last (link d.control (at (next d) 0)) d.chans)

pub ended_units : (qs : List (Option Queue)) (d : Draft) → (all_ended qs d).units ≡ d.units
ended_units [] d = refl
ended_units (None ∷ qs) d = ended_units qs d
ended_units (Some q ∷ qs) d = ended_units qs (through_queue q q.groups d)

pub ended_linked : (t : Option Ty) (qs : List (Option Queue)) (d : Draft) → Linked (exited t (all_ended qs d)).chans d.control (ends_at qs) (at (next d) 0)
ended_linked t [] d = exited_link t d
ended_linked t (None ∷ qs) d = ended_linked t qs d
ended_linked t (Some q ∷ qs) d =
    let e = through_queue q q.groups d in
    let l = link d.control (at q.unit q.groups) in
    (exited_has t (all_ended qs e) l (all_ended_has qs e l (has_last l d.chans)), ended_linked t qs e)

-- ---- the walk

abbrev pub AreEnds : Net → List Place → Type 0
AreEnds net [] = Unit {0}
AreEnds net (p ∷ ps) = IsEnd net p × AreEnds net ps

abbrev pub onto : List Place → List ℕ → List ℕ
onto [] us = us
onto (p ∷ ps) us = onto ps (p.unit ∷ us)

abbrev pub times : ℕ → List Place → ℕ
times u [] = 0
times u (p ∷ ps) = cond (p.unit == u) 1 0 + times u ps

onto_times : (u : ℕ) (ps : List Place) (us : List ℕ) → times_met (onto ps us) u ≡ times u ps + times_met us u
onto_times u [] us = omega arith
onto_times u (p ∷ ps) us = let a = sum_by-cons (λ v. cond (v == u) 1 0) p.unit us in let i = onto_times u ps (p.unit ∷ us) in omega (arith, a, i)

abbrev head_or : List Place → Place → Place
head_or [] e = e
head_or (p ∷ ps) e = p

module _ (net : Net) (one_in : (u p : ℕ) → tos (at_place u p) net.chans ≤ 1) (one_out : (u p : ℕ) → froms (at_place u p) net.chans ≤ 1) where
  source_is : (c x : Place) → Has (link c x) net.chans → source_of net x.unit x.place ≡ c
  source_is c x h = ap (λ (d : Chan). d.from) (found_to (link c x) x.unit x.place net.chans refl (one_in x.unit x.place) h)

  target_is : (p x : Place) → p.place ≡ end_place (kind_of net p.unit) → Has (link p x) net.chans → end_target net p.unit ≡ x
  target_is p x e h = ap (λ n. (chan_at net (out_of p.unit n net.chans)).to) (sym e) ∙ ap (λ (d : Chan). d.to) (found_from (link p x) p.unit p.place net.chans refl (one_out p.unit p.place) h)

  met : (x q : Place) (us : List ℕ) → source_of net x.unit x.place ≡ q → IsEnd net q → WalksBack net q.unit (end_place (kind_of net q.unit)) us → WalksBack net x.unit x.place (q.unit ∷ us)
  met x q us e = subst (λ r. IsEnd net r → WalksBack net r.unit (end_place (kind_of net r.unit)) us → WalksBack net x.unit x.place (r.unit ∷ us)) e (meets x.unit x.place us)

  back : (ps : List Place) (c e : Place) (us : List ℕ) → ((x : Place) → Has (link c x) net.chans → WalksBack net x.unit x.place us) → Linked net.chans c ps e → AreEnds net ps → WalksBack net e.unit e.place (onto ps us)
  back [] c e us w l a = w e l
  back (p ∷ ps) c e us w l a =
      let h : WalksBack net p.unit (end_place (kind_of net p.unit)) us = subst (λ n. WalksBack net p.unit n us) a.0.place (w p l.0) in
      back ps p e (p.unit ∷ us) (λ x i. met x p us (source_is p x i) a.0 h) l.1 a.1

  -- the walk stops where the control token comes from the return join
  pub walked : (ps : List Place) (c e : Place) → (IsEnd net c → ⊥) → Linked net.chans c ps e → AreEnds net ps → WalksBack net e.unit e.place (onto ps [])
  walked ps c e n l a = back ps c e [] (λ x i. stops x.unit x.place (λ z. n (subst (IsEnd net) (source_is c x i) z))) l a

  first_link : (ps : List Place) (c e : Place) → Linked net.chans c ps e → Has (link c (head_or ps e)) net.chans
  first_link [] c e l = l
  first_link (p ∷ ps) c e l = l.0

  first_well : (ps : List Place) (e : Place) → AreEnds net ps → IsAtExit net e → IsEnd net (head_or ps e) ⊎ IsAtExit net (head_or ps e)
  first_well [] e a x = inr x
  first_well (p ∷ ps) e a x = inl a.0

  pub ends_well : (ps : List Place) (c e : Place) (u : ℕ) → Linked net.chans c ps e → AreEnds net ps → IsAtExit net e → 1 ≤ times u ps → EndsWell net u
  ends_well [] c e u l a x s = absurd (omega (arith, s))
  ends_well (p ∷ ps) c e u l a x s = elim (cases_eq p.unit u) [
    | inl z ↦ (let t = target_is p (head_or ps e) a.0.place (first_link ps p e l.1) in
        subst (λ v. EndsWell net v) z (subst (λ q. IsEnd net q ⊎ IsAtExit net q) (sym t) (first_well ps e a.1 x)))
    | inr d ↦ (let z : cond (p.unit == u) 1 0 ≡ (let n : ℕ = 0 in n) = ap (λ b. cond b 1 0) (ne_eqb p.unit u d) in ends_well ps p e u l.1 a.1 x (omega (arith, z, s)))
  ]

  pub met_once : (ps : List Place) (u : ℕ) → times u ps ≡ 1 → times_met (onto ps []) u ≡ 1
  met_once ps u e = let a = onto_times u ps [] in omega (arith, a, e)

  -- behind an end of the chain stands a later one, or the exit
  next_in : (ps : List Place) (p e : Place) (u : ℕ) → Linked net.chans p ps e → IsEnd net p → AreEnds net ps → 1 ≤ times u (p ∷ ps) → (end_target net u ≡ e) ⊎ (1 ≤ times (end_target net u).unit ps)
  next_in [] p e u l a b s = elim (cases_eq p.unit u) [
    | inl z ↦ subst (λ v. (end_target net v ≡ e) ⊎ (1 ≤ times (end_target net v).unit [])) z (inl (target_is p e a.place l))
    | inr d ↦ absurd (let z : cond (p.unit == u) 1 0 ≡ (let n : ℕ = 0 in n) = ap (λ b. cond b 1 0) (ne_eqb p.unit u d) in omega (arith, z, s))
  ]
  next_in (q ∷ qs) p e u l a b s = elim (cases_eq p.unit u) [
    | inl z ↦ (let t = ap (λ (r : Place). r.unit) (target_is p q a.place l.0) in
        let y : cond (q.unit == (end_target net p.unit).unit) 1 0 ≡ (let n : ℕ = 1 in n) = ap (λ b. cond b 1 0) (eq-eqb q.unit (end_target net p.unit).unit (sym t)) in
        subst (λ v. (end_target net v ≡ e) ⊎ (1 ≤ times (end_target net v).unit (q ∷ qs))) z (inr (omega (arith, y))))
    | inr d ↦ (let z : cond (p.unit == u) 1 0 ≡ (let n : ℕ = 0 in n) = ap (λ b. cond b 1 0) (ne_eqb p.unit u d) in elim (next_in qs q e u l.1 b.0 b.1 (omega (arith, z, s))) [
      | inl y ↦ inl y
      | inr y ↦ inr (omega (arith, y))
    ])
  ]

  -- so the chain begins at no end, where it passes each queue once
  pub begins_at_none : (ps : List Place) (c e : Place) → Linked net.chans c ps e → AreEnds net ps → IsAtExit net e → ((u : ℕ) → IsQueue net u → times u ps ≡ 1) → IsEnd net c → ⊥
  begins_at_none [] c e l a x once i = let z = once c.unit (record { within = i.within; queue = i.queue }) in absurd (omega (arith, z))
  begins_at_none (p ∷ ps) c e l a x once i =
      let o = once c.unit (record { within = i.within; queue = i.queue }) in
      let t = target_is c p i.place l.0 in
      let own = once p.unit (record { within = a.0.within; queue = a.0.queue }) in
      let z : cond (p.unit == p.unit) 1 0 ≡ (let n : ℕ = 1 in n) = ap (λ b. cond b 1 0) (eq-eqb p.unit p.unit refl) in
      elim (next_in ps p e c.unit l.1 a.0 a.1 (omega (arith, o))) [
        | inl y ↦ no_exit (kind_of net p.unit) a.0.queue (ap (λ (q : Place). is_exit (kind_of net q.unit)) (sym t ∙ y) ∙ x.exit)
        | inr y ↦ (let w = ap (λ (q : Place). times q.unit ps) t in absurd (omega (arith, y, w, own, z)))
      ]
    where
      no_exit : (k : Kind) → is_lsq k ≡ true → is_exit k ≡ true → ⊥
      no_exit Exit e f = absurd (cc)
      no_exit _ e f = absurd (cc)
