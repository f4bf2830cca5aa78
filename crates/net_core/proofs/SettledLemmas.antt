-- Behind the control token all queues on the way back through Ends are empty; so after the exit no array changes.
use Rattle.std.proofs.Common.{◌≡◌, ℕ, suc, zero, ◌≤◌, ◌⊎◌, Bool, true, false, Option, Some, None, List, [], ◌∷◌, length, map, get_or, set, refl, sym, ap, subst, ◌∙◌, inl, inr, arith, get_or-set_other}
use Rattle.std.proofs.Math.Seq.{set-get_or}
use Rattle.std.proofs.lemmas.Bool.{cases_eq}
use Rattle.net_types.specs.declared.net.Port.{Port}
use Rattle.net_types.specs.declared.net.Unit.{Unit as Kind}
use Rattle.net_types.specs.declared.net.Unit.TheVariants.{Fork, Lsq, Exit}
use Rattle.net_types.specs.declared.firing.Act.TheVariants.{Alloc}
use Rattle.net_types.specs.declared.firing.Firing.{Firing}
use Rattle.net_types.specs.declared.firing.Inputs.{Inputs}
use Rattle.net_types.specs.declared.net.Net.{Net}
use Rattle.net_types.specs.Nets.{into, chan_at, kind_of, owns}
use Rattle.net_check.specs.Ends.{is_lsq, end_place}
use Rattle.net_core.specs.Fire.{Effect, State, idle, opened, head_at, after, after_effect, written, applied}
use Rattle.net_core.specs.Control.{held, control_tokens}
use Rattle.net_core.specs.Runs.{opening, Leads}
use Rattle.net_core.proofs.Premises.{Premises, end_unit, then_end, met}
use Rattle.net_core.proofs.RowLemmas.{Each}
use Rattle.net_core.proofs.GoesLemmas.{Goes, goes}
use Rattle.net_core.proofs.QueueActLemmas.{queue_inv, lsq_is}
use Rattle.net_core.proofs.RegularLemmas.{IsRegular, counts, regular_kept, opening_held}
use Rattle.net_core.proofs.TakerLemmas.{IsHeld, one_held}
use Rattle.net_core.proofs.EndLemmas.{is_alloc, alloc_or, EmptyAt, step_empty, empty_kept, end_of, PutsThere, end_grows, end_is_no_alloc, alloc_held, no_alloc, end_made, each_among, exit_made}

-- no control token is left, and no queue has an entry
pub record IsOver (net : Net) (s : State) : Type 0 where
  pub empty : (u : ℕ) → is_lsq (kind_of net u) ≡ true → EmptyAt s u
  pub none : control_tokens net s ≡ 0

-- the queues on the way back from the control token are empty, and all of them once the exit has fired
pub record Ordered (net : Net) (s : State) : Type 0 where
  pub behind : (c n : ℕ) → IsHeld net s c → Each (EmptyAt s) (met net n c)
  pub over : (x : ℕ) → kind_of net x ≡ Exit → (get_or s.own x idle).fired ≡ true → IsOver net s

each_map : (P Q : ℕ → Type 0) (xs : List ℕ) → ((x : ℕ) → P x → Q x) → Each P xs → Each Q xs
each_map P Q [] f h = tt
each_map P Q (x ∷ xs) f h = (f x h.0, each_map P Q xs f h.1)

-- it stays so
pub over_kept : (net : Net) (s : State) (f : Firing) (e : Effect) → Premises net → IsRegular net s → IsOver net s → Goes net s f e → IsOver net (applied net f.unit e s)
over_kept net s f e checked good over g =
    let na = no_alloc net s f e checked good g over.none in
    let c = counts net s f e checked good g in
    let z = over.none in
    record { empty = λ u k. empty_kept net s f e g na u (over.empty u k); none = omega arith }

module _ (net : Net) (s : State) (f : Firing) (e : Effect) (checked : Premises net) (good : IsRegular net s) (ordered : Ordered net s) (g : Goes net s f e) where
  after_kept : is_alloc f.act ≡ false → (xs : List ℕ) → Each (EmptyAt s) xs → Each (EmptyAt (applied net f.unit e s)) xs
  after_kept n xs h = each_map (EmptyAt s) (EmptyAt (applied net f.unit e s)) xs (λ v x. empty_kept net s f e g n v x) h

  -- the token was there before
  held_before : (c u n : ℕ) → end_unit net c ≡ Some u → IsHeld net s c → Each (EmptyAt (applied net f.unit e s)) (met net n c)
  held_before c u n is h = by (alloc_or f.act)
    where
      by : (is_alloc f.act ≡ false) ⊎ ((k : ℕ) × (f.act ≡ Alloc k)) → Each (EmptyAt (applied net f.unit e s)) (met net n c)
      by (inl a) = after_kept a (met net n c) (ordered.behind c n h)
      by (inr x) =
          let w = alloc_held net s f x.0 e checked good g x.1 in
          let same = one_held net s c (into f.unit x.0 net.chans) good h w.1 in
          absurd (end_is_no_alloc net s f.unit x.0 c u checked.chained h.within is w.0 same)

  -- the token is put by the End
  put_now : (c u n : ℕ) → end_unit net c ≡ Some u → PutsThere net f e c u → Each (EmptyAt (applied net f.unit e s)) (u ∷ met net n (into u (end_place (kind_of net u)) net.chans))
  put_now c u n is p =
      let k = end_of (kind_of net (chan_at net c).from.unit) (chan_at net c).from u is in
      at k.array k.depth k.ports k.groups k.mark k.is k.place k.unit
    where
      at : (a d : ℕ) (ps : List Port) (gs : List (List ℕ)) (fw : Bool) → kind_of net (chan_at net c).from.unit ≡ Lsq a d ps gs fw → (chan_at net c).from.place ≡ length gs
          → (chan_at net c).from.unit ≡ u → Each (EmptyAt (applied net f.unit e s)) (u ∷ met net n (into u (end_place (kind_of net u)) net.chans))
      at a d ps gs fw kd pl fr =
          let ku : kind_of net u ≡ Lsq a d ps gs fw = rw fr at kd in
          let t = end_made net s f e p.token u a d ps gs fw checked good g p.unit ku p.put (sym p.place ∙ pl) in
          let na : is_alloc f.act ≡ false = ap is_alloc t.act in
          let ep : end_place (kind_of net u) ≡ length gs = ap end_place ku in
          let b : Each (EmptyAt s) (met net n (into u (end_place (kind_of net u)) net.chans)) = rw ep (ordered.behind (into u (length gs) net.chans) n t.held) in
          after_kept na (u ∷ met net n (into u (end_place (kind_of net u)) net.chans)) (t.empty, b)

  behind_kept : (c n : ℕ) → IsHeld net (applied net f.unit e s) c → Each (EmptyAt (applied net f.unit e s)) (met net n c)
  behind_kept c zero h = tt
  behind_kept c (suc n) h = by (end_unit net c) refl
    where
      by : (o : Option ℕ) → end_unit net c ≡ o → Each (EmptyAt (applied net f.unit e s)) (then_end o (λ u. u ∷ met net n (into u (end_place (kind_of net u)) net.chans)))
      by None is = tt
      by (Some u) is = way (end_grows net s f e c u good checked.chained g h.within is h.counts)
        where
          way : (1 ≤ held net s c) ⊎ PutsThere net f e c u → Each (EmptyAt (applied net f.unit e s)) (u ∷ met net n (into u (end_place (kind_of net u)) net.chans))
          way (inl b) =
              let r : Each (EmptyAt (applied net f.unit e s)) (then_end (end_unit net c) (λ u. u ∷ met net n (into u (end_place (kind_of net u)) net.chans))) =
              held_before c u (suc n) is (record { within = h.within; counts = b }) in
              rw is at r
          way (inr x) = put_now c u n is x

  over_now : (x : ℕ) → kind_of net x ≡ Exit → (get_or (set s.own f.unit e.own) x idle).fired ≡ true → IsOver net (applied net f.unit e s)
  over_now x is fired = by (cases_eq x f.unit)
    where
      by : (x ≡ f.unit) ⊎ (x ≡ f.unit → ⊥) → IsOver net (applied net f.unit e s)
      by (inl xf) =
          let is' : kind_of net f.unit ≡ Exit = rw xf at is in
          let l = exit_made net s f e checked good g is' in
          record {
            empty = λ u k. empty_kept net s f e g l.act u (
                let w = checked.chained.covers f.unit u is' k in
                each_among (EmptyAt s) u (met net w.0 (into f.unit 0 net.chans)) w.1 (ordered.behind (into f.unit 0 net.chans) w.0 l.held));
            none = l.none;
          }
      by (inr n) =
          let o : get_or (set s.own f.unit e.own) x idle ≡ get_or s.own x idle = get_or-set_other s.own f.unit x e.own idle n in
          over_kept net s f e checked good (ordered.over x is (rw o at fired)) g

  pub ordered_kept : Ordered net (applied net f.unit e s)
  ordered_kept = record { behind = behind_kept; over = over_now }

-- ---- runs

not_fired : (ks : List Kind) (u : ℕ) → (get_or (map opened ks) u idle).fired ≡ false
not_fired [] u = refl
not_fired (k ∷ ks) (suc u) = not_fired ks u
not_fired (k ∷ ks) zero = at k
  where
    at : (k : Kind) → (opened k).fired ≡ false
    at (Fork w outs) = refl
    at (Lsq a d ps gs fw) = refl
    at _ = refl

pub ordered_opening : (net : Net) (inputs : Inputs) → Ordered net (opening net inputs)
ordered_opening net inputs = record {
  behind = λ c n h. (let z = opening_held net inputs c in let k = h.counts in absurd (omega arith));
  over = λ x is f. (let k = not_fired net.units x in let z : true ≡ false = sym f ∙ k in cc);
}

pub ordered_run : (net : Net) → Premises net → (s t : State) (fs : List Firing) → IsRegular net s → Ordered net s → Leads net s fs t → IsRegular net t × Ordered net t
ordered_run net checked s t [] good ordered r = let P : State → Type 0 = λ x. IsRegular net x × Ordered net x in subst P r (good, ordered)
ordered_run net checked s t (f ∷ fs) good ordered r =
    let w = goes net s f r.0 in
    let o : Ordered net (after net s f) = (let P : State → Type 0 = λ x. Ordered net x in
    subst P (sym (ap (after_effect net s f.unit) w.1.is)) (ordered_kept net s f w.0 checked good ordered w.1)) in
    ordered_run net checked (after net s f) t fs (regular_kept net checked s f good r.0) o r.1

-- an array that a unit writes back as it was
array_kept : (net : Net) (s : State) (f : Firing) (e : Effect) → Premises net → IsRegular net s → IsOver net s → Goes net s f e → written (owns (kind_of net f.unit)) e.array s.arrays ≡ s.arrays
array_kept net s f e checked good over g = at (kind_of net f.unit) refl
  where
    at : (k : Kind) → kind_of net f.unit ≡ k → written (owns k) e.array s.arrays ≡ s.arrays
    at (Lsq a d ps gs fw) kd =
        let na = no_alloc net s f e checked good g over.none in
        let i = queue_inv d ps gs f.act (get_or s.own f.unit idle) (get_or s.arrays a []) (head_at net s f.unit) e (sym (lsq_is net f.unit a d ps gs fw kd s f.act) ∙ g.is) in
        let st = (step_empty d ps gs (get_or s.own f.unit idle).queue (get_or s.arrays a []) f.act i.0 i.1 na (over.empty f.unit (ap is_lsq kd))).array in
        let ea : e.array ≡ get_or s.arrays a [] = sym (ap (λ z. z.array) i.3) ∙ st in
        ap (λ z. set s.arrays a z) ea ∙ set-get_or s.arrays a []
    at _ kd = refl

pub arrays_stay : (net : Net) → Premises net → (s t : State) (fs : List Firing) → IsRegular net s → IsOver net s → Leads net s fs t → t.arrays ≡ s.arrays
arrays_stay net checked s t [] good over r = ap (λ (x : State). x.arrays) (sym r)
arrays_stay net checked s t (f ∷ fs) good over r =
    let w = goes net s f r.0 in
    let is : after net s f ≡ applied net f.unit w.0 s = ap (after_effect net s f.unit) w.1.is in
    let o : IsOver net (after net s f) = subst (λ x. IsOver net x) (sym is) (over_kept net s f w.0 checked good over w.1) in
    arrays_stay net checked (after net s f) t fs (regular_kept net checked s f good r.0) o r.1
    ∙ (ap (λ (x : State). x.arrays) is ∙ array_kept net s f w.0 checked good over w.1)
