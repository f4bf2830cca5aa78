-- The merged log merges the logs, and rest is shared by states that are alike.
use Rattle.std.proofs.Common.{◌≡◌, ◌⊎◌, inl, inr, ℕ, zero, suc, ◌+◌, ◌<◌, ◌≤◌, ◌==◌, Bool, true, false, cond, nat_lt, List, [], ◌∷◌, length, get_or, set, Option, Some, None, refl, ap, ◌∙◌, sym, subst, arith, eq-eqb, ne_eqb, get_or-set_same, get_or-set_other}
use Rattle.std.specs.List.{AllByRecursion}
use Rattle.std.proofs.lemmas.Grind.{common_steps}
use Rattle.std.proofs.lemmas.Bool.{cases_eq, cases_lt}
use Rattle.std.proofs.lemmas.List.{get_or_past}
use Rattle.net_types.specs.declared.net.Net.{Net}
use Rattle.net_types.specs.Nets.{into, out_of, chan_at, nowhere}
use Rattle.net_core.specs.declared.plan.Put.{Put}
use Rattle.net_core.specs.Fire.{State, first, head_at, tokens_at, has_room}
use Rattle.net_core.proofs.ApartLemmas.{is_at-inv, into-at, out_of-at}
use Rattle.net_core.proofs.GoesLemmas.{goes, can_go}
use Rattle.net_core.specs.Uses.{used}
use Rattle.net_worker.specs.Plays.{putter, taker}
use Rattle.net_worker.specs.Merge.{AllFrom, Merges, ends, next, Alike}
use Rattle.net_worker.specs.Merged.{Head, earlier, head_of, earliest, go_on, merged_in, entries_of, merged, RisesFrom, MergedMerges, RestIsShared}
use Rattle.firing_log.specs.declared.entry.Entry.{Entry}
use Rattle.net_worker.proofs.Steps.{same_effect}

-- ---- the earliest head

pub record IsEarliest (i : ℕ) (logs : List (List Entry)) (h : Head) : Type 0 where
  pub place : ℕ
  pub at : h.at ≡ i + place
  pub within : place < length logs
  pub here : get_or logs place [] ≡ h.entry ∷ h.rest
  pub least : (v : ℕ) (e : Entry) (es : List Entry) → get_or logs v [] ≡ e ∷ es → h.entry.stamp ≤ e.stamp

earlier_none : (o p : Option Head) → earlier o p ≡ None → (o ≡ None) × (p ≡ None)
earlier_none None p q = (refl, q)
earlier_none (Some a) None q = cc
earlier_none (Some a) (Some b) q = by (nat_lt b.entry.stamp a.entry.stamp) q
  where
    by : (c : Bool) → cond c (Some b) (Some a) ≡ None → (Some a ≡ None) × (Some b ≡ None)
    by true q = cc
    by false q = cc

pub earliest_none : (i : ℕ) (logs : List (List Entry)) → earliest i logs ≡ None → (v : ℕ) → get_or logs v [] ≡ []
earliest_none i [] q v = refl
earliest_none i ([] ∷ ls) q zero = refl
earliest_none i ([] ∷ ls) q (suc v) = earliest_none (suc i) ls q v
earliest_none i ((e ∷ es) ∷ ls) q v =
    let z = earlier_none (head_of i (e ∷ es)) (earliest (suc i) ls) q in
    let k = z.0 in cc

-- a head of a later list
later_head : (i : ℕ) (l : List Entry) (ls : List (List Entry)) (h : Head) → IsEarliest (suc i) ls h → ((e : Entry) (es : List Entry) → l ≡ e ∷ es → h.entry.stamp ≤ e.stamp) → IsEarliest i (l ∷ ls) h
later_head i l ls h r first = record {
  place = suc r.place;
  at = omega (arith, r.at);
  within = omega (arith, r.within);
  here = r.here;
  least = λ v e es q. by v e es q;
}
  where
    by : (v : ℕ) (e : Entry) (es : List Entry) → get_or (l ∷ ls) v [] ≡ e ∷ es → h.entry.stamp ≤ e.stamp
    by zero e es q = first e es q
    by (suc v) e es q = r.least v e es q

same_entry : (e f : Entry) (es fs : List Entry) → e ∷ es ≡ f ∷ fs → e.stamp ≡ f.stamp
same_entry e f es fs q = let k : e ≡ f = cc in ap (λ (x : Entry). x.stamp) k

pub earliest_is : (i : ℕ) (logs : List (List Entry)) (h : Head) → earliest i logs ≡ Some h → IsEarliest i logs h
earliest_is i [] h q = cc
earliest_is i ([] ∷ ls) h q = later_head i [] ls h (earliest_is (suc i) ls h q) (λ e es z. cc)
earliest_is i ((e ∷ es) ∷ ls) h q = by (earliest (suc i) ls) refl q (earliest_is (suc i) ls) (earliest_none (suc i) ls)
  where
    mine : Head
    mine = record { at = i; entry = e; rest = es }

    alone : mine ≡ h → ((v : ℕ) (f : Entry) (fs : List Entry) → get_or ls v [] ≡ f ∷ fs → e.stamp ≤ f.stamp) → IsEarliest i ((e ∷ es) ∷ ls) h
    alone z others = subst (IsEarliest i ((e ∷ es) ∷ ls)) z (record {
      place = 0;
      at = omega arith;
      within = omega arith;
      here = refl;
      least = λ v f fs k. at v f fs k;
    })
      where
        at : (v : ℕ) (f : Entry) (fs : List Entry) → get_or ((e ∷ es) ∷ ls) v [] ≡ f ∷ fs → e.stamp ≤ f.stamp
        at zero f fs k = let x = same_entry e f es fs k in omega arith
        at (suc v) f fs k = others v f fs k

    by : (o : Option Head) → earliest (suc i) ls ≡ o → earlier (Some mine) o ≡ Some h → ((k : Head) → earliest (suc i) ls ≡ Some k → IsEarliest (suc i) ls k)
        → (earliest (suc i) ls ≡ None → (v : ℕ) → get_or ls v [] ≡ []) → IsEarliest i ((e ∷ es) ∷ ls) h
    by None is z known none = alone (let k : mine ≡ h = cc in k) (λ v f fs k. (let x = none is v in absurd (let y : f ∷ fs ≡ [] = sym k ∙ x in cc)))
    by (Some b) is z known none = at (cases_lt b.entry.stamp e.stamp)
      where
        chosen : Bool → Option Head
        chosen c = cond c (Some b) (Some mine)

        later : b.entry.stamp < e.stamp → chosen (nat_lt b.entry.stamp e.stamp) ≡ Some b
        later l = let t : nat_lt b.entry.stamp e.stamp ≡ true = grind (arith, common_steps) in ap chosen t

        sooner : e.stamp ≤ b.entry.stamp → chosen (nat_lt b.entry.stamp e.stamp) ≡ Some mine
        sooner l = let t : nat_lt b.entry.stamp e.stamp ≡ false = grind (arith, common_steps) in ap chosen t

        at : (b.entry.stamp < e.stamp) ⊎ (e.stamp ≤ b.entry.stamp) → IsEarliest i ((e ∷ es) ∷ ls) h
        at (inl l) =
            let w : Some b ≡ Some h = sym (later l) ∙ z in
            let k : b ≡ h = cc in
            subst (IsEarliest i ((e ∷ es) ∷ ls)) k (later_head i (e ∷ es) ls b (known b is) (λ f fs x. (let y = same_entry e f es fs x in omega arith)))
        at (inr l) =
            let w : Some mine ≡ Some h = sym (sooner l) ∙ z in
            let k : mine ≡ h = cc in
            alone k (λ v f fs x. (let y = (known b is).least v f fs x in omega arith))

-- ---- one step

all_from : (n m : ℕ) (es : List Entry) → n ≤ m → RisesFrom m es → AllFrom n es
all_from n m [] h r = tt
all_from n m (e ∷ es) h r = (omega (arith, r.0), all_from n e.stamp es (omega (arith, r.0)) r.1)

least_of : (n : ℕ) (l : List Entry) → RisesFrom 0 l → ((e : Entry) (es : List Entry) → l ≡ e ∷ es → n ≤ e.stamp) → AllFrom n l
least_of n [] r h = tt
least_of n (e ∷ es) r h = (h e es refl, all_from n e.stamp es (h e es refl) r.1)

pub entries_set : (logs : List (List Entry)) (k : ℕ) (e : Entry) (es : List Entry) → k < length logs → get_or logs k [] ≡ e ∷ es → entries_of logs ≡ suc (entries_of (set logs k es))
entries_set [] k e es b q = absurd (omega arith)
entries_set (l ∷ ls) zero e es b q = let x : length l ≡ suc (length es) = ap length q in omega arith
entries_set (l ∷ ls) (suc k) e es b q = let r = entries_set ls k e es (omega arith) q in omega arith

pub none_left : (logs : List (List Entry)) → entries_of logs ≡ 0 → (v : ℕ) → get_or logs v [] ≡ []
none_left [] h v = refl
none_left ([] ∷ ls) h zero = refl
none_left ((e ∷ es) ∷ ls) h zero = absurd (omega arith)
none_left (l ∷ ls) h (suc v) = none_left ls (omega arith) v

pub rises_later : (n : ℕ) (e : Entry) (es : List Entry) → RisesFrom n (e ∷ es) → RisesFrom 0 es
rises_later n e [] r = tt
rises_later n e (f ∷ es) r = (omega arith, r.1.1)

merges_in : (fuel : ℕ) (logs : List (List Entry)) (rests : ℕ → List Entry) → entries_of logs ≤ fuel → ((v : ℕ) → RisesFrom 0 (get_or logs v [])) → ((v : ℕ) → rests v ≡ get_or logs v [])
    → Merges rests (merged_in fuel logs)
merges_in zero logs rests few rise same = ends (λ v. same v ∙ none_left logs (omega arith) v)
merges_in (suc fuel) logs rests few rise same = by (earliest 0 logs) refl (merges_in fuel)
  where
    Goal : Option Head → Type 0
    Goal o = Merges rests (go_on o (λ h. h.entry.firing ∷ merged_in fuel (set logs h.at h.rest)))

    by : (o : Option Head) → earliest 0 logs ≡ o
        → ((ls : List (List Entry)) (rs : ℕ → List Entry) → entries_of ls ≤ fuel → ((v : ℕ) → RisesFrom 0 (get_or ls v [])) → ((v : ℕ) → rs v ≡ get_or ls v []) → Merges rs (merged_in fuel ls))
        → Goal (earliest 0 logs)
    by None is more = subst Goal (sym is) (ends (λ v. same v ∙ earliest_none 0 logs is v))
    by (Some h) is more = subst Goal (sym is) (next h.at h.entry h.rest (same h.at ∙ here) (λ v. subst (AllFrom h.entry.stamp) (sym (same v)) (least_of h.entry.stamp (get_or logs v []) (rise v) (first.least v)))
        (more (set logs h.at h.rest) (λ v. cond (v == h.at) h.rest (rests v)) (omega (arith, entries_set logs h.at h.entry h.rest within here)) risen shown))
      where
        first : IsEarliest 0 logs h
        first = earliest_is 0 logs h is

        place : h.at ≡ first.place
        place = omega (arith, first.at)

        within : h.at < length logs
        within = omega (arith, first.within, place)

        here : get_or logs h.at [] ≡ h.entry ∷ h.rest
        here = ap (λ k. get_or logs k []) place ∙ first.here

        risen : (v : ℕ) → RisesFrom 0 (get_or (set logs h.at h.rest) v [])
        risen v = at (cases_eq v h.at)
          where
            at : (v ≡ h.at) ⊎ (v ≡ h.at → ⊥) → RisesFrom 0 (get_or (set logs h.at h.rest) v [])
            at (inl q) = subst (RisesFrom 0) (sym (ap (λ k. get_or (set logs h.at h.rest) k []) q ∙ get_or-set_same logs h.at h.rest [] within)) (rises_later 0 h.entry h.rest (subst (RisesFrom 0) here (rise h.at)))
            at (inr n) = subst (RisesFrom 0) (sym (get_or-set_other logs h.at v h.rest [] n)) (rise v)

        shown : (v : ℕ) → cond (v == h.at) h.rest (rests v) ≡ get_or (set logs h.at h.rest) v []
        shown v = at (cases_eq v h.at)
          where
            at : (v ≡ h.at) ⊎ (v ≡ h.at → ⊥) → cond (v == h.at) h.rest (rests v) ≡ get_or (set logs h.at h.rest) v []
            at (inl q) = ap (λ b. cond b h.rest (rests v)) (eq-eqb v h.at q) ∙ sym (ap (λ k. get_or (set logs h.at h.rest) k []) q ∙ get_or-set_same logs h.at h.rest [] within)
            at (inr n) = ap (λ b. cond b h.rest (rests v)) (ne_eqb v h.at n) ∙ (same v ∙ sym (get_or-set_other logs h.at v h.rest [] n))

pub merged_merges : MergedMerges
merged_merges logs rise = merges_in (entries_of logs) logs (λ v. get_or logs v []) (omega arith) rise (λ v. refl)

-- ---- the number of firings

length_in : (fuel : ℕ) (logs : List (List Entry)) → entries_of logs ≡ fuel → length (merged_in fuel logs) ≡ fuel
length_in zero logs h = refl
length_in (suc fuel) logs h = by (earliest 0 logs) refl (length_in fuel)
  where
    Goal : Option Head → Type 0
    Goal o = length (go_on o (λ h. h.entry.firing ∷ merged_in fuel (set logs h.at h.rest))) ≡ suc fuel

    by : (o : Option Head) → earliest 0 logs ≡ o → ((ls : List (List Entry)) → entries_of ls ≡ fuel → length (merged_in fuel ls) ≡ fuel) → Goal (earliest 0 logs)
    by None is more = absurd (omega (arith, all_empty logs (earliest_none 0 logs is)))
      where
        all_empty : (ls : List (List Entry)) → ((v : ℕ) → get_or ls v [] ≡ []) → entries_of ls ≡ 0
        all_empty [] e = refl
        all_empty (l ∷ ls) e = omega (arith, ap length (e 0), all_empty ls (λ v. e (suc v)))
    by (Some k) is more =
        let first = earliest_is 0 logs k is in
        let place : k.at ≡ first.place = omega (arith, first.at) in
        let within : k.at < length logs = omega (arith, first.within, place) in
        let here : get_or logs k.at [] ≡ k.entry ∷ k.rest = ap (λ i. get_or logs i []) place ∙ first.here in
        subst Goal (sym is) (ap suc (more (set logs k.at k.rest) (omega (arith, entries_set logs k.at k.entry k.rest within here))))

pub merged_length : (logs : List (List Entry)) → length (merged logs) ≡ entries_of logs
merged_length logs = length_in (entries_of logs) logs refl

-- ---- rest

all_unit : (ps : List ℕ) → AllByRecursion (λ p. Unit {0}) ps
all_unit [] = tt
all_unit (p ∷ ps) = (tt, all_unit ps)

swapped : (net : Net) (owner : ℕ → ℕ) (v : ℕ) (s t : State) → Alike net owner v s t → Alike net owner v t s
swapped net owner v s t a = record {
  scalars = sym a.scalars;
  own = λ u q. sym (a.own u q);
  arrays = λ u q. sym (a.arrays u q);
  inner = λ c p q. sym (a.inner c p q);
}

pub rest_is_shared : RestIsShared
rest_is_shared net owner j s t a long longt rested f mine inner can =
    let g = goes net s f can in
    rested f mine inner (can_go net t f g.0 (record {
      is = same_effect net owner j f g.0 t s (λ p. Unit {0}) mine (swapped net owner j s t a) g.1.is (all_unit (used net s f)) (λ p h. head p (cases_lt (into f.unit p net.chans) (length net.chans)));
      room = room g.0.put g.1.room;
    }))
  where
    head : (p : ℕ) → (into f.unit p net.chans < length net.chans) ⊎ (length net.chans ≤ into f.unit p net.chans) → head_at net t f.unit p ≡ head_at net s f.unit p
    head p (inl l) =
        let at = (is_at-inv (chan_at net (into f.unit p net.chans)).to f.unit p (into-at f.unit p net.chans l)).0 in
        let to : taker net owner (into f.unit p net.chans) ≡ j = ap owner at ∙ mine in
        ap first (a.inner (into f.unit p net.chans) (inner (into f.unit p net.chans) (inr at) ∙ to) to)
    head p (inr l) =
        ap first (get_or_past t.tokens (into f.unit p net.chans) [] (omega (arith, longt)) ∙ sym (get_or_past s.tokens (into f.unit p net.chans) [] (omega (arith, long))))

    room : (o : Option Put) → has_room net s f.unit o → has_room net t f.unit o
    room None h = tt
    room (Some w) h = by (cases_lt (out_of f.unit w.place net.chans) (length net.chans))
      where
        c : ℕ
        c = out_of f.unit w.place net.chans

        by : (c < length net.chans) ⊎ (length net.chans ≤ c) → length (tokens_at t c) < (chan_at net c).slots
        by (inl l) =
            let at = (is_at-inv (chan_at net c).from f.unit w.place (out_of-at f.unit w.place net.chans l)).0 in
            let from : putter net owner c ≡ j = ap owner at ∙ mine in
            let k : length (tokens_at t c) ≡ length (tokens_at s c) = ap length (a.inner c from (sym (inner c (inl at)) ∙ from)) in
            omega (arith, h)
        by (inr l) =
            let z : (chan_at net c).slots ≡ 0 = ap (λ x. x.slots) (get_or_past net.chans c nowhere l) in
            absurd (omega (arith, h))
