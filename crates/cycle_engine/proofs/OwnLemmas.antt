-- What a firing can rouse in its own unit.
use Rattle.std.proofs.Common.{◌≡◌, ◌≢◌, ◌⊎◌, inl, inr, ℕ, ◌+◌, ◌<◌, ◌≤◌, ◌==◌, ◌&&◌, ◌||◌, not, nat_lt, Bool, true, false, cond, Option, Some, None, List, [], ◌∷◌, length, map, get_or, set, refl, sym, ap, subst, ◌∙◌, arith, IsSomeAnd, length-append, get_or-set_same, get_or-set_other, ne_eqb, eq-eqb}
use Rattle.std.proofs.lemmas.Bool.{cases_lt}
use Rattle.std.proofs.lemmas.List.{get_or_past}
use Rattle.std.specs.List.{list_all, AllByRecursion}
use Rattle.net_types.specs.declared.net.Net.{Net}
use Rattle.net_types.specs.declared.net.Unit.{Unit as Kind}
use Rattle.net_types.specs.declared.net.Unit.TheVariants.{Entry, Param, Const, Op1, Op2, Select, Fork, Mux, Cmerge, Branch, Sink, Read, Lsq, Exit}
use Rattle.net_types.specs.declared.firing.Act.{Act}
use Rattle.net_types.specs.declared.firing.Act.TheVariants.{Go, From, Send}
use Rattle.net_types.specs.Nets.{into, out_of, kind_of, uses, chan_at, firing}
use Rattle.net_core.specs.Fire.{State, Own, Row, Take, Fires, Effect, Setting, effect_of, with_head, taking, on_go, when, put_at, idle, row, cmerge_row, fork_row, sent_to, setting, at_array, head_at, tokens_at, effect, has_room, moved, puts_on, takes_from, among, added, taken}
use Rattle.net_core.specs.Uses.{used_by, used}
use Rattle.net_core.proofs.RowLemmas.{get-changed}
use Rattle.net_core.proofs.ApartLemmas.{same_in, same_out}
use Rattle.net_core.proofs.ForkLemmas.{send_eff, send_inv}
use Rattle.net_core.proofs.PlanUses.{fork_act, fork_effect, fork_uses, send_does}
use Rattle.lsq_core.specs.Laws.{act_place}
use Rattle.cycle_engine.specs.Cycles.{Dated, after_by, after_in, IsRipe, May, AreDated}
use Rattle.cycle_engine.specs.Rousing.{GoesTo, Stirs, OwnRouses}
use Rattle.cycle_engine.proofs.BeforeLemmas.{after_of, IsLate, kept_free}
use Rattle.cycle_engine.proofs.DateLemmas.{effect_there}
use Rattle.cycle_engine.proofs.RousingLemmas.{late_or, slots_within}

-- a unit of one place
abbrev pub is_goer : Kind → Bool
is_goer (Fork w outs) = false
is_goer (Cmerge ins) = false
is_goer (Lsq a d ps gs f) = false
is_goer _ = true

-- the kinds that only go
pub on_go_is : (a : Act) (r : Row) (h : ℕ → Option ℕ) (e : Effect) → effect_of (on_go a r) h ≡ Some e → a ≡ Go
on_go_is Go r h e q = refl
on_go_is _ r h e q = cc

pub goes_only : (k : Kind) (a : Act) (o : Own) (xs : List ℕ) (ss : Setting) (h : ℕ → Option ℕ) (e : Effect) → is_goer k ≡ true → effect_of (row k a o xs ss) h ≡ Some e → a ≡ Go
unfolding row
goes_only (Fork w outs) a o xs ss h e g q = cc
goes_only (Cmerge ins) a o xs ss h e g q = cc
goes_only (Lsq n d ps gs fw) a o xs ss h e g q = cc
goes_only _ a o xs ss h e g q = on_go_is a _ h e q

-- merges
abbrev merge_eff : ℕ → Own → List ℕ → Effect
merge_eff j o xs = record { takes = j ∷ []; put = put_at 0 j; own = o; array = xs; strays = 0 }

merge_inv : (ins : ℕ) (a : Act) (o : Own) (xs : List ℕ) (h : ℕ → Option ℕ) (e : Effect) → effect_of (cmerge_row ins a o xs) h ≡ Some e
    → (j : ℕ) × (a ≡ From j) × (nat_lt j ins ≡ true) × (v : ℕ) × (h j ≡ Some v) × (e ≡ merge_eff j o xs)
merge_inv ins (From j) o xs h e q = by (nat_lt j ins) refl (h j) refl q
  where
    by : (b : Bool) → nat_lt j ins ≡ b → (t : Option ℕ) → h j ≡ t → effect_of (when b (Take j (λ v. Fires (put_at 0 j) o xs 0))) h ≡ Some e
        → (k : ℕ) × (From j ≡ From k) × (nat_lt k ins ≡ true) × (v : ℕ) × (h k ≡ Some v) × (e ≡ merge_eff k o xs)
    by false l t is q = cc
    by true l None is q = let z : with_head (h j) (λ v. taking j (Some (record { takes = []; put = put_at 0 j; own = o; array = xs; strays = 0 }))) ≡ Some e = q in
        let P : Option ℕ → Type 0 = λ y. with_head y (λ v. taking j (Some (record { takes = []; put = put_at 0 j; own = o; array = xs; strays = 0 }))) ≡ Some e in
        let w : None ≡ Some e = subst P is z in cc
    by true l (Some v) is q =
        let P : Option ℕ → Type 0 = λ y. with_head y (λ v. taking j (Some (record { takes = []; put = put_at 0 j; own = o; array = xs; strays = 0 }))) ≡ Some e in
        let w : Some (merge_eff j o xs) ≡ Some e = subst P is q in
        let z : e ≡ merge_eff j o xs = cc in
        (j, refl, l, v, is, z)
merge_inv ins _ o xs h e q = cc

merge_goes : (ins j : ℕ) (o : Own) (xs : List ℕ) (h : ℕ → Option ℕ) (v : ℕ) → nat_lt j ins ≡ true → h j ≡ Some v → effect_of (cmerge_row ins (From j) o xs) h ≡ Some (merge_eff j o xs)
merge_goes ins j o xs h v l e = rw (l, e) refl

merge_used : (ins j : ℕ) (o : Own) (xs : List ℕ) (h : ℕ → Option ℕ) (v : ℕ) → nat_lt j ins ≡ true → h j ≡ Some v → used_by (cmerge_row ins (From j) o xs) h ≡ j ∷ []
merge_used ins j o xs h v l e = rw (l, e) refl

merge_is : (net : Net) (u ins : ℕ) → kind_of net u ≡ Cmerge ins → (t : State) (a : Act) → effect net t (firing u a) ≡ effect_of (cmerge_row ins a (get_or t.own u idle) []) (head_at net t u)
unfolding row
merge_is net u ins is t a = ap (λ k. effect_of (row k a (get_or t.own u idle) (at_array t.arrays (uses k)) (setting net t)) (head_at net t u)) is

merge_uses : (net : Net) (u ins : ℕ) → kind_of net u ≡ Cmerge ins → (t : State) (a : Act) → used net t (firing u a) ≡ used_by (cmerge_row ins a (get_or t.own u idle) []) (head_at net t u)
unfolding row
merge_uses net u ins is t a = ap (λ k. used_by (row k a (get_or t.own u idle) (at_array t.arrays (uses k)) (setting net t)) (head_at net t u)) is

grown : (v : ℕ) (b : Bool) (xs : List ℕ) → length xs ≤ length (added (Some v) (taken b xs))
grown v true [] = omega arith
grown v true (x ∷ xs) = let n = length-append xs (v ∷ []) in omega arith
grown v false xs = let n = length-append xs (v ∷ []) in omega arith

eq_self : (n : ℕ) → (n == n) ≡ true
eq_self n = eq-eqb n n refl

tokens_after : (net : Net) (c : ℕ) (s : Dated) (v d : ℕ) (e : Effect) → AreDated net s → d < length net.chans → tokens_at (after_of net c s v e).state d ≡ moved net v e d (tokens_at s.state d)
tokens_after net c s v d e ok l = let a = ok.chans in get-changed (moved net v e) 0 s.state.tokens d d (omega arith) (omega arith)

merge_own : (net : Net) (c : ℕ) (start s : Dated) (u ins : ℕ) (a b : Act) (e : Effect) → kind_of net u ≡ Cmerge ins → AreDated net s → effect net s.state (firing u a) ≡ Some e → act_place b ≢ act_place a
    → IsLate net u u e → May net c start (after_of net c s u e) (firing u b) → May net c start s (firing u b)
merge_own net c start s u ins a b e is ok ea ne late m =
    let t : Dated = after_of net c s u e in
    let o : Own = get_or s.state.own u idle in
    let o' : Own = get_or (after_of net c s u e).state.own u idle in
    let y = effect_there net (after_of net c s u e).state (firing u b) m.turn in
    let ia = merge_inv ins a (get_or s.state.own u idle) [] (head_at net s.state u) e (sym (merge_is net u ins is s.state a) ∙ ea) in
    let ib = merge_inv ins b (get_or (after_of net c s u e).state.own u idle) [] (head_at net (after_of net c s u e).state u) y.0 (sym (merge_is net u ins is (after_of net c s u e).state b) ∙ y.1) in
    at y.0 y.1 y.2 ia.0 ia.1 ia.5 ib.0 ib.1 ib.2 ib.3 ib.4 ib.5
  where
    at : (x : Effect) → effect net (after_of net c s u e).state (firing u b) ≡ Some x → has_room net (after_of net c s u e).state u x.put
        → (i : ℕ) → a ≡ From i → e ≡ merge_eff i (get_or s.state.own u idle) []
        → (j : ℕ) → b ≡ From j → nat_lt j ins ≡ true → (v : ℕ) → head_at net (after_of net c s u e).state u j ≡ Some v → x ≡ merge_eff j (get_or (after_of net c s u e).state.own u idle) []
        → May net c start s (firing u b)
    at x ex room i ai ei j bj lt v hv xj =
        let n : j ≢ i = λ z. ne (ap act_place (bj ∙ ap From z ∙ sym ai)) in
        let uses_after : used net (after_of net c s u e).state (firing u b) ≡ j ∷ []
        = merge_uses net u ins is (after_of net c s u e).state b ∙ ap (λ k. used_by (cmerge_row ins k (get_or (after_of net c s u e).state.own u idle) []) (head_at net (after_of net c s u e).state u)) bj
        ∙ merge_used ins j (get_or (after_of net c s u e).state.own u idle) [] (head_at net (after_of net c s u e).state u) v lt hv in
        let P : List ℕ → Type 0 = AllByRecursion (λ p. IsRipe net c (after_of net c s u e) (into u p net.chans)) in
        let r : IsRipe net c (after_of net c s u e) (into u j net.chans) = (subst P uses_after m.ripe).0 in
        let k = kept_free net c s u u j e (free i j ei n) ok late r in
        let h : head_at net s.state u j ≡ Some v = sym k.0 ∙ hv in
        let eb : effect net s.state (firing u b) ≡ Some (merge_eff j (get_or s.state.own u idle) [])
        = merge_is net u ins is s.state b ∙ ap (λ q. effect_of (cmerge_row ins q (get_or s.state.own u idle) []) (head_at net s.state u)) bj ∙ merge_goes ins j (get_or s.state.own u idle) [] (head_at net s.state u) v lt h in
        let ub : used net s.state (firing u b) ≡ j ∷ []
        = merge_uses net u ins is s.state b ∙ ap (λ q. used_by (cmerge_row ins q (get_or s.state.own u idle) []) (head_at net s.state u)) bj ∙ merge_used ins j (get_or s.state.own u idle) [] (head_at net s.state u) v lt h in
        let Q : Option Effect → Type 0 = λ q. IsSomeAnd q (λ w. has_room net s.state u w.put) in
        let R : Option Effect → Type 0 = λ q. IsSomeAnd q (λ w. has_room net start.state u w.put) in
        let S : List ℕ → Type 0 = AllByRecursion (λ p. IsRipe net c s (into u p net.chans)) in
        let T : Option ℕ → Type 0 = λ q. IsSomeAnd q (λ date. date + (chan_at net (into u j net.chans)).delay ≤ c) in
        let W : Effect → Type 0 = λ w. has_room net (after_of net c s u e).state u w.put in
        record {
          turn = subst Q (sym eb) (there i j ei (subst W xj room));
          ripe = subst S (sym ub) (subst T k.1 r, tt);
          room = subst R (sym eb) (let V : Effect → Type 0 = λ w. has_room net start.state u w.put in subst V xj (subst R ex m.room));
          depth = m.depth;
        }
      where
        free : (i j : ℕ) → e ≡ merge_eff i (get_or s.state.own u idle) [] → j ≢ i → into u j net.chans < length net.chans → takes_from net u e (into u j net.chans) ≡ false
        free i j ei n l =
            let k : (into u j net.chans == into u i net.chans) ≡ false = ne_eqb _ _ (λ z. n (same_in u u j i net.chans l z).1) in
            ap (λ w. takes_from net u w (into u j net.chans)) ei ∙ ap (λ q. q || false) k

        there : (i j : ℕ) → e ≡ merge_eff i (get_or s.state.own u idle) [] → has_room net (after_of net c s u e).state u (put_at 0 j) → has_room net s.state u (put_at 0 j)
        there i j ei h =
            let d : ℕ = out_of u 0 net.chans in
            let l : d < length net.chans = slots_within net.chans d (length (tokens_at (after_of net c s u e).state d)) h in
            let g : tokens_at (after_of net c s u e).state d ≡ moved net u e d (tokens_at s.state d) = tokens_after net c s u d e ok l in
            let p : puts_on net u e.put d ≡ Some i = ap (λ (w : Effect). puts_on net u w.put d) ei ∙ ap (λ q. cond q (Some i) None) (eq_self d) in
            let z = ap length (g ∙ ap (λ q. added q (taken (takes_from net u e d) (tokens_at s.state d))) p) in
            let y = grown i (takes_from net u e d) (tokens_at s.state d) in
            omega arith

-- forks: a send that is not the last
abbrev zero_if : Bool → List ℕ
zero_if b = cond b (0 ∷ []) []

-- a send that takes nothing sets its bit alone
pub bits_after : (i : ℕ) (o : Own) (xs : List ℕ) (v : ℕ) → (send_eff i o xs v).takes ≡ [] → (send_eff i o xs v).own.sent ≡ set o.sent i true
bits_after i o xs v e = by (list_all (λ b. b) (set o.sent i true)) refl e
  where
    by : (b : Bool) → list_all (λ b. b) (set o.sent i true) ≡ b → zero_if b ≡ [] → sent_to i o.sent ≡ set o.sent i true
    by true is q = cc
    by false is q = ap (λ b. cond b (map (λ x. false) (set o.sent i true)) (set o.sent i true)) is

both_parts : (a b : Bool) → (a && b) ≡ true → (a ≡ true) × (b ≡ true)
both_parts true true e = (refl, refl)
both_parts true false e = cc
both_parts false b e = cc

fork_own : (net : Net) (c : ℕ) (start s : Dated) (u w outs : ℕ) (a b : Act) (e : Effect) → kind_of net u ≡ Fork w outs → AreDated net s → effect net s.state (firing u a) ≡ Some e → act_place b ≢ act_place a
    → e.takes ≡ [] → IsLate net u u e → May net c start (after_of net c s u e) (firing u b) → May net c start s (firing u b)
fork_own net c start s u w outs a b e is ok ea ne none late m =
    let y = effect_there net (after_of net c s u e).state (firing u b) m.turn in
    let fa = fork_act outs a (get_or s.state.own u idle) [] (head_at net s.state u) e (sym (fork_effect net u w outs is s.state a) ∙ ea) in
    let fb = fork_act outs b (get_or (after_of net c s u e).state.own u idle) [] (head_at net (after_of net c s u e).state u) y.0 (sym (fork_effect net u w outs is (after_of net c s u e).state b) ∙ y.1) in
    let ia = send_inv outs fa.0 (get_or s.state.own u idle) [] (head_at net s.state u) e fa.2 in
    let ib = send_inv outs fb.0 (get_or (after_of net c s u e).state.own u idle) [] (head_at net (after_of net c s u e).state u) y.0 fb.2 in
    at y.0 y.1 y.2 fa.0 fa.1 ia.0 ia.1 (sym ia.3) fb.0 fb.1 ib.0 ib.1 ib.2 (sym ib.3)
  where
    at : (x : Effect) → effect net (after_of net c s u e).state (firing u b) ≡ Some x → has_room net (after_of net c s u e).state u x.put
        → (i : ℕ) → a ≡ Send i → (nat_lt i outs && not (get_or (get_or s.state.own u idle).sent i true)) ≡ true → (v : ℕ) → e ≡ send_eff i (get_or s.state.own u idle) [] v
        → (j : ℕ) → b ≡ Send j → (nat_lt j outs && not (get_or (get_or (after_of net c s u e).state.own u idle).sent j true)) ≡ true → (z : ℕ) → head_at net (after_of net c s u e).state u 0 ≡ Some z
        → x ≡ send_eff j (get_or (after_of net c s u e).state.own u idle) [] z → May net c start s (firing u b)
    at x ex room i ai gi v ei j bj gj z hz xj =
        let n : j ≢ i = λ y. ne (ap act_place (bj ∙ ap Send y ∙ sym ai)) in
        let uses_after : used net (after_of net c s u e).state (firing u b) ≡ 0 ∷ []
        = fork_uses net u w outs is (after_of net c s u e).state b ∙ ap (λ k. used_by (fork_row outs k (get_or (after_of net c s u e).state.own u idle) []) (head_at net (after_of net c s u e).state u)) bj
        ∙ (send_does outs j (get_or (after_of net c s u e).state.own u idle) [] (head_at net (after_of net c s u e).state u) z gj hz).1 in
        let P : List ℕ → Type 0 = AllByRecursion (λ p. IsRipe net c (after_of net c s u e) (into u p net.chans)) in
        let r : IsRipe net c (after_of net c s u e) (into u 0 net.chans) = (subst P uses_after m.ripe).0 in
        let k = kept_free net c s u u 0 e (λ l. ap (λ ps. among (into u 0 net.chans) (map (λ p. into u p net.chans) ps)) none) ok late r in
        let h : head_at net s.state u 0 ≡ Some z = sym k.0 ∙ hz in
        let g : (nat_lt j outs && not (get_or (get_or s.state.own u idle).sent j true)) ≡ true
        = ap (λ q. nat_lt j outs && not q) (sym (bit i j v ei n gi (cases_lt u (length s.state.own)))) ∙ gj in
        let d = send_does outs j (get_or s.state.own u idle) [] (head_at net s.state u) z g h in
        let eb : effect net s.state (firing u b) ≡ Some (send_eff j (get_or s.state.own u idle) [] z)
        = fork_effect net u w outs is s.state b ∙ ap (λ q. effect_of (fork_row outs q (get_or s.state.own u idle) []) (head_at net s.state u)) bj ∙ d.0 in
        let ub : used net s.state (firing u b) ≡ 0 ∷ []
        = fork_uses net u w outs is s.state b ∙ ap (λ q. used_by (fork_row outs q (get_or s.state.own u idle) []) (head_at net s.state u)) bj ∙ d.1 in
        let Q : Option Effect → Type 0 = λ q. IsSomeAnd q (λ y. has_room net s.state u y.put) in
        let R : Option Effect → Type 0 = λ q. IsSomeAnd q (λ y. has_room net start.state u y.put) in
        let S : List ℕ → Type 0 = AllByRecursion (λ p. IsRipe net c s (into u p net.chans)) in
        let T : Option ℕ → Type 0 = λ q. IsSomeAnd q (λ date. date + (chan_at net (into u 0 net.chans)).delay ≤ c) in
        let W : Effect → Type 0 = λ y. has_room net (after_of net c s u e).state u y.put in
        record {
          turn = subst Q (sym eb) (there i v ei j z n (subst W xj room));
          ripe = subst S (sym ub) (subst T k.1 r, tt);
          room = subst R (sym eb) (let V : Effect → Type 0 = λ y. has_room net start.state u y.put in subst V xj (subst R ex m.room));
          depth = m.depth;
        }
      where
        -- the bit of j is as it was
        bit : (i j v : ℕ) → e ≡ send_eff i (get_or s.state.own u idle) [] v → j ≢ i → (nat_lt i outs && not (get_or (get_or s.state.own u idle).sent i true)) ≡ true
            → (u < length s.state.own) ⊎ (length s.state.own ≤ u)
            → get_or (get_or (after_of net c s u e).state.own u idle).sent j true ≡ get_or (get_or s.state.own u idle).sent j true
        bit i j v ei n gi (inl l) =
            let o : get_or (set s.state.own u e.own) u idle ≡ e.own = get_or-set_same s.state.own u e.own idle l in
            let q : e.own.sent ≡ set (get_or s.state.own u idle).sent i true
            = ap (λ (y : Effect). y.own.sent) ei ∙ bits_after i (get_or s.state.own u idle) [] v (ap (λ (y : Effect). y.takes) (sym ei) ∙ none) in
            ap (λ (y : Own). get_or y.sent j true) o ∙ ap (λ y. get_or y j true) q ∙ get_or-set_other (get_or s.state.own u idle).sent i j true true n
        bit i j v ei n gi (inr l) =
            let o : get_or s.state.own u idle ≡ idle = get_or_past s.state.own u idle l in
            let q : not (get_or (get_or s.state.own u idle).sent i true) ≡ true = (both_parts (nat_lt i outs) _ gi).1 in
            let y : false ≡ true = sym (ap (λ (x : Own). not (get_or x.sent i true)) o) ∙ q in
            absurd (let z : ⊥ = cc in z)

        there : (i v : ℕ) → e ≡ send_eff i (get_or s.state.own u idle) [] v → (j z : ℕ) → j ≢ i → has_room net (after_of net c s u e).state u (put_at j z) → has_room net s.state u (put_at j z)
        there i v ei j z n h =
            let d : ℕ = out_of u j net.chans in
            let l : d < length net.chans = slots_within net.chans d (length (tokens_at (after_of net c s u e).state d)) h in
            let g : tokens_at (after_of net c s u e).state d ≡ moved net u e d (tokens_at s.state d) = tokens_after net c s u d e ok l in
            let f : takes_from net u e d ≡ false = ap (λ ps. among d (map (λ p. into u p net.chans) ps)) none in
            let q : (d == out_of u i net.chans) ≡ false = ne_eqb _ _ (λ y. n (same_out u u j i net.chans l y).1) in
            let p : puts_on net u e.put d ≡ None = ap (λ (y : Effect). puts_on net u y.put d) ei ∙ ap (λ y. cond y (Some v) None) q in
            let y = ap length (g ∙ ap (λ o. added o (taken (takes_from net u e d) (tokens_at s.state d))) p ∙ ap (λ t. taken t (tokens_at s.state d)) f) in
            omega arith

nil_or : (xs : List ℕ) → (xs ≡ []) ⊎ (xs ≢ [])
nil_or [] = inl refl
nil_or (x ∷ xs) = inr (λ e. cc)

pub own_rouses : OwnRouses
own_rouses net c start s u a b e ok ea ne m =
    let q : after_in net c s (firing u a) ≡ after_of net c s u e = ap (after_by net c s u) ea in
    let P : Dated → Type 0 = λ t. May net c start t (firing u b) in
    by (kind_of net u) refl (late_or net u u e) (nil_or e.takes) (subst P q m)
  where
    goer : (k : Kind) → kind_of net u ≡ k → is_goer k ≡ true → May net c start (after_of net c s u e) (firing u b) → ⊥
    goer k is g m =
        let y = effect_there net (after_of net c s u e).state (firing u b) m.turn in
        let g' : is_goer (kind_of net u) ≡ true = ap is_goer is ∙ g in
        let p : a ≡ Go = goes_only (kind_of net u) a (get_or s.state.own u idle) (at_array s.state.arrays (uses (kind_of net u))) (setting net s.state) (head_at net s.state u) e g' ea in
        let q : b ≡ Go = goes_only (kind_of net u) b (get_or (after_of net c s u e).state.own u idle) (at_array (after_of net c s u e).state.arrays (uses (kind_of net u))) (setting net (after_of net c s u e).state) (head_at net (after_of net c s u e).state u) y.0 g' y.1 in
        ne (ap act_place (q ∙ sym p))

    by : (k : Kind) → kind_of net u ≡ k → IsLate net u u e ⊎ GoesTo net u e u → (e.takes ≡ []) ⊎ (e.takes ≢ []) → May net c start (after_of net c s u e) (firing u b)
        → May net c start s (firing u b) ⊎ (Stirs k e ⊎ GoesTo net u e u)
    by k is (inr g) t m = inr (inr g)
    by (Fork w outs) is (inl l) (inl t) m = inl (fork_own net c start s u w outs a b e is ok ea ne t l m)
    by (Fork w outs) is (inl l) (inr t) m = inr (inl t)
    by (Cmerge ins) is (inl l) t m = inl (merge_own net c start s u ins a b e is ok ea ne l m)
    by (Lsq n d ps gs fw) is (inl l) t m = inr (inl tt)
    by Entry is (inl l) t m = absurd (goer Entry is refl m)
    by (Param j) is (inl l) t m = absurd (goer (Param j) is refl m)
    by (Const w n) is (inl l) t m = absurd (goer (Const w n) is refl m)
    by (Op1 op) is (inl l) t m = absurd (goer (Op1 op) is refl m)
    by (Op2 op) is (inl l) t m = absurd (goer (Op2 op) is refl m)
    by (Select w) is (inl l) t m = absurd (goer (Select w) is refl m)
    by (Mux w n) is (inl l) t m = absurd (goer (Mux w n) is refl m)
    by (Branch w) is (inl l) t m = absurd (goer (Branch w) is refl m)
    by (Sink w) is (inl l) t m = absurd (goer (Sink w) is refl m)
    by (Read n) is (inl l) t m = absurd (goer (Read n) is refl m)
    by Exit is (inl l) t m = absurd (goer Exit is refl m)
