-- Two sends of one fork.
use Rattle.std.proofs.Common.{◌≡◌, ◌≢◌, ℕ, suc, zero, ◌<◌, ◌⊎◌, ◌&&◌, ◌==◌, not, Bool, true, false, cond, Option, Some, None, List, [], ◌∷◌, length, map, get_or, set, refl, sym, ap, ◌∙◌, inl, inr, arith, ne_eqb, nat_lt, get_or-set_other, get_or-set_same, set-set}
use Rattle.std.proofs.Math.Seq.{set_comm}
use Rattle.std.proofs.lemmas.Bool.{cases_eq, and_parts, not-true}
use Rattle.std.specs.List.{list_all}
use Rattle.net_types.specs.declared.net.Unit.TheVariants.{Fork}
use Rattle.net_types.specs.declared.firing.Act.TheVariants.{Send}
use Rattle.net_types.specs.declared.firing.Firing.{Firing}
use Rattle.net_types.specs.declared.net.Net.{Net}
use Rattle.net_types.specs.Nets.{into, out_of, kind_of, uses, owns}
use Rattle.net_core.specs.Fire.{setting, Row, Look, Take, Fires, Effect, effect_of, with_head, taking, among, Put, put_at, when, State, Own, idle, head_at, at_array, effect, enabled, after, has_room, takes_from, puts_on, moved, written, counted, applied, row, send_row, sent_to}
use Rattle.net_core.specs.Machine.{Commute}
use Rattle.net_core.proofs.RowLemmas.{Has, Each, changed-meet, swap_late}
use Rattle.net_core.proofs.ApartLemmas.{seen, roomy, same_out, puts-inv, full}
use Rattle.net_types.specs.Nets.{firing}
use Rattle.net_core.proofs.GoesLemmas.{Goes, goes, closes}

all_false : (xs : List Bool) (j : ℕ) → get_or xs j true ≡ false → list_all (λ b. b) xs ≡ false
all_false [] j e = cc
all_false (x ∷ xs) zero e = rw e refl
all_false (false ∷ xs) (suc j) e = refl
all_false (true ∷ xs) (suc j) e = all_false xs j e

-- what a send does
abbrev pub send_eff : ℕ → Own → List ℕ → ℕ → Effect
send_eff j o xs v = record {
  takes = cond (list_all (λ b. b) (set o.sent j true)) (0 ∷ []) [];
  put = put_at j v;
  own = record o { sent = sent_to j o.sent };
  array = xs;
  strays = 0;
}

abbrev core_row : Bool → ℕ → Own → List ℕ → Row
core_row b j o xs = cond b (Take 0 (λ v. Fires (put_at j v) o xs 0)) (Look 0 (λ v. Fires (put_at j v) o xs 0))

abbrev core_eff : Bool → ℕ → Own → List ℕ → ℕ → Effect
core_eff b j o xs v = record { takes = cond b (0 ∷ []) []; put = put_at j v; own = o; array = xs; strays = 0 }

core_inv : (b : Bool) (j : ℕ) (o : Own) (xs : List ℕ) (h : ℕ → Option ℕ) (e : Effect) → effect_of (core_row b j o xs) h ≡ Some e
    → (v : ℕ) × (h 0 ≡ Some v) × (core_eff b j o xs v ≡ e)
core_inv true j o xs h e q = by (h 0) refl q
  where
    by : (t : Option ℕ) → h 0 ≡ t → with_head t (λ v. taking 0 (Some (record { takes = []; put = put_at j v; own = o; array = xs; strays = 0 }))) ≡ Some e → (v : ℕ) × (h 0 ≡ Some v) × (core_eff true j o xs v ≡ e)
    by None is q = cc
    by (Some v) is q = (v, is, cc)
core_inv false j o xs h e q = by (h 0) refl q
  where
    by : (t : Option ℕ) → h 0 ≡ t → with_head t (λ v. Some (record { takes = []; put = put_at j v; own = o; array = xs; strays = 0 })) ≡ Some e → (v : ℕ) × (h 0 ≡ Some v) × (core_eff false j o xs v ≡ e)
    by None is q = cc
    by (Some v) is q = (v, is, cc)

core_goes : (b : Bool) (j : ℕ) (o : Own) (xs : List ℕ) (h : ℕ → Option ℕ) (v : ℕ) → h 0 ≡ Some v → effect_of (core_row b j o xs) h ≡ Some (core_eff b j o xs v)
core_goes true j o xs h v e = rw e refl
core_goes false j o xs h v e = rw e refl

pub when_inv : (c : Bool) (r : Row) (h : ℕ → Option ℕ) (e : Effect) → effect_of (when c r) h ≡ Some e → (c ≡ true) × (effect_of r h ≡ Some e)
when_inv true r h e q = (refl, q)
when_inv false r h e q = cc

pub send_inv : (outs j : ℕ) (o : Own) (xs : List ℕ) (h : ℕ → Option ℕ) (e : Effect) → effect_of (send_row outs j o xs) h ≡ Some e
    → ((nat_lt j outs && not (get_or o.sent j true)) ≡ true) × (v : ℕ) × (h 0 ≡ Some v) × (send_eff j o xs v ≡ e)
send_inv outs j o xs h e q =
    let w = when_inv (nat_lt j outs && not (get_or o.sent j true)) (core_row (list_all (λ b. b) (set o.sent j true)) j (record o { sent = sent_to j o.sent }) xs) h e q in
    let x = core_inv (list_all (λ b. b) (set o.sent j true)) j (record o { sent = sent_to j o.sent }) xs h e w.1 in
    (w.0, x.0, x.1, x.2)

send_goes : (outs j : ℕ) (o : Own) (xs : List ℕ) (h : ℕ → Option ℕ) (v : ℕ) → (nat_lt j outs && not (get_or o.sent j true)) ≡ true → h 0 ≡ Some v
    → effect_of (send_row outs j o xs) h ≡ Some (send_eff j o xs v)
send_goes outs j o xs h v c e = rw c (core_goes (list_all (λ b. b) (set o.sent j true)) j (record o { sent = sent_to j o.sent }) xs h v e)

sends_comm : (i j : ℕ) (xs : List Bool) → i ≢ j → sent_to j (set xs i true) ≡ sent_to i (set xs j true)
sends_comm i j xs n = ap (λ z. cond (list_all (λ b. b) z) (map (λ b. false) z) z) (set_comm xs i j true true n)

module _ (net : Net) (s : State) (u wd outs : ℕ) where
  abbrev pub fork_own : Own
  fork_own = get_or s.own u idle

  abbrev after_send : ℕ → Own
  after_send i = record fork_own { sent = set fork_own.sent i true }

  -- the first of two sends, and the second
  abbrev one : ℕ → List ℕ → ℕ → Effect
  one i xs v = record { takes = []; put = put_at i v; own = after_send i; array = xs; strays = 0 }

  abbrev two : ℕ → ℕ → List ℕ → ℕ → Effect
  two i j xs v = send_eff j (after_send i) xs v

  pub fork_is : kind_of net u ≡ Fork wd outs → (t : State) (j : ℕ) → effect net t (firing u (Send j)) ≡ effect_of (send_row outs j (get_or t.own u idle) []) (head_at net t u)
  unfolding row
  fork_is is t j = ap (λ k. effect_of (row k (Send j) (get_or t.own u idle) (at_array t.arrays (uses k)) (setting net t)) (head_at net t u)) is

  one_is : (i j : ℕ) (v : ℕ) → i ≢ j → get_or fork_own.sent j true ≡ false → send_eff i fork_own [] v ≡ one i [] v
  one_is i j v n e =
      let a : list_all (λ b. b) (set fork_own.sent i true) ≡ false = all_false (set fork_own.sent i true) j (get_or-set_other fork_own.sent i j true true (λ k. n (sym k)) ∙ e) in
      rw a refl

  second : kind_of net u ≡ Fork wd outs → length s.tokens ≡ length net.chans → u < length s.own → (i j v : ℕ) → i ≢ j
      → (nat_lt j outs && not (get_or fork_own.sent j true)) ≡ true → head_at net s u 0 ≡ Some v → has_room net s u (put_at j v)
      → Goes net (applied net u (one i [] v) s) (firing u (Send j)) (two i j [] v)
  second is long lu i j v n c h room =
      let t = applied net u (one i [] v) s in
      let own : get_or t.own u idle ≡ after_send i = get_or-set_same s.own u (after_send i) idle lu in
      let bit : get_or (set fork_own.sent i true) j true ≡ get_or fork_own.sent j true = get_or-set_other fork_own.sent i j true true (λ k. n (sym k)) in
      let head : head_at net t u 0 ≡ Some v = seen net s u u 0 v (one i [] v) long (λ l. refl) h in
      record {
        is = fork_is is t j ∙ (ap (λ o. effect_of (send_row outs j o []) (head_at net t u)) own
            ∙ send_goes outs j (after_send i) [] (head_at net t u) v (rw bit c) head);
        room = roomy net s u u (one i [] v) (put_at j v) long
            (λ w e l. let p : j ≡ w.place = cc in
            let k : (out_of u w.place net.chans == out_of u i net.chans) ≡ false = ne_eqb _ _ (λ m. n (let z = (same_out u u w.place i net.chans l m).1 in omega arith)) in
            rw k refl) room;
      }

  fork_states : kind_of net u ≡ Fork wd outs → length s.tokens ≡ length net.chans → (i j v : ℕ) → i ≢ j → head_at net s u 0 ≡ Some v
      → applied net u (two i j [] v) (applied net u (one i [] v) s) ≡ applied net u (two j i [] v) (applied net u (one j [] v) s)
  fork_states is long i j v n h =
      let k = kind_of net u in
      let bits : set (set fork_own.sent i true) j true ≡ set (set fork_own.sent j true) i true = set_comm fork_own.sent i j true true n in
      let same_takes : (two i j [] v).takes ≡ (two j i [] v).takes = ap (λ z. cond (list_all (λ b. b) z) (0 ∷ []) []) bits in
      let t = changed-meet (moved net u (two i j [] v)) (moved net u (one i [] v)) (moved net u (one j [] v)) (moved net u (two j i [] v)) 0 s.tokens
      (λ c m at l. let e : m ≡ c = omega arith in
      let g : takes_from net u (two i j [] v) c ≡ takes_from net u (two j i [] v) c = ap (λ ps. among c (map (λ p. into u p net.chans) ps)) same_takes in
      let x = swap_late (takes_from net u (two j i [] v) c) (puts_on net u (put_at i v) c) (puts_on net u (put_at j v) c) (get_or s.tokens m [])
      (λ f. full net s u c m (two j i [] v).takes e (fits (list_all (λ b. b) (set (set fork_own.sent j true) i true))) f)
      (λ a b. let p = puts-inv net u c (put_at i v) a in let q = puts-inv net u c (put_at j v) b in
      let pi : i ≡ p.0.place = place_eq i v p.0 p.1 in let pj : j ≡ q.0.place = place_eq j v q.0 q.1 in
      let z = (same_out u u p.0.place q.0.place net.chans (omega (arith, p.2)) (sym p.2 ∙ q.2)).1 in n (omega arith)) in
      rw g x) in
      let o : set (set s.own u (one i [] v).own) u (two i j [] v).own ≡ set (set s.own u (one j [] v).own) u (two j i [] v).own =
      set-set s.own u (one i [] v).own (two i j [] v).own
      ∙ (ap (λ z. set s.own u (record fork_own { sent = z })) (sends_comm i j fork_own.sent n) ∙ sym (set-set s.own u (one j [] v).own (two j i [] v).own)) in
      λ m. record {
        scalars = s.scalars;
        tokens = t m;
        own = o m;
        arrays = written (owns k) [] (written (owns k) [] s.arrays);
        strays = counted (uses k) 0 (counted (uses k) 0 s.strays);
      }
    where
      place_eq : (i v : ℕ) (p : Put) → put_at i v ≡ Some p → i ≡ p.place
      place_eq i v p e = cc

      fits : (b : Bool) → Each (Has (head_at net s u)) (cond b (0 ∷ []) [])
      fits true = ((v, h), tt)
      fits false = tt

  -- two sends of a fork
  pub fork_pair : kind_of net u ≡ Fork wd outs → length s.tokens ≡ length net.chans → u < length s.own → (i j : ℕ)
      → enabled net s (firing u (Send i)) → enabled net s (firing u (Send j))
      → (firing u (Send i) ≡ firing u (Send j)) ⊎ Commute State Firing (enabled net) (after net) s (firing u (Send i)) (firing u (Send j))
  fork_pair is long lu i j h1 h2 = elim (cases_eq i j) [
    | inl e ↦ inl (ap (λ k. firing u (Send k)) e)
    | inr n ↦ inr (
        let w1 = goes net s (firing u (Send i)) h1 in
        let w2 = goes net s (firing u (Send j)) h2 in
        let x1 = send_inv outs i fork_own [] (head_at net s u) w1.0 (sym (fork_is is s i) ∙ w1.1.is) in
        let x2 = send_inv outs j fork_own [] (head_at net s u) w2.0 (sym (fork_is is s j) ∙ w2.1.is) in
        at n x1.1 x2.1 x1.0 x2.0 x1.2 x2.2 (rw x1.3 w1.1) (rw x2.3 w2.1))
  ]
    where
      at : i ≢ j → (v w : ℕ) → (nat_lt i outs && not (get_or fork_own.sent i true)) ≡ true → (nat_lt j outs && not (get_or fork_own.sent j true)) ≡ true
          → head_at net s u 0 ≡ Some v → head_at net s u 0 ≡ Some w
          → Goes net s (firing u (Send i)) (send_eff i fork_own [] v) → Goes net s (firing u (Send j)) (send_eff j fork_own [] w)
          → Commute State Firing (enabled net) (after net) s (firing u (Send i)) (firing u (Send j))
      at n v w c1 c2 t1 t2 g1 g2 =
          let vw : w ≡ v = cc in
          let b1 : get_or fork_own.sent i true ≡ false = not-true _ (and_parts (nat_lt i outs) _ c1).1 in
          let b2 : get_or fork_own.sent j true ≡ false = not-true _ (and_parts (nat_lt j outs) _ c2).1 in
          let n' : j ≢ i = λ e. n (sym e) in
          let k1 : Goes net s (firing u (Send i)) (one i [] v) = rw (← one_is i j v n b2) g1 in
          let k2 : Goes net s (firing u (Send j)) (one j [] v) = rw (← one_is j i v n' b1, ← vw) g2 in
          closes net s (firing u (Send i)) (firing u (Send j)) (one i [] v) (one j [] v) (two j i [] v) (two i j [] v) k1 k2
          (second is long lu j i v n' c1 t1 k1.room)
          (second is long lu i j v n c2 t1 k2.room)
          (fork_states is long i j v n t1)
