-- What a worker's own firings say of the channels to other workers, and that its firings do the same in a state that is alike.
use Rattle.std.proofs.Common.{◌≡◌, ◌≢◌, ◌⊎◌, inl, inr, ℕ, zero, suc, ◌+◌, ◌<◌, ◌≤◌, ◌==◌, Bool, true, false, cond, nat_lt, List, [], ◌∷◌, ◌++◌, length, get_or, set, map, Option, Some, None, is_some, IsSomeAnd, refl, ap, ◌∙◌, sym, subst, arith, get_or-set_other}
use Rattle.std.specs.List.{AllByRecursion}
use Rattle.std.proofs.lemmas.Grind.{common_steps}
use Rattle.std.proofs.lemmas.List.{length-append, length-set}
use Rattle.std.proofs.lemmas.Bool.{cases_eq, cases_lt}
use mathlib.Core.List.{IsPrefix}
use Rattle.net_types.specs.declared.net.Net.{Net}
use Rattle.net_types.specs.declared.firing.Firing.{Firing}
use Rattle.net_types.specs.Nets.{kind_of, uses, owns}
use Rattle.net_core.specs.Fire.{State, Effect, effect_of, row, setting, at_array, idle, effect, tokens_at, head_at, takes_from, puts_on, moved, taken, added, applied, written}
use Rattle.net_core.specs.Uses.{AllSame, used}
use Rattle.net_core.proofs.Premises.{Alone}
use Rattle.net_core.proofs.RowLemmas.{length-changed}
use Rattle.net_core.proofs.ApartLemmas.{read_past}
use Rattle.net_core.proofs.UsesLemmas.{rows_use_only}
use Rattle.net_worker.specs.Stamped.{Stamped, stamps_at, stamped, after_by, after_at}
use Rattle.net_worker.specs.Plays.{putter, taker, HasRoomIn, MayIn, Plays, takes_by, take_stamps}
use Rattle.net_worker.specs.Merge.{AllFrom, count_below, IsPaired, Measures, Alike}
use Rattle.firing_log.specs.declared.entry.Entry.{Entry}
use Rattle.net_worker.proofs.Lists.{first_inv, prefix_refl, prefix_place}
use Rattle.net_worker.proofs.Moves.{set_alike, changed_past, tokens_after, not_taken_there, not_put_there, stamps_after, same_lengths}

-- ---- an effect that is known

pub effect_in : (net : Net) (owner : ℕ → ℕ) (j n : ℕ) (s : Stamped) (f : Firing) → MayIn net owner j n s f
    → (e : Effect) × (effect net s.state f ≡ Some e) × HasRoomIn net owner j s.state f.unit e.put
effect_in net owner j n s f m = by (effect net s.state f) refl m.turn
  where
    by : (o : Option Effect) → effect net s.state f ≡ o → IsSomeAnd o (λ e. HasRoomIn net owner j s.state f.unit e.put) → (e : Effect) × (effect net s.state f ≡ Some e) × HasRoomIn net owner j s.state f.unit e.put
    by None is h = absurd h
    by (Some e) is h = (e, is, h)

pub after_is : (net : Net) (n : ℕ) (s : Stamped) (f : Firing) (e : Effect) → effect net s.state f ≡ Some e → after_at net n s f ≡ after_by net n s f.unit (Some e)
after_is net n s f e is = ap (after_by net n s f.unit) is

-- ---- measures are kept

written_length : (o : Option ℕ) (xs : List ℕ) (arrays : List (List ℕ)) → length (written o xs arrays) ≡ length arrays
written_length None xs arrays = refl
written_length (Some a) xs arrays = length-set arrays a xs

pub measures_after : (net : Net) (n u : ℕ) (e : Effect) (s : State) → Measures net n s → Measures net n (applied net u e s)
measures_after net n u e s m = record {
  tokens = length-changed (moved net u e) 0 s.tokens ∙ m.tokens;
  own = length-set s.own u e.own ∙ m.own;
  arrays = written_length (owns (kind_of net u)) e.array s.arrays ∙ m.arrays;
}

pub stamps_long : (net : Net) (n u : ℕ) (e : Effect) (s : Stamped) → length (after_by net n s u (Some e)).stamps ≡ length s.stamps
stamps_long net n u e s = length-changed (moved net u (record e { put = stamped n e.put })) 0 s.stamps

pub paired_after : (net : Net) (n u : ℕ) (e : Effect) (s : Stamped) → length s.state.tokens ≡ length net.chans → length s.stamps ≡ length net.chans → IsPaired s → IsPaired (after_by net n s u (Some e))
paired_after net n u e s long longs p c = by (cases_lt c (length net.chans))
  where
    by : (c < length net.chans) ⊎ (length net.chans ≤ c) → length (stamps_at (after_by net n s u (Some e)) c) ≡ length (tokens_at (applied net u e s.state) c)
    by (inl l) =
        ap length (stamps_after net n u e s c (omega arith))
        ∙ (same_lengths (puts_on net u e.put c) n (takes_from net u e c) (tokens_at s.state c) (stamps_at s c) (p c)
        ∙ sym (ap length (tokens_after net u e s.state c (omega arith))))
    by (inr l) =
        ap length (changed_past (moved net u (record e { put = stamped n e.put })) s.stamps c (omega arith))
        ∙ (p c ∙ sym (ap length (changed_past (moved net u e) s.state.tokens c (omega arith))))

-- ---- entries that are left have late stamps

pub late_takes : (net : Net) (c n : ℕ) (s : Stamped) (es : List Entry) → AllFrom n es → count_below n (take_stamps net c s es) ≡ 0
late_takes net c n s [] h = refl
late_takes net c n s (e ∷ es) h = by (takes_by net e.firing.unit (effect net s.state e.firing) c) (late_takes net c n (after_at net e.stamp s e.firing) es h.1)
  where
    nothing : ℕ
    nothing = 0

    not_below : (m : ℕ) → n ≤ m → cond (nat_lt m n) 1 0 ≡ nothing
    not_below m h = grind (arith, common_steps)

    by : (b : Bool) → count_below n (take_stamps net c (after_at net e.stamp s e.firing) es) ≡ 0
        → count_below n (cond b (e.stamp ∷ take_stamps net c (after_at net e.stamp s e.firing) es) (take_stamps net c (after_at net e.stamp s e.firing) es)) ≡ 0
    by true k = let z : cond (nat_lt e.stamp n) 1 0 ≡ nothing = not_below e.stamp h.0 in omega arith
    by false k = k

-- ---- channels to other workers

module _ (net : Net) (owner : ℕ → ℕ) (j c : ℕ) (within : c < length net.chans) (mine : putter net owner c ≡ j) (other : taker net owner c ≢ j) where
  -- the worker takes nothing from it
  none_taken : (n : ℕ) (s : Stamped) (f : Firing) (e : Effect) → MayIn net owner j n s f → effect net s.state f ≡ Some e → takes_from net f.unit e c ≡ false
  none_taken n s f e m is = not_taken_there net s.state f e c within is (λ q. other (ap owner q ∙ m.mine))

  -- so its tokens and stamps grow at the end
  pub put_tokens : (n : ℕ) (s : Stamped) (f : Firing) (e : Effect) → MayIn net owner j n s f → effect net s.state f ≡ Some e → length s.state.tokens ≡ length net.chans
      → tokens_at (after_at net n s f).state c ≡ added (puts_on net f.unit e.put c) (tokens_at s.state c)
  put_tokens n s f e m is long =
      ap (λ (t : Stamped). tokens_at t.state c) (after_is net n s f e is)
      ∙ (tokens_after net f.unit e s.state c (omega arith)
      ∙ ap (λ g. added (puts_on net f.unit e.put c) (taken g (tokens_at s.state c))) (none_taken n s f e m is))

  pub put_stamps : (n : ℕ) (s : Stamped) (f : Firing) (e : Effect) → MayIn net owner j n s f → effect net s.state f ≡ Some e → length s.stamps ≡ length net.chans
      → stamps_at (after_at net n s f) c ≡ added (cond (is_some (puts_on net f.unit e.put c)) (Some n) None) (stamps_at s c)
  put_stamps n s f e m is long =
      ap (λ (t : Stamped). stamps_at t c) (after_is net n s f e is)
      ∙ (stamps_after net n f.unit e s c (omega arith)
      ∙ ap (λ g. added (cond (is_some (puts_on net f.unit e.put c)) (Some n) None) (taken g (stamps_at s c))) (none_taken n s f e m is))

  grown : (p : Option ℕ) (xs ys : List ℕ) → IsPrefix (added p xs) ys → IsPrefix xs ys
  grown None xs ys h = h
  grown (Some v) xs ys (rest, is) = (v ∷ rest, sym (Rattle.std.proofs.Common.append_assoc xs (v ∷ []) rest) ∙ is)

  long_after : (n : ℕ) (s : Stamped) (f : Firing) (e : Effect) → effect net s.state f ≡ Some e → length s.state.tokens ≡ length net.chans → length (after_at net n s f).state.tokens ≡ length net.chans
  long_after n s f e is long = ap (λ (t : Stamped). length t.state.tokens) (after_is net n s f e is) ∙ (length-changed (moved net f.unit e) 0 s.state.tokens ∙ long)

  longs_after : (n : ℕ) (s : Stamped) (f : Firing) (e : Effect) → effect net s.state f ≡ Some e → length s.stamps ≡ length net.chans → length (after_at net n s f).stamps ≡ length net.chans
  longs_after n s f e is long = ap (λ (t : Stamped). length t.stamps) (after_is net n s f e is) ∙ (stamps_long net n f.unit e s ∙ long)

  pub tokens_known : (clock : ℕ) (s : Stamped) (es : List Entry) (t : Stamped) → Plays net owner j clock s es t → length s.state.tokens ≡ length net.chans
      → IsPrefix (tokens_at s.state c) (tokens_at t.state c)
  tokens_known clock s [] t h long = subst (λ (x : Stamped). IsPrefix (tokens_at s.state c) (tokens_at x.state c)) h (prefix_refl (tokens_at s.state c))
  tokens_known clock s (e ∷ es) t h long =
      let k = effect_in net owner j e.stamp s e.firing h.1 in
      let rest = tokens_known e.stamp (after_at net e.stamp s e.firing) es t h.2 (long_after e.stamp s e.firing k.0 k.1 long) in
      grown (puts_on net e.firing.unit k.0.put c) (tokens_at s.state c) (tokens_at t.state c)
      (subst (λ l. IsPrefix l (tokens_at t.state c)) (put_tokens e.stamp s e.firing k.0 h.1 k.1 long) rest)

  pub stamps_known : (clock : ℕ) (s : Stamped) (es : List Entry) (t : Stamped) → Plays net owner j clock s es t → length s.state.tokens ≡ length net.chans → length s.stamps ≡ length net.chans
      → IsPrefix (stamps_at s c) (stamps_at t c)
  stamps_known clock s [] t h long longs = subst (λ (x : Stamped). IsPrefix (stamps_at s c) (stamps_at x c)) h (prefix_refl (stamps_at s c))
  stamps_known clock s (e ∷ es) t h long longs =
      let k = effect_in net owner j e.stamp s e.firing h.1 in
      let rest = stamps_known e.stamp (after_at net e.stamp s e.firing) es t h.2 (long_after e.stamp s e.firing k.0 k.1 long) (longs_after e.stamp s e.firing k.0 k.1 longs) in
      grown (cond (is_some (puts_on net e.firing.unit k.0.put c)) (Some e.stamp) None) (stamps_at s c) (stamps_at t c)
      (subst (λ l. IsPrefix l (stamps_at t c)) (put_stamps e.stamp s e.firing k.0 h.1 k.1 longs) rest)

  -- what is still to be put has a late stamp
  pub late_puts : (clock n : ℕ) (s : Stamped) (es : List Entry) (t : Stamped) → Plays net owner j clock s es t → AllFrom n es → length s.state.tokens ≡ length net.chans → length s.stamps ≡ length net.chans
      → (k : ℕ) → length (stamps_at s c) ≤ k → k < length (stamps_at t c) → n ≤ get_or (stamps_at t c) k 0
  late_puts clock n s [] t h late long longs k a b =
      let e : length (stamps_at s c) ≡ length (stamps_at t c) = ap (λ (x : Stamped). length (stamps_at x c)) h in absurd (omega arith)
  late_puts clock n s (e ∷ es) t h late long longs k a b =
      let w = effect_in net owner j e.stamp s e.firing h.1 in
      let longs' = longs_after e.stamp s e.firing w.0 w.1 longs in
      let long' = long_after e.stamp s e.firing w.0 w.1 long in
      let known = stamps_known e.stamp (after_at net e.stamp s e.firing) es t h.2 long' longs' in
      let more = late_puts e.stamp n (after_at net e.stamp s e.firing) es t h.2 late.1 long' longs' k in
      by (puts_on net e.firing.unit w.0.put c) (put_stamps e.stamp s e.firing w.0 h.1 w.1 longs) known more
    where
      by : (p : Option ℕ) → stamps_at (after_at net e.stamp s e.firing) c ≡ added (cond (is_some p) (Some e.stamp) None) (stamps_at s c)
          → IsPrefix (stamps_at (after_at net e.stamp s e.firing) c) (stamps_at t c)
          → (length (stamps_at (after_at net e.stamp s e.firing) c) ≤ k → k < length (stamps_at t c) → n ≤ get_or (stamps_at t c) k 0)
          → n ≤ get_or (stamps_at t c) k 0
      by None is known more = more (let q : length (stamps_at (after_at net e.stamp s e.firing) c) ≡ length (stamps_at s c) = ap length is in omega arith) b
      by (Some v) is known more =
          let q : length (stamps_at (after_at net e.stamp s e.firing) c) ≡ length (stamps_at s c) + 1 = ap length is ∙ length-append (stamps_at s c) (e.stamp ∷ []) in
          let here : get_or (stamps_at t c) (length (stamps_at s c)) 0 ≡ e.stamp = prefix_place (stamps_at s c) e.stamp [] (stamps_at t c) (subst (λ l. IsPrefix l (stamps_at t c)) is known) in
          at (cases_eq k (length (stamps_at s c))) q here
        where
          at : (k ≡ length (stamps_at s c)) ⊎ (k ≡ length (stamps_at s c) → ⊥) → length (stamps_at (after_at net e.stamp s e.firing) c) ≡ length (stamps_at s c) + 1 → get_or (stamps_at t c) (length (stamps_at s c)) 0 ≡ e.stamp → n ≤ get_or (stamps_at t c) k 0
          at (inl z) q here = let w : get_or (stamps_at t c) k 0 ≡ e.stamp = ap (λ i. get_or (stamps_at t c) i 0) z ∙ here in omega (arith, late.0)
          at (inr z) q here = more (omega arith) b

  -- the stamp of what is put now stands in its place among all
  pub put_place : (clock : ℕ) (s : Stamped) (e : Entry) (es : List Entry) (t : Stamped) (x : Effect) (v : ℕ) → Plays net owner j clock s (e ∷ es) t
      → effect net s.state e.firing ≡ Some x → puts_on net e.firing.unit x.put c ≡ Some v → length s.state.tokens ≡ length net.chans → length s.stamps ≡ length net.chans
      → (length (stamps_at s c) < length (stamps_at t c)) × (get_or (stamps_at t c) (length (stamps_at s c)) 0 ≡ e.stamp)
  put_place clock s e es t x v h is put long longs =
      let known = stamps_known e.stamp (after_at net e.stamp s e.firing) es t h.2 (long_after e.stamp s e.firing x is long) (longs_after e.stamp s e.firing x is longs) in
      let shape : stamps_at (after_at net e.stamp s e.firing) c ≡ stamps_at s c ++ e.stamp ∷ [] =
      put_stamps e.stamp s e.firing x h.1 is longs ∙ ap (λ p. added (cond (is_some p) (Some e.stamp) None) (stamps_at s c)) put in
      let whole : IsPrefix (stamps_at s c ++ e.stamp ∷ []) (stamps_at t c) = subst (λ l. IsPrefix l (stamps_at t c)) shape known in
      (omega (arith, Rattle.net_worker.proofs.Lists.prefix_length (stamps_at s c ++ e.stamp ∷ []) (stamps_at t c) whole, length-append (stamps_at s c) (e.stamp ∷ [])), prefix_place (stamps_at s c) e.stamp [] (stamps_at t c) whole)

-- ---- states that are alike

-- the worker that fires
pub alike_mine : (net : Net) (owner : ℕ → ℕ) (n v u : ℕ) (e : Effect) (s t : State) → Measures net n s → Measures net n t → Alike net owner v s t → Alike net owner v (applied net u e s) (applied net u e t)
alike_mine net owner n v u e s t ms mt a = record {
  scalars = a.scalars;
  own = λ w is. set_alike s.own t.own u w e.own idle (mt.own ∙ sym ms.own) (a.own w is);
  arrays = λ w is. write (owns (kind_of net u)) (uses (kind_of net w)) (a.arrays w is);
  inner = λ c p q. channel c (cases_lt c (length net.chans)) (a.inner c p q);
}
  where
    write : (o p : Option ℕ) → at_array t.arrays p ≡ at_array s.arrays p → at_array (written o e.array t.arrays) p ≡ at_array (written o e.array s.arrays) p
    write None p h = h
    write (Some a) None h = refl
    write (Some a) (Some b) h = set_alike s.arrays t.arrays a b e.array [] (mt.arrays ∙ sym ms.arrays) h

    channel : (c : ℕ) → (c < length net.chans) ⊎ (length net.chans ≤ c) → tokens_at t c ≡ tokens_at s c → tokens_at (applied net u e t) c ≡ tokens_at (applied net u e s) c
    channel c (inl l) h =
        let lt : c < length t.tokens = omega (arith, mt.tokens) in
        let ls : c < length s.tokens = omega (arith, ms.tokens) in
        tokens_after net u e t c lt ∙ (ap (λ x. added (puts_on net u e.put c) (taken (takes_from net u e c) x)) h ∙ sym (tokens_after net u e s c ls))
    channel c (inr l) h =
        let lt : length t.tokens ≤ c = omega (arith, mt.tokens) in
        let ls : length s.tokens ≤ c = omega (arith, ms.tokens) in
        changed_past (moved net u e) t.tokens c lt ∙ (h ∙ sym (changed_past (moved net u e) s.tokens c ls))

-- the others
pub alike_other : (net : Net) (owner : ℕ → ℕ) (n v : ℕ) (f : Firing) (e : Effect) (s t : State) → Alone net → owner f.unit ≢ v → effect net s f ≡ Some e → Measures net n s
    → Alike net owner v s t → Alike net owner v (applied net f.unit e s) t
alike_other net owner n v f e s t alone ne is ms a = record {
  scalars = a.scalars;
  own = λ w q. a.own w q ∙ sym (get_or-set_other s.own f.unit w e.own idle (apart w q));
  arrays = λ w q. a.arrays w q ∙ sym (read_past (owns (kind_of net f.unit)) (uses (kind_of net w)) e.array s.arrays (λ i x y. alone f.unit w i (λ z. apart w q (sym z)) x y));
  inner = λ c p q. a.inner c p q ∙ sym (channel c p q (cases_lt c (length net.chans)));
}
  where
    apart : (w : ℕ) → owner w ≡ v → w ≢ f.unit
    apart w q z = ne (ap owner (sym z) ∙ q)

    channel : (c : ℕ) → putter net owner c ≡ v → taker net owner c ≡ v → (c < length net.chans) ⊎ (length net.chans ≤ c) → tokens_at (applied net f.unit e s) c ≡ tokens_at s c
    channel c p q (inl l) =
        let ls : c < length s.tokens = omega (arith, ms.tokens) in
        let g : takes_from net f.unit e c ≡ false = not_taken_there net s f e c l is (λ z. ne (ap owner (sym z) ∙ q)) in
        let o : puts_on net f.unit e.put c ≡ None = not_put_there net f.unit c e.put l (λ z. ne (ap owner (sym z) ∙ p)) in
        tokens_after net f.unit e s c ls ∙ (rw (g, o) refl)
    channel c p q (inr l) = let ls : length s.tokens ≤ c = omega (arith, ms.tokens) in changed_past (moved net f.unit e) s.tokens c ls

-- ---- the same effect

all_same : (h g : ℕ → Option ℕ) (P : ℕ → Type 0) (ps : List ℕ) → AllByRecursion P ps → ((p : ℕ) → P p → g p ≡ h p) → AllSame h g ps
all_same h g P [] a f = tt
all_same h g P (p ∷ ps) a f = (f p a.0, all_same h g P ps a.1 f)

-- a firing does the same in a state that is alike, where the heads that it uses are the same
pub same_effect : (net : Net) (owner : ℕ → ℕ) (v : ℕ) (f : Firing) (e : Effect) (s t : State) (P : ℕ → Type 0) → owner f.unit ≡ v → Alike net owner v s t → effect net t f ≡ Some e
    → AllByRecursion P (used net t f) → ((p : ℕ) → P p → head_at net s f.unit p ≡ head_at net t f.unit p) → effect net s f ≡ Some e
same_effect net owner v f e s t P mine a is all same =
    let k = kind_of net f.unit in
    let o : get_or t.own f.unit idle ≡ get_or s.own f.unit idle = a.own f.unit mine in
    let x : at_array t.arrays (uses k) ≡ at_array s.arrays (uses k) = a.arrays f.unit mine in
    let g : setting net t ≡ setting net s = ap (λ l. record { scalars = l; valued = is_some net.result }) a.scalars in
    let r : row k f.act (get_or s.own f.unit idle) (at_array s.arrays (uses k)) (setting net s) ≡ row k f.act (get_or t.own f.unit idle) (at_array t.arrays (uses k)) (setting net t) = cc in
    ap (λ w. effect_of w (head_at net s f.unit)) r
    ∙ (rows_use_only (row k f.act (get_or t.own f.unit idle) (at_array t.arrays (uses k)) (setting net t)) (head_at net t f.unit) (head_at net s f.unit)
    (all_same (head_at net t f.unit) (head_at net s f.unit) P (used net t f) all same) ∙ is)
