-- Workers that hand over what they hold, unit by unit and channel by channel.
use Rattle.std.proofs.Common.{◌≡◌, ◌≢◌, ◌⊎◌, inl, inr, ℕ, ◌+◌, ◌<◌, ◌≤◌, Option, Some, None, IsSome, List, [], length, get_or, set, refl, ap, ◌∙◌, sym, subst, arith}
use Rattle.std.proofs.lemmas.Bool.{cases_eq}
use Rattle.std.proofs.lemmas.Grind.{get_or-set_at}
use Rattle.std.proofs.lemmas.List.{get_or-set_other, get_or_default, length-set}
use Rattle.net_types.specs.declared.net.Net.{Net}
use Rattle.net_types.specs.Nets.{kind_of, owns}
use Rattle.net_core.specs.Fire.{State, Own, idle, at_array, written, tokens_at}
use Rattle.net_core.specs.Exchanges.{chan_from, with_unit}
use Rattle.net_core.specs.States.{with_tokens}
use Rattle.net_worker.specs.Handed.{SameLogged, HoldsOf, HoldsToo, IsLeft, SameButState, SameButEndsAt}
use Rattle.net_worker.specs.Plays.{putter, taker}
use Rattle.net_worker.specs.Views.{net_of, owner_in, is_closed, held_state, put_end, take_end}
use Rattle.net_worker.specs.Workers.{AreLinkedAt}
use Rattle.net_worker.specs.declared.tables.Tables.{Tables}
use Rattle.net_worker.specs.declared.worker.Worker.{Worker}
use Rattle.worker_run.specs.Crews.{AreLinked}
use Rattle.worker_run.specs.private.Handings.{AllHold, AllHoldOwn, IsSameButUnits, AreUnitsHanded, CanDrain, IsDrained, IsSameButAt, IsChanHanded, IsSameFrom, AreChansHanded}

pub same_logged : (a : Worker) → SameLogged a a
same_logged a = record { number = refl; share = refl; log = refl; room = refl; clock = refl }

pub same_logged_then : (a b c : Worker) → SameLogged a b → SameLogged b c → SameLogged a c
same_logged_then a b c p q = record { number = q.number ∙ p.number; share = q.share ∙ p.share; log = q.log ∙ p.log; room = q.room ∙ p.room; clock = q.clock ∙ p.clock }

-- what holds of the worker that was written, and of the others, holds at each place
pub at_new : (P : Worker → Type 0) (xs : List Worker) (at : ℕ) (y : Worker) (v : ℕ) (d : Worker) → at < length xs → (v ≡ at → P y) → (v ≢ at → P (get_or xs v d)) → P (get_or (set xs at y) v d)
at_new P xs at y v d within here there = by (cases_eq v at)
  where
    by : (v ≡ at) ⊎ (v ≡ at → ⊥) → P (get_or (set xs at y) v d)
    by (inl e) = subst P (sym (get_or-set_at xs at v y d e within)) (here e)
    by (inr n) = subst P (sym (get_or-set_other xs at v y d n)) (there n)

-- ---- states that take over what one unit keeps

own_else : (net : Net) (n : ℕ) (f s : State) (u : ℕ) → u ≢ n → get_or (with_unit net n f s).own u idle ≡ get_or s.own u idle
own_else net n f s u ne = get_or-set_other s.own n u (get_or f.own n idle) idle ne

own_here : (net : Net) (n : ℕ) (f s : State) → n < length s.own → get_or (with_unit net n f s).own n idle ≡ get_or f.own n idle
own_here net n f s l = get_or-set_at s.own n n (get_or f.own n idle) idle refl l

some_other : (o : Option ℕ) (a b : ℕ) → o ≡ Some b → (o ≡ Some a → ⊥) → a ≢ b
some_other o a b is free e = free (is ∙ ap (λ x. Some x) (sym e))

written_else : (o w : Option ℕ) (f s : List (List ℕ)) (a : ℕ) → o ≡ w → (o ≡ Some a → ⊥) → get_or (written w (at_array f w) s) a [] ≡ get_or s a []
written_else o None f s a is free = refl
written_else o (Some b) f s a is free = get_or-set_other s b a (get_or f b []) [] (some_other o a b is free)

written_here : (o : Option ℕ) (f s : List (List ℕ)) (a : ℕ) → o ≡ Some a → a < length s → get_or (written o (at_array f o) s) a [] ≡ get_or f a []
written_here o f s a is l = subst (λ w. get_or (written w (at_array f w) s) a [] ≡ get_or f a []) (sym is) (get_or-set_at s a a (get_or f a []) [] refl l)

written_long : (o : Option ℕ) (xs : List ℕ) (s : List (List ℕ)) → length (written o xs s) ≡ length s
written_long None xs s = refl
written_long (Some a) xs s = length-set s a xs

array_else : (net : Net) (n : ℕ) (f s : State) (a : ℕ) → (owns (kind_of net n) ≡ Some a → ⊥) → get_or (with_unit net n f s).arrays a [] ≡ get_or s.arrays a []
array_else net n f s a free = written_else (owns (kind_of net n)) (owns (kind_of net n)) f.arrays s.arrays a refl free

array_here : (net : Net) (n : ℕ) (f s : State) (a : ℕ) → owns (kind_of net n) ≡ Some a → a < length s.arrays → get_or (with_unit net n f s).arrays a [] ≡ get_or f.arrays a []
array_here net n f s a is l = written_here (owns (kind_of net n)) f.arrays s.arrays a is l

-- ---- units, one after another

module _ (net : Net) (owner : ℕ → ℕ) (ws xs : List Worker) (s r q : State) (n o : ℕ) (w y : Worker) (h : AreUnitsHanded net owner ws xs s r n)
    (is_owner : o ≡ owner n) (within : o < length xs) (is : w ≡ get_or xs o w) (own_within : n < length r.own)
    (array_within : (a : ℕ) → owns (kind_of net n) ≡ Some a → a < length r.arrays)
    (alone : (v a : ℕ) → owns (kind_of net v) ≡ Some a → owns (kind_of net n) ≡ Some a → v ≡ n)
    (state : q ≡ with_unit net n (held_state w) r) (held : held_state y ≡ with_unit net n r (held_state w)) (rest : SameButState w y) where
  w_at : (v : ℕ) (d : Worker) → v ≡ o → w ≡ get_or xs v d
  w_at v d e = is ∙ (get_or_default xs o w d within ∙ ap (λ i. get_or xs i d) (sym e))

  one_each : (j : ℕ) (d : Worker) → j < length ws → IsSameButUnits (get_or ws j d) (get_or (set xs o y) j d)
  one_each j d l =
      let k = h.each j d l in
      at_new (IsSameButUnits (get_or ws j d)) xs o y j d within
      (λ e. (
      let at = w_at j d e in
      let tokens : (held_state y).tokens ≡ (held_state w).tokens = ap (λ (x : State). x.tokens) held in
      record {
        logged = same_logged_then (get_or ws j d) (get_or xs j d) y k.logged (subst (λ (z : Worker). SameLogged z y) at rest.logged);
        closed = rest.closed ∙ (ap is_closed at ∙ k.closed);
        puts = λ c. rest.puts c ∙ (ap (λ z. put_end z c) at ∙ k.puts c);
        takes = λ c. rest.takes c ∙ (ap (λ z. take_end z c) at ∙ k.takes c);
        tokens = tokens ∙ (ap (λ z. (held_state z).tokens) at ∙ k.tokens);
      }))
      (λ ne. k)

  one_left : (u : ℕ) (d : Worker) → n + 1 ≤ u → get_or (held_state (get_or (set xs o y) (owner u) d)).own u idle ≡ get_or (held_state (get_or ws (owner u) d)).own u idle
  one_left u d l =
      let k = h.left u d (omega (arith, l)) in
      at_new (λ z. get_or (held_state z).own u idle ≡ get_or (held_state (get_or ws (owner u) d)).own u idle) xs o y (owner u) d within
      (λ e. (
      let first : get_or (held_state y).own u idle ≡ get_or (with_unit net n r (held_state w)).own u idle = ap (λ (x : State). get_or x.own u idle) held in
      let second = own_else net n r (held_state w) u (λ z. absurd (omega (arith, z, l))) in
      first ∙ (second ∙ (ap (λ z. get_or (held_state z).own u idle) (w_at (owner u) d e) ∙ k))))
      (λ ne. k)

  one_arrays_left : (u a : ℕ) (d : Worker) → n + 1 ≤ u → owns (kind_of net u) ≡ Some a
      → get_or (held_state (get_or (set xs o y) (owner u) d)).arrays a [] ≡ get_or (held_state (get_or ws (owner u) d)).arrays a []
  one_arrays_left u a d l own =
      let k = h.arrays_left u a d (omega (arith, l)) own in
      at_new (λ z. get_or (held_state z).arrays a [] ≡ get_or (held_state (get_or ws (owner u) d)).arrays a []) xs o y (owner u) d within
      (λ e. (
      let first : get_or (held_state y).arrays a [] ≡ get_or (with_unit net n r (held_state w)).arrays a [] = ap (λ (x : State). get_or x.arrays a []) held in
      let second = array_else net n r (held_state w) a (λ m. (let z = alone u a own m in absurd (omega (arith, z, l)))) in
      first ∙ (second ∙ (ap (λ z. get_or (held_state z).arrays a []) (w_at (owner u) d e) ∙ k))))
      (λ ne. k)

  w_owner : (d : Worker) → w ≡ get_or xs (owner n) d
  w_owner d = w_at (owner n) d (sym is_owner)

  own_at_n : (d : Worker) → get_or q.own n idle ≡ get_or (held_state (get_or ws (owner n) d)).own n idle
  own_at_n d =
      let first : get_or q.own n idle ≡ get_or (with_unit net n (held_state w) r).own n idle = ap (λ (x : State). get_or x.own n idle) state in
      first ∙ (own_here net n (held_state w) r own_within ∙ (ap (λ z. get_or (held_state z).own n idle) (w_owner d) ∙ h.left n d (omega arith)))

  one_own : (u : ℕ) (d : Worker) → u < n + 1 → (u ≡ n) ⊎ (u ≡ n → ⊥) → get_or q.own u idle ≡ get_or (held_state (get_or ws (owner u) d)).own u idle
  one_own u d l (inl e) = subst (λ v. get_or q.own v idle ≡ get_or (held_state (get_or ws (owner v) d)).own v idle) (sym e) (own_at_n d)
  one_own u d l (inr ne) =
      let first : get_or q.own u idle ≡ get_or (with_unit net n (held_state w) r).own u idle = ap (λ (x : State). get_or x.own u idle) state in
      first ∙ (own_else net n (held_state w) r u ne ∙ h.own u d (omega (arith, l, ne)))

  array_at_n : (a : ℕ) (d : Worker) → owns (kind_of net n) ≡ Some a → get_or q.arrays a [] ≡ get_or (held_state (get_or ws (owner n) d)).arrays a []
  array_at_n a d own =
      let first : get_or q.arrays a [] ≡ get_or (with_unit net n (held_state w) r).arrays a [] = ap (λ (x : State). get_or x.arrays a []) state in
      first ∙ (array_here net n (held_state w) r a own (array_within a own) ∙ (ap (λ z. get_or (held_state z).arrays a []) (w_owner d) ∙ h.arrays_left n a d (omega arith) own))

  one_arrays : (u a : ℕ) (d : Worker) → u < n + 1 → owns (kind_of net u) ≡ Some a → (u ≡ n) ⊎ (u ≡ n → ⊥) → get_or q.arrays a [] ≡ get_or (held_state (get_or ws (owner u) d)).arrays a []
  one_arrays u a d l own (inl e) =
      subst (λ v. get_or q.arrays a [] ≡ get_or (held_state (get_or ws (owner v) d)).arrays a []) (sym e) (array_at_n a d (subst (λ v. owns (kind_of net v) ≡ Some a) e own))
  one_arrays u a d l own (inr ne) =
      let first : get_or q.arrays a [] ≡ get_or (with_unit net n (held_state w) r).arrays a [] = ap (λ (x : State). get_or x.arrays a []) state in
      first ∙ (array_else net n (held_state w) r a (λ m. ne (alone u a own m)) ∙ h.arrays u a d (omega (arith, l, ne)) own)

  one_others : (a : ℕ) → ((u : ℕ) → u < n + 1 → owns (kind_of net u) ≡ Some a → ⊥) → get_or q.arrays a [] ≡ get_or s.arrays a []
  one_others a free =
      let first : get_or q.arrays a [] ≡ get_or (with_unit net n (held_state w) r).arrays a [] = ap (λ (x : State). get_or x.arrays a []) state in
      first ∙ (array_else net n (held_state w) r a (free n (omega arith)) ∙ h.others a (λ u l. free u (omega (arith, l))))

  one_rest : q ≡ record s { own = q.own; arrays = q.arrays }
  one_rest =
      let put : List Own → List (List ℕ) → State → State = λ os xss x. record x { own = os; arrays = xss } in
      let new : State = with_unit net n (held_state w) r in
      let first : put new.own new.arrays r ≡ put new.own new.arrays s = ap (put new.own new.arrays) h.rest in
      state ∙ (first ∙ ap (λ (x : State). put x.own x.arrays s) (sym state))

  pub unit_more : AreUnitsHanded net owner ws (set xs o y) s q (n + 1)
  unit_more = record {
    long = length-set xs o y ∙ h.long;
    each = one_each;
    left = one_left;
    arrays_left = one_arrays_left;
    own = λ u d l. one_own u d l (cases_eq u n);
    arrays = λ u a d l own. one_arrays u a d l own (cases_eq u n);
    others = one_others;
    rest = one_rest;
    own_long = ap (λ (x : State). length x.own) state ∙ (length-set r.own n (get_or (held_state w).own n idle) ∙ h.own_long);
    arrays_long = ap (λ (x : State). length x.arrays) state ∙ (written_long (owns (kind_of net n)) (at_array (held_state w).arrays (owns (kind_of net n))) r.arrays ∙ h.arrays_long);
  }

pub hold_set : (net : Net) (xs : List Worker) (o : ℕ) (y : Worker) → o < length xs → AllHold net xs → HoldsOf net y → AllHold net (set xs o y)
hold_set net xs o y within all one j d l = at_new (HoldsOf net) xs o y j d within (λ e. one) (λ ne. all j d (omega (arith, l, length-set xs o y)))

-- what each worker holds, it holds after the call too
pub own_kept : (t : Tables) (ws xs : List Worker) → length xs ≡ length ws → ((j : ℕ) (d : Worker) → j < length ws → HoldsToo (get_or ws j d) (get_or xs j d)) → AllHoldOwn t ws → AllHoldOwn t xs
own_kept t ws xs long each all = record {
  units = λ u d l within.
      let k : owner_in t u < length ws = omega (arith, within, long) in
      (each (owner_in t u) d k).units u (all.units u d l k);
  chans = λ c d l within.
      let k : taker (net_of t) (owner_in t) c < length ws = omega (arith, within, long) in
      (each (taker (net_of t) (owner_in t) c) d k).chans c (all.chans c d l k);
}

pub own_set : (t : Tables) (ws : List Worker) (o : ℕ) (w y : Worker) → o < length ws → w ≡ get_or ws o w → HoldsToo w y → AllHoldOwn t ws → AllHoldOwn t (set ws o y)
own_set t ws o w y within is too all = own_kept t ws (set ws o y) (length-set ws o y) each all
  where
    at : (j : ℕ) (d : Worker) → j ≡ o → w ≡ get_or ws j d
    at j d e = is ∙ (get_or_default ws o w d within ∙ ap (λ k. get_or ws k d) (sym e))

    each : (j : ℕ) (d : Worker) → j < length ws → HoldsToo (get_or ws j d) (get_or (set ws o y) j d)
    each j d l = at_new (HoldsToo (get_or ws j d)) ws o y j d within (λ e. subst (λ v. HoldsToo v y) (at j d e) too) (λ ne. record { units = λ u h. h; chans = λ c h. h })

-- ---- one channel

-- inside one worker
pub inner_linked : (t : Tables) (o : ℕ) (ws : List Worker) (w y : Worker) → o < length ws → w ≡ get_or ws o w → SameButState w y → AreLinked t ws → AreLinked t (set ws o y)
inner_linked t o ws w y within is rest linked i d e l ne p q x z is_put is_take =
    linked i d e l ne (omega (arith, p, length-set ws o y)) (omega (arith, q, length-set ws o y)) x z (sym (put_same (putter (net_of t) (owner_in t) i) d) ∙ is_put) (sym (take_same (taker (net_of t) (owner_in t) i) e) ∙ is_take)
  where
    at : (j : ℕ) (f : Worker) → j ≡ o → w ≡ get_or ws j f
    at j f e = is ∙ (get_or_default ws o w f within ∙ ap (λ k. get_or ws k f) (sym e))

    put_same : (j : ℕ) (f : Worker) → put_end (get_or (set ws o y) j f) i ≡ put_end (get_or ws j f) i
    put_same j f = at_new (λ v. put_end v i ≡ put_end (get_or ws j f) i) ws o y j f within (λ e. rest.puts i ∙ ap (λ v. put_end v i) (at j f e)) (λ n. refl)

    take_same : (j : ℕ) (f : Worker) → take_end (get_or (set ws o y) j f) i ≡ take_end (get_or ws j f) i
    take_same j f = at_new (λ v. take_end v i ≡ take_end (get_or ws j f) i) ws o y j f within (λ e. rest.takes i ∙ ap (λ v. take_end v i) (at j f e)) (λ n. refl)

same_at : (c : ℕ) (w : Worker) → IsSameButAt c w w
same_at c w = record { logged = same_logged w; closed = refl; puts = λ d ne. refl; takes = λ d ne. refl; tokens = λ d ne. refl }

-- a channel inside one worker exchanges its tokens with a state that has none
module _ (net : Net) (owner : ℕ → ℕ) (c o : ℕ) (ws : List Worker) (w y : Worker) (s r : State) (within : o < length ws) (is : w ≡ get_or ws o w)
    (taken : taker net owner c ≡ o) (put : putter net owner c ≡ taker net owner c) (inside : c < length s.tokens)
    (state : r ≡ with_tokens (chan_from c (held_state w).tokens s.tokens) s) (held : held_state y ≡ with_tokens (chan_from c s.tokens (held_state w).tokens) (held_state w)) (rest : SameButState w y) where
  at_place : (j : ℕ) (d : Worker) → j ≡ o → w ≡ get_or ws j d
  at_place j d e = is ∙ (get_or_default ws o w d within ∙ ap (λ k. get_or ws k d) (sym e))

  exchanged : IsSameButAt c w y
  exchanged = record {
    logged = rest.logged;
    closed = rest.closed;
    puts = λ d ne. rest.puts d;
    takes = λ d ne. rest.takes d;
    tokens = λ d ne. ap (λ (x : State). tokens_at x d) held ∙ get_or-set_other (held_state w).tokens c d (get_or s.tokens c []) [] ne;
  }

  pub inner_handed : IsChanHanded net owner c ws (set ws o y) s r
  inner_handed = record {
    long = length-set ws o y;
    each = λ j d l. at_new (IsSameButAt c (get_or ws j d)) ws o y j d within (λ e. subst (λ v. IsSameButAt c v y) (at_place j d e) exchanged) (λ ne. same_at c (get_or ws j d));
    state = record {
      rest = state ∙ ap (λ xss. with_tokens xss s) (sym (ap (λ (x : State). x.tokens) state));
      long = ap (λ (x : State). length x.tokens) state ∙ length-set s.tokens c (get_or (held_state w).tokens c []);
      others = λ d ne. ap (λ (x : State). tokens_at x d) state ∙ get_or-set_other s.tokens c d (get_or (held_state w).tokens c []) [] ne;
    };
    inner = λ e d. ap (λ (x : State). tokens_at x c) state ∙ (get_or-set_at s.tokens c c (get_or (held_state w).tokens c []) [] refl inside ∙ ap (λ v. tokens_at (held_state v) c) (at_place (taker net owner c) d taken));
    between = λ ne d e. absurd (ne put);
  }

-- from one worker to another
pub drained_linked : (t : Tables) (from to c : ℕ) (ws xs : List Worker) (s r : State) → from ≡ putter (net_of t) (owner_in t) c → to ≡ taker (net_of t) (owner_in t) c
    → IsDrained from to c ws xs s r → AreLinked t ws → AreLinked t xs
drained_linked t from to c ws xs s r is_from is_to h linked i d e l ne p q = by (cases_eq i c)
  where
    v : ℕ
    v = putter (net_of t) (owner_in t) i

    w : ℕ
    w = taker (net_of t) (owner_in t) i

    pv : v < length ws
    pv = omega (arith, p, h.long)

    qw : w < length ws
    qw = omega (arith, q, h.long)

    at_c : AreLinkedAt c (get_or xs (putter (net_of t) (owner_in t) c) d) (get_or xs (taker (net_of t) (owner_in t) c) e)
    at_c = subst (λ k. AreLinkedAt c (get_or xs k d) (get_or xs (taker (net_of t) (owner_in t) c) e)) is_from (subst (λ k. AreLinkedAt c (get_or xs from d) (get_or xs k e)) is_to (h.link d e))

    by : (i ≡ c) ⊎ (i ≡ c → ⊥) → AreLinkedAt i (get_or xs v d) (get_or xs w e)
    by (inl same) = subst (λ k. AreLinkedAt k (get_or xs (putter (net_of t) (owner_in t) k) d) (get_or xs (taker (net_of t) (owner_in t) k) e)) (sym same) at_c
    by (inr n) = λ x z is_put is_take. linked i d e l ne pv qw x z (sym ((h.each v d pv).puts i n) ∙ is_put) (sym ((h.each w e qw).takes i n) ∙ is_take)

-- ---- channels, one after another

same_from : (n : ℕ) (a b x : Worker) → IsSameFrom n a b → IsSameButAt n b x → IsSameFrom (n + 1) a x
same_from n a b x h g = record {
  logged = same_logged_then a b x h.logged g.logged;
  closed = g.closed ∙ h.closed;
  puts = λ c l. g.puts c (λ e. absurd (omega (arith, e, l))) ∙ h.puts c (omega (arith, l));
  takes = λ c l. g.takes c (λ e. absurd (omega (arith, e, l))) ∙ h.takes c (omega (arith, l));
  tokens = λ c l. g.tokens c (λ e. absurd (omega (arith, e, l))) ∙ h.tokens c (omega (arith, l));
}

left_from : (n : ℕ) (a b x y : Worker) (xs : List ℕ) → put_end x n ≡ put_end a n → take_end y n ≡ take_end b n → IsLeft n x y xs → IsLeft n a b xs
left_from n a b x y xs puts takes h p e is_put is_take = h p e (puts ∙ is_put) (takes ∙ is_take)

module _ (net : Net) (owner : ℕ → ℕ) (ws xs ys : List Worker) (s r q : State) (n : ℕ) (from : putter net owner n < length ws) (to : taker net owner n < length ws)
    (h : AreChansHanded net owner ws xs s r n) (g : IsChanHanded net owner n xs ys r q) where
  kept_at : (c : ℕ) → c ≢ n → tokens_at q c ≡ tokens_at r c
  kept_at c ne = g.state.others c ne

  chan_inner : (c : ℕ) → c < n + 1 → (c ≡ n) ⊎ (c ≡ n → ⊥) → putter net owner c ≡ taker net owner c → (d : Worker) → tokens_at q c ≡ tokens_at (held_state (get_or ws (taker net owner c) d)) c
  chan_inner c l (inr ne) same d = kept_at c ne ∙ h.inner c (omega (arith, l, ne)) same d
  chan_inner c l (inl e) same d =
      subst (λ i. putter net owner i ≡ taker net owner i → (f : Worker) → tokens_at q i ≡ tokens_at (held_state (get_or ws (taker net owner i) f)) i) (sym e)
      (λ alike f. g.inner alike f ∙ (h.each (taker net owner n) f to).tokens n (omega arith)) same d

  chan_between : (c : ℕ) → c < n + 1 → (c ≡ n) ⊎ (c ≡ n → ⊥) → putter net owner c ≢ taker net owner c → (d e : Worker)
      → IsLeft c (get_or ws (putter net owner c) d) (get_or ws (taker net owner c) e) (tokens_at q c)
  chan_between c l (inr ne) apart d e =
      subst (IsLeft c (get_or ws (putter net owner c) d) (get_or ws (taker net owner c) e)) (sym (kept_at c ne)) (h.between c (omega (arith, l, ne)) apart d e)
  chan_between c l (inl same) apart d e =
      subst (λ i. putter net owner i ≢ taker net owner i → (x y : Worker) → IsLeft i (get_or ws (putter net owner i) x) (get_or ws (taker net owner i) y) (tokens_at q i)) (sym same)
      (λ differ x y. left_from n (get_or ws (putter net owner n) x) (get_or ws (taker net owner n) y) (get_or xs (putter net owner n) x) (get_or xs (taker net owner n) y) (tokens_at q n)
      ((h.each (putter net owner n) x from).puts n (omega arith)) ((h.each (taker net owner n) y to).takes n (omega arith)) (g.between differ x y)) apart d e

  pub chan_more : AreChansHanded net owner ws ys s q (n + 1)
  chan_more = record {
    long = g.long ∙ h.long;
    each = λ j d l. same_from n (get_or ws j d) (get_or xs j d) (get_or ys j d) (h.each j d l) (g.each j d (omega (arith, l, h.long)));
    rest = g.state.rest ∙ ap (with_tokens q.tokens) h.rest;
    tokens_long = g.state.long ∙ h.tokens_long;
    inner = λ c l same d. chan_inner c l (cases_eq c n) same d;
    between = λ c l ne d e. chan_between c l (cases_eq c n) ne d e;
    none = λ c l. kept_at c (λ e. absurd (omega (arith, e, l))) ∙ h.none c (omega (arith, l));
  }

-- what is needed to drain a channel is still there
pub can_still : (net : Net) (owner : ℕ → ℕ) (ws xs : List Worker) (s r : State) (n : ℕ) → AreChansHanded net owner ws xs s r n → CanDrain net owner ws n → CanDrain net owner xs n
can_still net owner ws xs s r n h can = record {
  from = omega (arith, can.from, h.long);
  to = omega (arith, can.to, h.long);
  put = λ ne d. subst (λ o. IsSome o) (sym ((h.each (putter net owner n) d can.from).puts n (omega arith))) (can.put ne d);
  take = λ ne d. subst (λ o. IsSome o) (sym ((h.each (taker net owner n) d can.to).takes n (omega arith))) (can.take ne d);
  few = λ ne d e p x is_put is_take. can.few ne d e p x (sym ((h.each (putter net owner n) d can.from).puts n (omega arith)) ∙ is_put) (sym ((h.each (taker net owner n) e can.to).takes n (omega arith)) ∙ is_take);
}

-- ---- two workers of a list that was cut in two

pub same_ends : (c : ℕ) (w : Worker) → SameButEndsAt c w w
same_ends c w = record { logged = same_logged w; closed = refl; held = refl; of = λ net h. h; holds = record { units = λ u h. h; chans = λ d h. h }; puts = λ d ne. refl; takes = λ d ne. refl }

pub left_cast : (c : ℕ) (a x b y : Worker) (xs : List ℕ) → x ≡ a → y ≡ b → IsLeft c a b xs → IsLeft c x y xs
left_cast c a x b y xs p q h = subst (λ (w : Worker). IsLeft c w y xs) (sym p) (subst (λ (w : Worker). IsLeft c a w xs) (sym q) h)

pub linked_cast : (c : ℕ) (a x b y : Worker) → x ≡ a → y ≡ b → AreLinkedAt c a b → AreLinkedAt c x y
linked_cast c a x b y p q h = subst (λ (w : Worker). AreLinkedAt c w y) (sym p) (subst (λ (w : Worker). AreLinkedAt c a w) (sym q) h)
