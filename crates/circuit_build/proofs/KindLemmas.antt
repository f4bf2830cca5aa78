-- What the firings of each kind do to tokens seen by places, queues left aside.
use Rattle.std.proofs.Common.{◌≡◌, ℕ, ◌+◌, ◌-◌, ◌<◌, ◌==◌, ◌&&◌, min, Bool, true, false, cond, Option, Some, None, List, [], ◌∷◌, length, get_or, refl, sym, ap, ◌∙◌, arith, slice_get, is_some, nat_lt, lt-ltb}
use Rattle.word_ops.specs.Operations.{op1_result, op2_result}
use Rattle.el_base.specs.declared.operation.Op1.{Op1 as Unary}
use Rattle.el_base.specs.declared.operation.Op2.{Op2 as Binary}
use Rattle.net_types.specs.declared.net.Net.{Net}
use Rattle.net_types.specs.declared.net.Place.{Place}
use Rattle.net_types.specs.declared.net.Unit.{Unit as Kind}
use Rattle.net_types.specs.declared.net.Unit.TheVariants.{Entry, Param, Const, Op1, Op2, Select, Fork, Mux, Cmerge, Branch, Sink, Read, Exit}
use Rattle.net_types.specs.declared.firing.Act.{Act}
use Rattle.net_types.specs.declared.firing.Act.TheVariants.{Go, From, Send}
use Rattle.net_types.specs.Nets.{is_at, uses, owns, at, firing}
use Rattle.net_core.specs.declared.plan.Put.{Put}
use Rattle.net_core.specs.Fire.{State, Own, idle, Effect, effect_of, head_at, row, at_array, setting, put_at}
use Rattle.circuit_build.proofs.Marks.{Marks, Wired, popped, pushed, popped_all, put_mark, Aside, own_set, with_own, Shows, Goes, Fed, Free}
use Rattle.circuit_build.proofs.MarkLemmas.{of_kind, goes_as, own_same, head_is}

-- one for an address past the array
abbrev pub past : List ℕ → ℕ → ℕ
past xs x = cond (nat_lt x (length xs)) 0 1

abbrev takes_and_puts : List ℕ → Option Put → Own → List ℕ → Effect
takes_and_puts takes put o xs = record { takes = takes; put = put; own = o; array = xs; strays = 0 }

module _ (net : Net) (scalars : List ℕ) (s : State) (m : Marks) (a : Aside) (h : Shows net scalars s m a) (u : ℕ) where
  -- a firing that keeps the unit's own state
  keeping : (k : Kind) (act : Act) (takes : List ℕ) (put : Option Put) (srcs : List Place) → slice_get net.units u ≡ Some k → owns k ≡ None
      → effect_of (row k act (get_or s.own u idle) (at_array s.arrays (uses k)) (setting net s)) (head_at net s u) ≡ Some (takes_and_puts takes put (get_or s.own u idle) (at_array s.arrays (uses k)))
      → Fed net u m takes srcs → Free net u m put → Goes net scalars s (firing u act ∷ []) (put_mark u put (popped_all srcs m)) a
  keeping k act takes put srcs is none e fed free =
      goes_as net scalars s (firing u act ∷ []) _ _ _ a (of_kind net scalars s m a h u k act (takes_and_puts takes put (get_or s.own u idle) (at_array s.arrays (uses k))) srcs is none e fed free)
      (λ r. refl) (λ v. ap (λ x. own_set u x a.own v) (h.own u) ∙ own_same u a.own v) refl (omega arith)

  -- a firing that changes it, and counts no stray
  pub changing : (k : Kind) (act : Act) (takes : List ℕ) (put : Option Put) (o : Own) (srcs : List Place) → slice_get net.units u ≡ Some k → owns k ≡ None
      → effect_of (row k act (get_or s.own u idle) (at_array s.arrays (uses k)) (setting net s)) (head_at net s u) ≡ Some (takes_and_puts takes put o (at_array s.arrays (uses k)))
      → Fed net u m takes srcs → Free net u m put → Goes net scalars s (firing u act ∷ []) (put_mark u put (popped_all srcs m)) (with_own u o a)
  changing k act takes put o srcs is none e fed free =
      goes_as net scalars s (firing u act ∷ []) _ _ _ (with_own u o a) (of_kind net scalars s m a h u k act (takes_and_puts takes put o (at_array s.arrays (uses k))) srcs is none e fed free)
      (λ r. refl) (λ v. refl) refl (omega arith)

  pub head : (q v : ℕ) (p : Place) → Wired net p (at u q) → m p ≡ v ∷ [] → head_at net s u q ≡ Some v
  head q v p w e = head_is net scalars s m a h u q v p w e

  pub const_goes : (w n x : ℕ) (p r : Place) → slice_get net.units u ≡ Some (Const w n) → Wired net p (at u 0) → Wired net (at u 0) r → m p ≡ x ∷ [] → m (at u 0) ≡ []
      → Goes net scalars s (firing u Go ∷ []) (pushed (at u 0) n (popped p m)) a
  unfolding row
  const_goes w n x p r is wp wr ex eo =
      let i = head 0 x p wp ex in
      keeping (Const w n) Go (0 ∷ []) (put_at 0 n) (p ∷ []) is refl (rw i refl) (wp, (x, ex), tt) ((r, wr), eo)

  pub op1_goes : (op : Unary) (x : ℕ) (p r : Place) → slice_get net.units u ≡ Some (Op1 op) → Wired net p (at u 0) → Wired net (at u 0) r → m p ≡ x ∷ [] → m (at u 0) ≡ []
      → Goes net scalars s (firing u Go ∷ []) (pushed (at u 0) (op1_result op x) (popped p m)) a
  unfolding row
  op1_goes op x p r is wp wr ex eo =
      let i = head 0 x p wp ex in
      keeping (Op1 op) Go (0 ∷ []) (put_at 0 (op1_result op x)) (p ∷ []) is refl (rw i refl) (wp, (x, ex), tt) ((r, wr), eo)

  pub op2_goes : (op : Binary) (x y : ℕ) (p q r : Place) → slice_get net.units u ≡ Some (Op2 op) → Wired net p (at u 0) → Wired net q (at u 1) → Wired net (at u 0) r
      → m p ≡ x ∷ [] → m q ≡ y ∷ [] → m (at u 0) ≡ []
      → Goes net scalars s (firing u Go ∷ []) (pushed (at u 0) (op2_result op x y) (popped q (popped p m))) a
  unfolding row
  op2_goes op x y p q r is wp wq wr ex ey eo =
      let i = head 0 x p wp ex in
      let j = head 1 y q wq ey in
      keeping (Op2 op) Go (0 ∷ 1 ∷ []) (put_at 0 (op2_result op x y)) (p ∷ q ∷ []) is refl (rw (i, j) refl) (wp, (x, ex), (wq, (y, ey), tt)) ((r, wr), eo)

  pub select_goes : (w c x y : ℕ) (p q t r : Place) → slice_get net.units u ≡ Some (Select w) → Wired net p (at u 0) → Wired net q (at u 1) → Wired net t (at u 2) → Wired net (at u 0) r
      → m p ≡ c ∷ [] → m q ≡ x ∷ [] → m t ≡ y ∷ [] → m (at u 0) ≡ []
      → Goes net scalars s (firing u Go ∷ []) (pushed (at u 0) (cond (c == 0) y x) (popped t (popped q (popped p m)))) a
  unfolding row
  select_goes w c x y p q t r is wp wq wt wr ec ex ey eo =
      let i = head 0 c p wp ec in
      let j = head 1 x q wq ex in
      let k = head 2 y t wt ey in
      keeping (Select w) Go (0 ∷ 1 ∷ 2 ∷ []) (put_at 0 (cond (c == 0) y x)) (p ∷ q ∷ t ∷ []) is refl (rw (i, j, k) refl) (wp, (c, ec), (wq, (x, ex), (wt, (y, ey), tt))) ((r, wr), eo)

  pub sink_goes : (w x : ℕ) (p : Place) → slice_get net.units u ≡ Some (Sink w) → Wired net p (at u 0) → m p ≡ x ∷ [] → Goes net scalars s (firing u Go ∷ []) (popped p m) a
  unfolding row
  sink_goes w x p is wp ex =
      let i = head 0 x p wp ex in
      keeping (Sink w) Go (0 ∷ []) None (p ∷ []) is refl (rw i refl) (wp, (x, ex), tt) tt

  pub cmerge_goes : (ins j x : ℕ) (p r : Place) → slice_get net.units u ≡ Some (Cmerge ins) → j < ins → Wired net p (at u j) → Wired net (at u 0) r → m p ≡ x ∷ [] → m (at u 0) ≡ []
      → Goes net scalars s (firing u (From j) ∷ []) (pushed (at u 0) j (popped p m)) a
  unfolding row
  cmerge_goes ins j x p r is l wp wr ex eo =
      let i = head j x p wp ex in
      let t : nat_lt j ins ≡ true = lt-ltb _ _ l in
      keeping (Cmerge ins) (From j) (j ∷ []) (put_at 0 j) (p ∷ []) is refl (rw (t, i) refl) (wp, (x, ex), tt) ((r, wr), eo)

  pub mux_goes : (w ins j x : ℕ) (p q r : Place) → slice_get net.units u ≡ Some (Mux w ins) → j < ins → Wired net p (at u 0) → Wired net q (at u (j + 1)) → Wired net (at u 0) r
      → m p ≡ j ∷ [] → m q ≡ x ∷ [] → m (at u 0) ≡ []
      → Goes net scalars s (firing u Go ∷ []) (pushed (at u 0) x (popped q (popped p m))) a
  unfolding row
  mux_goes w ins j x p q r is l wp wq wr ej ex eo =
      let i = head 0 j p wp ej in
      let k = head (j + 1) x q wq ex in
      let c : min j (ins - 1) ≡ j = omega arith in
      keeping (Mux w ins) Go (0 ∷ (j + 1) ∷ []) (put_at 0 x) (p ∷ q ∷ []) is refl (rw (i, c, k) refl) (wp, (j, ej), (wq, (x, ex), tt)) ((r, wr), eo)

  pub branch_goes : (w c x : ℕ) (p q r : Place) → slice_get net.units u ≡ Some (Branch w) → Wired net p (at u 0) → Wired net q (at u 1) → Wired net (at u (cond (c == 0) 1 0)) r
      → m p ≡ c ∷ [] → m q ≡ x ∷ [] → m (at u (cond (c == 0) 1 0)) ≡ []
      → Goes net scalars s (firing u Go ∷ []) (pushed (at u (cond (c == 0) 1 0)) x (popped q (popped p m))) a
  unfolding row
  branch_goes w c x p q r is wp wq wr ec ex eo =
      let i = head 0 c p wp ec in
      let k = head 1 x q wq ex in
      keeping (Branch w) Go (0 ∷ 1 ∷ []) (put_at (cond (c == 0) 1 0) x) (p ∷ q ∷ []) is refl (rw (i, k) refl) (wp, (c, ec), (wq, (x, ex), tt)) ((r, wr), eo)

  -- an address past the array reads 0 and is a stray
  pub read_goes : (b x : ℕ) (p r : Place) → slice_get net.units u ≡ Some (Read b) → Wired net p (at u 0) → Wired net (at u 0) r → m p ≡ x ∷ [] → m (at u 0) ≡ []
      → Goes net scalars s (firing u Go ∷ []) (pushed (at u 0) (get_or (get_or a.arrays b []) x 0) (popped p m)) (record a { strays = a.strays + past (get_or a.arrays b []) x })
  unfolding row
  read_goes b x p r is wp wr ex eo =
      let i = head 0 x p wp ex in
      let xs : List ℕ = get_or s.arrays b [] in
      let same : xs ≡ get_or a.arrays b [] = ap (λ t. get_or t b []) h.same in
      let e : Effect = record { takes = 0 ∷ []; put = put_at 0 (get_or xs x 0); own = get_or s.own u idle; array = xs; strays = past xs x } in
      goes_as net scalars s (firing u Go ∷ []) _ _ _ (record a { strays = a.strays + past (get_or a.arrays b []) x })
      (of_kind net scalars s m a h u (Read b) Go e (p ∷ []) is refl (rw i refl) (wp, (x, ex), tt) ((r, wr), eo))
      (λ t. ap (λ ys. pushed (at u 0) (get_or ys x 0) (popped p m) t) same) (λ v. ap (λ z. own_set u z a.own v) (h.own u) ∙ own_same u a.own v) refl
      (let k : past xs x ≡ past (get_or a.arrays b []) x = ap (λ ys. past ys x) same in omega (arith, k))

  pub entry_goes : (r : Place) → slice_get net.units u ≡ Some Entry → (a.own u).fired ≡ false → Wired net (at u 0) r → m (at u 0) ≡ []
      → Goes net scalars s (firing u Go ∷ []) (pushed (at u 0) 0 m) (with_own u (record (a.own u) { fired = true }) a)
  unfolding row
  entry_goes r is fresh wr eo =
      let own : get_or s.own u idle ≡ a.own u = h.own u in
      changing Entry Go [] (put_at 0 0) (record (a.own u) { fired = true }) [] is refl (rw (own, fresh) refl) tt ((r, wr), eo)

  pub param_goes : (j : ℕ) (r : Place) → slice_get net.units u ≡ Some (Param j) → (a.own u).fired ≡ false → Wired net (at u 0) r → m (at u 0) ≡ []
      → Goes net scalars s (firing u Go ∷ []) (pushed (at u 0) (get_or scalars j 0) m) (with_own u (record (a.own u) { fired = true }) a)
  unfolding row
  param_goes j r is fresh wr eo =
      let own : get_or s.own u idle ≡ a.own u = h.own u in
      let given : s.scalars ≡ scalars = h.given in
      changing (Param j) Go [] (put_at 0 (get_or scalars j 0)) (record (a.own u) { fired = true }) [] is refl (rw (own, fresh, given) refl) tt ((r, wr), eo)

  pub exit_goes : (x : ℕ) (p : Place) → slice_get net.units u ≡ Some Exit → net.result ≡ None → (a.own u).fired ≡ false → Wired net p (at u 0) → m p ≡ x ∷ []
      → Goes net scalars s (firing u Go ∷ []) (popped p m) (with_own u (record (a.own u) { fired = true }) a)
  unfolding row
  exit_goes x p is without fresh wp ex =
      let own : get_or s.own u idle ≡ a.own u = h.own u in
      let i = head 0 x p wp ex in
      changing Exit Go (0 ∷ []) None (record (a.own u) { fired = true }) (p ∷ []) is refl (rw (own, fresh, without, i) refl) (wp, (x, ex), tt) tt

  pub exit_takes : (x v : ℕ) (p q : Place) → slice_get net.units u ≡ Some Exit → is_some net.result ≡ true → (a.own u).fired ≡ false → Wired net p (at u 0) → Wired net q (at u 1) → m p ≡ x ∷ [] → m q ≡ v ∷ []
      → Goes net scalars s (firing u Go ∷ []) (popped q (popped p m)) (with_own u (record (a.own u) { fired = true; value = Some v }) a)
  unfolding row
  exit_takes x v p q is valued fresh wp wq ex ev =
      let own : get_or s.own u idle ≡ a.own u = h.own u in
      let i = head 0 x p wp ex in
      let j = head 1 v q wq ev in
      changing Exit Go (0 ∷ 1 ∷ []) None (record (a.own u) { fired = true; value = Some v }) (p ∷ q ∷ []) is refl (rw (own, fresh, valued, i, j) refl) (wp, (x, ex), (wq, (v, ev), tt)) tt

  -- a buffer: a fork with one output
  pub buffer_goes : (w x : ℕ) (p r : Place) → slice_get net.units u ≡ Some (Fork w 1) → (a.own u).sent ≡ false ∷ [] → Wired net p (at u 0) → Wired net (at u 0) r → m p ≡ x ∷ [] → m (at u 0) ≡ []
      → Goes net scalars s (firing u (Send 0) ∷ []) (pushed (at u 0) x (popped p m)) a
  unfolding row
  buffer_goes w x p r is sent wp wr ex eo =
      let o : Own = get_or s.own u idle in
      let i = head 0 x p wp ex in
      let b : o.sent ≡ false ∷ [] = ap (λ (y : Own). y.sent) (h.own u) ∙ sent in
      let back : record o { sent = false ∷ [] } ≡ o = (λ j. record o { sent = (sym b) j }) in
      keeping (Fork w 1) (Send 0) (0 ∷ []) (put_at 0 x) (p ∷ []) is refl
      (rw (b, i) (ap (λ y. Some (takes_and_puts (0 ∷ []) (put_at 0 x) y (at_array s.arrays (uses (Fork w 1))))) back)) (wp, (x, ex), tt) ((r, wr), eo)
