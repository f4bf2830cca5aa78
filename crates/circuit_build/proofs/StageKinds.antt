-- One unit's firing at a stage: it takes the tokens in front, and puts one in front.
use Rattle.std.proofs.Common.{◌≡◌, ◌≢◌, ℕ, suc, zero, ◌+◌, ◌^◌, ◌<◌, ◌≤◌, ◌==◌, Bool, true, false, cond, Option, Some, None, List, [], ◌∷◌, ◌++◌, length, get_or, refl, sym, ap, ◌∙◌, subst, inl, inr, arith, slice_get}
use Rattle.std.proofs.lemmas.Bool.{cases_eq}
use Rattle.el_base.specs.declared.operation.Op1.{Op1 as Unary}
use Rattle.el_base.specs.declared.operation.Op2.{Op2 as Binary}
use Rattle.word_ops.specs.Operations.{op1_result, op2_result}
use Rattle.ir.specs.Steps.{cells, strays_past, chosen_of}
use Rattle.net_types.specs.declared.net.Place.{Place}
use Rattle.net_types.specs.declared.net.Net.{Net}
use Rattle.net_types.specs.declared.net.Unit.{Unit as Kind}
use Rattle.net_types.specs.declared.net.Unit.TheVariants.{Const, Op1, Op2, Select, Fork, Mux, Cmerge, Branch, Sink, Read}
use Rattle.net_types.specs.declared.firing.Firing.{Firing}
use Rattle.net_types.specs.Nets.{is_at, owns, at}
use Rattle.net_types.specs.Tables.{spots, outs}
use Rattle.circuit_build.specs.Drafts.{plus, after_place}
use Rattle.net_core.specs.Fire.{State, Own, opened}
use Rattle.net_core.specs.Laws.{starts}
use Rattle.circuit_build.proofs.Marks.{Marks, Aside, Goes, Wired, popped, pushed}
use Rattle.circuit_build.proofs.Stages.{spread, NotIn, Apart, Outside, Stage, Reaches}
use Rattle.circuit_build.proofs.SpreadLemmas.{is_not, fresh, outside_more, spread_none, spread_front, spread_second, take_front, add_front, popped_same, pushed_same}
use Rattle.circuit_build.proofs.LaySections.{HasPlace, Leaves}
use Rattle.circuit_build.proofs.StageParts.{spread_to, reached}
use Rattle.circuit_build.proofs.KindLemmas.{const_goes, op1_goes, op2_goes, select_goes, read_goes, sink_goes, cmerge_goes, mux_goes, branch_goes, buffer_goes}
use Rattle.circuit_build.proofs.ForkLemmas.{sends, after_sends, Ready, fork_all_goes}
use Rattle.circuit_build.proofs.StageTokens.{Token, token, places, values, as_many, row, swaps_back, to_first, apart_kept, marks_kept}

-- ---- tokens in front

pub at_second : (p q : Place) (v w : ℕ) (ps : List (Option Place)) (vs : List ℕ) → p ≢ q → spread (Some p ∷ Some q ∷ ps) (v ∷ w ∷ vs) q ≡ w ∷ []
at_second p q v w ps vs n = spread_second p q v w ps vs (λ e. n (sym e))

at_third : (p q t : Place) (v w x : ℕ) (ps : List (Option Place)) (vs : List ℕ) → p ≢ t → q ≢ t → spread (Some p ∷ Some q ∷ Some t ∷ ps) (v ∷ w ∷ x ∷ vs) t ≡ x ∷ []
at_third p q t v w x ps vs n k = rw (is_not t p (λ e. n (sym e)), is_not t q (λ e. k (sym e))) (spread_front t x ps vs)

pub take_two : (p q : Place) (v w : ℕ) (ps : List (Option Place)) (vs : List ℕ) → NotIn p (Some q ∷ ps) → NotIn q ps → (r : Place) → popped q (popped p (spread (Some p ∷ Some q ∷ ps) (v ∷ w ∷ vs))) r ≡ spread ps vs r
take_two p q v w ps vs n k r = popped_same q _ _ (take_front p v (Some q ∷ ps) (w ∷ vs) n) r ∙ take_front q w ps vs k r

pub take_three : (p q t : Place) (v w x : ℕ) (ps : List (Option Place)) (vs : List ℕ) → NotIn p (Some q ∷ Some t ∷ ps) → NotIn q (Some t ∷ ps) → NotIn t ps
    → (r : Place) → popped t (popped q (popped p (spread (Some p ∷ Some q ∷ Some t ∷ ps) (v ∷ w ∷ x ∷ vs)))) r ≡ spread ps vs r
take_three p q t v w x ps vs n k l r = popped_same t _ _ (take_two p q v w (Some t ∷ ps) (x ∷ vs) n k) r ∙ take_front t x ps vs l r

-- ---- what is known of the net

-- what a unit keeps once the entry and the parameters have fired, and before the exit has: no fork has sent its token to some of its outputs only
abbrev pub settled : Kind → Own
settled k = record (opened k) { fired = starts k }

-- each unit that is no queue keeps that
abbrev pub Calm : Net → Aside → Type 0
Calm net a = (u : ℕ) (k : Kind) → slice_get net.units u ≡ Some k → owns k ≡ None → a.own u ≡ settled k

-- an access of the array x more, at this address
abbrev pub strayed : ℕ → ℕ → Aside → Aside
strayed x v a = record a { strays = a.strays + strays_past (cells a.arrays x) v }

module _ {net : Net} {scalars : List ℕ} {low n m : ℕ} (above : low ≤ n) (below : n < m) where
  -- a new token in front
  putting : {s : State} {fs : List Firing} {mk : Marks} {b : Aside} {k : ℕ} (o y : ℕ) (ps : List (Option Place)) (vs : List ℕ) → Goes net scalars s fs (pushed (at n o) y mk) b → length fs ≤ k
      → ((r : Place) → mk r ≡ spread ps vs r) → Apart ps → Outside low n m ps → length ps ≡ length vs → Reaches net scalars s k b low (suc n) m (Some (at n o) ∷ ps) (y ∷ vs)
  putting {mk = mk} o y ps vs go few h d b l =
      let new = fresh low n m o ps below b in
      reached (Some (at n o) ∷ ps) (y ∷ vs) go few (λ r. pushed_same (at n o) y mk (spread ps vs) h r ∙ add_front (at n o) y ps vs new r)
      (new, d) (above, inl (omega arith), outside_more low n (suc n) m ps (omega arith) b) (ap suc l)

module _ {net : Net} {scalars : List ℕ} (leaves : Leaves net) {a : Aside} {low n m : ℕ} (above : low ≤ n) (below : n < m) where
  module _ {s : State} {p : Place} {x : ℕ} {ps : List (Option Place)} {vs : List ℕ} (st : Stage net scalars s a low n m (Some p ∷ ps) (x ∷ vs)) where
    abbrev all : List (Option Place)
    all = Some p ∷ ps

    abbrev m1 : Marks
    m1 = spread all (x ∷ vs)

    none1 : (o : ℕ) → m1 (at n o) ≡ []
    none1 o = spread_none (at n o) all (x ∷ vs) (fresh low n m o all below st.outside)

    same1 : length ps ≡ length vs
    same1 = let e = st.same in omega arith

    pub const_front : (w c : ℕ) → slice_get net.units n ≡ Some (Const w c) → Wired net p (at n 0) → Reaches net scalars s 1 a low (suc n) m (Some (at n 0) ∷ ps) (c ∷ vs)
    const_front w c is wp =
        let out = leaves n 0 (Const w c) is (inl refl) in
        let go = const_goes net scalars s m1 a st.shows n w c x p out.0 is wp out.1 (spread_front p x ps vs) (none1 0) in
        putting above below 0 c ps vs go (omega arith) (take_front p x ps vs st.apart.0) st.apart.1 st.outside.2 same1

    pub op1_front : (op : Unary) → slice_get net.units n ≡ Some (Op1 op) → Wired net p (at n 0) → Reaches net scalars s 1 a low (suc n) m (Some (at n 0) ∷ ps) (op1_result op x ∷ vs)
    op1_front op is wp =
        let out = leaves n 0 (Op1 op) is (inl refl) in
        let go = op1_goes net scalars s m1 a st.shows n op x p out.0 is wp out.1 (spread_front p x ps vs) (none1 0) in
        putting above below 0 (op1_result op x) ps vs go (omega arith) (take_front p x ps vs st.apart.0) st.apart.1 st.outside.2 same1

    pub read_front : (b : ℕ) → slice_get net.units n ≡ Some (Read b) → Wired net p (at n 0) → Reaches net scalars s 1 (strayed b x a) low (suc n) m (Some (at n 0) ∷ ps) (get_or (cells a.arrays b) x 0 ∷ vs)
    read_front b is wp =
        let out = leaves n 0 (Read b) is (inl refl) in
        let go = read_goes net scalars s m1 a st.shows n b x p out.0 is wp out.1 (spread_front p x ps vs) (none1 0) in
        putting above below 0 (get_or (cells a.arrays b) x 0) ps vs go (omega arith) (take_front p x ps vs st.apart.0) st.apart.1 st.outside.2 same1

    pub sink_front : (w : ℕ) → slice_get net.units n ≡ Some (Sink w) → Wired net p (at n 0) → Reaches net scalars s 1 a low (suc n) m ps vs
    sink_front w is wp =
        let go = sink_goes net scalars s m1 a st.shows n w x p is wp (spread_front p x ps vs) in
        reached ps vs go (omega arith) (take_front p x ps vs st.apart.0) st.apart.1 (outside_more low n (suc n) m ps (omega arith) st.outside.2) same1

    pub cmerge_front : (ins j : ℕ) → slice_get net.units n ≡ Some (Cmerge ins) → j < ins → Wired net p (at n j) → Reaches net scalars s 1 a low (suc n) m (Some (at n 0) ∷ ps) (j ∷ vs)
    cmerge_front ins j is lt wp =
        let out = leaves n 0 (Cmerge ins) is (inl refl) in
        let go = cmerge_goes net scalars s m1 a st.shows n ins j x p out.0 is lt wp out.1 (spread_front p x ps vs) (none1 0) in
        putting above below 0 j ps vs go (omega arith) (take_front p x ps vs st.apart.0) st.apart.1 st.outside.2 same1

    pub buffer_front : (w : ℕ) → Calm net a → slice_get net.units n ≡ Some (Fork w 1) → Wired net p (at n 0) → Reaches net scalars s 1 a low (suc n) m (Some (at n 0) ∷ ps) (x ∷ vs)
    buffer_front w calm is wp =
        let out = leaves n 0 (Fork w 1) is (inl refl) in
        let go = buffer_goes net scalars s m1 a st.shows n w x p out.0 is (ap (λ (o : Own). o.sent) (calm n (Fork w 1) is refl)) wp out.1 (spread_front p x ps vs) (none1 0) in
        putting above below 0 x ps vs go (omega arith) (take_front p x ps vs st.apart.0) st.apart.1 st.outside.2 same1

  module _ {s : State} {p q : Place} {x y : ℕ} {ps : List (Option Place)} {vs : List ℕ} (st : Stage net scalars s a low n m (Some p ∷ Some q ∷ ps) (x ∷ y ∷ vs)) where
    abbrev all2 : List (Option Place)
    all2 = Some p ∷ Some q ∷ ps

    abbrev m2 : Marks
    m2 = spread all2 (x ∷ y ∷ vs)

    none2 : (o : ℕ) → m2 (at n o) ≡ []
    none2 o = spread_none (at n o) all2 (x ∷ y ∷ vs) (fresh low n m o all2 below st.outside)

    same2 : length ps ≡ length vs
    same2 = let e = st.same in omega arith

    pub op2_front : (op : Binary) → slice_get net.units n ≡ Some (Op2 op) → Wired net p (at n 0) → Wired net q (at n 1) → Reaches net scalars s 1 a low (suc n) m (Some (at n 0) ∷ ps) (op2_result op x y ∷ vs)
    op2_front op is wp wq =
        let out = leaves n 0 (Op2 op) is (inl refl) in
        let go = op2_goes net scalars s m2 a st.shows n op x y p q out.0 is wp wq out.1 (spread_front p x (Some q ∷ ps) (y ∷ vs)) (at_second p q x y ps vs st.apart.0.0) (none2 0) in
        putting above below 0 (op2_result op x y) ps vs go (omega arith) (take_two p q x y ps vs st.apart.0 st.apart.1.0) st.apart.1.1 st.outside.2.2 same2

    -- the select and the value of the input that it names
    pub mux_front : (w ins : ℕ) → slice_get net.units n ≡ Some (Mux w ins) → x < ins → Wired net p (at n 0) → Wired net q (at n (x + 1)) → Reaches net scalars s 1 a low (suc n) m (Some (at n 0) ∷ ps) (y ∷ vs)
    mux_front w ins is lt wp wq =
        let out = leaves n 0 (Mux w ins) is (inl refl) in
        let go = mux_goes net scalars s m2 a st.shows n w ins x y p q out.0 is lt wp wq out.1 (spread_front p x (Some q ∷ ps) (y ∷ vs)) (at_second p q x y ps vs st.apart.0.0) (none2 0) in
        putting above below 0 y ps vs go (omega arith) (take_two p q x y ps vs st.apart.0 st.apart.1.0) st.apart.1.1 st.outside.2.2 same2

    -- the condition and the value
    pub branch_front : (w : ℕ) → slice_get net.units n ≡ Some (Branch w) → Wired net p (at n 0) → Wired net q (at n 1)
        → Reaches net scalars s 1 a low (suc n) m (Some (at n (cond (x == 0) 1 0)) ∷ ps) (y ∷ vs)
    branch_front w is wp wq =
        let o : ℕ = cond (x == 0) 1 0 in
        let out = leaves n o (Branch w) is side_out in
        let few : ◌≤◌ 1 1 = omega arith in
        let go = branch_goes net scalars s m2 a st.shows n w x y p q out.0 is wp wq out.1 (spread_front p x (Some q ∷ ps) (y ∷ vs)) (at_second p q x y ps vs st.apart.0.0) (none2 o) in
        putting above below o y ps vs go few (take_two p q x y ps vs st.apart.0 st.apart.1.0) st.apart.1.1 st.outside.2.2 same2
      where
        side_out : HasPlace (outs net false (Branch w)) (cond (x == 0) 1 0)
        side_out = by (x == 0)
          where
            by : (t : Bool) → HasPlace (outs net false (Branch w)) (cond t 1 0)
            by true = inr (inl refl)
            by false = inl refl

  module _ {s : State} {p q t : Place} {x y z : ℕ} {ps : List (Option Place)} {vs : List ℕ} (st : Stage net scalars s a low n m (Some p ∷ Some q ∷ Some t ∷ ps) (x ∷ y ∷ z ∷ vs)) where
    pub select_front : (w : ℕ) → slice_get net.units n ≡ Some (Select w) → Wired net p (at n 0) → Wired net q (at n 1) → Wired net t (at n 2)
        → Reaches net scalars s 1 a low (suc n) m (Some (at n 0) ∷ ps) (chosen_of x y z ∷ vs)
    select_front w is wp wq wt =
        let d = st.apart in
        let all : List (Option Place) = Some p ∷ Some q ∷ Some t ∷ ps in
        let out = leaves n 0 (Select w) is (inl refl) in
        let free = spread_none (at n 0) all (x ∷ y ∷ z ∷ vs) (fresh low n m 0 all below st.outside) in
        let go = select_goes net scalars s (spread all (x ∷ y ∷ z ∷ vs)) a st.shows n w x y z p q t out.0 is wp wq wt out.1
        (spread_front p x (Some q ∷ Some t ∷ ps) (y ∷ z ∷ vs)) (at_second p q x y (Some t ∷ ps) (z ∷ vs) d.0.0) (at_third p q t x y z ps vs d.0.1.0 d.1.0.0) free in
        let same : length ps ≡ length vs = (let e = st.same in omega arith) in
        putting above below 0 (chosen_of x y z) ps vs go (omega arith) (take_three p q t x y z ps vs d.0 d.1.0 d.1.1.0) d.1.1.1 st.outside.2.2.2 same

-- ---- forks of any number of outputs

-- tokens at outputs j and on
abbrev outputs : ℕ → ℕ → ℕ → ℕ → List Token
outputs u j zero v = []
outputs u j (suc k) v = token (at u j) v ∷ outputs u (suc j) k v

outputs_are : (u j k v : ℕ) → j + k < 2 ^ 32 → row (at u j) k v ≡ outputs u j k v
outputs_are u j zero v few = refl
outputs_are u j (suc k) v few =
    let e : after_place (at u j) ≡ at u (suc j) = ap (at u) (let z : plus j 1 ≡ suc j = omega (arith, few) in z) in
    ap (λ l. token (at u j) v ∷ l) (ap (λ p. row p k v) e ∙ outputs_are u (suc j) k v (omega (arith, few)))

outputs_free : (u i j k v : ℕ) (ts : List Token) → i < j → NotIn (at u i) (places ts) → NotIn (at u i) (places (outputs u j k v ++ ts))
outputs_free u i j zero v ts lt h = h
outputs_free u i j (suc k) v ts lt h = ((λ e. (let x : i ≡ j = ap (λ (r : Place). r.place) e in absurd (omega (arith, x, lt)))), outputs_free u i (suc j) k v ts (omega (arith, lt)) h)

outputs_apart : (u j k v : ℕ) (ts : List Token) → ((i : ℕ) → NotIn (at u i) (places ts)) → Apart (places ts) → Apart (places (outputs u j k v ++ ts))
outputs_apart u j zero v ts h d = d
outputs_apart u j (suc k) v ts h d = (outputs_free u j (suc j) k v ts (omega arith) (h j), outputs_apart u (suc j) k v ts h d)

outputs_outside : (low n m u j k v : ℕ) (ts : List Token) → low ≤ u → u < n → Outside low n m (places ts) → Outside low n m (places (outputs u j k v ++ ts))
outputs_outside low n m u j zero v ts a b h = h
outputs_outside low n m u j (suc k) v ts a b h = (a, inl b, outputs_outside low n m u (suc j) k v ts a b h)

outputs_many : (u j k v : ℕ) (ts : List Token) → length (outputs u j k v ++ ts) ≡ k + length ts
outputs_many u j zero v ts = omega arith
outputs_many u j (suc k) v ts = let i = outputs_many u (suc j) k v ts in omega (arith, i)

sends_many : (u j k : ℕ) → length (sends u j k) ≡ suc k
sends_many u j zero = refl
sends_many u j (suc k) = ap suc (sends_many u (suc j) k)

after_same : (u j k x : ℕ) (p : Place) (m m' : Marks) → ((r : Place) → m r ≡ m' r) → (r : Place) → after_sends u j k x p m r ≡ after_sends u j k x p m' r
after_same u j zero x p m m' h r = pushed_same (at u j) x (popped p m) (popped p m') (popped_same p m m' h) r
after_same u j (suc k) x p m m' h r = after_same u (suc j) k x p (pushed (at u j) x m) (pushed (at u j) x m') (pushed_same (at u j) x m m' h) r

marks_after : (u j k x : ℕ) (p : Place) (ts : List Token) → ((i : ℕ) → j ≤ i → NotIn (at u i) (places (token p x ∷ ts))) → Apart (places (token p x ∷ ts)) → (r : Place)
    → after_sends u j k x p (spread (places (token p x ∷ ts)) (values (token p x ∷ ts))) r ≡ spread (places (outputs u j (suc k) x ++ ts)) (values (outputs u j (suc k) x ++ ts)) r
marks_after u j zero x p ts h d r =
    pushed_same (at u j) x (popped p (spread (places (token p x ∷ ts)) (values (token p x ∷ ts)))) (spread (places ts) (values ts)) (take_front p x (places ts) (values ts) d.0) r
    ∙ add_front (at u j) x (places ts) (values ts) (h j (omega arith)).1 r
marks_after u j (suc k) x p ts h d r =
    let all = token p x ∷ ts in
    let us = token (at u j) x ∷ ts in
    let new : NotIn (at u j) (places all) = h j (omega arith) in
    let other : p ≢ at u j = (λ e. new.0 (sym e)) in
    let put : (q : Place) → pushed (at u j) x (spread (places all) (values all)) q ≡ spread (places (token p x ∷ us)) (values (token p x ∷ us)) q =
    (λ q. add_front (at u j) x (places all) (values all) new q ∙ spread_to p x (Some (at u j) ∷ []) (x ∷ []) (places ts) (values ts) refl (other, d.0) q) in
    let fresh' : (i : ℕ) → suc j ≤ i → NotIn (at u i) (places (token p x ∷ us)) =
    (λ i l. let f = h i (omega (arith, l)) in (f.0, ((λ e. (let y : i ≡ j = ap (λ (q : Place). q.place) e in absurd (omega (arith, y, l)))), f.1))) in
    let i = marks_after u (suc j) k x p us fresh' ((other, d.0), (new.1, d.1)) r in
    let moved : spread (places (outputs u (suc j) (suc k) x ++ us)) (values (outputs u (suc j) (suc k) x ++ us)) r ≡ spread (places (outputs u j (suc (suc k)) x ++ ts)) (values (outputs u j (suc (suc k)) x ++ ts)) r =
    marks_kept (to_first (outputs u (suc j) (suc k) x) (token (at u j) x) ts)
    (apart_kept (swaps_back (to_first (outputs u (suc j) (suc k) x) (token (at u j) x) ts)) (outputs_apart_from u j (suc (suc k)) x ts (λ i l. (h i l).1) d.1)) r in
    after_same u (suc j) k x p (pushed (at u j) x (spread (places all) (values all))) (spread (places (token p x ∷ us)) (values (token p x ∷ us))) put r ∙ (i ∙ moved)
  where
    outputs_apart_from : (u j k v : ℕ) (ts : List Token) → ((i : ℕ) → j ≤ i → NotIn (at u i) (places ts)) → Apart (places ts) → Apart (places (outputs u j k v ++ ts))
    outputs_apart_from u j zero v ts h d = d
    outputs_apart_from u j (suc k) v ts h d = (outputs_free u j (suc j) k v ts (omega arith) (h j (omega arith)), outputs_apart_from u (suc j) k v ts (λ i l. h i (omega (arith, l))) d)

pub spots_have : (p k w i : ℕ) (c : Bool) → p ≤ i → i < p + k → HasPlace (spots p w c k) i
spots_have p zero w i c l m = absurd (omega (arith, l, m))
spots_have p (suc k) w i c l m = elim (cases_eq p i) [
  | inl e ↦ inl e
  | inr n ↦ inr (spots_have (suc p) k w i c (grind (arith, l, n)) (omega (arith, m)))
]

fork_outs : (net : Net) (w k i : ℕ) → i ≤ k → HasPlace (outs net false (Fork w (suc k))) i
fork_outs net w k zero l = inl refl
fork_outs net w k (suc i) l = inr (spots_have 1 k w (suc i) false (omega arith) (omega (arith, l)))

module _ {net : Net} {scalars : List ℕ} (leaves : Leaves net) {a : Aside} {low n m : ℕ} (above : low ≤ n) (below : n < m) where
  -- the token in front goes to all outputs
  pub fork_front : {s : State} {p : Place} {x : ℕ} (ts : List Token) → Stage net scalars s a low n m (places (token p x ∷ ts)) (values (token p x ∷ ts))
      → (w k : ℕ) → suc k < 2 ^ 32 → Calm net a → slice_get net.units n ≡ Some (Fork w (suc k)) → Wired net p (at n 0)
      → Reaches net scalars s (suc k) a low (suc n) m (places (row (at n 0) (suc k) x ++ ts)) (values (row (at n 0) (suc k) x ++ ts))
  fork_front {s = s} {p = p} {x = x} ts st w k few calm is wp =
      let all = token p x ∷ ts in
      let free : (i : ℕ) → NotIn (at n i) (places all) = (λ i. fresh low n m i (places all) below st.outside) in
      let out : (i : ℕ) → i ≤ k → (q : Place) × Wired net (at n i) q = (λ i l. leaves n i (Fork w (suc k)) is (fork_outs net w k i l)) in
      let ready : Ready net (spread (places all) (values all)) n 0 k p = record {
        to = λ i lo hi. out i (omega (arith, hi));
        empty = λ i lo hi. spread_none (at n i) (places all) (values all) (free i);
        other = λ i. is_not p (at n i) (λ e. (free i).0 (sym e));
      } in
      let go = fork_all_goes net scalars s (spread (places all) (values all)) a st.shows n w k x p is (ap (λ (o : Own). o.sent) (calm n (Fork w (suc k)) is refl)) wp (spread_front p x (places ts) (values ts)) ready in
      let len = sends_many n 0 k in
      let r = reached (places (outputs n 0 (suc k) x ++ ts)) (values (outputs n 0 (suc k) x ++ ts)) go (omega (arith, len))
      (marks_after n 0 k x p ts (λ i l. free i) st.apart) (outputs_apart n 0 (suc k) x ts (λ i. (free i).1) st.apart.1)
      (outputs_outside low (suc n) m n 0 (suc k) x ts above (omega arith) (outside_more low n (suc n) m (places ts) (omega arith) st.outside.2)) (as_many (outputs n 0 (suc k) x ++ ts)) in
      subst (λ l. Reaches net scalars s (suc k) a low (suc n) m (places (l ++ ts)) (values (l ++ ts))) (sym (outputs_are n 0 (suc k) x (omega (arith, few)))) r
