-- What a firing puts, keeps and writes fits, by the rows of the table of firings.
use Rattle.std.proofs.Common.{◌≡◌, ℕ, zero, suc, ◌+◌, ◌-◌, ◌*◌, ◌<◌, ◌≤◌, ◌^◌, ◌==◌, ◌&&◌, ◌⊎◌, min, not, Bool, true, false, cond, Option, Some, None, is_some, List, [], ◌∷◌, ◌++◌, length, get_or, set, map, refl, sym, ap, subst, ◌∙◌, inl, inr, arith, nat_lt, ltb-true, length-set}
use Rattle.std.proofs.lemmas.Nat.{pow_pos}
use Rattle.std.specs.List.{All, AllZip, list_all, find}
use Rattle.el_base.specs.declared.ty.Ty.{Ty}
use Rattle.el_base.specs.declared.ty.Scalar.{Scalar}
use Rattle.el_base.specs.Widths.{ty_width, op1_out, op2_out}
use Rattle.net_types.specs.declared.net.Net.{Net}
use Rattle.net_types.specs.declared.net.Port.{Port}
use Rattle.net_types.specs.declared.net.Port.TheVariants.{Load, Store}
use Rattle.net_types.specs.declared.net.Unit.{Unit as Kind}
use Rattle.net_types.specs.declared.net.Unit.TheVariants.{Entry, Param, Const, Op1, Op2, Select, Fork, Mux, Cmerge, Branch, Sink, Read, Lsq, Exit}
use Rattle.net_types.specs.declared.firing.Act.{Act}
use Rattle.net_types.specs.declared.firing.Act.TheVariants.{Go, From, Send, Alloc, Addr, Data, Reply, End}
use Rattle.net_types.specs.Inputs.{IsPatternOf}
use Rattle.net_types.specs.Nets.{uses, owns}
use Rattle.net_types.specs.Tables.{Spot, spot, spots, scalar_width, array_width, port_ins, port_outs, result_in, ins, outs}
use Rattle.net_types.specs.Rules.{HasWidth}
use Rattle.net_check.specs.Shapes.{HasShape}
use Rattle.word_ops.specs.Operations.{op1_result, op2_result}
use Rattle.word_ops.specs.Laws.{BelowWidth1, BelowWidth2}
use Rattle.lsq_core.specs.Acts.{can, step, in_place, out_place, value_of, wants_reply}
use Rattle.lsq_core.specs.Laws.{StaysInOrder, StaysInPorts}
use Rattle.lsq_core.proofs.ViewLemmas.{groups_within}
use Rattle.net_core.specs.declared.plan.Put.{Put}
use Rattle.net_core.specs.Fire.{Setting, Row, Stop, Look, Take, Fires, Effect, effect_of, with_head, taking, put_at, put_out, when, on_go, Own, row, go_row, fork_row, cmerge_row, queue_row, exit_fires, sent_to}
use Rattle.net_core.proofs.CellLemmas.{mark_stays, length_sent}
use Rattle.net_core.proofs.QueueActLemmas.{Given, queue_inv, group_within}
use Rattle.net_core.proofs.RestoredLemmas.{OwnForm}
use Rattle.snapshot.specs.Fits.{EntryFits, ValueFits}
use Rattle.snapshot.proofs.StateFits.{OwnFits}
use Rattle.snapshot.proofs.QueueFits.{TokenFits, entries_stay, elements_stay, standing_stays, reply_below, get_below}

-- ---- what holds of each effect of a row whose heads are such

abbrev EachFrom : (ℕ → ℕ → Type 0) → (Effect → Type 0) → Row → Type 0
EachFrom Q P Stop = Unit {0}
EachFrom Q P (Look p next) = (v : ℕ) → Q p v → EachFrom Q P (next v)
EachFrom Q P (Take p next) = (v : ℕ) → Q p v → EachFrom Q (λ e. P (record e { takes = p ∷ e.takes })) (next v)
EachFrom Q P (Fires put own array strays) = P (record { takes = []; put = put; own = own; array = array; strays = strays })

taking_from : (P : Effect → Type 0) (p : ℕ) (o : Option Effect) (e : Effect) → taking p o ≡ Some e → ((x : Effect) → o ≡ Some x → P (record x { takes = p ∷ x.takes })) → P e
taking_from P p None e q h = cc
taking_from P p (Some x) e q h = let k : record x { takes = p ∷ x.takes } ≡ e = cc in subst P k (h x refl)

each_from : (Q : ℕ → ℕ → Type 0) (P : Effect → Type 0) (r : Row) (h : ℕ → Option ℕ) (e : Effect) → ((p v : ℕ) → h p ≡ Some v → Q p v) → EachFrom Q P r → effect_of r h ≡ Some e → P e
each_from Q P Stop h e heads all q = cc
each_from Q P (Look p next) h e heads all q = by (h p) refl q (λ v is i. each_from Q P (next v) h e heads (all v (heads p v is)) i)
  where
    by : (t : Option ℕ) → h p ≡ t → with_head t (λ v. effect_of (next v) h) ≡ Some e → ((v : ℕ) → h p ≡ Some v → effect_of (next v) h ≡ Some e → P e) → P e
    by None is q k = cc
    by (Some v) is q k = k v is q
each_from Q P (Take p next) h e heads all q = by (h p) refl q (λ v is x i. each_from Q (λ e. P (record e { takes = p ∷ e.takes })) (next v) h x heads (all v (heads p v is)) i)
  where
    by : (t : Option ℕ) → h p ≡ t → with_head t (λ v. taking p (effect_of (next v) h)) ≡ Some e
        → ((v : ℕ) → h p ≡ Some v → (x : Effect) → effect_of (next v) h ≡ Some x → P (record x { takes = p ∷ x.takes })) → P e
    by None is q k = cc
    by (Some v) is q k = taking_from P p (effect_of (next v) h) e q (k v is)
each_from Q P (Fires put own array strays) h e heads all q =
    let k : record { takes = []; put = put; own = own; array = array; strays = strays } ≡ e = cc in subst P k all

from_go : (Q : ℕ → ℕ → Type 0) (P : Effect → Type 0) (a : Act) (r : Row) → EachFrom Q P r → EachFrom Q P (on_go a r)
from_go Q P Go r h = h
from_go Q P _ r h = tt

from_when : (Q : ℕ → ℕ → Type 0) (P : Effect → Type 0) (b : Bool) (r : Row) → (b ≡ true → EachFrom Q P r) → EachFrom Q P (when b r)
from_when Q P true r h = h refl
from_when Q P false r h = tt

-- ---- widths of places

width_append : (xs ys : List Spot) (p w : ℕ) → HasWidth (xs ++ ys) p w → HasWidth xs p w ⊎ HasWidth ys p w
width_append [] ys p w h = inr h
width_append (x ∷ xs) ys p w (inl h) = inl (inl h)
width_append (x ∷ xs) ys p w (inr h) = elim (width_append xs ys p w h) [ inl i ↦ inl (inr i) | inr i ↦ inr i ]

spots_width : (q w : ℕ) (c : Bool) (n p x : ℕ) → HasWidth (spots q w c n) p x → (x ≡ w) × (q ≤ p) × (p < q + n)
spots_width q w c zero p x h = absurd h
spots_width q w c (suc n) p x (inl h) = let a = h.0 in (sym h.1, omega arith, omega arith)
spots_width q w c (suc n) p x (inr h) = let r = spots_width (suc q) w c n p x h in let a = r.1 in let b = r.2 in (r.0, omega arith, omega arith)

-- an address place, of 64 bits, or a data place, of the array's width
abbrev PortWidth : ℕ → ℕ → ℕ → ℕ → Type 0
PortWidth b w p x = ((j : ℕ) × (p ≡ b + 2 * j) × (x ≡ 64)) ⊎ ((j : ℕ) × (p ≡ b + 1 + 2 * j) × (x ≡ w))

port_later : (b w p x : ℕ) → PortWidth (b + 2) w p x → PortWidth b w p x
port_later b w p x (inl h) = let e = h.1 in inl (suc h.0, omega arith, h.2)
port_later b w p x (inr h) = let e = h.1 in inr (suc h.0, omega arith, h.2)

port_in_width : (b w : ℕ) (ps : List Port) (p x : ℕ) → HasWidth (port_ins b w ps) p x → PortWidth b w p x
port_in_width b w [] p x h = absurd h
port_in_width b w (Load ∷ ps) p x (inl h) = let e = h.0 in inl (0, omega arith, sym h.1)
port_in_width b w (Load ∷ ps) p x (inr h) = port_later b w p x (port_in_width (b + 2) w ps p x h)
port_in_width b w (Store ∷ ps) p x (inl h) = let e = h.0 in inl (0, omega arith, sym h.1)
port_in_width b w (Store ∷ ps) p x (inr (inl h)) = let e = h.0 in inr (0, omega arith, sym h.1)
port_in_width b w (Store ∷ ps) p x (inr (inr h)) = port_later b w p x (port_in_width (b + 2) w ps p x h)

port_out_width : (b w : ℕ) (ps : List Port) (p x : ℕ) → HasWidth (port_outs b w ps) p x → (x ≡ w) × (b ≤ p)
port_out_width b w [] p x h = absurd h
port_out_width b w (Load ∷ ps) p x (inl h) = let e = h.0 in (sym h.1, omega arith)
port_out_width b w (Load ∷ ps) p x (inr h) = let r = port_out_width (b + 1) w ps p x h in let a = r.1 in (r.0, omega arith)
port_out_width b w (Store ∷ ps) p x h = let r = port_out_width (b + 1) w ps p x h in let a = r.1 in (r.0, omega arith)

-- ---- the table

-- the heads are patterns of their places' widths
abbrev pub HeadFits : Net → Kind → ℕ → ℕ → Type 0
HeadFits net k p v = (w : ℕ) × HasWidth (ins net false k) p w × (v < 2 ^ w)

-- and so is the token that is put
abbrev pub PutFits : Net → Kind → Option Put → Type 0
PutFits net k o = (x : Put) → o ≡ Some x → (w : ℕ) → HasWidth (outs net false k) x.place w → x.value < 2 ^ w

-- elements of the array that a unit owns
abbrev pub ArrayFits : Net → Kind → List ℕ → List ℕ → Type 0
ArrayFits net k xs ys = (a : ℕ) → owns k ≡ Some a → All (λ v. v < 2 ^ array_width net.arrays a) ys × (length ys ≡ length xs)

pub record EffectFits (net : Net) (k : Kind) (xs : List ℕ) (e : Effect) : Type 0 where
  pub put : PutFits net k e.put
  pub form : OwnForm k e.own
  pub own : OwnFits net k e.own
  pub array : ArrayFits net k xs e.array

no_put_fits : (net : Net) (k : Kind) → PutFits net k None
no_put_fits net k x e w h = cc

-- a put at a place whose widths are known
put_fits : (net : Net) (k : Kind) (p v : ℕ) → ((w : ℕ) → HasWidth (outs net false k) p w → v < 2 ^ w) → PutFits net k (put_at p v)
put_fits net k p v h x e w i =
    let a : p ≡ x.place = (let z : record { place = p; value = v } ≡ x = cc in ap (λ (y : Put). y.place) z) in
    let b : v ≡ x.value = (let z : record { place = p; value = v } ≡ x = cc in ap (λ (y : Put). y.value) z) in
    subst (λ n. n < 2 ^ w) b (h w (subst (λ q. HasWidth (outs net false k) q w) (sym a) i))

-- the one output place of a row
one_width : (q w v : ℕ) → v < 2 ^ w → (b : Bool) (x p : ℕ) → HasWidth (spot q w b ∷ []) p x → v < 2 ^ x
one_width q w v l b x p (inl h) = subst (λ n. v < 2 ^ n) h.1 l
one_width q w v l b x p (inr h) = absurd h

module _ (net : Net) (ss : Setting) (scalars : AllZip (λ (s : Scalar) n. IsPatternOf s.ty n) net.scalars ss.scalars) (valued : ss.valued ≡ is_some net.result) (one : BelowWidth1) (two : BelowWidth2) where
  scalar_below : (xs : List Scalar) (vs : List ℕ) (j : ℕ) → AllZip (λ (s : Scalar) n. IsPatternOf s.ty n) xs vs → get_or vs j 0 < 2 ^ scalar_width xs j
  scalar_below [] [] j h = omega arith
  scalar_below [] (v ∷ vs) j h = absurd h
  scalar_below (x ∷ xs) [] j h = absurd h
  scalar_below (x ∷ xs) (v ∷ vs) zero h = h.0
  scalar_below (x ∷ xs) (v ∷ vs) (suc j) h = scalar_below xs vs j h.1

  abbrev Good : Kind → List ℕ → Effect → Type 0
  Good k xs e = EffectFits net k xs e

  -- what only puts keeps what it kept
  abbrev Stays : Kind → Own → List ℕ → Type 0
  Stays k o xs = (put : Option Put) (takes : List ℕ) (n : ℕ) → PutFits net k put → EffectFits net k xs (record { takes = takes; put = put; own = o; array = xs; strays = n })

  stays : (k : Kind) (o : Own) (xs : List ℕ) → owns k ≡ None → OwnForm k o → OwnFits net k o → Stays k o xs
  stays k o xs none form own put takes n h = record { put = h; form = form; own = own; array = λ a e. (let z : None ≡ Some a = sym none ∙ e in cc) }

  -- the heads at given places

  at_width : (k : Kind) (p v w : ℕ) → ((x : ℕ) → HasWidth (ins net false k) p x → x ≡ w) → HeadFits net k p v → v < 2 ^ w
  at_width k p v w h i = subst (λ n. v < 2 ^ n) (h i.0 i.1) i.2

  select_width : (w p x : ℕ) → 1 ≤ p → HasWidth (ins net false (Select w)) p x → x ≡ w
  select_width w p x l (inl h) = let e = h.0 in absurd (omega arith)
  select_width w p x l (inr (inl h)) = sym h.1
  select_width w p x l (inr (inr (inl h))) = sym h.1
  select_width w p x l (inr (inr (inr h))) = absurd h

  mux_width : (w n p x : ℕ) → 1 ≤ p → HasWidth (ins net false (Mux w n)) p x → x ≡ w
  mux_width w n p x l (inl h) = let e = h.0 in absurd (omega arith)
  mux_width w n p x l (inr h) = (spots_width 1 w false n p x h).0

  branch_width : (w p x : ℕ) → 1 ≤ p → HasWidth (ins net false (Branch w)) p x → x ≡ w
  branch_width w p x l (inl h) = let e = h.0 in absurd (omega arith)
  branch_width w p x l (inr (inl h)) = sym h.1
  branch_width w p x l (inr (inr h)) = absurd h

  fork_in : (w n p x : ℕ) → HasWidth (ins net false (Fork w n)) p x → x ≡ w
  fork_in w n p x (inl h) = sym h.1
  fork_in w n p x (inr h) = absurd h

  fork_out : (w n p x : ℕ) → HasWidth (outs net false (Fork w n)) p x → x ≡ w
  fork_out w zero p x h = absurd h
  fork_out w (suc n) p x (inl h) = sym h.1
  fork_out w (suc n) p x (inr h) = (spots_width 1 w false n p x h).0

  branch_out : (w p x : ℕ) → HasWidth (outs net false (Branch w)) p x → x ≡ w
  branch_out w p x (inl h) = sym h.1
  branch_out w p x (inr (inl h)) = sym h.1
  branch_out w p x (inr (inr h)) = absurd h

  exit_width : (t : Ty) (p x : ℕ) → 1 ≤ p → HasWidth (spot 0 32 true ∷ result_in (Some t)) p x → x ≡ ty_width t
  exit_width t p x l (inl h) = let e = h.0 in absurd (omega arith)
  exit_width t p x l (inr (inl h)) = sym h.1
  exit_width t p x l (inr (inr h)) = absurd h

  chosen : (b : Bool) (x y w : ℕ) → x < 2 ^ w → y < 2 ^ w → cond b y x < 2 ^ w
  chosen true x y w l m = m
  chosen false x y w l m = l

  -- a constant is a pattern
  abbrev ConstFits : Kind → Type 0
  ConstFits k = (w n : ℕ) → k ≡ Const w n → n < 2 ^ w

  -- what fires once
  once : (k : Kind) (o : Own) (xs : List ℕ) (v : ℕ) → owns k ≡ None → OwnForm k (record o { fired = true }) → OwnFits net k (record o { fired = true }) → PutFits net k (put_at 0 v)
      → EffectFits net k xs (record { takes = []; put = put_at 0 v; own = record o { fired = true }; array = xs; strays = 0 })
  once k o xs v none form own put = stays k (record o { fired = true }) xs none form own (put_at 0 v) [] 0 put

  exit_fits : (r : Option Ty) → net.result ≡ r → (o : Own) (xs : List ℕ) → OwnForm Exit o → ValueFits r o.fired o.value → EachFrom (HeadFits net Exit) (EffectFits net Exit xs) (exit_fires (is_some r) o xs)
  exit_fits None is o xs form value = λ c hc.
      stays Exit (record o { fired = true }) xs refl (ap (λ (x : Own). record x { fired = true }) form) (subst (λ r. ValueFits r true o.value) (sym is) value) None (0 ∷ []) 0 (no_put_fits net Exit)
  exit_fits (Some t) is o xs form value = λ c hc v hv.
      let w : HasWidth (spot 0 32 true ∷ result_in (Some t)) 1 hv.0 = subst (λ r. HasWidth (spot 0 32 true ∷ result_in r) 1 hv.0) is hv.1 in
      let l : v < 2 ^ ty_width t = subst (λ n. v < 2 ^ n) (exit_width t 1 hv.0 (omega arith) w) hv.2 in
      stays Exit (record o { fired = true; value = Some v }) xs refl (ap (λ (x : Own). record x { fired = true; value = Some v }) form) (subst (λ r. ValueFits r true (Some v)) (sym is) l) None (0 ∷ 1 ∷ []) 0 (no_put_fits net Exit)

  go_fits : (k : Kind) (o : Own) (xs : List ℕ) → ConstFits k → ((a : ℕ) → uses k ≡ Some a → All (λ v. v < 2 ^ array_width net.arrays a) xs) → OwnForm k o → OwnFits net k o
      → EachFrom (HeadFits net k) (EffectFits net k xs) (go_row k o xs ss)
  go_fits Entry o xs wide elements form own =
      from_when (HeadFits net Entry) (EffectFits net Entry xs) (not o.fired) (Fires (put_at 0 0) (record o { fired = true }) xs 0)
      (λ c. once Entry o xs 0 refl (ap (λ (x : Own). record x { fired = true }) form) tt (put_fits net Entry 0 0 (λ w h. one_width 0 32 0 (pow_pos 32) true w 0 h)))
  go_fits (Param j) o xs wide elements form own =
      from_when (HeadFits net (Param j)) (EffectFits net (Param j) xs) (not o.fired) (Fires (put_at 0 (get_or ss.scalars j 0)) (record o { fired = true }) xs 0)
      (λ c. once (Param j) o xs (get_or ss.scalars j 0) refl (ap (λ (x : Own). record x { fired = true }) form) tt
      (put_fits net (Param j) 0 (get_or ss.scalars j 0) (λ w h. one_width 0 (scalar_width net.scalars j) (get_or ss.scalars j 0) (scalar_below net.scalars ss.scalars j scalars) false w 0 h)))
  go_fits (Const wd n) o xs wide elements form own = λ v hv.
      stays (Const wd n) o xs refl form own (put_at 0 n) (0 ∷ []) 0 (put_fits net (Const wd n) 0 n (λ w h. one_width 0 wd n (wide wd n refl) false w 0 h))
  go_fits (Op1 op) o xs wide elements form own = λ v hv.
      stays (Op1 op) o xs refl form own (put_at 0 (op1_result op v)) (0 ∷ []) 0 (put_fits net (Op1 op) 0 (op1_result op v) (λ w h. one_width 0 (op1_out op) (op1_result op v) (one op v) false w 0 h))
  go_fits (Op2 op) o xs wide elements form own = λ v hv x hx.
      stays (Op2 op) o xs refl form own (put_at 0 (op2_result op v x)) (0 ∷ 1 ∷ []) 0 (put_fits net (Op2 op) 0 (op2_result op v x) (λ w h. one_width 0 (op2_out op) (op2_result op v x) (two op v x) false w 0 h))
  go_fits (Select wd) o xs wide elements form own = λ c hc x hx y hy.
      stays (Select wd) o xs refl form own (put_at 0 (cond (c == 0) y x)) (0 ∷ 1 ∷ 2 ∷ []) 0
      (put_fits net (Select wd) 0 (cond (c == 0) y x) (λ w h. one_width 0 wd (cond (c == 0) y x)
      (chosen (c == 0) x y wd (at_width (Select wd) 1 x wd (λ n i. select_width wd 1 n (omega arith) i) hx) (at_width (Select wd) 2 y wd (λ n i. select_width wd 2 n (omega arith) i) hy)) false w 0 h))
  go_fits (Fork wd n) o xs wide elements form own = tt
  go_fits (Mux wd n) o xs wide elements form own = λ c hc v hv.
      stays (Mux wd n) o xs refl form own (put_at 0 v) (0 ∷ (min c (n - 1) + 1) ∷ []) 0
      (put_fits net (Mux wd n) 0 v (λ w h. one_width 0 wd v (at_width (Mux wd n) (min c (n - 1) + 1) v wd (λ m i. mux_width wd n (min c (n - 1) + 1) m (omega arith) i) hv) false w 0 h))
  go_fits (Cmerge n) o xs wide elements form own = tt
  go_fits (Branch wd) o xs wide elements form own = λ c hc v hv.
      stays (Branch wd) o xs refl form own (put_at (cond (c == 0) 1 0) v) (0 ∷ 1 ∷ []) 0
      (put_fits net (Branch wd) (cond (c == 0) 1 0) v (λ w h. subst (λ n. v < 2 ^ n) (sym (branch_out wd (cond (c == 0) 1 0) w h)) (at_width (Branch wd) 1 v wd (λ m i. branch_width wd 1 m (omega arith) i) hv)))
  go_fits (Sink wd) o xs wide elements form own = λ v hv. stays (Sink wd) o xs refl form own None (0 ∷ []) 0 (no_put_fits net (Sink wd))
  go_fits (Read a) o xs wide elements form own = λ v hv.
      stays (Read a) o xs refl form own (put_at 0 (get_or xs v 0)) (0 ∷ []) _
      (put_fits net (Read a) 0 (get_or xs v 0) (λ w h. one_width 0 (array_width net.arrays a) (get_or xs v 0) (get_below (array_width net.arrays a) [] xs v (elements a refl)) false w 0 h))
  go_fits (Lsq a d ps gs f) o xs wide elements form own = tt
  go_fits Exit o xs wide elements form own =
      from_when (HeadFits net Exit) (EffectFits net Exit xs) (not o.fired) (exit_fires ss.valued o xs)
      (λ c. subst (λ b. EachFrom (HeadFits net Exit) (EffectFits net Exit xs) (exit_fires b o xs)) (sym valued) (exit_fits net.result refl o xs form own))

  -- ---- forks and merges

  none_all : (bits : List Bool) → 0 < length bits → list_all (λ b. b) (map (λ (b : Bool). false) bits) ≡ false
  none_all [] l = absurd (omega arith)
  none_all (b ∷ bits) l = refl

  sent_some : (j : ℕ) (sent : List Bool) → 0 < length sent → list_all (λ b. b) (sent_to j sent) ≡ false
  sent_some j sent l = by (list_all (λ b. b) (set sent j true)) refl
    where
      by : (b : Bool) → list_all (λ b. b) (set sent j true) ≡ b → list_all (λ b. b) (cond b (map (λ (b : Bool). false) (set sent j true)) (set sent j true)) ≡ false
      by true e = none_all (set sent j true) (let m = length-set sent j true in omega arith)
      by false e = e

  send_fits : (wd n : ℕ) (a : Act) (o : Own) (xs : List ℕ) → 0 < n → OwnForm (Fork wd n) o → EachFrom (HeadFits net (Fork wd n)) (EffectFits net (Fork wd n) xs) (fork_row n a o xs)
  send_fits wd n (Send j) o xs some form =
      from_when (HeadFits net (Fork wd n)) (EffectFits net (Fork wd n) xs) (nat_lt j n && not (get_or o.sent j true))
      (cond (list_all (λ b. b) (set o.sent j true)) (Take 0 (λ v. Fires (put_at j v) (record o { sent = sent_to j o.sent }) xs 0)) (Look 0 (λ v. Fires (put_at j v) (record o { sent = sent_to j o.sent }) xs 0)))
      (λ c. by (list_all (λ b. b) (set o.sent j true)))
    where
      good : (v : ℕ) (takes : List ℕ) → HeadFits net (Fork wd n) 0 v → EffectFits net (Fork wd n) xs (record { takes = takes; put = put_at j v; own = record o { sent = sent_to j o.sent }; array = xs; strays = 0 })
      good v takes hv =
          stays (Fork wd n) (record o { sent = sent_to j o.sent }) xs refl (ap (λ (x : Own). record x { sent = sent_to j o.sent }) form.0, length_sent j o.sent ∙ form.1)
          (sent_some j o.sent (let l = form.1 in omega arith)) (put_at j v) takes 0
          (put_fits net (Fork wd n) j v (λ w h. subst (λ m. v < 2 ^ m) (sym (fork_out wd n j w h)) (at_width (Fork wd n) 0 v wd (λ m i. fork_in wd n 0 m i) hv)))

      by : (b : Bool) → EachFrom (HeadFits net (Fork wd n)) (EffectFits net (Fork wd n) xs) (cond b (Take 0 (λ v. Fires (put_at j v) (record o { sent = sent_to j o.sent }) xs 0)) (Look 0 (λ v. Fires (put_at j v) (record o { sent = sent_to j o.sent }) xs 0)))
      by true = λ v hv. good v (0 ∷ []) hv
      by false = λ v hv. good v [] hv
  send_fits wd n Go o xs some form = tt
  send_fits wd n a o xs some form = tt

  merge_fits : (n : ℕ) (a : Act) (o : Own) (xs : List ℕ) → n ≤ 2 ^ 32 → OwnForm (Cmerge n) o → EachFrom (HeadFits net (Cmerge n)) (EffectFits net (Cmerge n) xs) (cmerge_row n a o xs)
  merge_fits n (From j) o xs most form =
      from_when (HeadFits net (Cmerge n)) (EffectFits net (Cmerge n) xs) (nat_lt j n) (Take j (λ v. Fires (put_at 0 j) o xs 0))
      (λ c v hv. stays (Cmerge n) o xs refl form tt (put_at 0 j) (j ∷ []) 0 (put_fits net (Cmerge n) 0 j (λ w h. one_width 0 32 j (let l = ltb-true _ _ c in omega arith) true w 0 h)))
  merge_fits n Go o xs most form = tt
  merge_fits n a o xs most form = tt

  -- ---- queues

  module _ (a d : ℕ) (ps : List Port) (gs : List (List ℕ)) (f : Bool) where
    in_low : (p x : ℕ) → p ≤ length gs → HasWidth (ins net false (Lsq a d ps gs f)) p x → x ≡ 32
    in_low p x l h = elim (width_append (spots 0 32 true (suc (length gs))) (port_ins (length gs + 1) (array_width net.arrays a) ps) p x h) [
      | inl i ↦ (spots_width 0 32 true (suc (length gs)) p x i).0
      | inr i ↦ far (port_in_width (length gs + 1) (array_width net.arrays a) ps p x i)
    ]
      where
        far : PortWidth (length gs + 1) (array_width net.arrays a) p x → x ≡ 32
        far (inl k) = let e = k.1 in absurd (omega arith)
        far (inr k) = let e = k.1 in absurd (omega arith)

    in_port : (p x : ℕ) → length gs < p → HasWidth (ins net false (Lsq a d ps gs f)) p x → PortWidth (length gs + 1) (array_width net.arrays a) p x
    in_port p x l h = elim (width_append (spots 0 32 true (suc (length gs))) (port_ins (length gs + 1) (array_width net.arrays a) ps) p x h) [
      | inl i ↦ (let r = (spots_width 0 32 true (suc (length gs)) p x i).2 in absurd (omega arith))
      | inr i ↦ port_in_width (length gs + 1) (array_width net.arrays a) ps p x i
    ]

    out_low : (p x : ℕ) → p ≤ length gs → HasWidth (outs net false (Lsq a d ps gs f)) p x → x ≡ 32
    out_low p x l h = elim (width_append (spots 0 32 true (suc (length gs))) (port_outs (length gs + 1) (array_width net.arrays a) ps) p x h) [
      | inl i ↦ (spots_width 0 32 true (suc (length gs)) p x i).0
      | inr i ↦ (let r = (port_out_width (length gs + 1) (array_width net.arrays a) ps p x i).1 in absurd (omega arith))
    ]

    out_port : (p x : ℕ) → length gs < p → HasWidth (outs net false (Lsq a d ps gs f)) p x → x ≡ array_width net.arrays a
    out_port p x l h = elim (width_append (spots 0 32 true (suc (length gs))) (port_outs (length gs + 1) (array_width net.arrays a) ps) p x h) [
      | inl i ↦ (let r = (spots_width 0 32 true (suc (length gs)) p x i).2 in absurd (omega arith))
      | inr i ↦ (port_out_width (length gs + 1) (array_width net.arrays a) ps p x i).0
    ]

    abbrev HeadsFit : (ℕ → Option ℕ) → Type 0
    HeadsFit h = (p v : ℕ) → h p ≡ Some v → HeadFits net (Lsq a d ps gs f) p v

    token_fits : (act : Act) (h : ℕ → Option ℕ) (v : ℕ) → HeadsFit h → Given (in_place gs act) h v → TokenFits (array_width net.arrays a) ps act v
    token_fits (Addr p) h v heads g =
        let i = heads (length gs + 1 + 2 * p) v g in
        by i.0 i.2 (in_port (length gs + 1 + 2 * p) i.0 (omega arith) i.1)
      where
        by : (x : ℕ) → v < 2 ^ x → PortWidth (length gs + 1) (array_width net.arrays a) (length gs + 1 + 2 * p) x → v < 2 ^ 64
        by x l (inl k) = subst (λ n. v < 2 ^ n) k.2 l
        by x l (inr k) = let e = k.1 in absurd (omega arith)
    token_fits (Data p) h v heads g =
        let i = heads (length gs + 2 + 2 * p) v g in
        by i.0 i.2 (in_port (length gs + 2 + 2 * p) i.0 (omega arith) i.1)
      where
        by : (x : ℕ) → v < 2 ^ x → PortWidth (length gs + 1) (array_width net.arrays a) (length gs + 2 + 2 * p) x → v < 2 ^ array_width net.arrays a
        by x l (inl k) = let e = k.1 in absurd (omega arith)
        by x l (inr k) = subst (λ n. v < 2 ^ n) k.2 l
    token_fits Go h v heads g = tt
    token_fits act h v heads g = tt

    queue_put : (act : Act) (o : Own) (xs : List ℕ) (h : ℕ → Option ℕ) (v : ℕ) → can d gs o.queue act ≡ true → HeadsFit h → Given (in_place gs act) h v → All (EntryFits (array_width net.arrays a) ps) o.queue.items
        → PutFits net (Lsq a d ps gs f) (put_out (out_place gs act) (step ps gs o.queue xs act v).put)
    queue_put (Alloc g) o xs h v c heads i all =
        let l = group_within d gs o.queue g c in
        let t = at_width (Lsq a d ps gs f) g v 32 (λ x k. in_low g x (omega arith) k) (heads g v i) in
        put_fits net (Lsq a d ps gs f) g v (λ w k. subst (λ n. v < 2 ^ n) (sym (out_low g w (omega arith) k)) t)
    queue_put End o xs h v c heads i all =
        let t = at_width (Lsq a d ps gs f) (length gs) v 32 (λ x k. in_low (length gs) x (omega arith) k) (heads (length gs) v i) in
        put_fits net (Lsq a d ps gs f) (length gs) v (λ w k. subst (λ n. v < 2 ^ n) (sym (out_low (length gs) w (omega arith) k)) t)
    queue_put (Reply p) o xs h v c heads i all =
        put_fits net (Lsq a d ps gs f) (length gs + 1 + p) (value_of (find (wants_reply p) o.queue.items)) (λ w k. subst (λ n. value_of (find (wants_reply p) o.queue.items) < 2 ^ n) (sym (out_port (length gs + 1 + p) w (omega arith) k)) (reply_below (array_width net.arrays a) ps o.queue.items p all))
    queue_put Go o xs h v c heads i all = no_put_fits net (Lsq a d ps gs f)
    queue_put act o xs h v c heads i all = no_put_fits net (Lsq a d ps gs f)

    pub queue_fits : StaysInOrder → StaysInPorts → (act : Act) (o : Own) (xs : List ℕ) (h : ℕ → Option ℕ) (e : Effect) → HasShape (Lsq a d ps gs f) → All (λ v. v < 2 ^ array_width net.arrays a) xs
        → OwnForm (Lsq a d ps gs f) o → OwnFits net (Lsq a d ps gs f) o → HeadsFit h → effect_of (queue_row d ps gs act o xs) h ≡ Some e → e.own.queue.next ≤ 2 ^ 62 → EffectFits net (Lsq a d ps gs f) xs e
    queue_fits order ports act o xs h e shape elements form own heads q n =
        let i = queue_inv d ps gs act o xs h e q in
        let v = i.0 in
        let t = token_fits act h i.0 heads i.2 in
        subst (EffectFits net (Lsq a d ps gs f) xs) i.3 (record {
          put = queue_put act o xs h i.0 i.1 heads i.2 own.1;
          form = (ap (λ (x : Own). record x { queue = (step ps gs o.queue xs act i.0).queue }) form.0, mark_stays ps gs o.queue xs act i.0 ∙ form.1);
          own = (
            standing_stays order ports d ps gs o.queue xs act i.0 (groups_within (length ps) d gs shape.each_group) i.1 (subst (λ (x : Effect). x.own.queue.next ≤ 2 ^ 62) (sym i.3) n) own.0,
            entries_stay (array_width net.arrays a) ps d gs o.queue xs act i.0 i.1 t elements own.1,
          );
          array = λ b z. (let y : a ≡ b = cc in subst (λ k. All (λ v. v < 2 ^ array_width net.arrays k) (step ps gs o.queue xs act i.0).array × (length (step ps gs o.queue xs act i.0).array ≡ length xs)) y
              (elements_stay (array_width net.arrays a) ps gs o.queue xs act i.0 elements own.1));
        })

  -- ---- all kinds

  pub row_fits : StaysInOrder → StaysInPorts → (k : Kind) (act : Act) (o : Own) (xs : List ℕ) (h : ℕ → Option ℕ) (e : Effect) → HasShape k → ((w n : ℕ) → k ≡ Const w n → n < 2 ^ w)
      → ((a : ℕ) → uses k ≡ Some a → All (λ v. v < 2 ^ array_width net.arrays a) xs) → OwnForm k o → OwnFits net k o → ((p v : ℕ) → h p ≡ Some v → HeadFits net k p v)
      → effect_of (row k act o xs ss) h ≡ Some e → e.own.queue.next ≤ 2 ^ 62 → EffectFits net k xs e
  unfolding row
  row_fits order ports (Fork wd n) act o xs h e shape wide elements form own heads q m =
      each_from (HeadFits net (Fork wd n)) (EffectFits net (Fork wd n) xs) (fork_row n act o xs) h e heads (send_fits wd n act o xs shape.some form) q
  row_fits order ports (Cmerge n) act o xs h e shape wide elements form own heads q m =
      each_from (HeadFits net (Cmerge n)) (EffectFits net (Cmerge n) xs) (cmerge_row n act o xs) h e heads (merge_fits n act o xs (let l = shape.most in omega arith) form) q
  row_fits order ports (Lsq a d ps gs f) act o xs h e shape wide elements form own heads q m = queue_fits a d ps gs f order ports act o xs h e shape (elements a refl) form own heads q m
  row_fits order ports k act o xs h e shape wide elements form own heads q m =
      each_from (HeadFits net k) (EffectFits net k xs) (on_go act (go_row k o xs ss)) h e heads (from_go (HeadFits net k) (EffectFits net k xs) act (go_row k o xs ss) (go_fits k o xs wide elements form own)) q
