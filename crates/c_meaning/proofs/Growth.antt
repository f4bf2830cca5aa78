-- Each way to put runs together keeps ends under larger bounds, where its parts do.
-- V says of which ends this is asked: of all that are over, or of those without anything undefined. The second run may be that of another profile.
use Rattle.std.specs.List.{flat_map}
use Rattle.std.proofs.Common.{◌≡◌, ℕ, zero, suc, ◌+◌, ◌≤◌, List, [], ◌∷◌, Option, Some, None, refl, sym, ◌∙◌, ap, subst, arith}
use Rattle.std.specs.Prelude.{Bool, true, false, ℤ}
use Rattle.el_base.specs.declared.ty.Ty.{Ty}
use Rattle.el_base.specs.declared.span.Span.{Span}
use Rattle.c_ast.specs.declared.typed.ArrayOf.{ArrayOf}
use Rattle.c_ast.specs.declared.typed.Object.{Object}
use Rattle.c_ast.specs.declared.typed.Object.TheVariants as object
use Rattle.c_meaning.specs.Operators.{is_zero}
use Rattle.c_meaning.specs.Stores.{Store, Objects, unset_vars}
use Rattle.c_meaning.specs.Expressions.{Val, undefined_value, value, after_turns, on_one, later, Vals, undefined_values, values, with_first, Meaning, all_values}
use Rattle.c_meaning.specs.Runs.{How, normally, by_break, by_continue, by_return, undefined, out_of_turns, Run, ends, taking, turn, go_on, both_runs, with_val, with_value, run_of, branch, after_body, looped, rounds, loop}
use Rattle.c_meaning.specs.Statements.{Place, of_var, Placed, no_place, placed, placed_after, place_by, object_type, object_place, read_place, storing, stored, assigned_to, joined_with, updated_at, Act, entering, in_order, block, nothing, part, run_if_any, condition, declared_run, returned}
use Rattle.c_meaning.specs.Bounds.{with_more}

-- what the ends that are asked about have in common
pub record Allows (V : How → Type 0) : Type 0 where
  pub on_normally : V normally
  pub on_break : V by_break
  pub on_continue : V by_continue
  pub in_turns : V out_of_turns → ⊥

-- what ends so in the first run ends so in the second within more turns
abbrev pub Grows : (How → Type 0) → Run → Run → Type 0
Grows V a b = (s : Store) (n m : ℕ) → V (a s n).how → b s (n + m) ≡ with_more m (a s n)

-- a value of the first is one of the second, and so is what is undefined where that is asked about
abbrev pub SameVal : (How → Type 0) → Val → Val → Type 0
SameVal V (undefined_value at) w = V (undefined at) → w ≡ undefined_value at
SameVal V (value x t) w = w ≡ value x t

abbrev pub SameVals : (How → Type 0) → Vals → Vals → Type 0
SameVals V (undefined_values at) w = V (undefined at) → w ≡ undefined_values at
SameVals V (values xs t) w = w ≡ values xs t

abbrev pub SamePlaced : (How → Type 0) → Placed → Placed → Type 0
SamePlaced V (no_place at) w = V (undefined at) → w ≡ no_place at
SamePlaced V (placed p t) w = w ≡ placed p t

abbrev pub SameNumber : (How → Type 0) → Span → Option ℤ → Option ℤ → Type 0
SameNumber V at None o = V (undefined at) → o ≡ None
SameNumber V at (Some z) o = o ≡ Some z

abbrev pub SameMeaning : (How → Type 0) → Meaning → Meaning → Type 0
SameMeaning V m n = (s : Store) → SameVal V (m s) (n s)

-- one for one
abbrev pub SameMeanings : (How → Type 0) → List Meaning → List Meaning → Type 0
SameMeanings V [] [] = Unit {0}
SameMeanings V (m ∷ ms) (n ∷ ns) = SameMeaning V m n × SameMeanings V ms ns
SameMeanings V [] (n ∷ ns) = ⊥
SameMeanings V (m ∷ ms) [] = ⊥

abbrev pub SameIfAny : (How → Type 0) → Option Meaning → Option Meaning → Type 0
SameIfAny V None None = Unit {0}
SameIfAny V (Some m) (Some n) = SameMeaning V m n
SameIfAny V None (Some n) = ⊥
SameIfAny V (Some m) None = ⊥

pub record ActGrows (V : How → Type 0) (a b : Act) : Type 0 where
  pub same : a.declares ≡ b.declares
  pub grows : Grows V a.run b.run

abbrev pub ActsGrow : (How → Type 0) → List Act → List Act → Type 0
ActsGrow V [] [] = Unit {0}
ActsGrow V (a ∷ as_of) (b ∷ bs) = ActGrows V a b × ActsGrow V as_of bs
ActsGrow V [] (b ∷ bs) = ⊥
ActsGrow V (a ∷ as_of) [] = ⊥

abbrev pub HeldGrows : (How → Type 0) → Option Act → Option Act → Type 0
HeldGrows V None None = Unit {0}
HeldGrows V (Some a) (Some b) = ActGrows V a b
HeldGrows V None (Some b) = ⊥
HeldGrows V (Some a) None = ⊥

pub same_val : (V : How → Type 0) (v : Val) → SameVal V v v
same_val V (undefined_value at) = λ o. refl
same_val V (value x t) = refl

pub same_number : (V : How → Type 0) (at : Span) (o : Option ℤ) → SameNumber V at o o
same_number V at None = λ v. refl
same_number V at (Some z) = refl

pub same_meanings : (V : How → Type 0) (ms : List Meaning) → SameMeanings V ms ms
same_meanings V [] = tt
same_meanings V (m ∷ ms) = (λ s. same_val V (m s), same_meanings V ms)

pub add_suc : (n m : ℕ) → suc (n + m) ≡ suc n + m
add_suc n m = omega arith

module _ (V : How → Type 0) (rule : Allows V) where
  pub ends_grow : (h : How) → Grows V (ends h) (ends h)
  ends_grow h s n m o = refl

  pub taking_grows : (t : ℕ) (a b : Run) → Grows V a b → Grows V (taking t a) (taking t b)
  taking_grows zero a b g s n m o = g s n m o
  taking_grows (suc t) a b g s zero m o = absurd (rule.in_turns o)
  taking_grows (suc t) a b g s (suc n) m o = subst (λ k. taking (suc t) b s k ≡ with_more m (taking t a s n)) (add_suc n m) (taking_grows t a b g s n m o)

  -- a run that takes a turn first
  pub turn_grows : (a b : Run) → Grows V a b → Grows V (turn a) (turn b)
  turn_grows a b g s n m o = taking_grows 1 a b g s n m o

  go_on_grows : (h : How) (a b : Run) → Grows V a b → Grows V (go_on h a) (go_on h b)
  go_on_grows normally a b g s n m o = g s n m o
  go_on_grows by_break a b g s n m o = refl
  go_on_grows by_continue a b g s n m o = refl
  go_on_grows (by_return v) a b g s n m o = refl
  go_on_grows (undefined at) a b g s n m o = refl
  go_on_grows out_of_turns a b g s n m o = refl

  pub go_on_over : (h : How) (a : Run) (s : Store) (n : ℕ) → V (go_on h a s n).how → V h
  go_on_over normally a s n o = rule.on_normally
  go_on_over by_break a s n o = o
  go_on_over by_continue a s n o = o
  go_on_over (by_return v) a s n o = o
  go_on_over (undefined at) a s n o = o
  go_on_over out_of_turns a s n o = o

  pub both_grow : (a b c d : Run) → Grows V a b → Grows V c d → Grows V (both_runs a c) (both_runs b d)
  both_grow a b c d g h s n m o =
      let e = a s n in
      let is : b s (n + m) ≡ with_more m e = g s n m (go_on_over e.how c e.store e.left o) in
      ap (λ f. go_on f.how d f.store f.left) is ∙ go_on_grows e.how c d h e.store e.left m o

  after_grows : (h : How) (a b : Run) → Grows V a b → Grows V (after_body h a) (after_body h b)
  after_grows normally a b g s n m o = g s n m o
  after_grows by_break a b g s n m o = refl
  after_grows by_continue a b g s n m o = g s n m o
  after_grows (by_return v) a b g s n m o = refl
  after_grows (undefined at) a b g s n m o = refl
  after_grows out_of_turns a b g s n m o = refl

  pub after_over : (h : How) (a : Run) (s : Store) (n : ℕ) → V (after_body h a s n).how → V h
  after_over normally a s n o = rule.on_normally
  after_over by_break a s n o = rule.on_break
  after_over by_continue a s n o = rule.on_continue
  after_over (by_return v) a s n o = o
  after_over (undefined at) a s n o = o
  after_over out_of_turns a s n o = o

  pub looped_grows : (a b c d : Run) → Grows V a b → Grows V c d → Grows V (looped a c) (looped b d)
  looped_grows a b c d g h s n m o =
      let e = a s n in
      let is : b s (n + m) ≡ with_more m e = g s n m (after_over e.how c e.store e.left o) in
      ap (λ f. after_body f.how d f.store f.left) is ∙ after_grows e.how c d h e.store e.left m o

  with_val_grows : (v w : Val) (a b : ℤ → Run) → SameVal V v w → ((x : ℤ) → Grows V (a x) (b x)) → Grows V (with_val v a) (with_val w b)
  with_val_grows (undefined_value at) w a b q g s n m o = ap (λ u. with_val u b s (n + m)) (q o)
  with_val_grows (value x t) w a b q g s n m o = ap (λ u. with_val u b s (n + m)) q ∙ taking_grows t (a x) (b x) (g x) s n m o

  with_value_grows : (e f : Meaning) (a b : ℤ → Run) → SameMeaning V e f → ((x : ℤ) → Grows V (a x) (b x)) → Grows V (with_value e a) (with_value f b)
  with_value_grows e f a b q g s n m o = with_val_grows (e s) (f s) a b (q s) g s n m o

  run_of_grows : (t : Bool) (a b c d : Run) → Grows V a b → Grows V c d → Grows V (run_of t a c) (run_of t b d)
  run_of_grows true a b c d g h s n m o = g s n m o
  run_of_grows false a b c d g h s n m o = h s n m o

  pub branch_grows : (p q : Run) (e f : Meaning) (a b c d : Run) → Grows V p q → SameMeaning V e f → Grows V a b → Grows V c d → Grows V (branch p e a c) (branch q f b d)
  branch_grows p q e f a b c d i j g h =
      both_grow p q (turn (with_value e (λ x. run_of (is_zero x) c a))) (turn (with_value f (λ x. run_of (is_zero x) d b))) i
      (turn_grows (with_value e (λ x. run_of (is_zero x) c a)) (with_value f (λ x. run_of (is_zero x) d b))
      (with_value_grows e f (λ x. run_of (is_zero x) c a) (λ x. run_of (is_zero x) d b) j (λ x. run_of_grows (is_zero x) c d a b h g)))

  -- a loop of r rounds, and of more rounds
  rounds_grow : (r k : ℕ) → r ≤ k → (p q : Run) (e f : Meaning) (a b c d : Run) → Grows V p q → SameMeaning V e f → Grows V a b → Grows V c d → Grows V (rounds r p e a c) (rounds k q f b d)
  rounds_grow zero k le p q e f a b c d i j g h = λ s n m o. absurd (rule.in_turns o)
  rounds_grow (suc r) zero le p q e f a b c d i j g h = absurd (omega arith)
  rounds_grow (suc r) (suc k) le p q e f a b c d i j g h =
      let rest = rounds_grow r k (omega arith) p q e f a b c d i j g h in
      branch_grows p q e f (looped a (both_runs c (rounds r p e a c))) (looped b (both_runs d (rounds k q f b d))) (ends normally) (ends normally) i j
      (looped_grows a b (both_runs c (rounds r p e a c)) (both_runs d (rounds k q f b d)) g (both_grow c d (rounds r p e a c) (rounds k q f b d) h rest)) (ends_grow normally)

  pub loop_grows : (p q : Run) (e f : Meaning) (a b c d : Run) → Grows V p q → SameMeaning V e f → Grows V a b → Grows V c d → Grows V (loop p e a c) (loop q f b d)
  loop_grows p q e f a b c d i j g h s n m o = rounds_grow (suc n) (suc (n + m)) (omega arith) p q e f a b c d i j g h s n m o

  pub in_order_grows : (as_of bs : List Act) → ActsGrow V as_of bs → Grows V (in_order as_of) (in_order bs)
  in_order_grows [] [] all = ends_grow normally
  in_order_grows (a ∷ as_of) (b ∷ bs) all = both_grow a.run b.run (in_order as_of) (in_order bs) all.0.grows (in_order_grows as_of bs all.1)
  in_order_grows [] (b ∷ bs) all = absurd all
  in_order_grows (a ∷ as_of) [] all = absurd all

  same_declared : (as_of bs : List Act) → ActsGrow V as_of bs → flat_map (λ x. x.declares) as_of ≡ flat_map (λ x. x.declares) bs
  same_declared [] [] all = refl
  same_declared (a ∷ as_of) (b ∷ bs) all = let e = all.0.same in let f = same_declared as_of bs all.1 in cc
  same_declared [] (b ∷ bs) all = absurd all
  same_declared (a ∷ as_of) [] all = absurd all

  -- what enters a scope first
  pub entering_grows : (as_of bs : List Act) (a b : Run) → ActsGrow V as_of bs → Grows V a b → Grows V (entering as_of a) (entering bs b)
  entering_grows as_of bs a b all g s n m o =
      let vs = flat_map (λ x. x.declares) as_of in
      ap (λ u. b (unset_vars u s) (n + m)) (sym (same_declared as_of bs all)) ∙ g (unset_vars vs s) n m o

  pub block_grows : (as_of bs : List Act) → ActsGrow V as_of bs → Grows V (block as_of) (block bs)
  block_grows as_of bs all = entering_grows as_of bs (in_order as_of) (in_order bs) all (in_order_grows as_of bs all)

  pub part_grows : (a b : Act) → ActGrows V a b → Grows V (part a) (part b)
  part_grows a b g = entering_grows (a ∷ []) (b ∷ []) a.run b.run (g, tt) g.grows

  pub nothing_grows : Grows V nothing nothing
  nothing_grows s n m o = refl

  pub if_any_grows : (a b : Option Act) → HeldGrows V a b → Grows V (run_if_any a) (run_if_any b)
  if_any_grows None None g = nothing_grows
  if_any_grows (Some a) (Some b) g = part_grows a b g
  if_any_grows None (Some b) g = absurd g
  if_any_grows (Some a) None g = absurd g

  -- ---- values

  storing_grows : (t : Ty) (p : Place) (x : ℤ) → Grows V (storing t p x) (storing t p x)
  storing_grows t p x s n m o = refl

  pub later_same : (u : ℕ) (v w : Val) → SameVal V v w → SameVal V (later u v) (later u w)
  later_same u (undefined_value at) w q = λ o. ap (later u) (q o)
  later_same u (value x t) w q = ap (later u) q

  stored_grows : (t : Ty) (p : Place) (u : ℕ) (v w : Val) → SameVal V v w → Grows V (stored t p u v) (stored t p u w)
  stored_grows t p u v w q = with_val_grows (later u v) (later u w) (storing t p) (storing t p) (later_same u v w q) (storing_grows t p)

  pub after_same : (at : Span) (t : ℕ) (o p : Option ℤ) → SameNumber V at o p → SameVal V (after_turns at t o) (after_turns at t p)
  after_same at t None p q = λ v. ap (after_turns at t) (q v)
  after_same at t (Some z) p q = ap (after_turns at t) q

  pub on_one_same : (at : Span) (f g : ℤ → Option ℤ) (v w : Val) → ((x : ℤ) → SameNumber V at (f x) (g x)) → SameVal V v w → SameVal V (on_one at f v) (on_one at g w)
  on_one_same at f g (undefined_value p) w h q = λ o. ap (on_one at g) (q o)
  on_one_same at f g (value x t) w h q = subst (λ u. SameVal V (after_turns at t (f x)) (on_one at g u)) (sym q) (after_same at t (f x) (g x) (h x))

  with_first_same : (v w : Val) (vs ws : Vals) → SameVal V v w → SameVals V vs ws → SameVals V (with_first v vs) (with_first w ws)
  with_first_same (undefined_value at) w vs ws q r = λ o. ap (λ u. with_first u ws) (q o)
  with_first_same (value x t) w (undefined_values at) ws q r = λ o. ap (λ u. with_first u ws) q ∙ ap (λ u. with_first (value x t) u) (r o)
  with_first_same (value x t) w (values xs u) ws q r = ap (λ u. with_first u ws) q ∙ ap (λ u. with_first (value x t) u) r

  pub all_same : (ms ns : List Meaning) (s : Store) → SameMeanings V ms ns → SameVals V (all_values ms s) (all_values ns s)
  all_same [] [] s q = refl
  all_same (m ∷ ms) (n ∷ ns) s q = with_first_same (m s) (n s) (all_values ms s) (all_values ns s) (q.0 s) (all_same ms ns s q.1)
  all_same [] (n ∷ ns) s q = absurd q
  all_same (m ∷ ms) [] s q = absurd q

  joined_same : (at : Span) (f g : ℤ → ℤ → Option ℤ) (old : Option ℤ) (v w : Val) → ((x y : ℤ) → SameNumber V at (f x y) (g x y)) → SameVal V v w → SameVal V (joined_with at f old v) (joined_with at g old w)
  joined_same at f g None v w h q = λ o. refl
  joined_same at f g (Some old) v w h q = on_one_same at (f old) (g old) v w (h old) q

  same_placed : (p : Placed) → SamePlaced V p p
  same_placed (no_place at) = λ o. refl
  same_placed (placed p t) = refl

  pub placed_same : (arrays : List ArrayOf) (to : Object) (at : Span) (vs ws : Vals) → SameVals V vs ws → SamePlaced V (place_by arrays to at vs) (place_by arrays to at ws)
  placed_same arrays to at (undefined_values p) ws q = λ o. ap (place_by arrays to at) (q o)
  placed_same arrays to at (values is t) ws q =
      let r = placed_after at t (object_place arrays to is) in
      subst (λ u. SamePlaced V r (place_by arrays to at u)) (sym q) (same_placed r)

  pub assigned_to_grows : (t : Ty) (p q : Placed) (e f : Meaning) → SamePlaced V p q → SameMeaning V e f → Grows V (assigned_to t p e) (assigned_to t q f)
  assigned_to_grows t (no_place at) q e f i j s n m o = ap (λ u. assigned_to t u f s (n + m)) (i o)
  assigned_to_grows t (placed p u) q e f i j s n m o = ap (λ r. assigned_to t r f s (n + m)) i ∙ stored_grows t p u (e s) (f s) (j s) s n m o

  pub updated_at_grows : (t : Ty) (at : Span) (g h : ℤ → ℤ → Option ℤ) (p q : Placed) (e f : Meaning) → ((x y : ℤ) → SameNumber V at (g x y) (h x y)) → SamePlaced V p q → SameMeaning V e f
      → Grows V (updated_at t at g p e) (updated_at t at h q f)
  updated_at_grows t at g h (no_place a) q e f k i j s n m o = ap (λ u. updated_at t at h u f s (n + m)) (i o)
  updated_at_grows t at g h (placed p u) q e f k i j s n m o =
      let old = read_place s p in
      ap (λ r. updated_at t at h r f s (n + m)) i ∙ stored_grows t p u (joined_with at g old (e s)) (joined_with at h old (f s)) (joined_same at g h old (e s) (f s) k (j s)) s n m o

  pub returned_grows : (e f : Option Meaning) → SameIfAny V e f → Grows V (returned e) (returned f)
  returned_grows None None q s n m o = refl
  returned_grows (Some e) (Some f) q s n m o = with_value_grows e f (λ x. ends (by_return (Some x))) (λ x. ends (by_return (Some x))) q (λ x. ends_grow (by_return (Some x))) s n m o
  returned_grows None (Some f) q s n m o = absurd q
  returned_grows (Some e) None q s n m o = absurd q

  pub condition_same : (e f : Option Meaning) → SameIfAny V e f → SameMeaning V (condition e) (condition f)
  condition_same None None q s = refl
  condition_same (Some e) (Some f) q s = q s
  condition_same None (Some f) q s = absurd q
  condition_same (Some e) None q s = absurd q

  pub declared_grows : (k l : Objects) (v : ℕ) (e f : Option Meaning) → object_type k (object.Var v) ≡ object_type l (object.Var v) → SameIfAny V e f → Grows V (declared_run k v e) (declared_run l v f)
  declared_grows k l v None None t q s n m o = refl
  declared_grows k l v (Some e) (Some f) t q s n m o =
      ap (λ u. with_value f (storing u (of_var v)) s (n + m)) (sym t)
      ∙ with_value_grows e f (storing (object_type k (object.Var v)) (of_var v)) (storing (object_type k (object.Var v)) (of_var v)) q (storing_grows (object_type k (object.Var v)) (of_var v)) s n m o
  declared_grows k l v None (Some f) t q s n m o = absurd q
  declared_grows k l v (Some e) None t q s n m o = absurd q
