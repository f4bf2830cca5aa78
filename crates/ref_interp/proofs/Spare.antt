-- A run that is over with turns left needs no more than it took: with fewer turns, as long as those that it took are among them, it ends in the same way.
use Rattle.std.proofs.Common.{◌≡◌, ℕ, zero, suc, ◌+◌, ◌<◌, ◌≤◌, List, [], ◌∷◌, map, Option, Some, None, refl, sym, ◌∙◌, ap, subst, arith}
use Rattle.std.specs.Prelude.{Bool, true, false, ℤ, pos}
use Rattle.std.specs.List.{flat_map}
use mathlib.Core.Former.{Count}
use Rattle.el_base.specs.declared.span.Span.{Span}
use Rattle.el_base.specs.declared.ty.Ty.{Ty}
use Rattle.el_base.specs.declared.ty.Ty.TheVariants.{I32}
use Rattle.c_ast.specs.declared.tree.Binary.{Binary}
use Rattle.c_ast.specs.declared.typed.Object.TheVariants as object
use Rattle.c_ast.specs.declared.typed.TypedStmt.{TypedStmt}
use Rattle.c_ast.specs.declared.typed.TypedStmtKind.{TypedStmtKind, Row_of-TypedStmt, end_of-TypedStmt, more_of-TypedStmt, Held-TypedStmtKind-If-2}
use Rattle.c_ast.specs.declared.typed.TypedStmtKind as tree
use Rattle.c_ast.specs.ResultTypes.{joint_type}
use Rattle.c_meaning.specs.Operators.{is_zero}
use Rattle.c_meaning.specs.Stores.{Store, Objects, unset_vars}
use Rattle.c_meaning.specs.Expressions.{Val, undefined_value, value, Meaning, meaning, always, later}
use Rattle.c_meaning.specs.Runs.{How, normally, by_break, by_continue, by_return, undefined, out_of_turns, Ended, Run, ends, taking, turn, go_on, both_runs, with_val, with_value, run_of, branch, after_body, looped, rounds, loop}
use Rattle.c_meaning.specs.Statements.{Act, act, kind_act, act_if_any, row_acts, Place, of_var, Placed, no_place, placed, MeantTarget, target_place, object_type, storing, stored, assigned_to, updated_at, assignment, updated, joined_in, joined_with, read_place, entering, in_order, block, nothing, part, run_if_any, condition, declared_run, returned, body_run, meant_target, meant_if_any, step_operator}
use Rattle.c_meaning.specs.Bounds.{IsOver, with_more}
use Rattle.c_meaning.proofs.Growth.{add_suc}

-- it takes turns away alone
abbrev Takes : Run → Type 0
Takes a = (s : Store) (n : ℕ) → (a s n).left ≤ n

-- what the first run comes to with n + m turns, of which m are left, the second comes to with n, where n is below a bound
pub record Spare (N : ℕ) (a b : Run) : Type 0 where
  pub fewer : Takes a
  pub less : Takes b
  pub same : (s : Store) (n m : ℕ) → n < N → IsOver (a s (n + m)).how → m ≤ (a s (n + m)).left → a s (n + m) ≡ with_more m (b s n)

abbrev pub Sparing : Run → Type 0
Sparing a = (N : ℕ) → Spare N a a

add_none : (m : ℕ) → zero + m ≡ m
add_none m = omega arith

ends_spare : (h : How) → Sparing (ends h)
ends_spare h N = record { fewer = λ s n. omega arith; less = λ s n. omega arith; same = λ s n m lt o le. refl }

-- ---- turns

taking_takes : (t : ℕ) (a : Run) → Takes a → Takes (taking t a)
taking_takes zero a f s n = f s n
taking_takes (suc t) a f s zero = omega arith
taking_takes (suc t) a f s (suc n) = let g = taking_takes t a f s n in omega (arith, g)

-- with m turns alone, of which m are left, nothing runs that takes one
starved : (t : ℕ) (a : Run) (s : Store) (m : ℕ) → Takes a → IsOver (taking (suc t) a s m).how → m ≤ (taking (suc t) a s m).left → ⊥
starved t a s zero f o le = o
starved t a s (suc m) f o le = let g = taking_takes t a f s m in omega (arith, g, le)

starved_at : (t : ℕ) (a : Run) (s : Store) (m : ℕ) → Takes a → IsOver (taking (suc t) a s (zero + m)).how → m ≤ (taking (suc t) a s (zero + m)).left → ⊥
starved_at t a s m f o le = starved t a s m f (subst (λ k. IsOver (taking (suc t) a s k).how) (add_none m) o) (subst (λ k. m ≤ (taking (suc t) a s k).left) (add_none m) le)

taking_same : (N t : ℕ) (a b : Run) → Spare N a b → (s : Store) (n m : ℕ) → n < N → IsOver (taking t a s (n + m)).how → m ≤ (taking t a s (n + m)).left → taking t a s (n + m) ≡ with_more m (taking t b s n)
taking_same N zero a b h s n m lt o le = h.same s n m lt o le
taking_same N (suc t) a b h s zero m lt o le = absurd (starved_at t a s m h.fewer o le)
taking_same N (suc t) a b h s (suc n) m lt o le =
    subst (λ k. taking (suc t) a s k ≡ with_more m (taking t b s n)) (add_suc n m)
    (taking_same N t a b h s n m (omega (arith, lt)) (subst (λ k. IsOver (taking (suc t) a s k).how) (sym (add_suc n m)) o) (subst (λ k. m ≤ (taking (suc t) a s k).left) (sym (add_suc n m)) le))

taking_spare : (N t : ℕ) (a b : Run) → Spare N a b → Spare N (taking t a) (taking t b)
taking_spare N t a b h = record { fewer = taking_takes t a h.fewer; less = taking_takes t b h.less; same = taking_same N t a b h }

-- after a turn the bound is one lower
turn_same : (N : ℕ) (a b : Run) → Spare N a b → (s : Store) (n m : ℕ) → n < suc N → IsOver (turn a s (n + m)).how → m ≤ (turn a s (n + m)).left → turn a s (n + m) ≡ with_more m (turn b s n)
turn_same N a b h s zero m lt o le = absurd (starved_at zero a s m h.fewer o le)
turn_same N a b h s (suc n) m lt o le =
    subst (λ k. turn a s k ≡ with_more m (b s n)) (add_suc n m) (h.same s n m (omega (arith, lt)) (subst (λ k. IsOver (turn a s k).how) (sym (add_suc n m)) o) (subst (λ k. m ≤ (turn a s k).left) (sym (add_suc n m)) le))

turn_spare : (N : ℕ) (a b : Run) → Spare N a b → Spare (suc N) (turn a) (turn b)
turn_spare N a b h = record { fewer = λ s n. taking_takes 1 a h.fewer s n; less = λ s n. taking_takes 1 b h.less s n; same = turn_same N a b h }

turn_sparing : (a : Run) → Sparing a → Sparing (turn a)
turn_sparing a h N = let g = taking_spare N 1 a a (h N) in record { fewer = λ s n. g.fewer s n; less = λ s n. g.less s n; same = λ s n m lt o le. g.same s n m lt o le }

-- ---- values and conditions

val_spare : (N : ℕ) (v : Val) (a b : ℤ → Run) → ((x : ℤ) → Spare N (a x) (b x)) → Spare N (with_val v a) (with_val v b)
val_spare N (undefined_value at) a b h = record { fewer = λ s n. omega arith; less = λ s n. omega arith; same = λ s n m lt o le. refl }
val_spare N (value x t) a b h = let g = taking_spare N t (a x) (b x) (h x) in record { fewer = λ s n. g.fewer s n; less = λ s n. g.less s n; same = λ s n m lt o le. g.same s n m lt o le }

value_spare : (N : ℕ) (e : Meaning) (a b : ℤ → Run) → ((x : ℤ) → Spare N (a x) (b x)) → Spare N (with_value e a) (with_value e b)
value_spare N e a b h = record {
  fewer = λ s n. (val_spare N (e s) a b h).fewer s n;
  less = λ s n. (val_spare N (e s) a b h).less s n;
  same = λ s n m lt o le. (val_spare N (e s) a b h).same s n m lt o le;
}

run_of_spare : (N : ℕ) (t : Bool) (a b c d : Run) → Spare N a b → Spare N c d → Spare N (run_of t a c) (run_of t b d)
run_of_spare N true a b c d g h = record { fewer = λ s n. g.fewer s n; less = λ s n. g.less s n; same = λ s n m lt o le. g.same s n m lt o le }
run_of_spare N false a b c d g h = record { fewer = λ s n. h.fewer s n; less = λ s n. h.less s n; same = λ s n m lt o le. h.same s n m lt o le }

-- ---- one run after another

go_on_takes : (h : How) (c : Run) (s : Store) (k n : ℕ) → Takes c → k ≤ n → (go_on h c s k).left ≤ n
go_on_takes normally c s k n f le = let g = f s k in omega (arith, g, le)
go_on_takes h c s k n f le = le

go_on_over : (h : How) (c : Run) (s : Store) (k : ℕ) → IsOver (go_on h c s k).how → IsOver h
go_on_over out_of_turns c s k o = o
go_on_over h c s k o = tt

go_on_same : (N : ℕ) (h : How) (c d : Run) → Spare N c d → (s : Store) (k m : ℕ) → k < N → IsOver (go_on h c s (k + m)).how → m ≤ (go_on h c s (k + m)).left → go_on h c s (k + m) ≡ with_more m (go_on h d s k)
go_on_same N normally c d h s k m lt o le = h.same s k m lt o le
go_on_same N h c d g s k m lt o le = refl

both_same : (N : ℕ) (a b c d : Run) → Spare N a b → Spare N c d → (s : Store) (n m : ℕ) → n < N → IsOver (both_runs a c s (n + m)).how → m ≤ (both_runs a c s (n + m)).left → both_runs a c s (n + m) ≡ with_more m (both_runs b d s n)
both_same N a b c d g h s n m lt o le =
    let e = a s (n + m) in
    let f = b s n in
    let last = go_on_takes e.how c e.store e.left e.left h.fewer (omega arith) in
    let is : e ≡ with_more m f = g.same s n m lt (go_on_over e.how c e.store e.left o) (omega (arith, last, le)) in
    let low = g.less s n in
    ap (λ (x : Ended). go_on x.how c x.store x.left) is
    ∙ go_on_same N f.how c d h f.store f.left m (omega (arith, low, lt)) (subst (λ (x : Ended). IsOver (go_on x.how c x.store x.left).how) is o) (subst (λ (x : Ended). m ≤ (go_on x.how c x.store x.left).left) is le)

both_takes : (a c : Run) → Takes a → Takes c → Takes (both_runs a c)
both_takes a c f g s n = let e = a s n in go_on_takes e.how c e.store e.left n g (f s n)

both_spare : (N : ℕ) (a b c d : Run) → Spare N a b → Spare N c d → Spare N (both_runs a c) (both_runs b d)
both_spare N a b c d g h = record { fewer = both_takes a c g.fewer h.fewer; less = both_takes b d g.less h.less; same = both_same N a b c d g h }

-- ---- loops

after_takes : (h : How) (c : Run) (s : Store) (k n : ℕ) → Takes c → k ≤ n → (after_body h c s k).left ≤ n
after_takes normally c s k n f le = let g = f s k in omega (arith, g, le)
after_takes by_continue c s k n f le = let g = f s k in omega (arith, g, le)
after_takes h c s k n f le = le

after_over : (h : How) (c : Run) (s : Store) (k : ℕ) → IsOver (after_body h c s k).how → IsOver h
after_over out_of_turns c s k o = o
after_over h c s k o = tt

after_same : (N : ℕ) (h : How) (c d : Run) → Spare N c d → (s : Store) (k m : ℕ) → k < N → IsOver (after_body h c s (k + m)).how → m ≤ (after_body h c s (k + m)).left → after_body h c s (k + m) ≡ with_more m (after_body h d s k)
after_same N normally c d h s k m lt o le = h.same s k m lt o le
after_same N by_continue c d h s k m lt o le = h.same s k m lt o le
after_same N h c d g s k m lt o le = refl

looped_same : (N : ℕ) (a b c d : Run) → Spare N a b → Spare N c d → (s : Store) (n m : ℕ) → n < N → IsOver (looped a c s (n + m)).how → m ≤ (looped a c s (n + m)).left → looped a c s (n + m) ≡ with_more m (looped b d s n)
looped_same N a b c d g h s n m lt o le =
    let e = a s (n + m) in
    let f = b s n in
    let last = after_takes e.how c e.store e.left e.left h.fewer (omega arith) in
    let is : e ≡ with_more m f = g.same s n m lt (after_over e.how c e.store e.left o) (omega (arith, last, le)) in
    let low = g.less s n in
    ap (λ (x : Ended). after_body x.how c x.store x.left) is
    ∙ after_same N f.how c d h f.store f.left m (omega (arith, low, lt)) (subst (λ (x : Ended). IsOver (after_body x.how c x.store x.left).how) is o) (subst (λ (x : Ended). m ≤ (after_body x.how c x.store x.left).left) is le)

looped_takes : (a c : Run) → Takes a → Takes c → Takes (looped a c)
looped_takes a c f g s n = let e = a s n in after_takes e.how c e.store e.left n g (f s n)

looped_spare : (N : ℕ) (a b c d : Run) → Spare N a b → Spare N c d → Spare N (looped a c) (looped b d)
looped_spare N a b c d g h = record { fewer = looped_takes a c g.fewer h.fewer; less = looped_takes b d g.less h.less; same = looped_same N a b c d g h }

none_spare : Sparing (in_order [])
none_spare N = record { fewer = λ s n. omega arith; less = λ s n. omega arith; same = λ s n m lt o le. refl }

branch_spare : (N : ℕ) (e : Meaning) (a b c d : Run) → Spare N a b → Spare N c d → Spare (suc N) (branch (in_order []) e a c) (branch (in_order []) e b d)
branch_spare N e a b c d g h =
    both_spare (suc N) (in_order []) (in_order []) (turn (with_value e (λ x. run_of (is_zero x) c a))) (turn (with_value e (λ x. run_of (is_zero x) d b))) (none_spare (suc N))
    (turn_spare N (with_value e (λ x. run_of (is_zero x) c a)) (with_value e (λ x. run_of (is_zero x) d b))
    (value_spare N e (λ x. run_of (is_zero x) c a) (λ x. run_of (is_zero x) d b) (λ x. run_of_spare N (is_zero x) c d a b h g)))

-- a lower bound
lower : (N : ℕ) (a b : Run) → Spare (suc N) a b → Spare N a b
lower N a b h = record { fewer = h.fewer; less = h.less; same = λ s n m lt o le. h.same s n m (omega (arith, lt)) o le }

branch_sparing : (e : Meaning) (a c : Run) → Sparing a → Sparing c → Sparing (branch (in_order []) e a c)
branch_sparing e a c g h N = lower N (branch (in_order []) e a c) (branch (in_order []) e a c) (branch_spare N e a a c c (g N) (h N))

module _ (e : Meaning) (body step : Run) (f : Sparing body) (g : Sparing step) where
  abbrev round : Run → Run
  round x = branch (in_order []) e (looped body (both_runs step x)) (ends normally)

  round_spare : (j : ℕ) (x y : Run) → Spare j x y → Spare (suc j) (round x) (round y)
  round_spare j x y h =
      branch_spare j e (looped body (both_runs step x)) (looped body (both_runs step y)) (ends normally) (ends normally)
      (looped_spare j body body (both_runs step x) (both_runs step y) (f j) (both_spare j step step x y (g j) h)) (ends_spare normally j)

  -- so many rounds of one loop and of another: a round takes a turn, so those that have no turn are not missed
  rounds_spare : (i j : ℕ) → Spare j (rounds i (in_order []) e body step) (rounds j (in_order []) e body step)
  rounds_spare zero zero = record { fewer = λ s n. omega arith; less = λ s n. omega arith; same = λ s n m lt o le. absurd o }
  rounds_spare (suc i) zero =
      let h = round_spare zero (rounds i (in_order []) e body step) (rounds zero (in_order []) e body step) (rounds_spare i zero) in
      record { fewer = λ s n. h.fewer s n; less = λ s n. omega arith; same = λ s n m lt o le. absurd (omega (arith, lt)) }
  rounds_spare zero (suc j) =
      let h = round_spare j (rounds zero (in_order []) e body step) (rounds j (in_order []) e body step) (rounds_spare zero j) in
      record { fewer = λ s n. omega arith; less = λ s n. h.less s n; same = λ s n m lt o le. absurd o }
  rounds_spare (suc i) (suc j) =
      let h = round_spare j (rounds i (in_order []) e body step) (rounds j (in_order []) e body step) (rounds_spare i j) in
      record { fewer = λ s n. h.fewer s n; less = λ s n. h.less s n; same = λ s n m lt o le. h.same s n m lt o le }

  loop_spare : Sparing (loop (in_order []) e body step)
  loop_spare N = record {
    fewer = λ s n. (rounds_spare (suc n) (suc n)).fewer s n;
    less = λ s n. (rounds_spare (suc n) (suc n)).fewer s n;
    same = λ s n m lt o le. (rounds_spare (suc (n + m)) (suc n)).same s n m (omega arith) o le;
  }

-- ---- statements

nothing_spare : Sparing nothing
nothing_spare N = record { fewer = λ s n. omega arith; less = λ s n. omega arith; same = λ s n m lt o le. refl }

entering_spare : (acts : List Act) (a : Run) → Sparing a → Sparing (entering acts a)
entering_spare acts a h N =
    let g = h N in
    let vs = flat_map (λ (x : Act). x.declares) acts in
    record { fewer = λ s n. g.fewer (unset_vars vs s) n; less = λ s n. g.less (unset_vars vs s) n; same = λ s n m lt o le. g.same (unset_vars vs s) n m lt o le }

part_spare : (a : Act) → Sparing a.run → Sparing (part a)
part_spare a h = entering_spare (a ∷ []) a.run h

abbrev AreSparing : List Act → Type 0
AreSparing [] = Unit {0}
AreSparing (a ∷ as_of) = Sparing a.run × AreSparing as_of

in_order_spare : (acts : List Act) → AreSparing acts → Sparing (in_order acts)
in_order_spare [] h N = none_spare N
in_order_spare (a ∷ acts) h N =
    let g = both_spare N a.run a.run (in_order acts) (in_order acts) (h.0 N) (in_order_spare acts h.1 N) in
    record { fewer = λ s n. g.fewer s n; less = λ s n. g.less s n; same = λ s n m lt o le. g.same s n m lt o le }

abbrev SparingIfAny : Option Act → Type 0
SparingIfAny None = Unit {0}
SparingIfAny (Some a) = Sparing a.run

if_any_spare : (o : Option Act) → SparingIfAny o → Sparing (run_if_any o)
if_any_spare None h = nothing_spare
if_any_spare (Some a) h = part_spare a h

storing_spare : (t : Ty) (p : Place) (x : ℤ) → Sparing (storing t p x)
storing_spare t p x N = record { fewer = λ s n. omega arith; less = λ s n. omega arith; same = λ s n m lt o le. refl }

stored_spare : (t : Ty) (p : Place) (u : ℕ) (v : Val) → Sparing (stored t p u v)
stored_spare t p u v N = val_spare N (later u v) (storing t p) (storing t p) (λ x. storing_spare t p x N)

declared_spare : (k : Objects) (v : ℕ) (m : Option Meaning) → Sparing (declared_run k v m)
declared_spare k v None N = record { fewer = λ s n. omega arith; less = λ s n. omega arith; same = λ s n m lt o le. refl }
declared_spare k v (Some m) N =
    let t = object_type k (object.Var v) in
    let g = value_spare N m (storing t (of_var v)) (storing t (of_var v)) (λ x. storing_spare t (of_var v) x N) in
    record { fewer = λ s n. g.fewer s n; less = λ s n. g.less s n; same = λ s n m lt o le. g.same s n m lt o le }

-- what runs by a place that the store gives
assigned_spare : (t : Ty) (w : Placed) (e : Meaning) → Sparing (assigned_to t w e)
assigned_spare t (no_place at) e N = record { fewer = λ s n. omega arith; less = λ s n. omega arith; same = λ s n m lt o le. refl }
assigned_spare t (placed p u) e N = record {
  fewer = λ s n. (stored_spare t p u (e s) N).fewer s n;
  less = λ s n. (stored_spare t p u (e s) N).less s n;
  same = λ s n m lt o le. (stored_spare t p u (e s) N).same s n m lt o le;
}

updated_at_spare : (t : Ty) (at : Span) (f : ℤ → ℤ → Option ℤ) (w : Placed) (e : Meaning) → Sparing (updated_at t at f w e)
updated_at_spare t at f (no_place q) e N = record { fewer = λ s n. omega arith; less = λ s n. omega arith; same = λ s n m lt o le. refl }
updated_at_spare t at f (placed p u) e N = record {
  fewer = λ s n. (stored_spare t p u (joined_with at f (read_place s p) (e s)) N).fewer s n;
  less = λ s n. (stored_spare t p u (joined_with at f (read_place s p) (e s)) N).less s n;
  same = λ s n m lt o le. (stored_spare t p u (joined_with at f (read_place s p) (e s)) N).same s n m lt o le;
}

updated_spare : (k : Objects) (target : MeantTarget) (op : Binary) (ty : Ty) (e : Meaning) → Sparing (updated k target op ty e)
updated_spare k target op ty e N =
    let t = object_type k target.to in
    let f = joined_in k.profile op (joint_type op t ty) in
    record {
      fewer = λ s n. (updated_at_spare t target.at f (target_place k target s) e N).fewer s n;
      less = λ s n. (updated_at_spare t target.at f (target_place k target s) e N).less s n;
      same = λ s n m lt o le. (updated_at_spare t target.at f (target_place k target s) e N).same s n m lt o le;
    }

assignment_spare : (k : Objects) (target : MeantTarget) (op : Option Binary) (ty : Ty) (e : Meaning) → Sparing (assignment k target op ty e)
assignment_spare k target None ty e N = record {
  fewer = λ s n. (assigned_spare (object_type k target.to) (target_place k target s) e N).fewer s n;
  less = λ s n. (assigned_spare (object_type k target.to) (target_place k target s) e N).less s n;
  same = λ s n m lt o le. (assigned_spare (object_type k target.to) (target_place k target s) e N).same s n m lt o le;
}
assignment_spare k target (Some op) ty e N = updated_spare k target op ty e N

returned_spare : (m : Option Meaning) → Sparing (returned m)
returned_spare None N = record { fewer = λ s n. omega arith; less = λ s n. omega arith; same = λ s n m lt o le. refl }
returned_spare (Some m) N =
    let g = value_spare N m (λ x. ends (by_return (Some x))) (λ x. ends (by_return (Some x))) (λ x. ends_spare (by_return (Some x)) N) in
    record { fewer = λ s n. g.fewer s n; less = λ s n. g.less s n; same = λ s n m lt o le. g.same s n m lt o le }

module _ (k : Objects) where
  mutual
    pub kind_spare : (x : TypedStmtKind) → Sparing (kind_act k x).run
    kind_spare (tree.Block' c row) = turn_sparing (block (row_acts k row)) (entering_spare (row_acts k row) (in_order (row_acts k row)) (in_order_spare (row_acts k row) (row_spare row)))
    kind_spare (tree.Declare v init) = turn_sparing (declared_run k v (meant_if_any k init)) (declared_spare k v (meant_if_any k init))
    kind_spare (tree.Assign t o e) = turn_sparing (assignment k (meant_target k t) o e.ty (meaning k e)) (assignment_spare k (meant_target k t) o e.ty (meaning k e))
    kind_spare (tree.Step t up) = turn_sparing (updated k (meant_target k t) (step_operator up) I32 (always (pos 1))) (updated_spare k (meant_target k t) (step_operator up) I32 (always (pos 1)))
    kind_spare (tree.If' e b (more_of-TypedStmt s at end_of-TypedStmt) o) =
        let yes_part = part (kind_act k s) in
        let no_part = run_if_any (act_if_any k o) in
        turn_sparing (branch (in_order []) (meaning k e) yes_part no_part) (branch_sparing (meaning k e) yes_part no_part (part_spare (kind_act k s) (kind_spare s)) (if_any_spare (act_if_any k o) (held_spare o)))
    kind_spare (tree.While' e b (more_of-TypedStmt s at end_of-TypedStmt)) =
        let body = part (kind_act k s) in
        turn_sparing (loop (in_order []) (meaning k e) body nothing) (loop_spare (meaning k e) body nothing (part_spare (kind_act k s) (kind_spare s)) nothing_spare)
    kind_spare (tree.DoWhile' b (more_of-TypedStmt s at end_of-TypedStmt) e) =
        let body = part (kind_act k s) in
        let rest = loop (in_order []) (meaning k e) body nothing in
        let f = part_spare (kind_act k s) (kind_spare s) in
        turn_sparing (looped body rest) (λ N. looped_spare N body body rest rest (f N) (loop_spare (meaning k e) body nothing f nothing_spare N))
    kind_spare (tree.For' c first e o b (more_of-TypedStmt s at end_of-TypedStmt)) =
        let firsts = row_acts k first in
        let body = part (kind_act k s) in
        let step = run_if_any (act_if_any k o) in
        let rest = loop (in_order []) (condition (meant_if_any k e)) body step in
        turn_sparing (entering firsts (both_runs (in_order firsts) rest))
        (entering_spare firsts (both_runs (in_order firsts) rest)
        (λ N. both_spare N (in_order firsts) (in_order firsts) rest rest (in_order_spare firsts (row_spare first) N)
        (loop_spare (condition (meant_if_any k e)) body step (part_spare (kind_act k s) (kind_spare s)) (if_any_spare (act_if_any k o) (held_spare o)) N)))
    kind_spare tree.Break = turn_sparing (ends by_break) (ends_spare by_break)
    kind_spare tree.Continue = turn_sparing (ends by_continue) (ends_spare by_continue)
    kind_spare (tree.Return e) = turn_sparing (returned (meant_if_any k e)) (returned_spare (meant_if_any k e))
    kind_spare tree.Empty = turn_sparing nothing nothing_spare

    held_spare : (o : Held-TypedStmtKind-If-2) → SparingIfAny (act_if_any k o)
    held_spare tree.None' = tt
    held_spare (tree.Some' b (more_of-TypedStmt s at end_of-TypedStmt)) = kind_spare s

    row_spare : {c : Count} (row : Row_of-TypedStmt c) → AreSparing (row_acts k row)
    row_spare end_of-TypedStmt = tt
    row_spare (more_of-TypedStmt s at row) = (kind_spare s, row_spare row)

  acts_spare : (ss : List TypedStmt) → AreSparing (map (act k) ss)
  acts_spare [] = tt
  acts_spare (s ∷ ss) = (kind_spare s.kind, acts_spare ss)

  pub body_spare : (ss : List TypedStmt) → Sparing (body_run k ss)
  body_spare ss = let acts = map (act k) ss in turn_sparing (block acts) (entering_spare acts (in_order acts) (in_order_spare acts (acts_spare ss)))
