-- Runs of statements leave stores that fit, and return results in range.
use Rattle.std.specs.List.{flat_map}
use Rattle.std.proofs.Common.{◌≡◌, ℕ, zero, suc, List, [], ◌∷◌, map, Option, Some, None, refl, sym, subst}
use Rattle.std.proofs.lemmas.List.Elements.{All-head, All-tail}
use Rattle.std.specs.Prelude.{Bool, true, false, ℤ, pos, All}
use mathlib.Core.Former.{Count}
use Rattle.el_base.specs.declared.ty.Ty.{Ty}
use Rattle.el_base.specs.declared.ty.Ty.TheVariants.{I32}
use Rattle.el_base.specs.declared.span.Span.{Span}
use Rattle.el_base.specs.Numbers.{IsInRange}
use Rattle.c_ast.specs.ResultTypes.{joint_type}
use Rattle.c_ast.specs.declared.tree.Binary.{Binary}
use Rattle.c_ast.specs.declared.typed.Object.{Object}
use Rattle.c_ast.specs.declared.typed.Object.TheVariants as object
use Rattle.c_ast.specs.declared.typed.TypedExpr.{TypedExpr}
use Rattle.c_ast.specs.declared.typed.TypedStmt.{TypedStmt}
use Rattle.c_ast.specs.declared.typed.TypedStmtKind.{TypedStmtKind, Row_of-TypedStmt, end_of-TypedStmt, more_of-TypedStmt, Held-TypedStmtKind-If-2}
use Rattle.c_ast.specs.declared.typed.TypedStmtKind as tree
use Rattle.c_ast.specs.declared.normal.NormalStmt.{NormalStmt}
use Rattle.c_ast.specs.declared.normal.NormalStmtKind.{NormalStmtKind, Row_of-NormalStmt, end_of-NormalStmt, more_of-NormalStmt, Held-NormalStmtKind-If-3}
use Rattle.c_ast.specs.declared.normal.NormalStmtKind as normal
use Rattle.c_meaning.specs.Types.{conv}
use Rattle.c_meaning.specs.Operators.{is_zero}
use Rattle.c_meaning.specs.Stores.{Store, Objects, AreArraysOf, IsFitting, unset_vars, opening, place}
use Rattle.c_meaning.specs.Expressions.{Val, undefined_value, value, Vals, undefined_values, values, Meaning, later, all_values, meaning, always}
use Rattle.c_meaning.specs.Runs.{How, normally, by_break, by_continue, by_return, undefined, out_of_turns, Run, ends, taking, turn, go_on, both_runs, with_val, with_value, run_of, branch, after_body, looped, rounds, loop}
use Rattle.c_meaning.specs.Statements.{object_type, Place, of_var, of_element, element_place, read_place, MeantTarget, Placed, no_place, placed, placed_after, place_by, storing, stored, assigned_to, assigned, joined_in, joined_with, updated_at, updated, assignment, step_operator, Act, entering, in_order, block, nothing, part, run_if_any, condition, declared_run, returned, meant_target, meant_if_any, kind_act, act_if_any, row_acts, act, objects, body_run, kernel_end, kernel_run, IsResult}
use Rattle.c_meaning.specs.Normals.{normal_kind_act, normal_act_if_any, normal_row_acts, normal_act, normal_objects, normal_body_run, normal_run}
use Rattle.c_meaning.specs.Lawful.{LawfulExpr, LawfulReturn, LawfulStmt, LawfulStmtHeld, LawfulStmts, LawfulNormalExpr, LawfulNormalStmt, LawfulNormalStmtHeld, LawfulNormalStmts}
use Rattle.c_meaning.specs.Ranges.{IsResultIn, ReturnsIn, EndsFitting, StatementsFit, NormalStatementsFit, KernelsFit, NormalsFit, ResultsFit, NormalResultsFit}
use Rattle.c_meaning.proofs.RangeOperators.{PatternLaws, conv_in}
use Rattle.c_meaning.proofs.RangeValues.{ValIn, kind_in}
use Rattle.c_meaning.proofs.RangeStores.{unset_fits, place_type, write_fits, opening_fits, normal_opening_fits}

module _ (laws : PatternLaws) (k : Objects) (r : Option Ty) where
  abbrev RunFits : Run → Type 0
  RunFits a = (s : Store) (n : ℕ) → IsFitting k s → EndsFitting k r (a s n)

  -- an end that returns nothing
  abbrev ActsFit : List Act → Type 0
  ActsFit [] = Unit {0}
  ActsFit (a ∷ rest) = RunFits a.run × ActsFit rest

  abbrev HeldFits : Option Act → Type 0
  HeldFits None = Unit {0}
  HeldFits (Some a) = RunFits a.run

  ends_fit : (h : How) → ReturnsIn r h → RunFits (ends h)
  ends_fit h i s n f = record { store = f; returns = i }

  taking_fits : (t : ℕ) (a : Run) → RunFits a → RunFits (taking t a)
  taking_fits zero a g s n f = g s n f
  taking_fits (suc t) a g s zero f = record { store = f; returns = tt }
  taking_fits (suc t) a g s (suc n) f = taking_fits t a g s n f

  turn_fits : (a : Run) → RunFits a → RunFits (turn a)
  turn_fits a g s n f = taking_fits 1 a g s n f

  go_on_fits : (h : How) (a : Run) → RunFits a → ReturnsIn r h → RunFits (go_on h a)
  go_on_fits normally a g i s n f = g s n f
  go_on_fits by_break a g i s n f = record { store = f; returns = i }
  go_on_fits by_continue a g i s n f = record { store = f; returns = i }
  go_on_fits (by_return v) a g i s n f = record { store = f; returns = i }
  go_on_fits (undefined at) a g i s n f = record { store = f; returns = i }
  go_on_fits out_of_turns a g i s n f = record { store = f; returns = i }

  both_fit : (a b : Run) → RunFits a → RunFits b → RunFits (both_runs a b)
  both_fit a b g h s n f =
      let e = a s n in
      let i = g s n f in
      go_on_fits e.how b h i.returns e.store e.left i.store

  after_fits : (h : How) (a : Run) → RunFits a → ReturnsIn r h → RunFits (after_body h a)
  after_fits normally a g i s n f = g s n f
  after_fits by_break a g i s n f = record { store = f; returns = tt }
  after_fits by_continue a g i s n f = g s n f
  after_fits (by_return v) a g i s n f = record { store = f; returns = i }
  after_fits (undefined at) a g i s n f = record { store = f; returns = i }
  after_fits out_of_turns a g i s n f = record { store = f; returns = i }

  looped_fits : (a b : Run) → RunFits a → RunFits b → RunFits (looped a b)
  looped_fits a b g h s n f =
      let e = a s n in
      let i = g s n f in
      after_fits e.how b h i.returns e.store e.left i.store

  any_val_fits : (v : Val) (a : ℤ → Run) → ((x : ℤ) → RunFits (a x)) → RunFits (with_val v a)
  any_val_fits (undefined_value at) a g s n f = record { store = f; returns = tt }
  any_val_fits (value x t) a g s n f = taking_fits t (a x) (g x) s n f

  val_fits : (t : Ty) (v : Val) (a : ℤ → Run) → ValIn t v → ((x : ℤ) → IsInRange t x → RunFits (a x)) → RunFits (with_val v a)
  val_fits t (undefined_value at) a i g s n f = record { store = f; returns = tt }
  val_fits t (value x m) a i g s n f = taking_fits m (a x) (g x i) s n f

  run_of_fits : (b : Bool) (a c : Run) → RunFits a → RunFits c → RunFits (run_of b a c)
  run_of_fits true a c g h s n f = g s n f
  run_of_fits false a c g h s n f = h s n f

  condition_fits : (m : Meaning) (a c : Run) → RunFits a → RunFits c → RunFits (turn (with_value m (λ x. run_of (is_zero x) c a)))
  condition_fits m a c g h = turn_fits (with_value m (λ x. run_of (is_zero x) c a)) (λ s n f. any_val_fits (m s) (λ x. run_of (is_zero x) c a) (λ x. run_of_fits (is_zero x) c a h g) s n f)

  branch_fits : (p : Run) (m : Meaning) (a c : Run) → RunFits p → RunFits a → RunFits c → RunFits (branch p m a c)
  branch_fits p m a c i g h = both_fit p (turn (with_value m (λ x. run_of (is_zero x) c a))) i (condition_fits m a c g h)

  rounds_fit : (t : ℕ) (p : Run) (m : Meaning) (a c : Run) → RunFits p → RunFits a → RunFits c → RunFits (rounds t p m a c)
  rounds_fit zero p m a c i g h = λ s n f. record { store = f; returns = tt }
  rounds_fit (suc t) p m a c i g h =
      branch_fits p m (looped a (both_runs c (rounds t p m a c))) (ends normally) i
      (looped_fits a (both_runs c (rounds t p m a c)) g (both_fit c (rounds t p m a c) h (rounds_fit t p m a c i g h))) (ends_fit normally tt)

  loop_fits : (p : Run) (m : Meaning) (a c : Run) → RunFits p → RunFits a → RunFits c → RunFits (loop p m a c)
  loop_fits p m a c i g h s n f = rounds_fit (suc n) p m a c i g h s n f

  in_order_fits : (acts : List Act) → ActsFit acts → RunFits (in_order acts)
  in_order_fits [] h = ends_fit normally tt
  in_order_fits (a ∷ rest) h = both_fit a.run (in_order rest) h.0 (in_order_fits rest h.1)

  entering_fits : (acts : List Act) (a : Run) → RunFits a → RunFits (entering acts a)
  entering_fits acts a g s n f = let vs = flat_map (λ x. x.declares) acts in g (unset_vars vs s) n (unset_fits k vs s f)

  block_fits : (acts : List Act) → ActsFit acts → RunFits (block acts)
  block_fits acts h = entering_fits acts (in_order acts) (in_order_fits acts h)

  part_fits : (a : Act) → RunFits a.run → RunFits (part a)
  part_fits a g = entering_fits (a ∷ []) a.run g

  nothing_fits : RunFits nothing
  nothing_fits = ends_fit normally tt

  if_any_fits : (a : Option Act) → HeldFits a → RunFits (run_if_any a)
  if_any_fits None h = nothing_fits
  if_any_fits (Some a) h = part_fits a h

  -- ---- assignments

  storing_fits : (t : Ty) (p : Place) (x : ℤ) → place_type k p ≡ t → RunFits (storing t p x)
  storing_fits t p x e s n f = record { store = write_fits k p (conv t x) s (subst (λ u. IsInRange u (conv t x)) (sym e) (conv_in laws t x)) f; returns = tt }

  stored_fits : (t : Ty) (p : Place) (u : ℕ) (v : Val) → place_type k p ≡ t → RunFits (stored t p u v)
  stored_fits t p u v e = any_val_fits (later u v) (storing t p) (λ x. storing_fits t p x e)

  -- the place of a target, if there is one, has the type of its object
  element_placed : (Q : Placed → Type 0) (a : ℕ) (at : Span) (u : ℕ) (o : Option ℕ) → ((p : Span) → Q (no_place p)) → ((p : Place) → place_type k p ≡ object_type k (object.Array a) → Q (placed p u)) → Q (placed_after at u (element_place a o))
  element_placed Q a at u None f g = f at
  element_placed Q a at u (Some i) f g = g (of_element a i) refl

  target_placed : (Q : Placed → Type 0) (to : Object) (at : Span) (vs : Vals) → ((p : Span) → Q (no_place p)) → ((p : Place) (u : ℕ) → place_type k p ≡ object_type k to → Q (placed p u)) → Q (place_by k.arrays to at vs)
  target_placed Q to at (undefined_values p) f g = f p
  target_placed Q (object.Var v) at (values [] u) f g = g (of_var v) u refl
  target_placed Q (object.Var v) at (values (i ∷ is) u) f g = f at
  target_placed Q (object.Array a) at (values is u) f g = element_placed Q a at u (place k.arrays a is) f (λ p e. g p u e)

  assigned_fits : (target : MeantTarget) (m : Meaning) → RunFits (assigned k target m)
  assigned_fits target m s n f =
      let t = object_type k target.to in
      target_placed (λ q. EndsFitting k r (assigned_to t q m s n)) target.to target.at (all_values target.indices s)
      (λ p. record { store = f; returns = tt }) (λ p u e. stored_fits t p u (m s) e s n f)

  updated_fits : (target : MeantTarget) (o : Binary) (ty : Ty) (m : Meaning) → RunFits (updated k target o ty m)
  updated_fits target o ty m s n f =
      let t = object_type k target.to in
      let g = joined_in k.profile o (joint_type o t ty) in
      target_placed (λ q. EndsFitting k r (updated_at t target.at g q m s n)) target.to target.at (all_values target.indices s)
      (λ p. record { store = f; returns = tt }) (λ p u e. stored_fits t p u (joined_with target.at g (read_place s p) (m s)) e s n f)

  assignment_fits : (target : MeantTarget) (o : Option Binary) (ty : Ty) (m : Meaning) → RunFits (assignment k target o ty m)
  assignment_fits target None ty m = assigned_fits target m
  assignment_fits target (Some o) ty m = updated_fits target o ty m

  declared_fits : (v : ℕ) (m : Option Meaning) → RunFits (declared_run k v m)
  declared_fits v None s n f = record { store = unset_fits k (v ∷ []) s f; returns = tt }
  declared_fits v (Some m) s n f = any_val_fits (m s) (storing (object_type k (object.Var v)) (of_var v)) (λ x. storing_fits (object_type k (object.Var v)) (of_var v) x refl) s n f

-- ---- whole trees

-- what is returned has the type of the result
returned_fits : (laws : PatternLaws) (k : Objects) (r : Option Ty) (E : TypedExpr → Type 0) (e : Option TypedExpr) → ((u : TypedExpr) → E u → LawfulExpr k u) → LawfulReturn E r e → (s : Store) (n : ℕ) → IsFitting k s → EndsFitting k r (returned (meant_if_any k e) s n)
returned_fits laws k None E None g h s n f = record { store = f; returns = tt }
returned_fits laws k (Some t) E None g h s n f = absurd h
returned_fits laws k None E (Some e) g h s n f = absurd h
returned_fits laws k (Some t) E (Some e) g h s n f =
    val_fits laws k (Some t) t (meaning k e s) (λ x. ends (by_return (Some x)))
    (subst (λ u. ValIn u (meaning k e s)) h.0 (kind_in laws k e.kind e.ty e.at (g e h.1) s f)) (λ x i. ends_fit laws k (Some t) (by_return (Some x)) i) s n f

module _ (laws : PatternLaws) (k : Objects) (r : Option Ty) where
  mutual
    pub kind_fits : (l : Bool) (x : TypedStmtKind) → LawfulStmt k r l x → (s : Store) (n : ℕ) → IsFitting k s → EndsFitting k r ((kind_act k x).run s n)
    kind_fits l (tree.Block' c row) h = turn_fits laws k r (block (row_acts k row)) (block_fits laws k r (row_acts k row) (row_fits l row h))
    kind_fits l (tree.Declare v init) h = turn_fits laws k r (declared_run k v (meant_if_any k init)) (declared_fits laws k r v (meant_if_any k init))
    kind_fits l (tree.Assign t o e) h = turn_fits laws k r (assignment k (meant_target k t) o e.ty (meaning k e)) (assignment_fits laws k r (meant_target k t) o e.ty (meaning k e))
    kind_fits l (tree.Step t up) h =
        turn_fits laws k r (updated k (meant_target k t) (step_operator up) I32 (always (pos 1))) (updated_fits laws k r (meant_target k t) (step_operator up) I32 (always (pos 1)))
    kind_fits l (tree.If' e b (more_of-TypedStmt s at end_of-TypedStmt) o) h =
        let yes_part = part (kind_act k s) in
        let no_part = run_if_any (act_if_any k o) in
        turn_fits laws k r (branch (in_order []) (meaning k e) yes_part no_part)
        (branch_fits laws k r (in_order []) (meaning k e) yes_part no_part (in_order_fits laws k r [] tt) (part_fits laws k r (kind_act k s) (kind_fits l s h.1)) (if_any_fits laws k r (act_if_any k o) (held_fits l o h.2)))
    kind_fits l (tree.While' e b (more_of-TypedStmt s at end_of-TypedStmt)) h =
        let body = part (kind_act k s) in
        turn_fits laws k r (loop (in_order []) (meaning k e) body nothing)
        (loop_fits laws k r (in_order []) (meaning k e) body nothing (in_order_fits laws k r [] tt) (part_fits laws k r (kind_act k s) (kind_fits true s h.1)) (nothing_fits laws k r))
    kind_fits l (tree.DoWhile' b (more_of-TypedStmt s at end_of-TypedStmt) e) h =
        let body = part (kind_act k s) in
        let fits = part_fits laws k r (kind_act k s) (kind_fits true s h.0) in
        turn_fits laws k r (looped body (loop (in_order []) (meaning k e) body nothing))
        (looped_fits laws k r body (loop (in_order []) (meaning k e) body nothing) fits
        (loop_fits laws k r (in_order []) (meaning k e) body nothing (in_order_fits laws k r [] tt) fits (nothing_fits laws k r)))
    kind_fits l (tree.For' c first e o b (more_of-TypedStmt s at end_of-TypedStmt)) h =
        let firsts = row_acts k first in
        let body = part (kind_act k s) in
        let step = run_if_any (act_if_any k o) in
        let rest = loop (in_order []) (condition (meant_if_any k e)) body step in
        turn_fits laws k r (entering firsts (both_runs (in_order firsts) rest))
        (entering_fits laws k r firsts (both_runs (in_order firsts) rest)
        (both_fit laws k r (in_order firsts) rest (in_order_fits laws k r firsts (row_fits false first h.0))
        (loop_fits laws k r (in_order []) (condition (meant_if_any k e)) body step (in_order_fits laws k r [] tt) (part_fits laws k r (kind_act k s) (kind_fits true s h.3)) (if_any_fits laws k r (act_if_any k o) (held_fits false o h.2)))))
    kind_fits l tree.Break h = turn_fits laws k r (ends by_break) (ends_fit laws k r by_break tt)
    kind_fits l tree.Continue h = turn_fits laws k r (ends by_continue) (ends_fit laws k r by_continue tt)
    kind_fits l (tree.Return e) h = turn_fits laws k r (returned (meant_if_any k e)) (returned_fits laws k r (LawfulExpr k) e (λ u i. i) h)
    kind_fits l tree.Empty h = turn_fits laws k r nothing (nothing_fits laws k r)

    held_fits : (l : Bool) (o : Held-TypedStmtKind-If-2) → LawfulStmtHeld k r l o → HeldFits laws k r (act_if_any k o)
    held_fits l tree.None' h = tt
    held_fits l (tree.Some' b (more_of-TypedStmt s at end_of-TypedStmt)) h = kind_fits l s h

    row_fits : (l : Bool) {c : Count} (row : Row_of-TypedStmt c) → LawfulStmts k r l row → ActsFit laws k r (row_acts k row)
    row_fits l end_of-TypedStmt h = tt
    row_fits l (more_of-TypedStmt s at row) h = (kind_fits l s h.0, row_fits l row h.1)

  acts_fit : (l : Bool) (ss : List TypedStmt) → All (λ s. LawfulStmt k r l s.kind) ss → ActsFit laws k r (map (act k) ss)
  acts_fit l [] h = tt
  acts_fit l (s ∷ ss) h = (kind_fits l s.kind (All-head (λ (u : TypedStmt). LawfulStmt k r l u.kind) s ss h), acts_fit l ss (All-tail (λ (u : TypedStmt). LawfulStmt k r l u.kind) s ss h))

  pub body_fits : (ss : List TypedStmt) → All (λ s. LawfulStmt k r false s.kind) ss → (s : Store) (n : ℕ) → IsFitting k s → EndsFitting k r (body_run k ss s n)
  body_fits ss h = let acts = map (act k) ss in turn_fits laws k r (block acts) (block_fits laws k r acts (acts_fit false ss h))

  normal_expr : (u : TypedExpr) → LawfulNormalExpr k u → LawfulExpr k u
  normal_expr u h = h.0

  mutual
    pub normal_kind_fits : (l : Bool) (x : NormalStmtKind) → LawfulNormalStmt k r l x → (s : Store) (n : ℕ) → IsFitting k s → EndsFitting k r ((normal_kind_act k x).run s n)
    normal_kind_fits l (normal.Block' c row) h = turn_fits laws k r (block (normal_row_acts k row)) (block_fits laws k r (normal_row_acts k row) (normal_row_fits l row h))
    normal_kind_fits l (normal.Declare v init) h = turn_fits laws k r (declared_run k v (meant_if_any k init)) (declared_fits laws k r v (meant_if_any k init))
    normal_kind_fits l (normal.Assign t e) h = turn_fits laws k r (assignment k (meant_target k t) None e.ty (meaning k e)) (assignment_fits laws k r (meant_target k t) None e.ty (meaning k e))
    normal_kind_fits l (normal.If' c before e b (more_of-NormalStmt s at end_of-NormalStmt) o) h =
        let p = in_order (normal_row_acts k before) in
        let yes_part = part (normal_kind_act k s) in
        let no_part = run_if_any (normal_act_if_any k o) in
        turn_fits laws k r (branch p (meaning k e) yes_part no_part)
        (branch_fits laws k r p (meaning k e) yes_part no_part (in_order_fits laws k r (normal_row_acts k before) (normal_row_fits l before h.0)) (part_fits laws k r (normal_kind_act k s) (normal_kind_fits l s h.2))
        (if_any_fits laws k r (normal_act_if_any k o) (normal_held_fits l o h.3)))
    normal_kind_fits l (normal.While' c before e b (more_of-NormalStmt s at end_of-NormalStmt)) h =
        let p = in_order (normal_row_acts k before) in
        let body = part (normal_kind_act k s) in
        turn_fits laws k r (loop p (meaning k e) body nothing)
        (loop_fits laws k r p (meaning k e) body nothing (in_order_fits laws k r (normal_row_acts k before) (normal_row_fits false before h.0)) (part_fits laws k r (normal_kind_act k s) (normal_kind_fits true s h.2)) (nothing_fits laws k r))
    normal_kind_fits l (normal.DoWhile' b (more_of-NormalStmt s at end_of-NormalStmt) c before e) h =
        let p = in_order (normal_row_acts k before) in
        let body = part (normal_kind_act k s) in
        let fits = part_fits laws k r (normal_kind_act k s) (normal_kind_fits true s h.0) in
        turn_fits laws k r (looped body (loop p (meaning k e) body nothing))
        (looped_fits laws k r body (loop p (meaning k e) body nothing) fits
        (loop_fits laws k r p (meaning k e) body nothing (in_order_fits laws k r (normal_row_acts k before) (normal_row_fits false before h.1)) fits (nothing_fits laws k r)))
    normal_kind_fits l (normal.For' c first d before e o b (more_of-NormalStmt s at end_of-NormalStmt)) h =
        let firsts = normal_row_acts k first in
        let p = in_order (normal_row_acts k before) in
        let body = part (normal_kind_act k s) in
        let step = run_if_any (normal_act_if_any k o) in
        let rest = loop p (condition (meant_if_any k e)) body step in
        turn_fits laws k r (entering firsts (both_runs (in_order firsts) rest))
        (entering_fits laws k r firsts (both_runs (in_order firsts) rest)
        (both_fit laws k r (in_order firsts) rest (in_order_fits laws k r firsts (normal_row_fits false first h.0))
        (loop_fits laws k r p (condition (meant_if_any k e)) body step (in_order_fits laws k r (normal_row_acts k before) (normal_row_fits false before h.1)) (part_fits laws k r (normal_kind_act k s) (normal_kind_fits true s h.5))
        (if_any_fits laws k r (normal_act_if_any k o) (normal_held_fits false o h.4)))))
    normal_kind_fits l normal.Break h = turn_fits laws k r (ends by_break) (ends_fit laws k r by_break tt)
    normal_kind_fits l normal.Continue h = turn_fits laws k r (ends by_continue) (ends_fit laws k r by_continue tt)
    normal_kind_fits l (normal.Return e) h = turn_fits laws k r (returned (meant_if_any k e)) (returned_fits laws k r (LawfulNormalExpr k) e normal_expr h)
    normal_kind_fits l normal.Empty h = turn_fits laws k r nothing (nothing_fits laws k r)

    normal_held_fits : (l : Bool) (o : Held-NormalStmtKind-If-3) → LawfulNormalStmtHeld k r l o → HeldFits laws k r (normal_act_if_any k o)
    normal_held_fits l normal.None' h = tt
    normal_held_fits l (normal.Some' b (more_of-NormalStmt s at end_of-NormalStmt)) h = normal_kind_fits l s h

    normal_row_fits : (l : Bool) {c : Count} (row : Row_of-NormalStmt c) → LawfulNormalStmts k r l row → ActsFit laws k r (normal_row_acts k row)
    normal_row_fits l end_of-NormalStmt h = tt
    normal_row_fits l (more_of-NormalStmt s at row) h = (normal_kind_fits l s h.0, normal_row_fits l row h.1)

  normal_acts_fit : (l : Bool) (ss : List NormalStmt) → All (λ s. LawfulNormalStmt k r l s.kind) ss → ActsFit laws k r (map (normal_act k) ss)
  normal_acts_fit l [] h = tt
  normal_acts_fit l (s ∷ ss) h = (normal_kind_fits l s.kind (All-head (λ (u : NormalStmt). LawfulNormalStmt k r l u.kind) s ss h), normal_acts_fit l ss (All-tail (λ (u : NormalStmt). LawfulNormalStmt k r l u.kind) s ss h))

  pub normal_body_fits : (ss : List NormalStmt) → All (λ s. LawfulNormalStmt k r false s.kind) ss → (s : Store) (n : ℕ) → IsFitting k s → EndsFitting k r (normal_body_run k ss s n)
  normal_body_fits ss h = let acts = map (normal_act k) ss in turn_fits laws k r (block acts) (block_fits laws k r acts (normal_acts_fit false ss h))

-- ---- kernels

end_returns : (r : Option Ty) (at : Span) (h : How) → ReturnsIn r h → ReturnsIn r (kernel_end r at h)
end_returns (Some t) at normally i = tt
end_returns None at normally i = tt
end_returns r at by_break i = i
end_returns r at by_continue i = i
end_returns r at (by_return v) i = i
end_returns r at (undefined p) i = i
end_returns r at out_of_turns i = i

result_in : (t : Option Ty) (h : How) (v : Option ℤ) → ReturnsIn t h → IsResult t h v → IsResultIn t v
result_in None normally v i e = subst (IsResultIn None) (sym e) tt
result_in (Some t) normally v i e = absurd e
result_in None by_break v i e = absurd e
result_in (Some t) by_break v i e = absurd e
result_in None by_continue v i e = absurd e
result_in (Some t) by_continue v i e = absurd e
result_in None (by_return u) v i e = subst (IsResultIn None) (sym e) i
result_in (Some t) (by_return u) v i e = subst (IsResultIn (Some t)) (sym e) i
result_in None (undefined at) v i e = absurd e
result_in (Some t) (undefined at) v i e = absurd e
result_in None out_of_turns v i e = absurd e
result_in (Some t) out_of_turns v i e = absurd e

module _ (laws : PatternLaws) where
  pub statements_fit : StatementsFit
  statements_fit k r l x s n h f = kind_fits laws k r l x.kind h s n f

  pub normal_statements_fit : NormalStatementsFit
  normal_statements_fit k r l x s n h f = normal_kind_fits laws k r l x.kind h s n f

  pub kernels_fit : KernelsFit
  kernels_fit k p i n l f =
      let objs = objects p k in
      let e = body_fits laws objs k.result k.body (l.statements p) (opening objs i) n (opening_fits k p i l f) in
      record { store = e.store; returns = end_returns k.result k.at (body_run objs k.body (opening objs i) n).how e.returns }

  pub normals_fit : NormalsFit
  normals_fit k p i n l f =
      let objs = normal_objects p k in
      let e = normal_body_fits laws objs k.result k.body (l.statements p) (opening objs i) n (normal_opening_fits k p i l f) in
      record { store = e.store; returns = end_returns k.result k.at (normal_body_run objs k.body (opening objs i) n).how e.returns }

  pub results_fit : ResultsFit
  results_fit k p i out v t l f e =
      let fits = kernels_fit k p i e.bound l f in
      record { each_array = subst (AreArraysOf k.arrays) (sym e.arrays) fits.store.arrays; result = result_in k.result (kernel_run k p i e.bound).how v fits.returns e.result }

  pub normal_results_fit : NormalResultsFit
  normal_results_fit k p i out v t l f e =
      let fits = normals_fit k p i e.bound l f in
      record { each_array = subst (AreArraysOf k.arrays) (sym e.arrays) fits.store.arrays; result = result_in k.result (normal_run k p i e.bound).how v fits.returns e.result }
