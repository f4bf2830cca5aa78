-- Statements keep ends under larger bounds where their parts do, under one profile and from one to another.
use Rattle.std.proofs.Common.{◌≡◌, ℕ, ◌+◌, List, [], ◌∷◌, map, Option, Some, None, refl, sym, ◌∙◌, ap}
use Rattle.std.specs.Prelude.{Bool, ℤ, pos}
use mathlib.Core.Former.{Count}
use Rattle.el_base.specs.declared.ty.Ty.{Ty}
use Rattle.el_base.specs.declared.ty.Ty.TheVariants.{I32}
use Rattle.el_base.specs.declared.span.Span.{Span}
use Rattle.c_ast.specs.ResultTypes.{joint_type}
use Rattle.c_ast.specs.declared.tree.Binary.{Binary}
use Rattle.c_ast.specs.declared.typed.ArrayOf.{ArrayOf}
use Rattle.c_ast.specs.declared.typed.Object.{Object}
use Rattle.c_ast.specs.declared.typed.Object.TheVariants as object
use Rattle.c_ast.specs.declared.typed.TypedExpr.{TypedExpr}
use Rattle.c_ast.specs.declared.typed.TypedStmt.{TypedStmt}
use Rattle.c_ast.specs.declared.typed.TypedStmtKind.{TypedStmtKind, Row_of-TypedStmt, end_of-TypedStmt, more_of-TypedStmt, Held-TypedStmtKind-If-2}
use Rattle.c_ast.specs.declared.typed.TypedStmtKind as tree
use Rattle.c_ast.specs.declared.normal.NormalStmt.{NormalStmt}
use Rattle.c_ast.specs.declared.normal.NormalStmtKind.{NormalStmtKind, Row_of-NormalStmt, end_of-NormalStmt, more_of-NormalStmt, Held-NormalStmtKind-If-3}
use Rattle.c_ast.specs.declared.normal.NormalStmtKind as normal
use Rattle.c_meaning.specs.declared.profile.Profile.{Profile}
use Rattle.c_meaning.specs.Types.{conv}
use Rattle.c_meaning.specs.Operators.{binary_value}
use Rattle.c_meaning.specs.Stores.{Objects}
use Rattle.c_meaning.specs.Expressions.{Meaning, all_values, meaning, always}
use Rattle.c_meaning.specs.Runs.{How, normally, by_break, by_continue, Run, ends, both_runs, branch, looped, loop}
use Rattle.c_meaning.specs.Statements.{object_type, place_by, assigned_to, updated_at, joined_in, assigned, updated, assignment, step_operator, Act, plain, entering, in_order, block, nothing, part, run_if_any, condition, declared_run, returned, a_block, a_declaration, an_assignment, a_step, an_if, a_while, a_do, a_for, a_return, stmt_step, meant_if_any, kind_act, act_if_any, row_acts, act, body_run}
use Rattle.c_meaning.specs.Normals.{normal_kind_act, normal_act_if_any, normal_row_acts, normal_act, normal_body_run}
use Rattle.c_meaning.proofs.Growth.{Allows, Grows, SameNumber, SameMeaning, SameMeanings, SameIfAny, ActGrows, ActsGrow, HeldGrows, all_same, placed_same, assigned_to_grows, updated_at_grows, returned_grows, condition_same, declared_grows, ends_grow, turn_grows, both_grow, looped_grows, branch_grows, loop_grows, in_order_grows, entering_grows, block_grows, part_grows, nothing_grows, if_any_grows}

-- each operator gives the same under both profiles
abbrev pub OperatorsAgree : (How → Type 0) → Profile → Profile → Type 0
OperatorsAgree V p q = (op : Binary) (t : Ty) (at : Span) (x y : ℤ) → SameNumber V at (binary_value p op t x y) (binary_value q op t x y)

module _ (V : How → Type 0) (rule : Allows V) (p q : Profile) (vars : List Ty) (arrays : List ArrayOf) (agree : OperatorsAgree V p q) where
  abbrev under : Profile → Objects
  under r = record { profile = r; vars = vars; arrays = arrays }

  type_same : (o : Object) → object_type (under p) o ≡ object_type (under q) o
  type_same (object.Var v) = refl
  type_same (object.Array a) = refl

  plain_grows : (a b : Run) → Grows V a b → ActGrows V (plain a) (plain b)
  plain_grows a b g = record { same = refl; grows = turn_grows V rule a b g }

  assigned_grows : (to : Object) (at : Span) (is js : List Meaning) (e f : Meaning) → SameMeanings V is js → SameMeaning V e f
      → Grows V (assigned (under p) (record { to = to; at = at; indices = is }) e) (assigned (under q) (record { to = to; at = at; indices = js }) f)
  assigned_grows to at is js e f i j s n m o =
      let here = place_by arrays to at (all_values is s) in
      let there = place_by arrays to at (all_values js s) in
      ap (λ t. assigned_to t there f s (n + m)) (sym (type_same to))
      ∙ assigned_to_grows V rule (object_type (under p) to) here there e f (placed_same V rule arrays to at (all_values is s) (all_values js s) (all_same V rule is js s i)) j s n m o

  updated_grows : (to : Object) (at : Span) (is js : List Meaning) (op : Binary) (ty : Ty) (e f : Meaning) → SameMeanings V is js → SameMeaning V e f
      → Grows V (updated (under p) (record { to = to; at = at; indices = is }) op ty e) (updated (under q) (record { to = to; at = at; indices = js }) op ty f)
  updated_grows to at is js op ty e f i j s n m o =
      let t = object_type (under p) to in
      let joint = joint_type op t ty in
      let here = place_by arrays to at (all_values is s) in
      let there = place_by arrays to at (all_values js s) in
      ap (λ u. updated_at u at (joined_in q op (joint_type op u ty)) there f s (n + m)) (sym (type_same to))
      ∙ updated_at_grows V rule t at (joined_in p op joint) (joined_in q op joint) here there e f (λ x y. agree op joint at (conv joint x) y)
      (placed_same V rule arrays to at (all_values is s) (all_values js s) (all_same V rule is js s i)) j s n m o

  assignment_grows : (to : Object) (at : Span) (is js : List Meaning) (op : Option Binary) (ty : Ty) (e f : Meaning) → SameMeanings V is js → SameMeaning V e f
      → Grows V (assignment (under p) (record { to = to; at = at; indices = is }) op ty e) (assignment (under q) (record { to = to; at = at; indices = js }) op ty f)
  assignment_grows to at is js None ty e f i j = assigned_grows to at is js e f i j
  assignment_grows to at is js (Some op) ty e f i j = updated_grows to at is js op ty e f i j

  -- ---- each statement, from its parts

  block_act : (as_of bs : List Act) → ActsGrow V as_of bs → ActGrows V (stmt_step (under p) (a_block as_of)) (stmt_step (under q) (a_block bs))
  block_act as_of bs all = plain_grows (block as_of) (block bs) (block_grows V rule as_of bs all)

  declaration_act : (v : ℕ) (e f : Option Meaning) → SameIfAny V e f → ActGrows V (stmt_step (under p) (a_declaration v e)) (stmt_step (under q) (a_declaration v f))
  declaration_act v e f j = record { same = refl; grows = turn_grows V rule (declared_run (under p) v e) (declared_run (under q) v f) (declared_grows V rule (under p) (under q) v e f refl j) }

  assignment_act : (to : Object) (at : Span) (is js : List Meaning) (op : Option Binary) (ty : Ty) (e f : Meaning) → SameMeanings V is js → SameMeaning V e f
      → ActGrows V (stmt_step (under p) (an_assignment (record { to = to; at = at; indices = is }) op ty e)) (stmt_step (under q) (an_assignment (record { to = to; at = at; indices = js }) op ty f))
  assignment_act to at is js op ty e f i j =
      plain_grows (assignment (under p) (record { to = to; at = at; indices = is }) op ty e) (assignment (under q) (record { to = to; at = at; indices = js }) op ty f) (assignment_grows to at is js op ty e f i j)

  one_same : SameMeaning V (always (pos 1)) (always (pos 1))
  one_same s = refl

  step_act : (to : Object) (at : Span) (is js : List Meaning) (up : Bool) → SameMeanings V is js
      → ActGrows V (stmt_step (under p) (a_step (record { to = to; at = at; indices = is }) up)) (stmt_step (under q) (a_step (record { to = to; at = at; indices = js }) up))
  step_act to at is js up i =
      let one = always (pos 1) in
      plain_grows (updated (under p) (record { to = to; at = at; indices = is }) (step_operator up) I32 one) (updated (under q) (record { to = to; at = at; indices = js }) (step_operator up) I32 one)
      (updated_grows to at is js (step_operator up) I32 one one i one_same)

  if_act : (as_of bs : List Act) (e f : Meaning) (a b : Act) (c d : Option Act) → ActsGrow V as_of bs → SameMeaning V e f → ActGrows V a b → HeldGrows V c d
      → ActGrows V (stmt_step (under p) (an_if as_of e a c)) (stmt_step (under q) (an_if bs f b d))
  if_act as_of bs e f a b c d i j g h =
      plain_grows (branch (in_order as_of) e (part a) (run_if_any c)) (branch (in_order bs) f (part b) (run_if_any d))
      (branch_grows V rule (in_order as_of) (in_order bs) e f (part a) (part b) (run_if_any c) (run_if_any d) (in_order_grows V rule as_of bs i) j (part_grows V rule a b g) (if_any_grows V rule c d h))

  looping : (as_of bs : List Act) (e f : Meaning) (a b : Act) (c d : Run) → ActsGrow V as_of bs → SameMeaning V e f → ActGrows V a b → Grows V c d
      → Grows V (loop (in_order as_of) e (part a) c) (loop (in_order bs) f (part b) d)
  looping as_of bs e f a b c d i j g h = loop_grows V rule (in_order as_of) (in_order bs) e f (part a) (part b) c d (in_order_grows V rule as_of bs i) j (part_grows V rule a b g) h

  while_act : (as_of bs : List Act) (e f : Meaning) (a b : Act) → ActsGrow V as_of bs → SameMeaning V e f → ActGrows V a b
      → ActGrows V (stmt_step (under p) (a_while as_of e a)) (stmt_step (under q) (a_while bs f b))
  while_act as_of bs e f a b i j g =
      plain_grows (loop (in_order as_of) e (part a) nothing) (loop (in_order bs) f (part b) nothing) (looping as_of bs e f a b nothing nothing i j g (nothing_grows V rule))

  do_act : (a b : Act) (as_of bs : List Act) (e f : Meaning) → ActGrows V a b → ActsGrow V as_of bs → SameMeaning V e f
      → ActGrows V (stmt_step (under p) (a_do a as_of e)) (stmt_step (under q) (a_do b bs f))
  do_act a b as_of bs e f g i j =
      let rest = loop (in_order as_of) e (part a) nothing in
      let more = loop (in_order bs) f (part b) nothing in
      plain_grows (looped (part a) rest) (looped (part b) more)
      (looped_grows V rule (part a) (part b) rest more (part_grows V rule a b g) (looping as_of bs e f a b nothing nothing i j g (nothing_grows V rule)))

  for_act : (as_of bs cs ds : List Act) (e f : Option Meaning) (c d : Option Act) (a b : Act) → ActsGrow V as_of bs → ActsGrow V cs ds → SameIfAny V e f → HeldGrows V c d → ActGrows V a b
      → ActGrows V (stmt_step (under p) (a_for as_of cs e c a)) (stmt_step (under q) (a_for bs ds f d b))
  for_act as_of bs cs ds e f c d a b i k j h g =
      let rest = loop (in_order cs) (condition e) (part a) (run_if_any c) in
      let more = loop (in_order ds) (condition f) (part b) (run_if_any d) in
      plain_grows (entering as_of (both_runs (in_order as_of) rest)) (entering bs (both_runs (in_order bs) more))
      (entering_grows V rule as_of bs (both_runs (in_order as_of) rest) (both_runs (in_order bs) more) i
      (both_grow V rule (in_order as_of) (in_order bs) rest more (in_order_grows V rule as_of bs i)
      (looping cs ds (condition e) (condition f) a b (run_if_any c) (run_if_any d) k (condition_same V rule e f j) g (if_any_grows V rule c d h))))

  return_act : (e f : Option Meaning) → SameIfAny V e f → ActGrows V (stmt_step (under p) (a_return e)) (stmt_step (under q) (a_return f))
  return_act e f j = plain_grows (returned e) (returned f) (returned_grows V rule e f j)

  ending_act : (h : How) → ActGrows V (plain (ends h)) (plain (ends h))
  ending_act h = plain_grows (ends h) (ends h) (ends_grow V rule h)

  -- ---- whole trees: where each expression means the same

  abbrev pub ExpressionsAgree : Type 0
  ExpressionsAgree = (e : TypedExpr) → SameMeaning V (meaning (under p) e) (meaning (under q) e)

  module _ (same : ExpressionsAgree) where
    list_same : (es : List TypedExpr) → SameMeanings V (map (meaning (under p)) es) (map (meaning (under q)) es)
    list_same [] = tt
    list_same (e ∷ es) = (same e, list_same es)

    option_same : (e : Option TypedExpr) → SameIfAny V (meant_if_any (under p) e) (meant_if_any (under q) e)
    option_same None = tt
    option_same (Some e) = same e

    mutual
      pub kind_grows : (x : TypedStmtKind) → ActGrows V (kind_act (under p) x) (kind_act (under q) x)
      kind_grows (tree.Block' n row) = block_act (row_acts (under p) row) (row_acts (under q) row) (row_grows row)
      kind_grows (tree.Declare v init) = declaration_act v (meant_if_any (under p) init) (meant_if_any (under q) init) (option_same init)
      kind_grows (tree.Assign t op e) =
          assignment_act t.to t.at (map (meaning (under p)) t.indices) (map (meaning (under q)) t.indices) op e.ty (meaning (under p) e) (meaning (under q) e) (list_same t.indices) (same e)
      kind_grows (tree.Step t up) = step_act t.to t.at (map (meaning (under p)) t.indices) (map (meaning (under q)) t.indices) up (list_same t.indices)
      kind_grows (tree.If' e b (more_of-TypedStmt s at end_of-TypedStmt) o) =
          if_act [] [] (meaning (under p) e) (meaning (under q) e) (kind_act (under p) s) (kind_act (under q) s) (act_if_any (under p) o) (act_if_any (under q) o) tt (same e) (kind_grows s) (held_grows o)
      kind_grows (tree.While' e b (more_of-TypedStmt s at end_of-TypedStmt)) =
          while_act [] [] (meaning (under p) e) (meaning (under q) e) (kind_act (under p) s) (kind_act (under q) s) tt (same e) (kind_grows s)
      kind_grows (tree.DoWhile' b (more_of-TypedStmt s at end_of-TypedStmt) e) =
          do_act (kind_act (under p) s) (kind_act (under q) s) [] [] (meaning (under p) e) (meaning (under q) e) (kind_grows s) tt (same e)
      kind_grows (tree.For' n first e o b (more_of-TypedStmt s at end_of-TypedStmt)) =
          for_act (row_acts (under p) first) (row_acts (under q) first) [] [] (meant_if_any (under p) e) (meant_if_any (under q) e) (act_if_any (under p) o) (act_if_any (under q) o)
          (kind_act (under p) s) (kind_act (under q) s) (row_grows first) tt (option_same e) (held_grows o) (kind_grows s)
      kind_grows tree.Break = ending_act by_break
      kind_grows tree.Continue = ending_act by_continue
      kind_grows (tree.Return e) = return_act (meant_if_any (under p) e) (meant_if_any (under q) e) (option_same e)
      kind_grows tree.Empty = ending_act normally

      held_grows : (o : Held-TypedStmtKind-If-2) → HeldGrows V (act_if_any (under p) o) (act_if_any (under q) o)
      held_grows tree.None' = tt
      held_grows (tree.Some' b (more_of-TypedStmt s at end_of-TypedStmt)) = kind_grows s

      row_grows : {n : Count} (row : Row_of-TypedStmt n) → ActsGrow V (row_acts (under p) row) (row_acts (under q) row)
      row_grows end_of-TypedStmt = tt
      row_grows (more_of-TypedStmt s at row) = (kind_grows s, row_grows row)

    acts_grow : (ss : List TypedStmt) → ActsGrow V (map (act (under p)) ss) (map (act (under q)) ss)
    acts_grow [] = tt
    acts_grow (s ∷ ss) = (kind_grows s.kind, acts_grow ss)

    pub body_grows : (ss : List TypedStmt) → Grows V (body_run (under p) ss) (body_run (under q) ss)
    body_grows ss =
        let as_of = map (act (under p)) ss in
        let bs = map (act (under q)) ss in
        turn_grows V rule (block as_of) (block bs) (block_grows V rule as_of bs (acts_grow ss))

    mutual
      pub normal_kind_grows : (x : NormalStmtKind) → ActGrows V (normal_kind_act (under p) x) (normal_kind_act (under q) x)
      normal_kind_grows (normal.Block' n row) = block_act (normal_row_acts (under p) row) (normal_row_acts (under q) row) (normal_row_grows row)
      normal_kind_grows (normal.Declare v init) = declaration_act v (meant_if_any (under p) init) (meant_if_any (under q) init) (option_same init)
      normal_kind_grows (normal.Assign t e) =
          assignment_act t.to t.at (map (meaning (under p)) t.indices) (map (meaning (under q)) t.indices) None e.ty (meaning (under p) e) (meaning (under q) e) (list_same t.indices) (same e)
      normal_kind_grows (normal.If' n before e b (more_of-NormalStmt s at end_of-NormalStmt) o) =
          if_act (normal_row_acts (under p) before) (normal_row_acts (under q) before) (meaning (under p) e) (meaning (under q) e) (normal_kind_act (under p) s) (normal_kind_act (under q) s)
          (normal_act_if_any (under p) o) (normal_act_if_any (under q) o) (normal_row_grows before) (same e) (normal_kind_grows s) (normal_held_grows o)
      normal_kind_grows (normal.While' n before e b (more_of-NormalStmt s at end_of-NormalStmt)) =
          while_act (normal_row_acts (under p) before) (normal_row_acts (under q) before) (meaning (under p) e) (meaning (under q) e) (normal_kind_act (under p) s) (normal_kind_act (under q) s)
          (normal_row_grows before) (same e) (normal_kind_grows s)
      normal_kind_grows (normal.DoWhile' b (more_of-NormalStmt s at end_of-NormalStmt) n before e) =
          do_act (normal_kind_act (under p) s) (normal_kind_act (under q) s) (normal_row_acts (under p) before) (normal_row_acts (under q) before) (meaning (under p) e) (meaning (under q) e)
          (normal_kind_grows s) (normal_row_grows before) (same e)
      normal_kind_grows (normal.For' n first m before e o b (more_of-NormalStmt s at end_of-NormalStmt)) =
          for_act (normal_row_acts (under p) first) (normal_row_acts (under q) first) (normal_row_acts (under p) before) (normal_row_acts (under q) before)
          (meant_if_any (under p) e) (meant_if_any (under q) e) (normal_act_if_any (under p) o) (normal_act_if_any (under q) o) (normal_kind_act (under p) s) (normal_kind_act (under q) s)
          (normal_row_grows first) (normal_row_grows before) (option_same e) (normal_held_grows o) (normal_kind_grows s)
      normal_kind_grows normal.Break = ending_act by_break
      normal_kind_grows normal.Continue = ending_act by_continue
      normal_kind_grows (normal.Return e) = return_act (meant_if_any (under p) e) (meant_if_any (under q) e) (option_same e)
      normal_kind_grows normal.Empty = ending_act normally

      normal_held_grows : (o : Held-NormalStmtKind-If-3) → HeldGrows V (normal_act_if_any (under p) o) (normal_act_if_any (under q) o)
      normal_held_grows normal.None' = tt
      normal_held_grows (normal.Some' b (more_of-NormalStmt s at end_of-NormalStmt)) = normal_kind_grows s

      normal_row_grows : {n : Count} (row : Row_of-NormalStmt n) → ActsGrow V (normal_row_acts (under p) row) (normal_row_acts (under q) row)
      normal_row_grows end_of-NormalStmt = tt
      normal_row_grows (more_of-NormalStmt s at row) = (normal_kind_grows s, normal_row_grows row)

    normal_acts_grow : (ss : List NormalStmt) → ActsGrow V (map (normal_act (under p)) ss) (map (normal_act (under q)) ss)
    normal_acts_grow [] = tt
    normal_acts_grow (s ∷ ss) = (normal_kind_grows s.kind, normal_acts_grow ss)

    pub normal_body_grows : (ss : List NormalStmt) → Grows V (normal_body_run (under p) ss) (normal_body_run (under q) ss)
    normal_body_grows ss =
        let as_of = map (normal_act (under p)) ss in
        let bs = map (normal_act (under q)) ss in
        turn_grows V rule (block as_of) (block bs) (block_grows V rule as_of bs (normal_acts_grow ss))
