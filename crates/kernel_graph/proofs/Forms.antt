-- The normal form of a kernel assigns to the arrays that the kernel assigns to, in the same order.
use Rattle.std.proofs.Common.{◌≡◌, ℕ, ◌+◌, List, [], ◌∷◌, ◌++◌, length, Option, Some, None, refl, ◌∙◌}
use Rattle.std.proofs.lemmas.List.{append-nil}
use mathlib.Core.Former.{Count}
use Rattle.el_base.specs.declared.span.Span.{Span}
use Rattle.el_base.specs.declared.ty.Ty.{Ty}
use Rattle.el_base.specs.declared.ty.Ty.TheVariants.{I32}
use Rattle.c_ast.specs.Casts.{of_type}
use Rattle.c_ast.specs.ResultTypes.{joint_type}
use Rattle.c_ast.specs.declared.tree.Binary.{Binary}
use Rattle.c_ast.specs.declared.typed.TypedTarget.{TypedTarget}
use Rattle.c_ast.specs.declared.typed.TypedExpr.{TypedExpr}
use Rattle.c_ast.specs.declared.typed.TypedExprKind.TheVariants as expr
use Rattle.c_ast.specs.declared.typed.TypedStmt.{TypedStmt}
use Rattle.c_ast.specs.declared.typed.TypedStmtKind.{TypedStmtKind, Row_of-TypedStmt, end_of-TypedStmt, more_of-TypedStmt, Held-TypedStmtKind-If-2}
use Rattle.c_ast.specs.declared.typed.TypedStmtKind as tree
use Rattle.c_ast.specs.declared.normal.NormalStmt.{NormalStmt}
use Rattle.c_ast.specs.declared.normal.NormalStmtKind.{NormalStmtKind}
use Rattle.c_ast.specs.declared.normal.NormalStmtKind.TheVariants as normal
use Rattle.c_meaning.specs.Stores.{Objects}
use Rattle.c_meaning.specs.Statements.{object_type, step_operator}
use Rattle.c_norm.specs.Expand.{Out, whole, decided_by, expand_expr, rest_of, expand_all, set_all}
use Rattle.c_norm.specs.Forms.{normal_at, block_of, optional, rest_if_any, object_kind, new_value, target_with, compound, assignment_form, step_form, form_of, held_form, row_form, all_forms}
use Rattle.kernel_graph.specs.Targets.{array_of, kind_targets, held_targets, row_targets, stmts_targets}
use Rattle.kernel_graph.proofs.Normals.{assigned, all_assigned, any_assigned, block_assigned, if_assigned, while_assigned, do_assigned, for_assigned}
use Rattle.kernel_graph.proofs.Expanded.{AreSettings, joined_assigned, both_settings, expr_sets, all_sets, set_sets}

-- one statement
one_assigned : (kind : NormalStmtKind) (s : Span) (xs : List ℕ) → assigned kind ≡ xs → all_assigned (normal_at kind s ∷ []) ≡ xs
one_assigned kind s xs e = append-nil (assigned kind) ∙ e

-- settings, and one statement
made_assigned : (before : List NormalStmt) (kind : NormalStmtKind) (s : Span) (xs : List ℕ) → AreSettings before → assigned kind ≡ xs → all_assigned (before ++ normal_at kind s ∷ []) ≡ xs
made_assigned before kind s xs a b = joined_assigned before (normal_at kind s ∷ []) [] xs a (one_assigned kind s xs b)

optional_sets : (f : ℕ) (e : Option TypedExpr) → AreSettings (optional f e).before
optional_sets f None = refl
optional_sets f (Some e) = expr_sets f e

compound_assigned : (f : ℕ) (target : TypedTarget) (op : Binary) (t j : Ty) (o : Out) (e : TypedExpr) (s : Span) → AreSettings o.before → all_assigned (compound (set_all f target.indices) target op t j o e s).stmts ≡ array_of target.to
compound_assigned f target op t j o e s a =
    let i = set_all f target.indices in
    let value = new_value (decided_by op) op t j (of_type (object_kind target.to i.exprs) t target.at) (rest_of o e) s in
    made_assigned (i.before ++ o.before) (normal.Assign (target_with target i.exprs) value) s (array_of target.to) (both_settings i.before o.before (set_sets f target.indices) a) refl

module _ (k : Objects) where
  assignment_assigned : (f : ℕ) (target : TypedTarget) (op : Option Binary) (e : TypedExpr) (s : Span) → all_assigned (assignment_form k f target op e s).stmts ≡ array_of target.to
  assignment_assigned f target None e s =
      let i = expand_all f target.indices in
      let g = f + length i.types in
      let o = expand_expr g e in
      made_assigned (i.before ++ o.before) (normal.Assign (target_with target i.exprs) (rest_of o e)) s (array_of target.to) (both_settings i.before o.before (all_sets f target.indices) (expr_sets g e)) refl
  assignment_assigned f target (Some op) e s =
      let g = f + length (set_all f target.indices).types in
      let t = object_type k target.to in
      compound_assigned f target op t (joint_type op t e.ty) (expand_expr g e) e s (expr_sets g e)

  step_assigned : (f : ℕ) (target : TypedTarget) (op : Binary) (s : Span) → all_assigned (step_form k f target op s).stmts ≡ array_of target.to
  step_assigned f target op s =
      let t = object_type k target.to in
      let j = joint_type op t I32 in
      compound_assigned f target op t j (whole (expr.Number 1)) (of_type (expr.Number 1) j s) s refl

  mutual
    kind_is : (f : ℕ) (x : TypedStmtKind) (s : Span) → all_assigned (form_of k f x s).stmts ≡ kind_targets x
    kind_is f (tree.Block' n row) s = let b = row_form k f row in one_assigned (normal.Block b.stmts) s (row_targets row) (block_assigned b.stmts ∙ row_is f row)
    kind_is f (tree.Declare v init) s = let o = optional f init in made_assigned o.before (normal.Declare v (rest_if_any o init)) s [] (optional_sets f init) refl
    kind_is f (tree.Assign target op e) s = assignment_assigned f target op e s
    kind_is f (tree.Step target up) s = step_assigned f target (step_operator up) s
    kind_is f (tree.If' cond b (more_of-TypedStmt x at end_of-TypedStmt) no_part) s =
        let c = expand_expr f cond in
        let g = f + length c.types in
        let y = form_of k g x at in
        let h = g + length y.types in
        let n = held_form k h no_part in
        one_assigned (normal.If c.before (rest_of c cond) (block_of y at) n.stmt) s (kind_targets x ++ held_targets no_part)
        (if_assigned c.before (rest_of c cond) (block_of y at) n.stmt (kind_targets x) (held_targets no_part) (expr_sets f cond) (block_assigned y.stmts ∙ kind_is g x at) (held_is h no_part))
    kind_is f (tree.While' cond b (more_of-TypedStmt x at end_of-TypedStmt)) s =
        let c = expand_expr f cond in
        let g = f + length c.types in
        let y = form_of k g x at in
        one_assigned (normal.While c.before (rest_of c cond) (block_of y at)) s (kind_targets x)
        (while_assigned c.before (rest_of c cond) (block_of y at) (kind_targets x) (expr_sets f cond) (block_assigned y.stmts ∙ kind_is g x at))
    kind_is f (tree.DoWhile' b (more_of-TypedStmt x at end_of-TypedStmt) cond) s =
        let y = form_of k f x at in
        let g = f + length y.types in
        let c = expand_expr g cond in
        one_assigned (normal.DoWhile (block_of y at) c.before (rest_of c cond)) s (kind_targets x)
        (do_assigned (block_of y at) c.before (rest_of c cond) (kind_targets x) (block_assigned y.stmts ∙ kind_is f x at) (expr_sets g cond) ∙ append-nil (kind_targets x))
    kind_is f (tree.For' n first cond step b (more_of-TypedStmt x at end_of-TypedStmt)) s =
        let i = row_form k f first in
        let g = f + length i.types in
        let c = optional g cond in
        let h = g + length c.types in
        let p = held_form k h step in
        let m = h + length p.types in
        let y = form_of k m x at in
        one_assigned (normal.For i.stmts c.before (rest_if_any c cond) p.stmt (block_of y at)) s (row_targets first ++ (kind_targets x ++ held_targets step))
        (for_assigned i.stmts c.before (rest_if_any c cond) p.stmt (block_of y at) (row_targets first) (kind_targets x) (held_targets step) (row_is f first) (optional_sets g cond) (block_assigned y.stmts ∙ kind_is m x at) (held_is h step))
    kind_is f tree.Break s = refl
    kind_is f tree.Continue s = refl
    kind_is f (tree.Return e) s = let o = optional f e in made_assigned o.before (normal.Return (rest_if_any o e)) s [] (optional_sets f e) refl
    kind_is f tree.Empty s = refl

    held_is : (f : ℕ) (o : Held-TypedStmtKind-If-2) → any_assigned (held_form k f o).stmt ≡ held_targets o
    held_is f tree.None' = refl
    held_is f (tree.Some' b (more_of-TypedStmt x at end_of-TypedStmt)) = block_assigned (form_of k f x at).stmts ∙ kind_is f x at

    row_is : (f : ℕ) {n : Count} (row : Row_of-TypedStmt n) → all_assigned (row_form k f row).stmts ≡ row_targets row
    row_is f end_of-TypedStmt = refl
    row_is f (more_of-TypedStmt x at row) =
        let y = form_of k f x at in
        let g = f + length y.types in
        joined_assigned y.stmts (row_form k g row).stmts (kind_targets x) (row_targets row) (kind_is f x at) (row_is g row)

  pub forms_assign : (f : ℕ) (xs : List TypedStmt) → all_assigned (all_forms k f xs).stmts ≡ stmts_targets xs
  forms_assign f [] = refl
  forms_assign f (x ∷ xs) =
      let y = form_of k f x.kind x.at in
      let g = f + length y.types in
      joined_assigned y.stmts (all_forms k g xs).stmts (kind_targets x.kind) (stmts_targets xs) (kind_is f x.kind x.at) (forms_assign g xs)
