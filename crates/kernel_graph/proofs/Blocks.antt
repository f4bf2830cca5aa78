-- The blocks of a normal form store to the arrays that it assigns to, in the same order.
use Rattle.std.proofs.Common.{◌≡◌, ℕ, ◌+◌, List, [], ◌∷◌, ◌++◌, length, Option, Some, None, refl, sym, ◌∙◌, ap, subst, append_assoc}
use Rattle.std.specs.List.{flat_map}
use Rattle.std.proofs.lemmas.Grind.{flat_map-append}
use Rattle.std.proofs.lemmas.List.{append-nil}
use mathlib.Core.Former.{Count}
use Rattle.el_base.specs.declared.ty.Ty.{Ty}
use Rattle.el_base.specs.Widths.{ty_width}
use Rattle.c_ast.specs.declared.typed.ArrayOf.{ArrayOf}
use Rattle.c_ast.specs.declared.typed.Object.{Object}
use Rattle.c_ast.specs.declared.typed.Object.TheVariants as object
use Rattle.c_ast.specs.declared.typed.TypedExpr.{TypedExpr}
use Rattle.c_ast.specs.declared.normal.Normal.{Normal}
use Rattle.c_ast.specs.declared.normal.NormalStmt.{NormalStmt}
use Rattle.c_ast.specs.declared.normal.NormalStmtKind.{NormalStmtKind, Row_of-NormalStmt, end_of-NormalStmt, more_of-NormalStmt, Held-NormalStmtKind-If-3}
use Rattle.c_ast.specs.declared.normal.NormalStmtKind as tree
use Rattle.ir.specs.declared.instr.Instr.{Instr}
use Rattle.ir.specs.declared.instr.Instr.TheVariants.{Const}
use Rattle.ir.specs.declared.cfg.CfgBlock.{CfgBlock}
use Rattle.ir.specs.declared.cfg.CfgJump.{CfgJump}
use Rattle.ir.specs.declared.cfg.CfgJump.TheVariants.{Go, Two, Return}
use Rattle.c_meaning.specs.Sizes.{closes, closes_held, closes_step, closes_row}
use Rattle.struct_cfg.specs.declared.draft.Draft.{Draft}
use Rattle.struct_cfg.specs.Drafts.{here, next_value, with_steps, closed, close}
use Rattle.struct_cfg.specs.Exprs.{expr_laying, condition_laying, store_laying}
use Rattle.struct_cfg.specs.Lowering.{with_expr, value_of, with_condition, condition_of, loop_parts, assign_to, declare, returning, lower, lower_held, lower_step, lower_row}
use Rattle.struct_cfg.specs.Lists.{lower_all}
use Rattle.struct_cfg.specs.Kernels.{empty, finish, form_graph}
use Rattle.kernel_graph.specs.Targets.{array_of}
use Rattle.kernel_graph.proofs.Laid.{stored, all_stored}
use Rattle.kernel_graph.proofs.Expressions.{expr_plain, condition_plain, store_stores}
use Rattle.kernel_graph.proofs.Normals.{assigned, held_assigned, row_assigned, all_assigned}

abbrev pub blocks_stored : List CfgBlock → List ℕ
blocks_stored bs = flat_map (λ (b : CfgBlock). all_stored b.steps) bs

-- of the closed blocks and of the open one
abbrev draft_stored : Draft → List ℕ
draft_stored d = blocks_stored d.blocks ++ all_stored d.steps

-- the second draft has these stores more
record Adds (d e : Draft) (xs : List ℕ) : Type 0 where
  by : draft_stored e ≡ draft_stored d ++ xs

adds_none : (d : Draft) → Adds d d []
adds_none d = record { by = sym (append-nil (draft_stored d)) }

adds_both : {d e f : Draft} {xs ys : List ℕ} → Adds d e xs → Adds e f ys → Adds d f (xs ++ ys)
adds_both {d} {e} {f} {xs} {ys} a b = record { by = b.by ∙ ap (λ zs. zs ++ ys) a.by ∙ append_assoc (draft_stored d) xs ys }

-- and then none
adds_then : {d e f : Draft} {xs : List ℕ} → Adds d e xs → Adds e f [] → Adds d f xs
adds_then {d} {e} a b = record { by = b.by ∙ append-nil (draft_stored e) ∙ a.by }

close_adds : (j : CfgJump) (d : Draft) → Adds d (close j d) []
close_adds j d =
    let f : CfgBlock → List ℕ = λ b. all_stored b.steps in
    record { by = append-nil (blocks_stored (d.blocks ++ closed j d ∷ [])) ∙ flat_map-append f d.blocks (closed j d ∷ []) ∙ ap (λ zs. blocks_stored d.blocks ++ zs) (append-nil (all_stored d.steps)) ∙ sym (append-nil (draft_stored d)) }

steps_add : (is : List Instr) (xs : List ℕ) (d : Draft) → all_stored is ≡ xs → Adds d (with_steps is d) xs
steps_add is xs d e =
    record { by = ap (λ zs. blocks_stored d.blocks ++ zs) (flat_map-append stored d.steps is ∙ ap (λ zs. all_stored d.steps ++ zs) e) ∙ sym (append_assoc (blocks_stored d.blocks) (all_stored d.steps) xs) }

module _ (arrays : List ArrayOf) where
  expr_adds : (e : TypedExpr) (d : Draft) → Adds d (with_expr arrays e d) []
  expr_adds e d = steps_add (expr_laying arrays d.env e (next_value d)).steps [] d (expr_plain arrays d.env e (next_value d))

  condition_adds : (e : TypedExpr) (d : Draft) → Adds d (with_condition arrays e d) []
  condition_adds e d = steps_add (condition_laying arrays d.env e (next_value d)).steps [] d (condition_plain arrays d.env e (next_value d))

  assign_adds : (to : Object) (indices : List TypedExpr) (e : TypedExpr) (d : Draft) → Adds d (assign_to arrays to indices e d) (array_of to)
  assign_adds (object.Var v) indices e d = record { by = (expr_adds e d).by }
  assign_adds (object.Array a) indices e d = steps_add (store_laying arrays d.env a indices e (next_value d)).steps (a ∷ []) d (store_stores arrays d.env a indices e (next_value d))

  declare_adds : (v : ℕ) (e : Option TypedExpr) (d : Draft) → Adds d (declare arrays v e d) []
  declare_adds v None d = adds_none d
  declare_adds v (Some e) d = record { by = (expr_adds e d).by }

  return_adds : (e : Option TypedExpr) (d : Draft) → Adds d (returning arrays e d) []
  return_adds None d = close_adds (Return None) d
  return_adds (Some e) d =
      adds_then (expr_adds e d) (close_adds (Return (Some (value_of arrays e d))) (with_expr arrays e d))

  -- a condition, with which the block ends
  branch_adds : (e : TypedExpr) (x y : ℕ) (d : Draft) → Adds d (close (Two (condition_of arrays e d) x y) (with_condition arrays e d)) []
  branch_adds e x y d = adds_then (condition_adds e d) (close_adds (Two (condition_of arrays e d) x y) (with_condition arrays e d))

  -- a loop from its condition to the end of its body
  loop_adds : (x y exit : ℕ) {n : Count} (before : Row_of-NormalStmt n) (cond : Option TypedExpr) (s : NormalStmtKind) (to : ℕ) (d : Draft) → Adds d (lower_row arrays x y before d) (row_assigned before) → ((e : Draft) → Adds e (lower arrays exit to s e) (assigned s))
      → Adds d (loop_parts arrays exit (lower_row arrays x y before) cond (lower arrays exit to s) d) (row_assigned before ++ assigned s)
  loop_adds x y exit before None s to d a b =
      let d1 = lower_row arrays x y before d in
      let j = Go (here d1 + 1) in
      adds_both (adds_then a (close_adds j d1)) (b (close j d1))
  loop_adds x y exit before (Some e) s to d a b =
      let d1 = lower_row arrays x y before d in
      adds_both (adds_then a (branch_adds e (here d1 + 1) exit d1)) (b (close (Two (condition_of arrays e d1) (here d1 + 1) exit) (with_condition arrays e d1)))

  mutual
    kind_adds : (x y : ℕ) (k : NormalStmtKind) (d : Draft) → Adds d (lower arrays x y k d) (assigned k)
    kind_adds x y (tree.Block' n row) d = row_adds x y row d
    kind_adds x y (tree.Declare v e) d = declare_adds v e d
    kind_adds x y (tree.Assign target e) d = assign_adds target.to target.indices e d
    kind_adds x y (tree.If' n before cond p (more_of-NormalStmt s at end_of-NormalStmt) o) d =
        let d1 = lower_row arrays x y before d in
        let second = here d1 + 1 + closes s + 1 in
        let go = Go (second + closes_held o + 1) in
        let d2 = close (Two (condition_of arrays cond d1) (here d1 + 1) second) (with_condition arrays cond d1) in
        let d3 = lower arrays x y s d2 in
        let d4 = close go d3 in
        let d5 = lower_held arrays x y o d4 in
        adds_both (adds_then (row_adds x y before d) (branch_adds cond (here d1 + 1) second d1))
        (adds_both (adds_then (kind_adds x y s d2) (close_adds go d3)) (adds_then (held_adds x y o d4) (close_adds go d5)))
    kind_adds x y (tree.While' n before cond p (more_of-NormalStmt s at end_of-NormalStmt)) d =
        let head = here d + 1 in
        let exit = head + closes_row before + 1 + closes s + 1 in
        let d0 = close (Go head) d in
        adds_both (close_adds (Go head) d) (adds_then (loop_adds x y exit before (Some cond) s head d0 (row_adds x y before d0) (kind_adds exit head s))
        (close_adds (Go head) (loop_parts arrays exit (lower_row arrays x y before) (Some cond) (lower arrays exit head s) d0)))
    kind_adds x y (tree.DoWhile' p (more_of-NormalStmt s at end_of-NormalStmt) n before cond) d =
        let first = here d + 1 in
        let head = first + closes s + 1 in
        let exit = head + closes_row before + 1 in
        let d1 = close (Go first) d in
        let d2 = lower arrays exit head s d1 in
        let d3 = close (Go head) d2 in
        let d4 = lower_row arrays x y before d3 in
        adds_both (close_adds (Go first) d) (adds_both (adds_then (kind_adds exit head s d1) (close_adds (Go head) d2)) (adds_then (row_adds x y before d3) (branch_adds cond first exit d4)))
    kind_adds x y (tree.For' n first m before cond o p (more_of-NormalStmt s at end_of-NormalStmt)) d =
        let d0 = lower_row arrays x y first d in
        let head = here d0 + 1 in
        let after = head + closes_row before + 1 + closes s + 1 in
        let exit = after + closes_step o in
        let d1 = close (Go head) d0 in
        let body = λ (to : ℕ). loop_parts arrays exit (lower_row arrays x y before) cond (lower arrays exit to s) d1 in
        let rest = step_adds x y head o body after d1 (row_assigned before ++ assigned s) (λ to. loop_adds x y exit before cond s to d1 (row_adds x y before d1) (kind_adds exit to s)) in
        adds_both (adds_then (row_adds x y first d) (close_adds (Go head) d0)) (subst (Adds d1 (lower_step arrays x y head o body after)) (append_assoc (row_assigned before) (assigned s) (held_assigned o)) rest)
    kind_adds x y tree.Break d = close_adds (Go x) d
    kind_adds x y tree.Continue d = close_adds (Go y) d
    kind_adds x y (tree.Return e) d = return_adds e d
    kind_adds x y tree.Empty d = adds_none d

    held_adds : (x y : ℕ) (o : Held-NormalStmtKind-If-3) (d : Draft) → Adds d (lower_held arrays x y o d) (held_assigned o)
    held_adds x y tree.None' d = adds_none d
    held_adds x y (tree.Some' p (more_of-NormalStmt s at end_of-NormalStmt)) d = kind_adds x y s d

    -- the body of a for, and then its step
    step_adds : (x y head : ℕ) (o : Held-NormalStmtKind-If-3) (body : ℕ → Draft) (after : ℕ) (d : Draft) (xs : List ℕ) → ((to : ℕ) → Adds d (body to) xs) → Adds d (lower_step arrays x y head o body after) (xs ++ held_assigned o)
    step_adds x y head tree.None' body after d xs h = adds_both (h head) (close_adds (Go head) (body head))
    step_adds x y head (tree.Some' p (more_of-NormalStmt s at end_of-NormalStmt)) body after d xs h =
        let d2 = close (Go after) (body after) in
        adds_both (adds_then (h after) (close_adds (Go after) (body after))) (adds_then (kind_adds x y s d2) (close_adds (Go head) (lower arrays x y s d2)))

    row_adds : (x y : ℕ) {n : Count} (row : Row_of-NormalStmt n) (d : Draft) → Adds d (lower_row arrays x y row d) (row_assigned row)
    row_adds x y end_of-NormalStmt d = adds_none d
    row_adds x y (more_of-NormalStmt s at row) d = adds_both (kind_adds x y s d) (row_adds x y row (lower arrays x y s d))

  all_add : (ss : List NormalStmt) (d : Draft) → Adds d (lower_all arrays 0 0 ss d) (all_assigned ss)
  all_add [] d = adds_none d
  all_add (s ∷ ss) d = adds_both (kind_adds 0 0 s.kind d) (all_add ss (lower arrays 0 0 s.kind d))

-- the last block, which is closed: so all stores stand in closed blocks
finish_adds : (r : Option Ty) (d : Draft) → blocks_stored (finish r d).blocks ≡ draft_stored d
finish_adds None d = let a = close_adds (Return None) d in sym (append-nil (blocks_stored (finish None d).blocks)) ∙ a.by ∙ append-nil (draft_stored d)
finish_adds (Some t) d =
    let is = Const (ty_width t) 0 ∷ [] in
    let d1 = with_steps is d in
    let j = Return (Some (next_value d)) in
    let a : Adds d (close j d1) [] = adds_then (steps_add is [] d refl) (close_adds j d1) in
    sym (append-nil (blocks_stored (finish (Some t) d).blocks)) ∙ a.by ∙ append-nil (draft_stored d)

pub graph_stores : (f : Normal) → blocks_stored (form_graph f).blocks ≡ all_assigned f.body
graph_stores f =
    let d = empty (length f.vars) in
    let a = all_add f.arrays f.body d in
    finish_adds f.result (lower_all f.arrays 0 0 f.body d) ∙ a.by
