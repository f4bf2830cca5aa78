-- The blocks of statements: what a draft is after a statement, where break and continue lead to given blocks.
use Rattle.std.specs.Prelude.{ℕ, ◌+◌, List, Option, Some, None}
use mathlib.Core.Former.{Count}
use Rattle.c_ast.specs.declared.typed.ArrayOf.{ArrayOf}
use Rattle.c_ast.specs.declared.typed.TypedExpr.{TypedExpr}
use Rattle.c_ast.specs.declared.typed.Object.{Object}
use Rattle.c_ast.specs.declared.typed.Object.TheVariants as object
use Rattle.c_ast.specs.declared.normal.NormalStmtKind.{NormalStmtKind, Row_of-NormalStmt, end_of-NormalStmt, more_of-NormalStmt, Held-NormalStmtKind-If-3}
use Rattle.c_ast.specs.declared.normal.NormalStmtKind as step
use Rattle.ir.specs.declared.cfg.CfgJump.TheVariants.{Go, Two, Return}
use Rattle.c_meaning.specs.Sizes.{closes, closes_held, closes_step, closes_row}
use Rattle.struct_cfg.specs.declared.draft.Draft.{Draft}
use Rattle.struct_cfg.specs.Drafts.{here, next_value, with_steps, with_value, close}
use Rattle.struct_cfg.specs.Exprs.{expr_laying, condition_laying, store_laying}

module _ (arrays : List ArrayOf) where
  abbrev pub with_expr : TypedExpr → Draft → Draft
  with_expr e d = with_steps (expr_laying arrays d.env e (next_value d)).steps d

  abbrev pub value_of : TypedExpr → Draft → ℕ
  value_of e d = (expr_laying arrays d.env e (next_value d)).value

  -- a condition, as a value of 32 bits
  abbrev pub with_condition : TypedExpr → Draft → Draft
  with_condition e d = with_steps (condition_laying arrays d.env e (next_value d)).steps d

  abbrev pub condition_of : TypedExpr → Draft → ℕ
  condition_of e d = (condition_laying arrays d.env e (next_value d)).value

  -- ---- statements without a jump

  abbrev pub assign_var : ℕ → TypedExpr → Draft → Draft
  assign_var v e d = with_value v (value_of e d) (with_expr e d)

  abbrev pub assign_element : ℕ → List TypedExpr → TypedExpr → Draft → Draft
  assign_element a indices e d = with_steps (store_laying arrays d.env a indices e (next_value d)).steps d

  abbrev pub assign_to : Object → List TypedExpr → TypedExpr → Draft → Draft
  assign_to (object.Var v) indices e d = assign_var v e d
  assign_to (object.Array a) indices e d = assign_element a indices e d

  abbrev pub declare : ℕ → Option TypedExpr → Draft → Draft
  declare v None d = d
  declare v (Some e) d = assign_var v e d

  abbrev pub returning : Option TypedExpr → Draft → Draft
  returning None d = close (Return None) d
  returning (Some e) d = close (Return (Some (value_of e d))) (with_expr e d)

  -- ---- ways to put drafts together: each part is given as what it makes of a draft, and how many blocks it closes

  abbrev pub Part : Type 0
  Part = Draft → Draft

  -- the condition stands in block h, the first side begins in h + 1
  abbrev pub if_parts : Part → TypedExpr → ℕ → Part → ℕ → Part → Part
  if_parts before cond a yes_part b no_part d =
      let d1 = with_condition cond (before d) in
      let second = here (before d) + 1 + a + 1 in
      let d2 = close (Two (condition_of cond (before d)) (here (before d) + 1) second) d1 in
      let d3 = close (Go (second + b + 1)) (yes_part d2) in
      close (Go (second + b + 1)) (no_part d3)

  -- a loop from its condition on, which begins in the open block: the body has a blocks, and then the step, of c blocks;
  -- what is given is where continue leads, and where the loop ends
  abbrev pub loop_parts : ℕ → Part → Option TypedExpr → Part → Part
  loop_parts exit before None body d = body (close (Go (here (before d) + 1)) (before d))
  loop_parts exit before (Some cond) body d =
      body (close (Two (condition_of cond (before d)) (here (before d) + 1) exit) (with_condition cond (before d)))

  -- ---- statements

  abbrev mutual
    -- break leads to block x, and continue to block y
    pub lower : ℕ → ℕ → NormalStmtKind → Draft → Draft
    lower x y (step.Block' n row) d = lower_row x y row d
    lower x y (step.Declare v init) d = declare v init d
    lower x y (step.Assign target e) d = assign_to target.to target.indices e d
    lower x y (step.If' n before cond b (more_of-NormalStmt s at end_of-NormalStmt) o) d =
        if_parts (lower_row x y before) cond (closes s) (lower x y s) (closes_held o) (lower_held x y o) d
    lower x y (step.While' n before cond b (more_of-NormalStmt s at end_of-NormalStmt)) d =
        let head = here d + 1 in
        let exit = head + closes_row before + 1 + closes s + 1 in
        close (Go head) (loop_parts exit (lower_row x y before) (Some cond) (lower exit head s) (close (Go head) d))
    lower x y (step.DoWhile' b (more_of-NormalStmt s at end_of-NormalStmt) n before cond) d =
        let first = here d + 1 in
        let head = first + closes s + 1 in
        let exit = head + closes_row before + 1 in
        let d1 = lower_row x y before (close (Go head) (lower exit head s (close (Go first) d))) in
        close (Two (condition_of cond d1) first exit) (with_condition cond d1)
    lower x y (step.For' n first m before cond o b (more_of-NormalStmt s at end_of-NormalStmt)) d =
        let d0 = lower_row x y first d in
        let head = here d0 + 1 in
        let after = head + closes_row before + 1 + closes s + 1 in
        let exit = after + closes_step o in
        lower_step x y head o (λ to. loop_parts exit (lower_row x y before) cond (lower exit to s) (close (Go head) d0)) after
    lower x y step.Break d = close (Go x) d
    lower x y step.Continue d = close (Go y) d
    lower x y (step.Return e) d = returning e d
    lower x y step.Empty d = d

    pub lower_held : ℕ → ℕ → Held-NormalStmtKind-If-3 → Draft → Draft
    lower_held x y step.None' d = d
    lower_held x y (step.Some' b (more_of-NormalStmt s at end_of-NormalStmt)) d = lower x y s d

    -- the body of a for, whose continue leads to the step or to the condition, and then the step and the way back
    pub lower_step : ℕ → ℕ → ℕ → Held-NormalStmtKind-If-3 → (ℕ → Draft) → ℕ → Draft
    lower_step x y head step.None' body after = close (Go head) (body head)
    lower_step x y head (step.Some' b (more_of-NormalStmt s at end_of-NormalStmt)) body after = close (Go head) (lower x y s (close (Go after) (body after)))

    pub lower_row : ℕ → ℕ → {n : Count} → Row_of-NormalStmt n → Draft → Draft
    lower_row x y end_of-NormalStmt d = d
    lower_row x y (more_of-NormalStmt s at row) d = lower_row x y row (lower x y s d)
