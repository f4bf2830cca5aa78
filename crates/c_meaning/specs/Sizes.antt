-- The size of a normal form as it is written, not as it runs: how many blocks its graph has, how many steps at most, and how often it reads or writes an element.
use Rattle.std.specs.Prelude.{ℕ, ◌+◌, sum_by, Option, Some, None}
use mathlib.Core.Former.{Count}
use Rattle.c_ast.specs.declared.typed.Object.{Object}
use Rattle.c_ast.specs.declared.typed.Object.TheVariants as object
use Rattle.c_ast.specs.declared.typed.TypedTarget.{TypedTarget}
use Rattle.c_ast.specs.declared.typed.TypedExpr.{TypedExpr}
use Rattle.c_ast.specs.declared.typed.TypedExprKind.{TypedExprKind, Row_of-TypedExpr, end_of-TypedExpr, more_of-TypedExpr}
use Rattle.c_ast.specs.declared.typed.TypedExprKind as tree
use Rattle.c_ast.specs.declared.normal.Normal.{Normal}
use Rattle.c_ast.specs.declared.normal.NormalStmtKind.{NormalStmtKind, Row_of-NormalStmt, end_of-NormalStmt, more_of-NormalStmt, Held-NormalStmtKind-If-3}
use Rattle.c_ast.specs.declared.normal.NormalStmtKind as step
use Rattle.c_meaning.specs.Counts.{expr_price, option_price, assignment_price}

-- ---- blocks: how many a statement closes. Each break, continue and return ends one, and so does each way in or out of a part of if or of a loop.

abbrev mutual
  pub closes : NormalStmtKind → ℕ
  closes (step.Block' n row) = closes_row row
  closes (step.Declare v init) = 0
  closes (step.Assign target e) = 0
  closes (step.If' n before cond b (more_of-NormalStmt s at end_of-NormalStmt) o) = closes_row before + 1 + closes s + 1 + closes_held o + 1
  closes (step.While' n before cond b (more_of-NormalStmt s at end_of-NormalStmt)) = 1 + closes_row before + 1 + closes s + 1
  closes (step.DoWhile' b (more_of-NormalStmt s at end_of-NormalStmt) n before cond) = 1 + closes s + 1 + closes_row before + 1
  closes (step.For' n first m before cond o b (more_of-NormalStmt s at end_of-NormalStmt)) = closes_row first + 1 + closes_row before + 1 + closes s + 1 + closes_step o
  closes step.Break = 1
  closes step.Continue = 1
  closes (step.Return e) = 1
  closes step.Empty = 0

  pub closes_held : Held-NormalStmtKind-If-3 → ℕ
  closes_held step.None' = 0
  closes_held (step.Some' b (more_of-NormalStmt s at end_of-NormalStmt)) = closes s

  -- the step of a for has a block of its own
  pub closes_step : Held-NormalStmtKind-If-3 → ℕ
  closes_step step.None' = 0
  closes_step (step.Some' b (more_of-NormalStmt s at end_of-NormalStmt)) = closes s + 1

  pub closes_row : {n : Count} → Row_of-NormalStmt n → ℕ
  closes_row end_of-NormalStmt = 0
  closes_row (more_of-NormalStmt s at row) = closes s + closes_row row

-- ---- steps: the price of each expression, target and assignment that is written, once, and 2 for each condition

abbrev mutual
  pub steps : NormalStmtKind → ℕ
  steps (step.Block' n row) = steps_row row
  steps (step.Declare v init) = option_price init
  steps (step.Assign target e) = assignment_price target e
  steps (step.If' n before cond b (more_of-NormalStmt s at end_of-NormalStmt) o) = steps_row before + (expr_price cond + 2) + steps s + steps_held o
  steps (step.While' n before cond b (more_of-NormalStmt s at end_of-NormalStmt)) = steps_row before + (expr_price cond + 2) + steps s
  steps (step.DoWhile' b (more_of-NormalStmt s at end_of-NormalStmt) n before cond) = steps s + steps_row before + (expr_price cond + 2)
  steps (step.For' n first m before cond o b (more_of-NormalStmt s at end_of-NormalStmt)) = steps_row first + steps_row before + (option_price cond + 2) + steps s + steps_held o
  steps step.Break = 0
  steps step.Continue = 0
  steps (step.Return e) = option_price e
  steps step.Empty = 0

  pub steps_held : Held-NormalStmtKind-If-3 → ℕ
  steps_held step.None' = 0
  steps_held (step.Some' b (more_of-NormalStmt s at end_of-NormalStmt)) = steps s

  pub steps_row : {n : Count} → Row_of-NormalStmt n → ℕ
  steps_row end_of-NormalStmt = 0
  steps_row (more_of-NormalStmt s at row) = steps s + steps_row row

-- ---- accesses: each element that is read, and each that is assigned to

abbrev mutual
  pub reads : TypedExprKind → ℕ
  reads (tree.Number n) = 0
  reads (tree.Var v) = 0
  reads (tree.Element' a n row) = 1 + reads_row row
  reads (tree.Unary' op b (more_of-TypedExpr e t at end_of-TypedExpr)) = reads e
  reads (tree.Cast' implied b (more_of-TypedExpr e t at end_of-TypedExpr)) = reads e
  reads (tree.Binary' op b (more_of-TypedExpr e t at end_of-TypedExpr) b2 (more_of-TypedExpr e2 t2 at2 end_of-TypedExpr)) = reads e + reads e2
  reads (tree.Choose' b (more_of-TypedExpr e t at end_of-TypedExpr) b2 (more_of-TypedExpr e2 t2 at2 end_of-TypedExpr) b3 (more_of-TypedExpr e3 t3 at3 end_of-TypedExpr)) =
      reads e + reads e2 + reads e3

  pub reads_row : {n : Count} → Row_of-TypedExpr n → ℕ
  reads_row end_of-TypedExpr = 0
  reads_row (more_of-TypedExpr e t at row) = reads e + reads_row row

abbrev pub expr_reads : TypedExpr → ℕ
expr_reads e = reads e.kind

abbrev pub option_reads : Option TypedExpr → ℕ
option_reads None = 0
option_reads (Some e) = expr_reads e

abbrev pub object_writes : Object → ℕ
object_writes (object.Var v) = 0
object_writes (object.Array a) = 1

abbrev pub target_accesses : TypedTarget → ℕ
target_accesses target = object_writes target.to + sum_by expr_reads target.indices

abbrev mutual
  pub accesses : NormalStmtKind → ℕ
  accesses (step.Block' n row) = accesses_row row
  accesses (step.Declare v init) = option_reads init
  accesses (step.Assign target e) = target_accesses target + expr_reads e
  accesses (step.If' n before cond b (more_of-NormalStmt s at end_of-NormalStmt) o) = accesses_row before + expr_reads cond + accesses s + accesses_held o
  accesses (step.While' n before cond b (more_of-NormalStmt s at end_of-NormalStmt)) = accesses_row before + expr_reads cond + accesses s
  accesses (step.DoWhile' b (more_of-NormalStmt s at end_of-NormalStmt) n before cond) = accesses s + accesses_row before + expr_reads cond
  accesses (step.For' n first m before cond o b (more_of-NormalStmt s at end_of-NormalStmt)) = accesses_row first + accesses_row before + option_reads cond + accesses s + accesses_held o
  accesses step.Break = 0
  accesses step.Continue = 0
  accesses (step.Return e) = option_reads e
  accesses step.Empty = 0

  pub accesses_held : Held-NormalStmtKind-If-3 → ℕ
  accesses_held step.None' = 0
  accesses_held (step.Some' b (more_of-NormalStmt s at end_of-NormalStmt)) = accesses s

  pub accesses_row : {n : Count} → Row_of-NormalStmt n → ℕ
  accesses_row end_of-NormalStmt = 0
  accesses_row (more_of-NormalStmt s at row) = accesses s + accesses_row row

-- ---- whole normal forms

pub record Sizes : Type 0 where
  pub blocks : ℕ
  pub steps : ℕ
  pub accesses : ℕ

-- the last block is closed by the end of the kernel
abbrev pub form_sizes : Normal → Sizes
form_sizes f = record {
  blocks = sum_by (λ s. closes s.kind) f.body + 1;
  steps = sum_by (λ s. steps s.kind) f.body;
  accesses = sum_by (λ s. accesses s.kind) f.body;
}
