-- How many syntax nodes the tree without calls has, in sums: no tree is made. The nodes of each helper's block are counted once, helper by helper in order, and each call adds them.
use Rattle.std.specs.Prelude.{◌≡◌, ℕ, zero, suc, ◌+◌, List, [], ◌∷◌, ◌++◌, slice_get, sum_by, true, false, Option, Some, None}
use mathlib.Core.Former.{Count}
use Rattle.c_ast.specs.Nodes.{params_nodes, typed_nodes}
use Rattle.c_ast.specs.declared.program.ProgExpr.{ProgExpr}
use Rattle.c_ast.specs.declared.program.ProgExprKind.{ProgExprKind, Row_of-ProgExpr, end_of-ProgExpr, more_of-ProgExpr}
use Rattle.c_ast.specs.declared.program.ProgExprKind as tree
use Rattle.c_ast.specs.declared.program.ProgTarget.{ProgTarget}
use Rattle.c_ast.specs.declared.program.ProgStmt.{ProgStmt}
use Rattle.c_ast.specs.declared.program.ProgStmtKind.{ProgStmtKind, Row_of-ProgStmt, end_of-ProgStmt, more_of-ProgStmt, Held-ProgStmtKind-If-2}
use Rattle.c_ast.specs.declared.program.ProgStmtKind as act
use Rattle.c_ast.specs.declared.program.TypedHelper.{TypedHelper}
use Rattle.c_ast.specs.declared.program.TypedProgram.{TypedProgram}
use Rattle.c_calls.specs.Inlined.{inlined}

-- ---- expressions

abbrev mutual
  -- what is left of an expression: a call leaves its fresh variable, and an implied cast is no node
  pub rest_nodes : ProgExprKind → ℕ
  rest_nodes (tree.Number n) = 1
  rest_nodes (tree.Var v) = 1
  rest_nodes (tree.Element' a n row) = 1 + rest_row_nodes row
  rest_nodes (tree.Unary' op b (more_of-ProgExpr e t at end_of-ProgExpr)) = 1 + rest_nodes e
  rest_nodes (tree.Cast' true b (more_of-ProgExpr e t at end_of-ProgExpr)) = rest_nodes e
  rest_nodes (tree.Cast' false b (more_of-ProgExpr e t at end_of-ProgExpr)) = 1 + rest_nodes e
  rest_nodes (tree.Binary' op b (more_of-ProgExpr e t at end_of-ProgExpr) b2 (more_of-ProgExpr e2 t2 at2 end_of-ProgExpr)) = 1 + rest_nodes e + rest_nodes e2
  rest_nodes (tree.Choose' b (more_of-ProgExpr e t at end_of-ProgExpr) b2 (more_of-ProgExpr e2 t2 at2 end_of-ProgExpr) b3 (more_of-ProgExpr e3 t3 at3 end_of-ProgExpr)) =
      1 + rest_nodes e + rest_nodes e2 + rest_nodes e3
  rest_nodes (tree.Call' h n row) = 1

  pub rest_row_nodes : {n : Count} → Row_of-ProgExpr n → ℕ
  rest_row_nodes end_of-ProgExpr = 0
  rest_row_nodes (more_of-ProgExpr e t at row) = rest_nodes e + rest_row_nodes row

-- the declarations of the parameters of a call, with the arguments as their values
abbrev pub argument_nodes : {n : Count} → Row_of-ProgExpr n → ℕ
argument_nodes end_of-ProgExpr = 0
argument_nodes (more_of-ProgExpr e t at row) = 1 + rest_nodes e + argument_nodes row

-- the block of a call of a helper whose block has so many nodes beside the declarations of its parameters; an empty statement stands for a helper that there is not
abbrev pub call_nodes : Option ℕ → ℕ → ℕ
call_nodes None args = 1
call_nodes (Some n) args = n + args

-- Of the helpers, ns says how many nodes the block of each has beside the declarations of its parameters.
abbrev mutual
  -- the blocks of the calls of an expression
  pub calls_nodes : List ℕ → ProgExprKind → ℕ
  calls_nodes ns (tree.Number n) = 0
  calls_nodes ns (tree.Var v) = 0
  calls_nodes ns (tree.Element' a n row) = calls_row_nodes ns row
  calls_nodes ns (tree.Unary' op b (more_of-ProgExpr e t at end_of-ProgExpr)) = calls_nodes ns e
  calls_nodes ns (tree.Cast' implied b (more_of-ProgExpr e t at end_of-ProgExpr)) = calls_nodes ns e
  calls_nodes ns (tree.Binary' op b (more_of-ProgExpr e t at end_of-ProgExpr) b2 (more_of-ProgExpr e2 t2 at2 end_of-ProgExpr)) = calls_nodes ns e + calls_nodes ns e2
  calls_nodes ns (tree.Choose' b (more_of-ProgExpr e t at end_of-ProgExpr) b2 (more_of-ProgExpr e2 t2 at2 end_of-ProgExpr) b3 (more_of-ProgExpr e3 t3 at3 end_of-ProgExpr)) =
      calls_nodes ns e + (calls_nodes ns e2 + calls_nodes ns e3)
  calls_nodes ns (tree.Call' h n row) = calls_row_nodes ns row + call_nodes (slice_get ns h) (argument_nodes row)

  pub calls_row_nodes : List ℕ → {n : Count} → Row_of-ProgExpr n → ℕ
  calls_row_nodes ns end_of-ProgExpr = 0
  calls_row_nodes ns (more_of-ProgExpr e t at row) = calls_nodes ns e + calls_row_nodes ns row

abbrev pub rest_expr_nodes : ProgExpr → ℕ
rest_expr_nodes e = rest_nodes e.kind

abbrev pub calls_expr_nodes : List ℕ → ProgExpr → ℕ
calls_expr_nodes ns e = calls_nodes ns e.kind

abbrev pub rest_option_nodes : Option ProgExpr → ℕ
rest_option_nodes None = 0
rest_option_nodes (Some e) = rest_expr_nodes e

abbrev pub calls_option_nodes : List ℕ → Option ProgExpr → ℕ
calls_option_nodes ns None = 0
calls_option_nodes ns (Some e) = calls_expr_nodes ns e

abbrev pub rest_target_nodes : ProgTarget → ℕ
rest_target_nodes target = 1 + sum_by rest_expr_nodes target.indices

abbrev pub calls_target_nodes : List ℕ → ProgTarget → ℕ
calls_target_nodes ns target = sum_by (calls_expr_nodes ns) target.indices

-- ---- statements

-- a statement behind blocks of so many nodes: no block has none, and one more holds them and the statement, where there are any
abbrev pub behind_nodes : ℕ → ℕ → ℕ
behind_nodes zero own = own
behind_nodes (suc blocks) own = 1 + (suc blocks + own)

abbrev mutual
  -- the statement that a statement becomes
  pub inlined_stmt_nodes : List ℕ → ProgStmtKind → ℕ
  inlined_stmt_nodes ns (act.Block' n row) = 1 + inlined_row_nodes ns row
  inlined_stmt_nodes ns (act.Declare v init) = behind_nodes (calls_option_nodes ns init) (1 + rest_option_nodes init)
  inlined_stmt_nodes ns (act.Assign target op e) = behind_nodes (calls_target_nodes ns target + calls_expr_nodes ns e) (1 + rest_target_nodes target + rest_expr_nodes e)
  inlined_stmt_nodes ns (act.Step target up) = behind_nodes (calls_target_nodes ns target) (1 + rest_target_nodes target)
  inlined_stmt_nodes ns (act.If' cond b (more_of-ProgStmt s at end_of-ProgStmt) o) =
      behind_nodes (calls_expr_nodes ns cond) (1 + rest_expr_nodes cond + inlined_stmt_nodes ns s + inlined_held_nodes ns o)
  inlined_stmt_nodes ns (act.While' cond b (more_of-ProgStmt s at end_of-ProgStmt)) = 1 + rest_expr_nodes cond + inlined_stmt_nodes ns s
  inlined_stmt_nodes ns (act.DoWhile' b (more_of-ProgStmt s at end_of-ProgStmt) cond) = 1 + inlined_stmt_nodes ns s + rest_expr_nodes cond
  inlined_stmt_nodes ns (act.For' n first cond step b (more_of-ProgStmt s at end_of-ProgStmt)) =
      1 + inlined_row_nodes ns first + rest_option_nodes cond + inlined_held_nodes ns step + inlined_stmt_nodes ns s
  inlined_stmt_nodes ns act.Break = 1
  inlined_stmt_nodes ns act.Continue = 1
  inlined_stmt_nodes ns (act.Return e) = behind_nodes (calls_option_nodes ns e) (1 + rest_option_nodes e)
  inlined_stmt_nodes ns act.Empty = 1

  pub inlined_held_nodes : List ℕ → Held-ProgStmtKind-If-2 → ℕ
  inlined_held_nodes ns act.None' = 0
  inlined_held_nodes ns (act.Some' b (more_of-ProgStmt s at end_of-ProgStmt)) = inlined_stmt_nodes ns s

  pub inlined_row_nodes : List ℕ → {n : Count} → Row_of-ProgStmt n → ℕ
  inlined_row_nodes ns end_of-ProgStmt = 0
  inlined_row_nodes ns (more_of-ProgStmt s at row) = inlined_stmt_nodes ns s + inlined_row_nodes ns row

abbrev pub inlined_list_nodes : List ℕ → List ProgStmt → ℕ
inlined_list_nodes ns ss = sum_by (λ s. inlined_stmt_nodes ns s.kind) ss

-- ---- helpers and programs

-- the block of a helper beside the declarations of its parameters: itself, the helper's statements, and the assignment of its value to the fresh variable
abbrev pub block_nodes : List ℕ → TypedHelper → ℕ
block_nodes ns h = 1 + (inlined_list_nodes ns h.body + behind_nodes (calls_expr_nodes ns h.value) (2 + rest_expr_nodes h.value))

-- those of helpers behind others whose blocks have so many
abbrev pub blocks_nodes : List ℕ → List TypedHelper → List ℕ
blocks_nodes ns [] = ns
blocks_nodes ns (h ∷ hs) = blocks_nodes (ns ++ block_nodes ns h ∷ []) hs

-- the kernel, its parameters, its block and what the block holds
abbrev pub inlined_nodes : TypedProgram → ℕ
inlined_nodes P = 1 + params_nodes P.kernel.params + (1 + inlined_list_nodes (blocks_nodes [] P.helpers) P.kernel.body)

-- a law: these are the nodes of the tree without calls, of every program
abbrev pub InlinedHasNodes : Type 0
InlinedHasNodes = (P : TypedProgram) → typed_nodes (inlined P) ≡ inlined_nodes P
