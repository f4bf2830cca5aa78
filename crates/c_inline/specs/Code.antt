-- Words that the contracts of private functions cite, and no other.
use Rattle.std.specs.Prelude.{ℕ, ◌+◌, ◌-◌, ◌^◌, List, min, Option, Some, None}
use Rattle.c_ast.specs.declared.program.ProgExpr.{ProgExpr}
use Rattle.c_ast.specs.declared.program.ProgTarget.{ProgTarget}
use Rattle.c_ast.specs.declared.program.ProgStmt.{ProgStmt}
use Rattle.c_calls.specs.Counts.{behind_nodes, calls_expr_nodes, calls_target_nodes, inlined_stmt_nodes, rest_expr_nodes, rest_target_nodes}

-- ---- counts

-- a number, or 2^64 - 1 where it is greater
abbrev pub at_most_u64 : ℕ → ℕ
at_most_u64 n = min n (2 ^ 64 - 1)

abbrev pub stmt_nodes : List ℕ → ProgStmt → ℕ
stmt_nodes ns s = inlined_stmt_nodes ns s.kind

-- a statement that may be absent
abbrev pub held_nodes : List ℕ → Option ProgStmt → ℕ
held_nodes ns None = 0
held_nodes ns (Some s) = stmt_nodes ns s

-- the declaration of a parameter with this argument
abbrev pub declared_nodes : ProgExpr → ℕ
declared_nodes e = 1 + rest_expr_nodes e

abbrev pub assignment_nodes : List ℕ → ProgTarget → ProgExpr → ℕ
assignment_nodes ns target e = behind_nodes (calls_target_nodes ns target + calls_expr_nodes ns e) (1 + rest_target_nodes target + rest_expr_nodes e)

abbrev pub step_nodes : List ℕ → ProgTarget → ℕ
step_nodes ns target = behind_nodes (calls_target_nodes ns target) (1 + rest_target_nodes target)
