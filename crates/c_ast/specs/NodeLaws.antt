-- What kinds of expressions and statements count, wherever they stand in a text.
use Rattle.std.specs.Prelude.{◌≡◌, ℕ}
use Rattle.el_base.specs.declared.span.Span.{Span}
use Rattle.c_ast.specs.declared.tree.ExprKind.{ExprKind}
use Rattle.c_ast.specs.declared.tree.StmtKind.{StmtKind}
use Rattle.c_ast.specs.declared.typed.TypedExprKind.{TypedExprKind}
use Rattle.c_ast.specs.declared.typed.TypedStmtKind.{TypedStmtKind}
use Rattle.c_ast.specs.Casts.{expr_at, stmt_at}
use Rattle.c_ast.specs.Nodes.{expr_nodes, stmt_nodes, typed_kind_nodes, act_nodes}

-- an expression of this kind has so many nodes
abbrev pub ExprHas : ExprKind → ℕ → Type 0
ExprHas kind n = (s : Span) → expr_nodes (expr_at kind s) ≡ n

-- a statement of this kind has so many nodes
abbrev pub StmtHas : StmtKind → ℕ → Type 0
StmtHas kind n = (s : Span) → stmt_nodes (stmt_at kind s) ≡ n

-- the same of typed trees
abbrev pub TypedExprHas : TypedExprKind → ℕ → Type 0
TypedExprHas kind n = typed_kind_nodes kind ≡ n

abbrev pub TypedStmtHas : TypedStmtKind → ℕ → Type 0
TypedStmtHas kind n = act_nodes kind ≡ n
