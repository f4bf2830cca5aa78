-- A worked block, with each kind of assignment.
use Rattle.std.specs.Prelude.{◌≡◌, ℕ, List, [], ◌∷◌, Bool, true, false, Option, Some, None}
use Rattle.el_base.specs.declared.span.Span.{Span}
use Rattle.c_ast.specs.declared.tree.Binary.{Binary}
use Rattle.c_ast.specs.declared.tree.Binary.TheVariants.{Add}
use Rattle.c_ast.specs.declared.typed.Object.{Object}
use Rattle.c_ast.specs.declared.typed.Object.TheVariants as object
use Rattle.c_ast.specs.declared.typed.TypedExpr.{TypedExpr}
use Rattle.c_ast.specs.declared.typed.TypedTarget.{TypedTarget}
use Rattle.c_ast.specs.declared.typed.TypedStmt.{TypedStmt}
use Rattle.c_ast.specs.declared.typed.TypedStmtKind.{TypedStmtKind}
use Rattle.c_ast.specs.declared.typed.TypedStmtKind.TheVariants as stmt
use Rattle.kernel_graph.specs.Targets.{stmts_targets}

abbrev pub target_at : Span → Object → List TypedExpr → TypedTarget
target_at s to indices = record { to = to; at = s; indices = indices }

abbrev pub stmt_at : Span → TypedStmtKind → TypedStmt
stmt_at s kind = record { kind = kind; at = s }

-- the statement e; for a variable, or an element with the index e
abbrev pub assigns : Span → TypedExpr → Object → Option Binary → TypedStmt
assigns s e to op = stmt_at s (stmt.Assign (target_at s to (e ∷ [])) op e)

abbrev pub steps : Span → TypedExpr → Object → Bool → TypedStmt
steps s e to up = stmt_at s (stmt.Step (target_at s to (e ∷ [])) up)

-- { a[e] += e; if (e) b[e]--; else v = e; for (v++; e; c[e]++) { while (e) d[e] = e; } }
abbrev pub worked_block : Span → TypedExpr → ℕ → ℕ → ℕ → ℕ → ℕ → List TypedStmt
worked_block s e a b c d v =
    assigns s e (object.Array a) (Some Add)
    ∷ stmt_at s (stmt.If e (steps s e (object.Array b) false) (Some (assigns s e (object.Var v) None)))
    ∷ stmt_at s (stmt.For (steps s e (object.Var v) true ∷ []) (Some e) (Some (steps s e (object.Array c) true))
    (stmt_at s (stmt.Block (stmt_at s (stmt.While e (assigns s e (object.Array d) None)) ∷ []))))
    ∷ []

abbrev pub BlockAssigns : Type 0
BlockAssigns = (s : Span) (e : TypedExpr) (a b c d v : ℕ) → stmts_targets (worked_block s e a b c d v) ≡ a ∷ b ∷ d ∷ c ∷ []
