-- The calls that stand where none may in a whole node, from those in its parts, through the rows in which trees hold their parts.
use Rattle.std.proofs.Common.{◌≡◌, ℕ, Bool, true, false, List, [], ◌∷◌, ◌++◌, Option, Some, None, refl, ap, ◌∙◌}
use Rattle.el_base.specs.declared.span.Span.{Span}
use Rattle.c_ast.specs.declared.tree.Binary.{Binary}
use Rattle.c_ast.specs.declared.tree.Expr.{Expr}
use Rattle.c_ast.specs.declared.tree.ExprKind.TheVariants as expr
use Rattle.c_ast.specs.declared.tree.ExprKind.TheBlock.{hidden-the_row-Expr-0}
use Rattle.c_ast.specs.declared.tree.Stmt.{Stmt}
use Rattle.c_ast.specs.declared.tree.StmtKind.TheVariants as stmt
use Rattle.c_ast.specs.declared.tree.StmtKind.TheBlock.{hidden-the_row-Stmt-0}
use Rattle.c_ast.specs.declared.tree.StmtKind.{back-StmtKind-If-2}
use Rattle.c_ast.specs.Programs.{joins_both, where_whole}
use Rattle.c_types.specs.CallPlaces.{call_places, kind_places, row_places, expr_places, exprs_places, option_places, act_places, held_places, acts_places, stmt_places, inner_places, stmts_places}
use Rattle.c_types.proofs.TreeRows.{tree_rows}

-- ---- rows and lists

pub row_is_list : (may : Bool) (es : List Expr) → row_places may (hidden-the_row-Expr-0 es) ≡ exprs_places may es
unfolding tree_rows
row_is_list may [] = refl
row_is_list may (e ∷ es) = ap (λ fs. expr_places may e ++ fs) (row_is_list may es)

pub acts_are_list : (ss : List Stmt) → acts_places (hidden-the_row-Stmt-0 ss) ≡ stmts_places ss
unfolding tree_rows
acts_are_list [] = refl
acts_are_list (s ∷ ss) = ap (λ fs. stmt_places s ++ fs) (acts_are_list ss)

pub held_is_inner : (o : Option Stmt) → held_places (back-StmtKind-If-2 o) ≡ inner_places o
unfolding tree_rows
held_is_inner None = refl
held_is_inner (Some s) = refl

-- ---- expressions

pub in_element : (may : Bool) (x : List ℕ) (es : List Expr) (at : Span) → kind_places may (expr.Element x es) at ≡ exprs_places may es
unfolding tree_rows
in_element may x es at = row_is_list may es

pub in_call : (may : Bool) (x : List ℕ) (es : List Expr) (at : Span) → kind_places may (expr.Call x es) at ≡ call_places may x at ++ exprs_places may es
unfolding tree_rows
in_call may x es at = ap (λ fs. call_places may x at ++ fs) (row_is_list may es)

pub in_binary : (may : Bool) (op : Binary) (e g : Expr) (at : Span) → kind_places may (expr.Binary op e g) at ≡ expr_places may e ++ expr_places (where_whole (joins_both op) may) g
unfolding tree_rows
in_binary may op e g at = refl

pub in_choice : (may : Bool) (e g i : Expr) (at : Span) → kind_places may (expr.Choose e g i) at ≡ expr_places may e ++ (expr_places false g ++ expr_places false i)
unfolding tree_rows
in_choice may e g i at = refl

-- ---- statements

pub in_if : (e : Expr) (s : Stmt) (o : Option Stmt) → act_places (stmt.If e s o) ≡ expr_places true e ++ (stmt_places s ++ inner_places o)
unfolding tree_rows
in_if e s o = ap (λ fs. expr_places true e ++ (stmt_places s ++ fs)) (held_is_inner o)

pub in_while : (e : Expr) (s : Stmt) → act_places (stmt.While e s) ≡ expr_places false e ++ stmt_places s
unfolding tree_rows
in_while e s = refl

pub in_for : (ss : List Stmt) (e : Option Expr) (o : Option Stmt) (s : Stmt) → act_places (stmt.For ss e o s) ≡ stmts_places ss ++ (option_places false e ++ (inner_places o ++ stmt_places s))
unfolding tree_rows
in_for ss e o s =
    ap (λ fs. fs ++ (option_places false e ++ (held_places (back-StmtKind-If-2 o) ++ stmt_places s))) (acts_are_list ss)
    ∙ ap (λ fs. stmts_places ss ++ (option_places false e ++ (fs ++ stmt_places s))) (held_is_inner o)
