-- The faults of a whole node from those of its parts, through the rows in which trees hold their parts.
use Rattle.std.proofs.Common.{◌≡◌, ℕ, suc, ◌+◌, arith, Bool, true, false, List, [], ◌∷◌, ◌++◌, length, Option, Some, None, refl, sym, ap, ◌∙◌, append_assoc}
use denote.Hole.Carrier.{hidden}
use Rattle.el_base.specs.declared.span.Span.{Span}
use Rattle.el_base.specs.declared.ty.Ty.{Ty}
use Rattle.c_ast.specs.declared.tree.Binary.{Binary}
use Rattle.c_ast.specs.declared.tree.Expr.{Expr}
use Rattle.c_ast.specs.declared.tree.ExprKind.TheVariants as expr
use Rattle.c_ast.specs.declared.tree.ExprKind.TheBlock.{shape-the_row-Expr-0, hidden-the_row-Expr-0, shape-the_row-Expr-1, hidden-the_row-Expr-1}
use Rattle.c_ast.specs.declared.tree.Stmt.{Stmt}
use Rattle.c_ast.specs.declared.tree.StmtKind.TheVariants as stmt
use Rattle.c_ast.specs.declared.tree.StmtKind.TheBlock.{shape-the_row-Stmt-0, hidden-the_row-Stmt-0, shape-the_row-Stmt-1, hidden-the_row-Stmt-1, back-StmtKind-If-2}
use Rattle.c_ast.specs.Typing.{row_length}
use Rattle.c_types.specs.Faults.{Sorts, use_faults, call_faults, kind_faults, row_faults, expr_faults, exprs_faults, option_faults, act_faults, acts_faults, held_faults, stmt_faults, stmts_faults, inner_faults, sorts_after, sorts_after_all, sorts_after_row}

-- ---- rows and lists

pub row_is_list : (names : Sorts) (es : List Expr) → row_faults names (hidden-the_row-Expr-0 es) ≡ exprs_faults names es
unfolding shape-the_row-Expr-0 hidden-the_row-Expr-0 shape-the_row-Expr-1 hidden-the_row-Expr-1 hidden
row_is_list names [] = refl
row_is_list names (e ∷ es) = ap (λ fs. expr_faults names e ++ fs) (row_is_list names es)

one_plus : (n : ℕ) → 1 + n ≡ suc n
one_plus n = omega arith

pub row_is_long : (es : List Expr) → row_length (hidden-the_row-Expr-0 es) ≡ length es
unfolding shape-the_row-Expr-0 hidden-the_row-Expr-0 shape-the_row-Expr-1 hidden-the_row-Expr-1 hidden
row_is_long [] = refl
row_is_long (e ∷ es) = ap (λ n. 1 + n) (row_is_long es) ∙ one_plus (length es)

pub acts_are_list : (ss : List Stmt) (r : Option Ty) (loop : Bool) (names : Sorts) → acts_faults (hidden-the_row-Stmt-0 ss) r loop names ≡ stmts_faults ss r loop names
unfolding shape-the_row-Stmt-0 hidden-the_row-Stmt-0 shape-the_row-Stmt-1 hidden-the_row-Stmt-1 hidden
acts_are_list [] r loop names = refl
acts_are_list (s ∷ ss) r loop names = ap (λ fs. stmt_faults s r loop names ++ fs) (acts_are_list ss r loop (sorts_after names s.kind))

pub after_is_list : (ss : List Stmt) (names : Sorts) → sorts_after_row names (hidden-the_row-Stmt-0 ss) ≡ sorts_after_all names ss
unfolding shape-the_row-Stmt-0 hidden-the_row-Stmt-0 shape-the_row-Stmt-1 hidden-the_row-Stmt-1 hidden
after_is_list [] names = refl
after_is_list (s ∷ ss) names = after_is_list ss (sorts_after names s.kind)

pub held_is_inner : (o : Option Stmt) (r : Option Ty) (loop : Bool) (names : Sorts) → held_faults (back-StmtKind-If-2 o) r loop names ≡ inner_faults o r loop names
unfolding shape-the_row-Stmt-0 hidden-the_row-Stmt-0 shape-the_row-Stmt-1 hidden-the_row-Stmt-1 hidden
held_is_inner None r loop names = refl
held_is_inner (Some s) r loop names = refl

-- ---- expressions

pub in_element : (names : Sorts) (x : List ℕ) (es : List Expr) (at : Span) → kind_faults names (expr.Element x es) at ≡ use_faults names x (length es) at ++ exprs_faults names es
unfolding shape-the_row-Expr-0 hidden-the_row-Expr-0 shape-the_row-Expr-1 hidden-the_row-Expr-1 hidden
in_element names x es at =
    ap (λ n. use_faults names x n at ++ row_faults names (hidden-the_row-Expr-0 es)) (row_is_long es) ∙ ap (λ fs. use_faults names x (length es) at ++ fs) (row_is_list names es)

pub in_call : (names : Sorts) (x : List ℕ) (es : List Expr) (at : Span) → kind_faults names (expr.Call x es) at ≡ call_faults names x (length es) at ++ exprs_faults names es
unfolding shape-the_row-Expr-0 hidden-the_row-Expr-0 shape-the_row-Expr-1 hidden-the_row-Expr-1 hidden
in_call names x es at =
    ap (λ n. call_faults names x n at ++ row_faults names (hidden-the_row-Expr-0 es)) (row_is_long es) ∙ ap (λ fs. call_faults names x (length es) at ++ fs) (row_is_list names es)

pub in_binary : (names : Sorts) (op : Binary) (e g : Expr) (at : Span) → kind_faults names (expr.Binary op e g) at ≡ expr_faults names e ++ expr_faults names g
unfolding shape-the_row-Expr-0 hidden-the_row-Expr-0 shape-the_row-Expr-1 hidden-the_row-Expr-1 hidden
in_binary names op e g at = refl

pub in_choice : (names : Sorts) (e g i : Expr) (at : Span) → kind_faults names (expr.Choose e g i) at ≡ expr_faults names e ++ (expr_faults names g ++ expr_faults names i)
unfolding shape-the_row-Expr-0 hidden-the_row-Expr-0 shape-the_row-Expr-1 hidden-the_row-Expr-1 hidden
in_choice names e g i at = refl

-- ---- statements

pub in_block : (ss : List Stmt) (at : Span) (r : Option Ty) (loop : Bool) (names : Sorts) → act_faults (stmt.Block ss) at r loop names ≡ stmts_faults ss r loop ([] ∷ names)
unfolding shape-the_row-Stmt-0 hidden-the_row-Stmt-0 shape-the_row-Stmt-1 hidden-the_row-Stmt-1 hidden
in_block ss at r loop names = acts_are_list ss r loop ([] ∷ names)

pub in_if : (e : Expr) (s : Stmt) (o : Option Stmt) (at : Span) (r : Option Ty) (loop : Bool) (names : Sorts)
    → act_faults (stmt.If e s o) at r loop names ≡ expr_faults names e ++ (stmt_faults s r loop ([] ∷ names) ++ inner_faults o r loop names)
unfolding shape-the_row-Stmt-0 hidden-the_row-Stmt-0 shape-the_row-Stmt-1 hidden-the_row-Stmt-1 hidden
in_if e s o at r loop names = ap (λ fs. expr_faults names e ++ (stmt_faults s r loop ([] ∷ names) ++ fs)) (held_is_inner o r loop names)

pub in_while : (e : Expr) (s : Stmt) (at : Span) (r : Option Ty) (loop : Bool) (names : Sorts)
    → act_faults (stmt.While e s) at r loop names ≡ expr_faults names e ++ stmt_faults s r true ([] ∷ names)
unfolding shape-the_row-Stmt-0 hidden-the_row-Stmt-0 shape-the_row-Stmt-1 hidden-the_row-Stmt-1 hidden
in_while e s at r loop names = refl

pub in_do : (s : Stmt) (e : Expr) (at : Span) (r : Option Ty) (loop : Bool) (names : Sorts)
    → act_faults (stmt.DoWhile s e) at r loop names ≡ stmt_faults s r true ([] ∷ names) ++ expr_faults names e
unfolding shape-the_row-Stmt-0 hidden-the_row-Stmt-0 shape-the_row-Stmt-1 hidden-the_row-Stmt-1 hidden
in_do s e at r loop names = refl

pub in_for : (ss : List Stmt) (e : Option Expr) (o : Option Stmt) (s : Stmt) (at : Span) (r : Option Ty) (loop : Bool) (names : Sorts)
    → act_faults (stmt.For ss e o s) at r loop names
    ≡ stmts_faults ss r false ([] ∷ names) ++ (option_faults (sorts_after_all ([] ∷ names) ss) e
    ++ (inner_faults o r false (sorts_after_all ([] ∷ names) ss) ++ stmt_faults s r true ([] ∷ sorts_after_all ([] ∷ names) ss)))
unfolding shape-the_row-Stmt-0 hidden-the_row-Stmt-0 shape-the_row-Stmt-1 hidden-the_row-Stmt-1 hidden
in_for ss e o s at r loop names =
    ap (λ fs. fs ++ (option_faults (sorts_after_row ([] ∷ names) (hidden-the_row-Stmt-0 ss)) e
    ++ (held_faults (back-StmtKind-If-2 o) r false (sorts_after_row ([] ∷ names) (hidden-the_row-Stmt-0 ss)) ++ stmt_faults s r true ([] ∷ sorts_after_row ([] ∷ names) (hidden-the_row-Stmt-0 ss)))))
    (acts_are_list ss r false ([] ∷ names))
    ∙ ap (λ after. stmts_faults ss r false ([] ∷ names) ++ (option_faults after e ++ (held_faults (back-StmtKind-If-2 o) r false after ++ stmt_faults s r true ([] ∷ after)))) (after_is_list ss ([] ∷ names))
    ∙ ap (λ fs. stmts_faults ss r false ([] ∷ names) ++ (option_faults (sorts_after_all ([] ∷ names) ss) e ++ (fs ++ stmt_faults s r true ([] ∷ sorts_after_all ([] ∷ names) ss))))
    (held_is_inner o r false (sorts_after_all ([] ∷ names) ss))

-- ---- statements one after another

pub stmts_faults-append : (ss ts : List Stmt) (r : Option Ty) (loop : Bool) (names : Sorts)
    → stmts_faults (ss ++ ts) r loop names ≡ stmts_faults ss r loop names ++ stmts_faults ts r loop (sorts_after_all names ss)
stmts_faults-append [] ts r loop names = refl
stmts_faults-append (s ∷ ss) ts r loop names =
    ap (λ fs. stmt_faults s r loop names ++ fs) (stmts_faults-append ss ts r loop (sorts_after names s.kind))
    ∙ sym (append_assoc (stmt_faults s r loop names) (stmts_faults ss r loop (sorts_after names s.kind)) (stmts_faults ts r loop (sorts_after_all names (s ∷ ss))))

pub sorts_after_all-append : (ss ts : List Stmt) (names : Sorts) → sorts_after_all names (ss ++ ts) ≡ sorts_after_all (sorts_after_all names ss) ts
sorts_after_all-append [] ts names = refl
sorts_after_all-append (s ∷ ss) ts names = sorts_after_all-append ss ts (sorts_after names s.kind)
