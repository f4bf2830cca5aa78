-- What the parts of a node keep of the typing rules, through the rows in which trees hold their parts.
use Rattle.std.proofs.Common.{◌≡◌, ℕ, Bool, true, false, List, [], ◌∷◌, length, All, Option, Some, None, refl, subst}
use Rattle.std.specs.Prelude.{IfSome}
use Rattle.std.proofs.lemmas.List.Elements.{All-nil, All-cons}
use denote.Hole.Carrier.{hidden}
use Rattle.el_base.specs.declared.ty.Ty.{Ty}
use Rattle.c_ast.specs.declared.tree.Unary.{Unary}
use Rattle.c_ast.specs.declared.tree.Binary.{Binary}
use Rattle.c_ast.specs.declared.tree.Expr.{Expr}
use Rattle.c_ast.specs.declared.tree.ExprKind.TheVariants as expr
use Rattle.c_ast.specs.declared.tree.ExprKind.TheBlock.{shape-the_row-Expr-0, hidden-the_row-Expr-0, shape-the_row-Expr-1, hidden-the_row-Expr-1}
use Rattle.c_ast.specs.declared.tree.Stmt.{Stmt}
use Rattle.c_ast.specs.declared.tree.StmtKind.TheVariants as stmt
use Rattle.c_ast.specs.declared.tree.StmtKind.TheBlock.{shape-the_row-Stmt-0, hidden-the_row-Stmt-0, shape-the_row-Stmt-1, hidden-the_row-Stmt-1, back-StmtKind-If-2}
use Rattle.c_ast.specs.Typing.{Names, IsUsable, IsCallable, TypingKind, TypingRow, TypingExpr, TypingOption, names_after, names_after_row, TypingStmt, TypingHeld, TypingStmts, TypingList}
use Rattle.c_ast.specs.Programs.{names_after_list}
use Rattle.c_types.proofs.Layers.{row_is_long}

-- ---- expressions

pub all_in_row : (names : Names) (es : List Expr) → TypingRow names (hidden-the_row-Expr-0 es) → All (TypingExpr names) es
unfolding shape-the_row-Expr-0 hidden-the_row-Expr-0 shape-the_row-Expr-1 hidden-the_row-Expr-1 hidden
all_in_row names [] k = All-nil (TypingExpr names)
all_in_row names (e ∷ es) k = All-cons (TypingExpr names) e es k.0 (all_in_row names es k.1)

-- an element is used with its indices, which keep the rules
pub used_element : (names : Names) (x : List ℕ) (es : List Expr) → TypingKind names (expr.Element x es) → IsUsable names x (length es)
unfolding shape-the_row-Expr-0 hidden-the_row-Expr-0 shape-the_row-Expr-1 hidden-the_row-Expr-1 hidden
used_element names x es k = subst (IsUsable names x) (row_is_long es) k.0

pub used_call : (names : Names) (x : List ℕ) (es : List Expr) → TypingKind names (expr.Call x es) → IsCallable names x (length es)
unfolding shape-the_row-Expr-0 hidden-the_row-Expr-0 shape-the_row-Expr-1 hidden-the_row-Expr-1 hidden
used_call names x es k = subst (IsCallable names x) (row_is_long es) k.0

pub in_element : (names : Names) (x : List ℕ) (es : List Expr) → TypingKind names (expr.Element x es) → All (TypingExpr names) es
unfolding shape-the_row-Expr-0 hidden-the_row-Expr-0 shape-the_row-Expr-1 hidden-the_row-Expr-1 hidden
in_element names x es k = all_in_row names es k.1

pub in_call : (names : Names) (x : List ℕ) (es : List Expr) → TypingKind names (expr.Call x es) → All (TypingExpr names) es
unfolding shape-the_row-Expr-0 hidden-the_row-Expr-0 shape-the_row-Expr-1 hidden-the_row-Expr-1 hidden
in_call names x es k = all_in_row names es k.1

pub in_unary : (names : Names) (op : Unary) (e : Expr) → TypingKind names (expr.Unary op e) → TypingExpr names e
unfolding shape-the_row-Expr-0 hidden-the_row-Expr-0 shape-the_row-Expr-1 hidden-the_row-Expr-1 hidden
in_unary names op e k = k

pub in_cast : (names : Names) (t : Ty) (e : Expr) → TypingKind names (expr.Cast t e) → TypingExpr names e
unfolding shape-the_row-Expr-0 hidden-the_row-Expr-0 shape-the_row-Expr-1 hidden-the_row-Expr-1 hidden
in_cast names t e k = k

pub in_binary : (names : Names) (op : Binary) (e g : Expr) → TypingKind names (expr.Binary op e g) → TypingExpr names e × TypingExpr names g
unfolding shape-the_row-Expr-0 hidden-the_row-Expr-0 shape-the_row-Expr-1 hidden-the_row-Expr-1 hidden
in_binary names op e g k = k

pub in_choice : (names : Names) (e g i : Expr) → TypingKind names (expr.Choose e g i) → TypingExpr names e × TypingExpr names g × TypingExpr names i
unfolding shape-the_row-Expr-0 hidden-the_row-Expr-0 shape-the_row-Expr-1 hidden-the_row-Expr-1 hidden
in_choice names e g i k = k

pub in_option : (names : Names) (o : Option Expr) → TypingOption names o → IfSome o (TypingExpr names)
in_option names None k = tt
in_option names (Some e) k = k

-- ---- statements

list_in_row : (ss : List Stmt) (r : Option Ty) (loop : Bool) (names : Names) → TypingStmts (hidden-the_row-Stmt-0 ss) r loop names → TypingList ss r loop names
unfolding shape-the_row-Stmt-0 hidden-the_row-Stmt-0 shape-the_row-Stmt-1 hidden-the_row-Stmt-1 hidden
list_in_row [] r loop names k = tt
list_in_row (s ∷ ss) r loop names k = (k.0, list_in_row ss r loop (names_after names s.kind) k.1)

after_row : (ss : List Stmt) (names : Names) → names_after_row names (hidden-the_row-Stmt-0 ss) ≡ names_after_list names ss
unfolding shape-the_row-Stmt-0 hidden-the_row-Stmt-0 shape-the_row-Stmt-1 hidden-the_row-Stmt-1 hidden
after_row [] names = refl
after_row (s ∷ ss) names = after_row ss (names_after names s.kind)

-- a statement inside a statement, which may be absent, in a scope of its own
in_held : (o : Option Stmt) (r : Option Ty) (loop : Bool) (names : Names) → TypingHeld (back-StmtKind-If-2 o) r loop names → IfSome o (λ s. TypingStmt s.kind r loop ([] ∷ names))
unfolding shape-the_row-Stmt-0 hidden-the_row-Stmt-0 shape-the_row-Stmt-1 hidden-the_row-Stmt-1 hidden
in_held None r loop names k = tt
in_held (Some s) r loop names k = k

pub in_block : (ss : List Stmt) (r : Option Ty) (loop : Bool) (names : Names) → TypingStmt (stmt.Block ss) r loop names → TypingList ss r loop ([] ∷ names)
unfolding shape-the_row-Stmt-0 hidden-the_row-Stmt-0 shape-the_row-Stmt-1 hidden-the_row-Stmt-1 hidden
in_block ss r loop names k = list_in_row ss r loop ([] ∷ names) k

pub in_if : (e : Expr) (s : Stmt) (o : Option Stmt) (r : Option Ty) (loop : Bool) (names : Names) → TypingStmt (stmt.If e s o) r loop names
    → TypingExpr names e × TypingStmt s.kind r loop ([] ∷ names) × IfSome o (λ s. TypingStmt s.kind r loop ([] ∷ names))
unfolding shape-the_row-Stmt-0 hidden-the_row-Stmt-0 shape-the_row-Stmt-1 hidden-the_row-Stmt-1 hidden
in_if e s o r loop names k = (k.0, k.1, in_held o r loop names k.2)

pub in_while : (e : Expr) (s : Stmt) (r : Option Ty) (loop : Bool) (names : Names) → TypingStmt (stmt.While e s) r loop names → TypingExpr names e × TypingStmt s.kind r true ([] ∷ names)
unfolding shape-the_row-Stmt-0 hidden-the_row-Stmt-0 shape-the_row-Stmt-1 hidden-the_row-Stmt-1 hidden
in_while e s r loop names k = k

pub in_do : (s : Stmt) (e : Expr) (r : Option Ty) (loop : Bool) (names : Names) → TypingStmt (stmt.DoWhile s e) r loop names → TypingStmt s.kind r true ([] ∷ names) × TypingExpr names e
unfolding shape-the_row-Stmt-0 hidden-the_row-Stmt-0 shape-the_row-Stmt-1 hidden-the_row-Stmt-1 hidden
in_do s e r loop names k = k

-- the parts of a for, where such names are in force after its first statements
pub record InFor (ss : List Stmt) (e : Option Expr) (o : Option Stmt) (s : Stmt) (r : Option Ty) (names after : Names) : Type 0 where
  pub first : TypingList ss r false ([] ∷ names)
  pub cond : IfSome e (TypingExpr after)
  pub step : IfSome o (λ s. TypingStmt s.kind r false ([] ∷ after))
  pub body : TypingStmt s.kind r true ([] ∷ after)

pub in_for : (ss : List Stmt) (e : Option Expr) (o : Option Stmt) (s : Stmt) (r : Option Ty) (loop : Bool) (names : Names) → TypingStmt (stmt.For ss e o s) r loop names
    → InFor ss e o s r names (names_after_list ([] ∷ names) ss)
unfolding shape-the_row-Stmt-0 hidden-the_row-Stmt-0 shape-the_row-Stmt-1 hidden-the_row-Stmt-1 hidden
in_for ss e o s r loop names k =
    subst (λ after. InFor ss e o s r names after) (after_row ss ([] ∷ names))
    (record {
      first = list_in_row ss r false ([] ∷ names) k.0;
      cond = in_option (names_after_row ([] ∷ names) (hidden-the_row-Stmt-0 ss)) e k.1;
      step = in_held o r false (names_after_row ([] ∷ names) (hidden-the_row-Stmt-0 ss)) k.2;
      body = k.3;
    })
