-- The expansion of an expression: what is set before it, in order, and what is left of it. Each && and || and ?: with a side that reads an array becomes one if that sets a variable.
use Rattle.std.specs.Prelude.{ℕ, ◌+◌, ◌==◌, List, [], ◌∷◌, ◌++◌, length, Bool, true, false, Option, Some, None}
use mathlib.Core.Former.{Count}
use Rattle.el_base.specs.declared.span.Span.{Span}
use Rattle.el_base.specs.declared.ty.Ty.{Ty}
use Rattle.el_base.specs.declared.ty.Ty.TheVariants.{I32}
use Rattle.c_ast.specs.declared.tree.Binary.{Binary as BinaryOp}
use Rattle.c_ast.specs.declared.tree.Binary.TheVariants.{Mul, Div, Rem, Add, Sub, Shl, Shr, Lt, Gt, Le, Ge, Eq, Ne, And, Xor, Or, Both, Either}
use Rattle.c_ast.specs.declared.typed.Object.TheVariants as object
use Rattle.c_ast.specs.declared.typed.TypedExpr.{TypedExpr}
use Rattle.c_ast.specs.declared.typed.TypedExprKind.{TypedExprKind, Row_of-TypedExpr, end_of-TypedExpr, more_of-TypedExpr}
use Rattle.c_ast.specs.declared.typed.TypedExprKind as tree
use Rattle.c_ast.specs.declared.typed.TypedExprKind.TheVariants as expr
use Rattle.c_ast.specs.declared.normal.NormalStmt.{NormalStmt}
use Rattle.c_ast.specs.declared.normal.NormalStmtKind.TheVariants as normal
use Rattle.c_ast.specs.Casts.{of_type}
use Rattle.c_meaning.specs.Sizes.{reads}

-- what is set before an expression, what is left of it, and the types of the variables that are made for it, in order
pub record Out : Type 0 where
  pub before : List NormalStmt
  pub kind : TypedExprKind
  pub types : List Ty

-- the same of several expressions
pub record Outs : Type 0 where
  pub before : List NormalStmt
  pub exprs : List TypedExpr
  pub types : List Ty

-- an expression that stays whole
abbrev pub whole : TypedExprKind → Out
whole kind = record { before = []; kind = kind; types = [] }

-- a variable is set to a value
abbrev pub setting : ℕ → TypedExpr → Span → NormalStmt
setting v e s = record { kind = normal.Assign (record { to = object.Var v; at = s; indices = [] }) e; at = s }

abbrev pub constant : ℕ → Span → TypedExpr
constant n s = of_type (expr.Number n) I32 s

-- 1 where a number is not 0, else 0
abbrev pub truth_of : TypedExpr → Span → TypedExpr
truth_of e s = of_type (expr.Choose e (constant 1 s) (constant 0 s)) I32 s

-- a side of a choice: what is set for its value, and then the variable
abbrev pub side : ℕ → List NormalStmt → TypedExpr → Span → NormalStmt
side v before e s = record { kind = normal.Block (before ++ setting v e s ∷ []); at = s }

-- if (cond) { .. v = yes; } else { .. v = no; }
abbrev pub choice : ℕ → TypedExpr → NormalStmt → NormalStmt → Span → NormalStmt
choice v cond yes_part no_part s = record { kind = normal.If [] cond yes_part (Some no_part); at = s }

-- The truth value of a left operand that decides, so that the right one is not evaluated: false of &&, true of ||. The other operators evaluate both.
abbrev pub decided_by : BinaryOp → Option Bool
decided_by Mul = None
decided_by Div = None
decided_by Rem = None
decided_by Add = None
decided_by Sub = None
decided_by Shl = None
decided_by Shr = None
decided_by Lt = None
decided_by Gt = None
decided_by Le = None
decided_by Ge = None
decided_by Eq = None
decided_by Ne = None
decided_by And = None
decided_by Xor = None
decided_by Or = None
decided_by Both = Some false
decided_by Either = Some true

-- the choice for && and for ||: the left operand is tested, and where it does not decide, the variable v is set to the truth of the right one
abbrev pub logical : Bool → ℕ → TypedExpr → List NormalStmt → TypedExpr → Span → NormalStmt
logical false v a before b s = choice v a (side v before (truth_of b s) s) (side v [] (constant 0 s) s) s
logical true v a before b s = choice v a (side v [] (constant 1 s) s) (side v before (truth_of b s) s) s

-- an operator with both its operands
abbrev pub joined_out : BinaryOp → Out → Ty → Span → Out → Ty → Span → Out
joined_out op o t at o2 t2 at2 = record { before = o.before ++ o2.before; kind = expr.Binary op (of_type o.kind t at) (of_type o2.kind t2 at2); types = o.types ++ o2.types }

abbrev pub logical_out : Bool → ℕ → Out → Ty → Span → Out → Ty → Span → Span → Out
logical_out d v o t at o2 t2 at2 s = record { before = o.before ++ logical d v (of_type o.kind t at) o2.before (of_type o2.kind t2 at2) s ∷ []; kind = expr.Var v; types = o.types ++ (o2.types ++ I32 ∷ []) }

-- by what decides, and whether no side reads an array
abbrev pub binary_out : Option Bool → Bool → TypedExprKind → BinaryOp → ℕ → Out → Ty → Span → Out → Ty → Span → Span → Out
binary_out None plain kind op v o t at o2 t2 at2 s = joined_out op o t at o2 t2 at2
binary_out (Some d) true kind op v o t at o2 t2 at2 s = whole kind
binary_out (Some d) false kind op v o t at o2 t2 at2 s = logical_out d v o t at o2 t2 at2 s

-- ?: with sides that read no array keeps them, and its condition is expanded; else it becomes a choice
abbrev pub choose_out : Bool → TypedExpr → TypedExpr → ℕ → Out → Ty → Span → Out → Ty → Span → Out → Ty → Span → Ty → Span → Out
choose_out true x y v o t at o2 t2 at2 o3 t3 at3 ty s = record { before = o.before; kind = expr.Choose (of_type o.kind t at) x y; types = o.types }
choose_out false x y v o t at o2 t2 at2 o3 t3 at3 ty s = record {
  before = o.before ++ choice v (of_type o.kind t at) (side v o2.before (of_type o2.kind t2 at2) s) (side v o3.before (of_type o3.kind t3 at3) s) s ∷ [];
  kind = expr.Var v;
  types = o.types ++ (o2.types ++ (o3.types ++ ty ∷ []));
}

abbrev mutual
  -- The variables that are made are numbered from f on.
  pub expand : ℕ → TypedExprKind → Ty → Span → Out
  expand f (tree.Number n) ty s = whole (tree.Number n)
  expand f (tree.Var v) ty s = whole (tree.Var v)
  expand f (tree.Element' a n row) ty s = let o = expand_row f row in record { before = o.before; kind = expr.Element a o.exprs; types = o.types }
  expand f (tree.Unary' op b (more_of-TypedExpr e t at end_of-TypedExpr)) ty s = let o = expand f e t at in record { before = o.before; kind = expr.Unary op (of_type o.kind t at); types = o.types }
  expand f (tree.Cast' implied b (more_of-TypedExpr e t at end_of-TypedExpr)) ty s = let o = expand f e t at in record { before = o.before; kind = expr.Cast implied (of_type o.kind t at); types = o.types }
  expand f (tree.Binary' op b (more_of-TypedExpr e t at end_of-TypedExpr) b2 (more_of-TypedExpr e2 t2 at2 end_of-TypedExpr)) ty s =
      let o = expand f e t at in
      let g = f + length o.types in
      let o2 = expand g e2 t2 at2 in
      binary_out (decided_by op) (reads e + reads e2 == 0) (tree.Binary' op b (more_of-TypedExpr e t at end_of-TypedExpr) b2 (more_of-TypedExpr e2 t2 at2 end_of-TypedExpr)) op (g + length o2.types) o t at o2 t2 at2 s
  expand f (tree.Choose' b (more_of-TypedExpr e t at end_of-TypedExpr) b2 (more_of-TypedExpr e2 t2 at2 end_of-TypedExpr) b3 (more_of-TypedExpr e3 t3 at3 end_of-TypedExpr)) ty s =
      let o = expand f e t at in
      let g = f + length o.types in
      let o2 = expand g e2 t2 at2 in
      let h = g + length o2.types in
      let o3 = expand h e3 t3 at3 in
      choose_out (reads e2 + reads e3 == 0) (of_type e2 t2 at2) (of_type e3 t3 at3) (h + length o3.types) o t at o2 t2 at2 o3 t3 at3 ty s

  -- several expressions, from left to right
  pub expand_row : ℕ → {n : Count} → Row_of-TypedExpr n → Outs
  expand_row f end_of-TypedExpr = record { before = []; exprs = []; types = [] }
  expand_row f (more_of-TypedExpr e t at row) =
      let o = expand f e t at in
      let r = expand_row (f + length o.types) row in
      record { before = o.before ++ r.before; exprs = of_type o.kind t at ∷ r.exprs; types = o.types ++ r.types }

abbrev pub expand_expr : ℕ → TypedExpr → Out
expand_expr f e = expand f e.kind e.ty e.at

-- what is left of an expression, with its type and place
abbrev pub rest_of : Out → TypedExpr → TypedExpr
rest_of o e = of_type o.kind e.ty e.at

-- the same of a list of expressions
abbrev pub expand_all : ℕ → List TypedExpr → Outs
expand_all f [] = record { before = []; exprs = []; types = [] }
expand_all f (e ∷ es) =
    let o = expand_expr f e in
    let r = expand_all (f + length o.types) es in
    record { before = o.before ++ r.before; exprs = rest_of o e ∷ r.exprs; types = o.types ++ r.types }

-- each expression is set to a variable of its own, and only these are left
abbrev pub set_all : ℕ → List TypedExpr → Outs
set_all f [] = record { before = []; exprs = []; types = [] }
set_all f (e ∷ es) =
    let o = expand_expr f e in
    let v = f + length o.types in
    let r = set_all (v + 1) es in
    record { before = o.before ++ setting v (rest_of o e) e.at ∷ r.before; exprs = of_type (expr.Var v) e.ty e.at ∷ r.exprs; types = o.types ++ e.ty ∷ r.types }
