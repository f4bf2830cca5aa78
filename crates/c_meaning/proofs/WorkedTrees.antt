-- One kernel through the definitions: its tokens, its tree, that it keeps the rules, its typed tree with two implied conversions, and that this is lawful.
use Rattle.std.proofs.Common.{◌≡◌, ℕ, ◌+◌, ◌<◌, List, [], ◌∷◌, Some, None, refl, subst, arith, inl, rules}
use Rattle.std.proofs.lemmas.Bool.{false≢true}
use Rattle.std.proofs.lemmas.List.Elements.{All-nil, All-cons}
use Rattle.std.specs.Prelude.{true, false, codes}
use denote.Hole.Carrier.{hidden}
use Rattle.el_base.specs.declared.span.Span.{Span}
use Rattle.el_base.specs.declared.ty.Ty.TheVariants.{I8, I32, I64}
use Rattle.c_ast.specs.declared.token.Token.{Token}
use Rattle.c_ast.specs.declared.key.Key.TheVariants as key
use Rattle.c_ast.specs.declared.mark.Mark.TheVariants as mark
use Rattle.c_ast.specs.declared.tree.Binary.TheVariants as op
use Rattle.c_ast.specs.declared.tree.Param.{Param}
use Rattle.c_ast.specs.declared.tree.Expr.{Expr}
use Rattle.c_ast.specs.declared.tree.ExprKind.TheVariants as expr
use Rattle.c_ast.specs.declared.tree.ExprKind.TheBlock.{shape-the_row-Expr-0, hidden-the_row-Expr-0, shape-the_row-Expr-1, hidden-the_row-Expr-1}
use Rattle.c_ast.specs.declared.tree.Stmt.{Stmt}
use Rattle.c_ast.specs.declared.tree.StmtKind.{StmtKind}
use Rattle.c_ast.specs.declared.tree.StmtKind.TheVariants as stmt
use Rattle.c_ast.specs.declared.tree.StmtKind.TheBlock.{shape-the_row-Stmt-0, hidden-the_row-Stmt-0, shape-the_row-Stmt-1, hidden-the_row-Stmt-1}
use Rattle.c_ast.specs.declared.tree.Tree.{Tree}
use Rattle.c_ast.specs.declared.typed.TypedExpr.{TypedExpr}
use Rattle.c_ast.specs.declared.typed.TypedExprKind.TheVariants as typed
use Rattle.c_ast.specs.declared.typed.TypedExprKind.TheBlock.{shape-the_row-TypedExpr-0, hidden-the_row-TypedExpr-0, shape-the_row-TypedExpr-1, hidden-the_row-TypedExpr-1}
use Rattle.c_ast.specs.declared.typed.TypedStmt.{TypedStmt}
use Rattle.c_ast.specs.declared.typed.TypedStmtKind.TheVariants as act
use Rattle.c_ast.specs.declared.typed.Typed.{Typed}
use Rattle.c_ast.specs.Derives.{marked, keyed, named, numbered, DerivesExpr, Derives}
use Rattle.c_ast.specs.Derives as derives
use Rattle.c_ast.specs.Typing.{Names, a_scalar, IsUsable, Typing}
use Rattle.c_ast.specs.Casts.{Casts, of_type}
use Rattle.c_ast.specs.Constants.{NumbersFit, NumbersFitStmt}
use Rattle.c_meaning.specs.Lawful.{AreDimensions, LawfulStmt, Lawful}
use Rattle.c_meaning.specs.Statements.{objects}
use Rattle.c_meaning.proofs.Elaboration.{cast_tree}
use Rattle.c_meaning.proofs.Existence.{not_empty, tree_casts}

-- ---- the text: int64_t f(int8_t a) { return a + 1; }

-- from one byte up to another
abbrev at : ℕ → ℕ → Span
at a b = record { start = a; end = b; line = 1; column = a + 1 }

abbrev tokens : List Token
tokens = keyed key.Int64 (at 0 7) ∷ named (codes "f") (at 8 9) ∷ marked mark.Open (at 9 10) ∷ keyed key.Int8 (at 10 16) ∷ named (codes "a") (at 17 18) ∷ marked mark.Close (at 18 19)
    ∷ marked mark.OpenBrace (at 20 21) ∷ keyed key.Return (at 22 28) ∷ named (codes "a") (at 29 30) ∷ marked mark.Plus (at 31 32) ∷ numbered 1 I32 (at 33 34) ∷ marked mark.Semicolon (at 34 35)
    ∷ marked mark.CloseBrace (at 36 37) ∷ []

-- ---- its tree

abbrev left : Expr
left = record { kind = expr.Name (codes "a"); at = at 29 30 }

abbrev right : Expr
right = record { kind = expr.Number 1 I32; at = at 33 34 }

abbrev sum : Expr
sum = record { kind = expr.Binary op.Add left right; at = at 29 34 }

abbrev returns : Stmt
returns = record { kind = stmt.Return (Some sum); at = at 22 34 }

abbrev param : Param
param = record { name = codes "a"; at = at 17 18; ty = I8; dims = [] }

abbrev tree : Tree
tree = record { name = codes "f"; at = at 8 9; result = Some I64; params = param ∷ []; body = returns ∷ [] }

-- ---- the tokens derive the tree

abbrev left_tokens : List Token
left_tokens = named (codes "a") (at 29 30) ∷ []

abbrev right_tokens : List Token
right_tokens = numbered 1 I32 (at 33 34) ∷ []

abbrev sum_tokens : List Token
sum_tokens = named (codes "a") (at 29 30) ∷ marked mark.Plus (at 31 32) ∷ right_tokens

-- a primary expression derives at the level of products, and what derives there at the level of sums
product_level : (ts : List Token) (e : Expr) → DerivesExpr 12 ts e → DerivesExpr 10 ts e
product_level ts e d = derives.tighter 10 ts e (omega arith) (derives.tighter 11 ts e (omega arith) d)

sum_level : (ts : List Token) (e : Expr) → DerivesExpr 10 ts e → DerivesExpr 9 ts e
sum_level ts e d = derives.tighter 9 ts e (omega arith) d

loosest : (ts : List Token) (e : Expr) → DerivesExpr 9 ts e → DerivesExpr 0 ts e
loosest ts e d =
    derives.tighter 0 ts e (omega arith) (derives.tighter 1 ts e (omega arith) (derives.tighter 2 ts e (omega arith) (derives.tighter 3 ts e (omega arith)
    (derives.tighter 4 ts e (omega arith) (derives.tighter 5 ts e (omega arith) (derives.tighter 6 ts e (omega arith) (derives.tighter 7 ts e (omega arith) (derives.tighter 8 ts e (omega arith) d))))))))

sum_derives : DerivesExpr 0 sum_tokens sum
sum_derives = loosest sum_tokens sum
    (derives.joined 9 mark.Plus op.Add left_tokens right_tokens (at 31 32) left right derives.plus
    (sum_level left_tokens left (product_level left_tokens left (derives.name (codes "a") (at 29 30))))
    (product_level right_tokens right (derives.number 1 I32 (at 33 34))))

tree_derives : Derives tokens tree
tree_derives = derives.kernel (keyed key.Int64 (at 0 7) ∷ []) (keyed key.Int8 (at 10 16) ∷ named (codes "a") (at 17 18) ∷ [])
    (keyed key.Return (at 22 28) ∷ named (codes "a") (at 29 30) ∷ marked mark.Plus (at 31 32) ∷ numbered 1 I32 (at 33 34) ∷ marked mark.Semicolon (at 34 35) ∷ [])
    (codes "f") (at 8 9) (at 9 10) (at 18 19) (at 20 21) (at 36 37) (Some I64) (param ∷ []) (returns ∷ [])
    (derives.a_type (keyed key.Int64 (at 0 7) ∷ []) I64 (derives.fixed_64 (at 0 7)))
    (derives.some (keyed key.Int8 (at 10 16) ∷ named (codes "a") (at 17 18) ∷ []) (param ∷ [])
    (derives.last_one (keyed key.Int8 (at 10 16) ∷ named (codes "a") (at 17 18) ∷ []) param
    (derives.param (keyed key.Int8 (at 10 16) ∷ []) [] I8 (codes "a") (at 17 18) [] (derives.fixed_8 (at 10 16)) derives.no_more)))
    (derives.statement false (keyed key.Return (at 22 28) ∷ named (codes "a") (at 29 30) ∷ marked mark.Plus (at 31 32) ∷ numbered 1 I32 (at 33 34) ∷ marked mark.Semicolon (at 34 35) ∷ []) [] returns []
    (derives.returning (at 22 28) (at 34 35) sum_tokens (Some sum) (derives.present sum_tokens sum sum_derives)) derives.done)

-- ---- it keeps the rules on names

abbrev names : Names
names = ((codes "a", a_scalar) ∷ []) ∷ []

name_usable : IsUsable names (codes "a") 0
name_usable = record {
  rule_20_declared = refl;
  rule_22_scalar_has_none = λ e. refl;
  rule_23_array_has_some = λ n e. cc;
  rule_24_one_for_each = λ n e l. absurd (omega arith);
  rule_23_no_helper = λ n e. cc;
}

tree_typing : Typing tree
unfolding shape-the_row-Expr-0 hidden-the_row-Expr-0 shape-the_row-Expr-1 hidden-the_row-Expr-1 hidden
tree_typing = record {
  params_keep = (record { rule_21_new = refl; rule_24_dimensions = omega arith; rule_25_no_zero = All-nil (λ d. 0 < d); rule_25_elements = omega arith }, tt);
  body_keeps = ((tt, (name_usable, tt)), tt);
}

-- its one number fits its type
tree_fits : NumbersFit tree
unfolding shape-the_row-Expr-0 hidden-the_row-Expr-0 shape-the_row-Expr-1 hidden-the_row-Expr-1 hidden
tree_fits = All-cons (λ (s : Stmt). NumbersFitStmt s.kind) returns [] (tt, record { above = search rules; below = search rules }) (All-nil (λ (s : Stmt). NumbersFitStmt s.kind))

-- ---- trees that break a rule

-- the same kernel with another block
abbrev with_body : Stmt → Tree
with_body s = record tree { body = s ∷ [] }

abbrev in_place : StmtKind → Stmt
in_place k = record { kind = k; at = at 22 34 }

-- { return b; } : b is not declared (20)
undeclared : Typing (with_body (in_place (stmt.Return (Some (record { kind = expr.Name (codes "b"); at = at 29 30 }))))) → ⊥
unfolding shape-the_row-Expr-0 hidden-the_row-Expr-0 shape-the_row-Expr-1 hidden-the_row-Expr-1 hidden
undeclared h = false≢true h.body_keeps.0.1.rule_20_declared

-- { int32_t a; } : a is declared in this scope, which is that of the parameter (21)
redeclared : Typing (with_body (in_place (stmt.Declare (codes "a") I32 None))) → ⊥
redeclared h = let e : Some a_scalar ≡ None = h.body_keeps.0.0 in cc

-- { a[1] = 1; } : a is a scalar (22)
scalar_with_index : Typing (with_body (in_place (stmt.Assign (record { name = codes "a"; at = at 22 23; indices = right ∷ [] }) None right))) → ⊥
scalar_with_index h = not_empty right [] (h.body_keeps.0.0.0.rule_22_scalar_has_none refl)

-- { return; } : there is a result (26)
returns_nothing : Typing (with_body (in_place (stmt.Return None))) → ⊥
returns_nothing h = h.body_keeps.0.0

-- { break; } : there is no loop around it (27)
outside_loop : Typing (with_body (in_place stmt.Break)) → ⊥
outside_loop h = false≢true h.body_keeps.0

-- ---- its typed tree: a and the sum are converted

abbrev typed_left : TypedExpr
typed_left = of_type (typed.Var 0) I8 (at 29 30)

abbrev typed_sum : TypedExpr
typed_sum = of_type (typed.Binary op.Add (of_type (typed.Cast true typed_left) I32 (at 29 30)) (of_type (typed.Number 1) I32 (at 33 34))) I32 (at 29 34)

abbrev typed_returns : TypedStmt
typed_returns = record { kind = act.Return (Some (of_type (typed.Cast true typed_sum) I64 (at 29 34))); at = at 22 34 }

abbrev typed_tree : Typed
typed_tree = record { name = codes "f"; at = at 8 9; result = Some I64; params = param ∷ []; vars = I8 ∷ []; arrays = []; body = typed_returns ∷ [] }

cast_of_tree : cast_tree tree ≡ typed_tree
unfolding shape-the_row-Expr-0 hidden-the_row-Expr-0 shape-the_row-Expr-1 hidden-the_row-Expr-1 shape-the_row-Stmt-0 hidden-the_row-Stmt-0 shape-the_row-Stmt-1 hidden-the_row-Stmt-1 hidden
cast_of_tree = refl

tree_has_typed_tree : Casts tree typed_tree
tree_has_typed_tree = subst (Casts tree) cast_of_tree (tree_casts tree tree_typing)

-- ---- the typed tree is lawful

typed_tree_lawful : Lawful typed_tree
unfolding shape-the_row-TypedExpr-0 hidden-the_row-TypedExpr-0 shape-the_row-TypedExpr-1 hidden-the_row-TypedExpr-1 hidden
typed_tree_lawful = record {
  header = λ p. record {
    distinct = ((λ m. absurd (omega (arith, m.1))), tt);
    dimensions = All-cons (λ (q : Param). AreDimensions q.dims) param [] (omega arith, All-nil (λ d. 0 < d)) (All-nil (λ (q : Param). AreDimensions q.dims));
    few_elements = omega arith;
    first_vars = refl;
    arrays_are = refl;
  };
  used = λ v l. inl l;
  statements = λ p. All-cons (λ (s : TypedStmt). LawfulStmt (objects p typed_tree) (Some I64) false s.kind) typed_returns []
      (refl, ((λ i. refl), ((refl, refl, refl), ((λ i. refl), refl), record { above = search rules; below = search rules })))
      (All-nil (λ (s : TypedStmt). LawfulStmt (objects p typed_tree) (Some I64) false s.kind));
}
