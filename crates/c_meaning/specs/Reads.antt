-- Which variables an expression reads: it means the same in two stores that agree on them and on the arrays.
use Rattle.std.specs.Prelude.{◌≡◌, ℕ, ◌<◌, List, [], ◌∷◌, ◌++◌, length, Contains, ℤ}
use mathlib.Core.Former.{Count}
use Rattle.c_ast.specs.declared.typed.TypedExpr.{TypedExpr}
use Rattle.c_ast.specs.declared.typed.TypedExprKind.{TypedExprKind, Row_of-TypedExpr, end_of-TypedExpr, more_of-TypedExpr}
use Rattle.c_ast.specs.declared.typed.TypedExprKind as tree
use Rattle.c_meaning.specs.Stores.{Store, Objects, read_var, set_var, unset_var}
use Rattle.c_meaning.specs.Expressions.{val}
use Rattle.c_meaning.specs.Lawful.{LawfulExpr}

abbrev mutual
  pub vars_read : TypedExprKind → List ℕ
  vars_read (tree.Number n) = []
  vars_read (tree.Var v) = v ∷ []
  vars_read (tree.Element' a n row) = vars_read_row row
  vars_read (tree.Unary' op b (more_of-TypedExpr e t at end_of-TypedExpr)) = vars_read e
  vars_read (tree.Cast' implied b (more_of-TypedExpr e t at end_of-TypedExpr)) = vars_read e
  vars_read (tree.Binary' op b (more_of-TypedExpr e t at end_of-TypedExpr) b2 (more_of-TypedExpr e2 t2 at2 end_of-TypedExpr)) = vars_read e ++ vars_read e2
  vars_read (tree.Choose' b (more_of-TypedExpr e t at end_of-TypedExpr) b2 (more_of-TypedExpr e2 t2 at2 end_of-TypedExpr) b3 (more_of-TypedExpr e3 t3 at3 end_of-TypedExpr)) =
      vars_read e ++ (vars_read e2 ++ vars_read e3)

  pub vars_read_row : {n : Count} → Row_of-TypedExpr n → List ℕ
  vars_read_row end_of-TypedExpr = []
  vars_read_row (more_of-TypedExpr e t at row) = vars_read e ++ vars_read_row row

abbrev pub expr_vars : TypedExpr → List ℕ
expr_vars e = vars_read e.kind

-- two stores agree on some variables and on all arrays
pub record AgreeOn (vs : List ℕ) (s r : Store) : Type 0 where
  pub vars : (v : ℕ) → Contains vs v → read_var s v ≡ read_var r v
  pub arrays : s.arrays ≡ r.arrays

abbrev pub ReadsItsVariables : Type 0
ReadsItsVariables = (k : Objects) (e : TypedExpr) (s r : Store) → AgreeOn (expr_vars e) s r → val k s e ≡ val k r e

-- what is written to another variable, or makes it unset, changes nothing
abbrev pub OtherVariablesAreFree : Type 0
OtherVariablesAreFree = (k : Objects) (e : TypedExpr) (s : Store) (v : ℕ) (z : ℤ) → ¬ (Contains (expr_vars e) v) → val k (set_var v z s) e ≡ val k s e

abbrev pub UnsetVariablesAreFree : Type 0
UnsetVariablesAreFree = (k : Objects) (e : TypedExpr) (s : Store) (v : ℕ) → ¬ (Contains (expr_vars e) v) → val k (unset_var v s) e ≡ val k s e

-- a lawful expression reads variables of the list alone
abbrev pub ReadsListedVariables : Type 0
ReadsListedVariables = (k : Objects) (e : TypedExpr) (v : ℕ) → LawfulExpr k e → Contains (expr_vars e) v → v < length k.vars
