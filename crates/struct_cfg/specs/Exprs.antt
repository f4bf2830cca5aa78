-- The steps of an expression, from the number of the next value on, and the number of its value.
-- A variable is the value that it has in the block, by `env`; all parts of && and || and ?: are laid.
use Rattle.std.specs.Prelude.{ℕ, List, [], ◌∷◌, get_or, map}
use mathlib.Core.Former.{Count}
use Rattle.el_base.specs.declared.ty.Ty.{Ty}
use Rattle.el_base.specs.Widths.{ty_width}
use Rattle.c_ast.specs.declared.typed.ArrayOf.{ArrayOf}
use Rattle.c_ast.specs.declared.typed.TypedExpr.{TypedExpr}
use Rattle.c_ast.specs.declared.typed.TypedExprKind.{TypedExprKind, Row_of-TypedExpr, end_of-TypedExpr, more_of-TypedExpr}
use Rattle.c_ast.specs.declared.typed.TypedExprKind as tree
use Rattle.c_ast.specs.declared.typed.TypedExprKind.TheOpen.{TypedExprKind-F, Number, Var, Element, Unary, Cast, Binary, Choose}
use Rattle.ir.specs.declared.instr.Instr.TheVariants.{Const, Select, Load, Store}
use Rattle.c_meaning.specs.Stores.{dims_of}
use Rattle.struct_cfg.specs.Layings.{Laying, no_step, one_step, after, applied, Piece}
use Rattle.struct_cfg.specs.Operators.{converted, unary_op, flag, joined, place_laid}

-- one expression of a type, with what is laid for each part in its place
abbrev pub laying_step : List ArrayOf → List ℕ → TypedExprKind-F Piece Piece → Ty → Laying
laying_step arrays env (Number m) ty = one_step (Const (ty_width ty) m)
laying_step arrays env (Var v) ty = no_step (get_or env v 0)
laying_step arrays env (Element a indices) ty = after (place_laid (dims_of arrays a) indices) (λ p. one_step (Load a p))
laying_step arrays env (Unary op e) ty = after e.laying (λ v. applied (unary_op op e.ty) v)
laying_step arrays env (Cast implied e) ty = after e.laying (λ v. converted e.ty ty v)
laying_step arrays env (Binary op e e2) ty = after e.laying (λ a. after e2.laying (λ b. joined op e.ty e2.ty a b))
laying_step arrays env (Choose e e2 e3) ty =
    after e.laying (λ c. after (flag e.ty c) (λ f. after e2.laying (λ a. after e3.laying (λ b. one_step (Select (ty_width ty) f a b)))))

-- ---- whole trees: one layer after another

abbrev mutual
  pub kind_laying : List ArrayOf → List ℕ → TypedExprKind → Ty → Laying
  kind_laying arrays env (tree.Number n) = laying_step arrays env (Number n)
  kind_laying arrays env (tree.Var v) = laying_step arrays env (Var v)
  kind_laying arrays env (tree.Element' a n row) = laying_step arrays env (Element a (row_pieces arrays env row))
  kind_laying arrays env (tree.Unary' op b (more_of-TypedExpr e t at end_of-TypedExpr)) = laying_step arrays env (Unary op (record { ty = t; laying = kind_laying arrays env e t }))
  kind_laying arrays env (tree.Cast' implied b (more_of-TypedExpr e t at end_of-TypedExpr)) = laying_step arrays env (Cast implied (record { ty = t; laying = kind_laying arrays env e t }))
  kind_laying arrays env (tree.Binary' op b (more_of-TypedExpr e t at end_of-TypedExpr) b2 (more_of-TypedExpr e2 t2 at2 end_of-TypedExpr)) =
      laying_step arrays env (Binary op (record { ty = t; laying = kind_laying arrays env e t }) (record { ty = t2; laying = kind_laying arrays env e2 t2 }))
  kind_laying arrays env (tree.Choose' b (more_of-TypedExpr e t at end_of-TypedExpr) b2 (more_of-TypedExpr e2 t2 at2 end_of-TypedExpr) b3 (more_of-TypedExpr e3 t3 at3 end_of-TypedExpr)) =
      laying_step arrays env (Choose (record { ty = t; laying = kind_laying arrays env e t }) (record { ty = t2; laying = kind_laying arrays env e2 t2 }) (record { ty = t3; laying = kind_laying arrays env e3 t3 }))

  pub row_pieces : List ArrayOf → List ℕ → {n : Count} → Row_of-TypedExpr n → List Piece
  row_pieces arrays env end_of-TypedExpr = []
  row_pieces arrays env (more_of-TypedExpr e t at row) = record { ty = t; laying = kind_laying arrays env e t } ∷ row_pieces arrays env row

abbrev pub expr_laying : List ArrayOf → List ℕ → TypedExpr → Laying
expr_laying arrays env e = kind_laying arrays env e.kind e.ty

abbrev pub piece : List ArrayOf → List ℕ → TypedExpr → Piece
piece arrays env e = record { ty = e.ty; laying = expr_laying arrays env e }

-- a condition: a value of 32 bits that is 0 exactly where the expression is
abbrev pub condition_laying : List ArrayOf → List ℕ → TypedExpr → Laying
condition_laying arrays env e = after (expr_laying arrays env e) (λ v. flag e.ty v)

-- an element is stored: its indices, the value, and the store
abbrev pub store_laying : List ArrayOf → List ℕ → ℕ → List TypedExpr → TypedExpr → Laying
store_laying arrays env a indices e =
    after (place_laid (dims_of arrays a) (map (piece arrays env) indices)) (λ p. after (expr_laying arrays env e) (λ v. one_step (Store a p v)))
