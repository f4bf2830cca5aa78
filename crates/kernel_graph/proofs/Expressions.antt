-- What is laid for an expression stores to no array, and a store of an element to its array alone.
use Rattle.std.proofs.Common.{ℕ, List, [], ◌∷◌, map, get_or}
use mathlib.Core.Former.{Count}
use Rattle.el_base.specs.declared.ty.Ty.{Ty}
use Rattle.el_base.specs.Widths.{ty_width}
use Rattle.c_ast.specs.declared.typed.ArrayOf.{ArrayOf}
use Rattle.c_ast.specs.declared.typed.TypedExpr.{TypedExpr}
use Rattle.c_ast.specs.declared.typed.TypedExprKind.{TypedExprKind, Row_of-TypedExpr, end_of-TypedExpr, more_of-TypedExpr}
use Rattle.c_ast.specs.declared.typed.TypedExprKind as tree
use Rattle.ir.specs.declared.instr.Instr.TheVariants.{Const, Select, Load, Store}
use Rattle.c_meaning.specs.Patterns.{conversion_op}
use Rattle.c_meaning.specs.Stores.{dims_of}
use Rattle.struct_cfg.specs.Layings.{one_step, after, applied}
use Rattle.struct_cfg.specs.Operators.{converted, unary_op, flag, joined, place_laid}
use Rattle.struct_cfg.specs.Exprs.{kind_laying, row_pieces, expr_laying, piece, condition_laying, store_laying}
use Rattle.kernel_graph.proofs.Laid.{LaysStores, Plain, ArePlain, after_stores, after_plain, step_stores, none_plain, applied_plain, flag_plain, joined_plain, place_plain}

module _ (arrays : List ArrayOf) (env : List ℕ) where
  mutual
    kind_plain : (e : TypedExprKind) (ty : Ty) → Plain (kind_laying arrays env e ty)
    kind_plain (tree.Number m) ty = step_stores (Const (ty_width ty) m)
    kind_plain (tree.Var v) ty = none_plain (get_or env v 0)
    kind_plain (tree.Element' a n row) ty =
        after_plain (place_laid (dims_of arrays a) (row_pieces arrays env row)) (λ p. one_step (Load a p)) (place_plain (dims_of arrays a) (row_pieces arrays env row) (row_plain row)) (λ p. step_stores (Load a p))
    kind_plain (tree.Unary' op b (more_of-TypedExpr e t at end_of-TypedExpr)) ty = after_plain (kind_laying arrays env e t) (λ v. applied (unary_op op t) v) (kind_plain e t) (λ v. applied_plain (unary_op op t) v)
    kind_plain (tree.Cast' implied b (more_of-TypedExpr e t at end_of-TypedExpr)) ty = after_plain (kind_laying arrays env e t) (λ v. converted t ty v) (kind_plain e t) (λ v. applied_plain (conversion_op t ty) v)
    kind_plain (tree.Binary' op b (more_of-TypedExpr e t at end_of-TypedExpr) b2 (more_of-TypedExpr e2 t2 at2 end_of-TypedExpr)) ty =
        after_plain (kind_laying arrays env e t) (λ x. after (kind_laying arrays env e2 t2) (λ y. joined op t t2 x y)) (kind_plain e t)
        (λ x. after_plain (kind_laying arrays env e2 t2) (λ y. joined op t t2 x y) (kind_plain e2 t2) (λ y. joined_plain op t t2 x y))
    kind_plain (tree.Choose' b (more_of-TypedExpr e t at end_of-TypedExpr) b2 (more_of-TypedExpr e2 t2 at2 end_of-TypedExpr) b3 (more_of-TypedExpr e3 t3 at3 end_of-TypedExpr)) ty =
        after_plain (kind_laying arrays env e t) (λ x. after (flag t x) (λ f. after (kind_laying arrays env e2 t2) (λ y. after (kind_laying arrays env e3 t3) (λ z. one_step (Select (ty_width ty) f y z))))) (kind_plain e t)
        (λ x. after_plain (flag t x) (λ f. after (kind_laying arrays env e2 t2) (λ y. after (kind_laying arrays env e3 t3) (λ z. one_step (Select (ty_width ty) f y z)))) (flag_plain t x)
        (λ f. after_plain (kind_laying arrays env e2 t2) (λ y. after (kind_laying arrays env e3 t3) (λ z. one_step (Select (ty_width ty) f y z))) (kind_plain e2 t2)
        (λ y. after_plain (kind_laying arrays env e3 t3) (λ z. one_step (Select (ty_width ty) f y z)) (kind_plain e3 t3) (λ z. step_stores (Select (ty_width ty) f y z)))))

    row_plain : {n : Count} (row : Row_of-TypedExpr n) → ArePlain (row_pieces arrays env row)
    row_plain end_of-TypedExpr = tt
    row_plain (more_of-TypedExpr e t at row) = (kind_plain e t, row_plain row)

  pub expr_plain : (e : TypedExpr) → Plain (expr_laying arrays env e)
  expr_plain e = kind_plain e.kind e.ty

  pub condition_plain : (e : TypedExpr) → Plain (condition_laying arrays env e)
  condition_plain e = after_plain (expr_laying arrays env e) (λ v. flag e.ty v) (expr_plain e) (λ v. flag_plain e.ty v)

  pieces_plain : (es : List TypedExpr) → ArePlain (map (piece arrays env) es)
  pieces_plain [] = tt
  pieces_plain (e ∷ es) = (expr_plain e, pieces_plain es)

  pub store_stores : (a : ℕ) (indices : List TypedExpr) (e : TypedExpr) → LaysStores (a ∷ []) (store_laying arrays env a indices e)
  store_stores a indices e =
      after_stores (a ∷ []) (place_laid (dims_of arrays a) (map (piece arrays env) indices)) (λ p. after (expr_laying arrays env e) (λ v. one_step (Store a p v))) (place_plain (dims_of arrays a) (map (piece arrays env) indices) (pieces_plain indices))
      (λ p. after_stores (a ∷ []) (expr_laying arrays env e) (λ v. one_step (Store a p v)) (expr_plain e) (λ v. step_stores (Store a p v)))
