-- What the expansion of an expression costs at most: the price of what is left of it, and of all that is set before it, both sides of a choice among it.
use Rattle.std.proofs.Common.{◌≡◌, ℕ, ◌+◌, ◌*◌, ◌≤◌, refl, arith}
use Rattle.std.specs.Prelude.{Bool, true, false}
use mathlib.Core.Former.{Count}
use Rattle.c_ast.specs.declared.tree.Binary.{Binary}
use Rattle.c_ast.specs.declared.tree.Family.{Family}
use Rattle.c_ast.specs.declared.tree.Family.TheVariants.{Arithmetic, Shift, Bits, Comparison, Logical}
use Rattle.c_ast.specs.ResultTypes.{family}
use Rattle.c_ast.specs.declared.typed.TypedExprKind.{TypedExprKind, Row_of-TypedExpr, end_of-TypedExpr, more_of-TypedExpr}
use Rattle.c_ast.specs.declared.typed.TypedExprKind as tree
use Rattle.c_ast.specs.Nodes.{typed_kind_nodes, typed_row_nodes}
use Rattle.c_meaning.specs.Stores.{Objects}
use Rattle.c_meaning.specs.Counts.{price_of_family, operator_price, kind_price, indices_price}
use Rattle.c_meaning.specs.Lawful.{is_implied, LawfulKind, LawfulRow}

-- && and ||: the condition 2; one side v = b ? 1 : 0, 2 and 3 and 2; the other side, 3; and the use of v, 1. Where it stays whole it costs 5.
abbrev pub cost_in : Family → ℕ
cost_in Arithmetic = 1
cost_in Shift = 2
cost_in Bits = 1
cost_in Comparison = 1
cost_in Logical = 13

abbrev pub operator_cost : Binary → ℕ
operator_cost op = cost_in (family op)

abbrev mutual
  pub kind_cost : TypedExprKind → ℕ
  kind_cost (tree.Number n) = 1
  kind_cost (tree.Var v) = 1
  kind_cost (tree.Element' a n row) = 1 + row_cost row
  kind_cost (tree.Unary' op b (more_of-TypedExpr e t at end_of-TypedExpr)) = 1 + kind_cost e
  kind_cost (tree.Cast' implied b (more_of-TypedExpr e t at end_of-TypedExpr)) = 1 + kind_cost e
  kind_cost (tree.Binary' op b (more_of-TypedExpr e t at end_of-TypedExpr) b2 (more_of-TypedExpr e2 t2 at2 end_of-TypedExpr)) = operator_cost op + kind_cost e + kind_cost e2
  kind_cost (tree.Choose' b (more_of-TypedExpr e t at end_of-TypedExpr) b2 (more_of-TypedExpr e2 t2 at2 end_of-TypedExpr) b3 (more_of-TypedExpr e3 t3 at3 end_of-TypedExpr)) = 7 + kind_cost e + kind_cost e2 + kind_cost e3

  pub row_cost : {n : Count} → Row_of-TypedExpr n → ℕ
  row_cost end_of-TypedExpr = 0
  row_cost (more_of-TypedExpr e t at row) = 4 + kind_cost e + row_cost row

-- the allowance of an implied cast at the root
abbrev pub implied_root : Bool → ℕ
implied_root true = 1
implied_root false = 0

pub operator_at_most : (op : Binary) → operator_cost op ≤ 13
operator_at_most op = by_family (family op)
  where
    by_family : (f : Family) → cost_in f ≤ 13
    by_family Logical = omega arith
    by_family f = omega arith

-- an operator that stays costs its price
pub operator_kept : (op : Binary) → 1 + operator_price op ≤ operator_cost op
operator_kept op = by_family (family op)
  where
    by_family : (f : Family) → 1 + price_of_family f ≤ cost_in f
    by_family Logical = omega arith
    by_family f = omega arith

pub root_at_most : (b : Bool) → implied_root b ≤ 1
root_at_most true = omega arith
root_at_most false = omega arith

no_root : (b : Bool) → b ≡ false → implied_root b ≡ 0
no_root true h = absurd (cc)
no_root false h = refl

mutual
  -- what stays whole costs at least its price
  pub kind_kept : (e : TypedExprKind) → kind_price e ≤ kind_cost e
  kind_kept (tree.Number n) = omega arith
  kind_kept (tree.Var v) = omega arith
  kind_kept (tree.Element' a n row) = let r = row_kept row in omega arith
  kind_kept (tree.Unary' op b (more_of-TypedExpr e t at end_of-TypedExpr)) = let i = kind_kept e in omega arith
  kind_kept (tree.Cast' implied b (more_of-TypedExpr e t at end_of-TypedExpr)) = let i = kind_kept e in omega arith
  kind_kept (tree.Binary' op b (more_of-TypedExpr e t at end_of-TypedExpr) b2 (more_of-TypedExpr e2 t2 at2 end_of-TypedExpr)) = let i = kind_kept e in let j = kind_kept e2 in let o = operator_kept op in omega arith
  kind_kept (tree.Choose' b (more_of-TypedExpr e t at end_of-TypedExpr) b2 (more_of-TypedExpr e2 t2 at2 end_of-TypedExpr) b3 (more_of-TypedExpr e3 t3 at3 end_of-TypedExpr)) = let i = kind_kept e in let j = kind_kept e2 in let l = kind_kept e3 in omega arith

  row_kept : {n : Count} (row : Row_of-TypedExpr n) → indices_price row ≤ row_cost row
  row_kept end_of-TypedExpr = omega arith
  row_kept (more_of-TypedExpr e t at row) = let i = kind_kept e in let j = row_kept row in omega arith

mutual
  -- the cost is at most 13 for each node, with 12 to spare: 11 below an implied cast, which is no node
  pub kind_bounded : (k : Objects) (e : TypedExprKind) (t : _) → LawfulKind k e t → kind_cost e + 12 ≤ 13 * typed_kind_nodes e + implied_root (is_implied e)
  kind_bounded k (tree.Number n) ty h = omega arith
  kind_bounded k (tree.Var v) ty h = omega arith
  kind_bounded k (tree.Element' a n row) ty h = let r = row_bounded k row h.1 in omega arith
  kind_bounded k (tree.Unary' op b (more_of-TypedExpr e t at end_of-TypedExpr)) ty h = let i = kind_bounded k e t h.2 in let r = root_at_most (is_implied e) in omega arith
  kind_bounded k (tree.Cast' true b (more_of-TypedExpr e t at end_of-TypedExpr)) ty h = let i = kind_bounded k e t h.1 in let r = no_root (is_implied e) (h.0 refl) in omega arith
  kind_bounded k (tree.Cast' false b (more_of-TypedExpr e t at end_of-TypedExpr)) ty h = let i = kind_bounded k e t h.1 in let r = root_at_most (is_implied e) in omega arith
  kind_bounded k (tree.Binary' op b (more_of-TypedExpr e t at end_of-TypedExpr) b2 (more_of-TypedExpr e2 t2 at2 end_of-TypedExpr)) ty h =
      let i = kind_bounded k e t h.1 in let j = kind_bounded k e2 t2 h.2 in let r = root_at_most (is_implied e) in let q = root_at_most (is_implied e2) in let o = operator_at_most op in omega arith
  kind_bounded k (tree.Choose' b (more_of-TypedExpr e t at end_of-TypedExpr) b2 (more_of-TypedExpr e2 t2 at2 end_of-TypedExpr) b3 (more_of-TypedExpr e3 t3 at3 end_of-TypedExpr)) ty h =
      let i = kind_bounded k e t h.1 in let j = kind_bounded k e2 t2 h.2 in let l = kind_bounded k e3 t3 h.3 in
      let r = root_at_most (is_implied e) in let q = root_at_most (is_implied e2) in let p = root_at_most (is_implied e3) in omega arith

  pub row_bounded : (k : Objects) {n : Count} (row : Row_of-TypedExpr n) → LawfulRow k row → row_cost row ≤ 13 * typed_row_nodes row
  row_bounded k end_of-TypedExpr h = omega arith
  row_bounded k (more_of-TypedExpr e t at row) h = let i = kind_bounded k e t h.0 in let j = row_bounded k row h.1 in let r = root_at_most (is_implied e) in omega arith
