-- The prices and the steps of expressions, by their parts and call by call.
use Rattle.std.proofs.Common.{◌≡◌, ℕ, ◌+◌, List, [], ◌∷◌, map, refl, ◌∙◌, ap, arith, zero, suc, ◌≤◌, length, Option, Some, None, sym, subst, length-append}
use Rattle.std.specs.Prelude.{Bool, slice_get}
use denote.Hole.Carrier.{hidden}
use Rattle.c_ast.specs.declared.tree.Unary.{Unary}
use Rattle.c_ast.specs.declared.tree.Binary.{Binary}
use Rattle.c_ast.specs.declared.typed.ArrayOf.{ArrayOf}
use Rattle.c_ast.specs.declared.typed.TypedExpr.{TypedExpr}
use Rattle.c_ast.specs.declared.typed.TypedExprKind.TheVariants as expr
use Rattle.c_ast.specs.declared.typed.TypedExprKind.TheOpen.{Element}
use Rattle.c_ast.specs.declared.typed.TypedExprKind.TheBlock.{shape-the_row-TypedExpr-0, hidden-the_row-TypedExpr-0, shape-the_row-TypedExpr-1, hidden-the_row-TypedExpr-1}
use Rattle.c_meaning.specs.Counts.{operator_price, kind_price, indices_price, expr_price, target_price}
use Rattle.struct_cfg.specs.Exprs.{kind_laying, row_pieces, laying_step, expr_laying, piece, condition_laying, store_laying}
use Rattle.std.proofs.lemmas.Option.{none-some}
use Rattle.el_base.specs.declared.ty.Ty.TheVariants.{I64}
use Rattle.el_base.specs.declared.operation.Op1.{Op1}
use Rattle.el_base.specs.declared.operation.Op2.TheVariants.{Mul64, Add64}
use Rattle.el_base.specs.Widths.{ty_width}
use Rattle.ir.specs.declared.instr.Instr.{Instr}
use Rattle.ir.specs.declared.instr.Instr.TheVariants.{Const, Two, Select, Load, Store}
use Rattle.c_meaning.specs.Stores.{dims_of}
use Rattle.struct_cfg.specs.Layings.{Laying, one_step, after, applied}
use Rattle.struct_cfg.specs.Operators.{converted, unary_op, flag, joined, index_laid, next_place, place_laid}
use Rattle.struct_cfg.specs.declared.operators.Operand.{Operand}
use Rattle.struct_cfg.specs.Code.{IsLaid}
use Rattle.struct_cfg.proofs.Bounds.{AtMost, kind_cheap}
use Rattle.struct_cfg.proofs.Stores.{place_cheap, condition_cheap, store_cheap}
use Rattle.struct_cfg.proofs.Coded.{laid_after}

indices_cost : (es : List TypedExpr) → 1 + indices_price (hidden-the_row-TypedExpr-0 es) ≡ target_price es
unfolding shape-the_row-TypedExpr-0 hidden-the_row-TypedExpr-0 shape-the_row-TypedExpr-1 hidden-the_row-TypedExpr-1 hidden
indices_cost [] = refl
indices_cost (e ∷ es) = omega (arith, indices_cost es)

pub price_element : (e : TypedExpr) (a : ℕ) (es : List TypedExpr) → e.kind ≡ expr.Element a es → expr_price e ≡ target_price es
unfolding shape-the_row-TypedExpr-0 hidden-the_row-TypedExpr-0 shape-the_row-TypedExpr-1 hidden-the_row-TypedExpr-1 hidden
price_element e a es is = ap kind_price is ∙ indices_cost es

pub price_unary : (e : TypedExpr) (op : Unary) (x : TypedExpr) → e.kind ≡ expr.Unary op x → expr_price e ≡ 1 + expr_price x
unfolding shape-the_row-TypedExpr-0 hidden-the_row-TypedExpr-0 shape-the_row-TypedExpr-1 hidden-the_row-TypedExpr-1 hidden
price_unary e op x is = ap kind_price is

pub price_cast : (e : TypedExpr) (implied : Bool) (x : TypedExpr) → e.kind ≡ expr.Cast implied x → expr_price e ≡ 1 + expr_price x
unfolding shape-the_row-TypedExpr-0 hidden-the_row-TypedExpr-0 shape-the_row-TypedExpr-1 hidden-the_row-TypedExpr-1 hidden
price_cast e implied x is = ap kind_price is

pub price_binary : (e : TypedExpr) (op : Binary) (x y : TypedExpr) → e.kind ≡ expr.Binary op x y → expr_price e ≡ 1 + operator_price op + expr_price x + expr_price y
unfolding shape-the_row-TypedExpr-0 hidden-the_row-TypedExpr-0 shape-the_row-TypedExpr-1 hidden-the_row-TypedExpr-1 hidden
price_binary e op x y is = ap kind_price is

pub price_choice : (e : TypedExpr) (x y z : TypedExpr) → e.kind ≡ expr.Choose x y z → expr_price e ≡ 3 + expr_price x + expr_price y + expr_price z
unfolding shape-the_row-TypedExpr-0 hidden-the_row-TypedExpr-0 shape-the_row-TypedExpr-1 hidden-the_row-TypedExpr-1 hidden
price_choice e x y z is = ap kind_price is

-- ---- layings

module _ (arrays : List ArrayOf) (env : List ℕ) where
  pieces : (es : List TypedExpr) → row_pieces arrays env (hidden-the_row-TypedExpr-0 es) ≡ map (piece arrays env) es
  unfolding shape-the_row-TypedExpr-0 hidden-the_row-TypedExpr-0 shape-the_row-TypedExpr-1 hidden-the_row-TypedExpr-1 hidden
  pieces [] = refl
  pieces (e ∷ es) = ap (λ ps. piece arrays env e ∷ ps) (pieces es)

  pub laying_element : (e : TypedExpr) (a : ℕ) (es : List TypedExpr) → e.kind ≡ expr.Element a es → expr_laying arrays env e ≡ laying_step arrays env (Element a (map (piece arrays env) es)) e.ty
  unfolding shape-the_row-TypedExpr-0 hidden-the_row-TypedExpr-0 shape-the_row-TypedExpr-1 hidden-the_row-TypedExpr-1 hidden
  laying_element e a es is = ap (λ k. kind_laying arrays env k e.ty) is ∙ ap (λ ps. laying_step arrays env (Element a ps) e.ty) (pieces es)

-- a laying is no longer than its bound
few_laid : (a : Laying) (m : ℕ) (env : List ℕ) (old new : List Instr) (v : ℕ) → AtMost length a m → IsLaid a env old new v → length new ≤ length old + m
few_laid a m env old new v h p =
    let k = h (length env + length old) in
    omega (arith, k, ap length p.steps ∙ length-append old (a (length env + length old)).steps)

as_laying : (a b : Laying) (env : List ℕ) (old new : List Instr) (v : ℕ) → a ≡ b → IsLaid b env old new v → IsLaid a env old new v
as_laying a b env old new v e p = subst (λ x. IsLaid x env old new v) (sym e) p

pub dims_some : (as_of : List ArrayOf) (a : ℕ) (x : ArrayOf) → slice_get as_of a ≡ Some x → x.dims ≡ dims_of as_of a
dims_some [] a x e = absurd (none-some x e)
dims_some (y ∷ ys) zero x e = let same : y ≡ x = cc in ap (λ q. q.dims) (sym same)
dims_some (y ∷ ys) (suc a) x e = dims_some ys a x e

pub dims_none : (as_of : List ArrayOf) (a : ℕ) → slice_get as_of a ≡ None → [] ≡ dims_of as_of a
dims_none [] a e = refl
dims_none (y ∷ ys) zero e = absurd (none-some y (sym e))
dims_none (y ∷ ys) (suc a) e = dims_none ys a e

module _ (arrays : List ArrayOf) (env : List ℕ) where
  abbrev laying : TypedExpr → Laying
  laying e = expr_laying arrays env e

  pub expr_few : (e : TypedExpr) (old new : List Instr) (v : ℕ) → IsLaid (laying e) env old new v → length new ≤ length old + expr_price e
  expr_few e old new v p = few_laid (laying e) (expr_price e) env old new v (kind_cheap arrays env e.kind e.ty) p

  pub unary_laid : (e : TypedExpr) (op : Unary) (x : TypedExpr) (o : Option Op1) (old mid new : List Instr) (v u : ℕ) → e.kind ≡ expr.Unary op x → o ≡ unary_op op x.ty → IsLaid (laying x) env old mid v → IsLaid (applied o v) env mid new u → IsLaid (laying e) env old new u
  unfolding shape-the_row-TypedExpr-0 hidden-the_row-TypedExpr-0 shape-the_row-TypedExpr-1 hidden-the_row-TypedExpr-1 hidden
  unary_laid e op x o old mid new v u is oe p q =
      as_laying (laying e) _ env old new u (ap (λ k. kind_laying arrays env k e.ty) is)
      (laid_after (laying x) (λ n. applied (unary_op op x.ty) n) env old mid new v u p (subst (λ i. IsLaid (applied i v) env mid new u) oe q))

  pub cast_laid : (e : TypedExpr) (implied : Bool) (x : TypedExpr) (old mid new : List Instr) (v u : ℕ) → e.kind ≡ expr.Cast implied x → IsLaid (laying x) env old mid v → IsLaid (converted x.ty e.ty v) env mid new u → IsLaid (laying e) env old new u
  unfolding shape-the_row-TypedExpr-0 hidden-the_row-TypedExpr-0 shape-the_row-TypedExpr-1 hidden-the_row-TypedExpr-1 hidden
  cast_laid e implied x old mid new v u is p q =
      as_laying (laying e) _ env old new u (ap (λ k. kind_laying arrays env k e.ty) is) (laid_after (laying x) (λ n. converted x.ty e.ty n) env old mid new v u p q)

  pub binary_laid : (e : TypedExpr) (op : Binary) (x y : TypedExpr) (l r : Operand) (s0 s1 s2 s3 : List Instr) (a b u : ℕ) → e.kind ≡ expr.Binary op x y → l ≡ record { ty = x.ty; value = a } → r ≡ record { ty = y.ty; value = b } → IsLaid (laying x) env s0 s1 a → IsLaid (laying y) env s1 s2 b
      → IsLaid (joined op l.ty r.ty l.value r.value) env s2 s3 u → IsLaid (laying e) env s0 s3 u
  unfolding shape-the_row-TypedExpr-0 hidden-the_row-TypedExpr-0 shape-the_row-TypedExpr-1 hidden-the_row-TypedExpr-1 hidden
  binary_laid e op x y l r s0 s1 s2 s3 a b u is le re p q h =
      let last : IsLaid (joined op x.ty y.ty a b) env s2 s3 u = subst (λ (o : Operand). IsLaid (joined op x.ty o.ty a o.value) env s2 s3 u) re (subst (λ (o : Operand). IsLaid (joined op o.ty r.ty o.value r.value) env s2 s3 u) le h) in
      as_laying (laying e) _ env s0 s3 u (ap (λ k. kind_laying arrays env k e.ty) is)
      (laid_after (laying x) (λ a. after (laying y) (λ b. joined op x.ty y.ty a b)) env s0 s1 s3 a u p (laid_after (laying y) (λ b. joined op x.ty y.ty a b) env s1 s2 s3 b u q last))

  pub choice_laid : (e x y z : TypedExpr) (w : ℕ) (s0 s1 s2 s3 s4 s5 : List Instr) (c f a b u : ℕ) → e.kind ≡ expr.Choose x y z → w ≡ ty_width e.ty → IsLaid (laying x) env s0 s1 c → IsLaid (flag x.ty c) env s1 s2 f → IsLaid (laying y) env s2 s3 a → IsLaid (laying z) env s3 s4 b
      → IsLaid (one_step (Select w f a b)) env s4 s5 u → IsLaid (laying e) env s0 s5 u
  unfolding shape-the_row-TypedExpr-0 hidden-the_row-TypedExpr-0 shape-the_row-TypedExpr-1 hidden-the_row-TypedExpr-1 hidden
  choice_laid e x y z w s0 s1 s2 s3 s4 s5 c f a b u is we p q r s t =
      let last = subst (λ i. IsLaid (one_step (Select i f a b)) env s4 s5 u) we t in
      as_laying (laying e) _ env s0 s5 u (ap (λ k. kind_laying arrays env k e.ty) is)
      (laid_after (laying x) (λ c. after (flag x.ty c) (λ f. after (laying y) (λ a. after (laying z) (λ b. one_step (Select (ty_width e.ty) f a b))))) env s0 s1 s5 c u p
      (laid_after (flag x.ty c) (λ f. after (laying y) (λ a. after (laying z) (λ b. one_step (Select (ty_width e.ty) f a b)))) env s1 s2 s5 f u q
      (laid_after (laying y) (λ a. after (laying z) (λ b. one_step (Select (ty_width e.ty) f a b))) env s2 s3 s5 a u r
      (laid_after (laying z) (λ b. one_step (Select (ty_width e.ty) f a b)) env s3 s4 s5 b u s last))))

  pub element_laid : (e : TypedExpr) (a : ℕ) (es : List TypedExpr) (ds : List ℕ) (old mid new : List Instr) (v u : ℕ) → e.kind ≡ expr.Element a es → ds ≡ dims_of arrays a → IsLaid (place_laid ds (map (piece arrays env) es)) env old mid v → IsLaid (one_step (Load a v)) env mid new u → IsLaid (laying e) env old new u
  element_laid e a es ds old mid new v u is de p q =
      as_laying (laying e) _ env old new u (laying_element arrays env e a es is)
      (laid_after (place_laid (dims_of arrays a) (map (piece arrays env) es)) (λ n. one_step (Load a n)) env old mid new v u (subst (λ d. IsLaid (place_laid d (map (piece arrays env) es)) env old mid v) de p) q)

  -- ---- places

  pub index_put : (e : TypedExpr) (old mid new : List Instr) (v u : ℕ) → IsLaid (laying e) env old mid v → IsLaid (converted e.ty I64 v) env mid new u → IsLaid (index_laid (piece arrays env e)) env old new u
  index_put e old mid new v u p q = laid_after (laying e) (λ n. converted e.ty I64 n) env old mid new v u p q

  pub next_put : (at d : ℕ) (e : TypedExpr) (s0 s1 s2 s3 s4 : List Instr) (j c m u : ℕ) → IsLaid (index_laid (piece arrays env e)) env s0 s1 j → IsLaid (one_step (Const 64 d)) env s1 s2 c → IsLaid (one_step (Two Mul64 at c)) env s2 s3 m → IsLaid (one_step (Two Add64 m j)) env s3 s4 u
      → IsLaid (next_place at d (piece arrays env e)) env s0 s4 u
  next_put at d e s0 s1 s2 s3 s4 j c m u p q r t =
      laid_after (index_laid (piece arrays env e)) (λ j. after (one_step (Const 64 d)) (λ c. after (one_step (Two Mul64 at c)) (λ m. one_step (Two Add64 m j)))) env s0 s1 s4 j u p
      (laid_after (one_step (Const 64 d)) (λ c. after (one_step (Two Mul64 at c)) (λ m. one_step (Two Add64 m j))) env s1 s2 s4 c u q
      (laid_after (one_step (Two Mul64 at c)) (λ m. one_step (Two Add64 m j)) env s2 s3 s4 m u r t))

  pub place_few : (ds : List ℕ) (es : List TypedExpr) (old new : List Instr) (v : ℕ) → IsLaid (place_laid ds (map (piece arrays env) es)) env old new v → length new + 1 ≤ length old + target_price es
  place_few ds es old new v p =
      let h = place_cheap arrays env ds es (length env + length old) in
      omega (arith, h, ap length p.steps ∙ length-append old (place_laid ds (map (piece arrays env) es) (length env + length old)).steps)

  -- ---- conditions and stores

  pub condition_put : (e : TypedExpr) (old mid new : List Instr) (v u : ℕ) → IsLaid (laying e) env old mid v → IsLaid (flag e.ty v) env mid new u → IsLaid (condition_laying arrays env e) env old new u
  condition_put e old mid new v u p q = laid_after (laying e) (λ n. flag e.ty n) env old mid new v u p q

  pub condition_few : (e : TypedExpr) (old new : List Instr) (v : ℕ) → IsLaid (condition_laying arrays env e) env old new v → length new ≤ length old + (expr_price e + 2)
  condition_few e old new v p = few_laid (condition_laying arrays env e) (expr_price e + 2) env old new v (condition_cheap arrays env e) p

  pub store_put : (a : ℕ) (es : List TypedExpr) (e : TypedExpr) (ds : List ℕ) (s0 s1 s2 s3 : List Instr) (p v u : ℕ) → ds ≡ dims_of arrays a → IsLaid (place_laid ds (map (piece arrays env) es)) env s0 s1 p → IsLaid (laying e) env s1 s2 v → IsLaid (one_step (Store a p v)) env s2 s3 u → IsLaid (store_laying arrays env a es e) env s0 s3 u
  store_put a es e ds s0 s1 s2 s3 p v u de h i j =
      laid_after (place_laid (dims_of arrays a) (map (piece arrays env) es)) (λ p. after (laying e) (λ v. one_step (Store a p v))) env s0 s1 s3 p u (subst (λ d. IsLaid (place_laid d (map (piece arrays env) es)) env s0 s1 p) de h)
      (laid_after (laying e) (λ v. one_step (Store a p v)) env s1 s2 s3 v u i j)

  pub store_few : (a : ℕ) (es : List TypedExpr) (e : TypedExpr) (old new : List Instr) (v : ℕ) → IsLaid (store_laying arrays env a es e) env old new v → length new ≤ length old + (1 + target_price es + expr_price e)
  store_few a es e old new v p = few_laid (store_laying arrays env a es e) (1 + target_price es + expr_price e) env old new v (store_cheap arrays env a es e) p
