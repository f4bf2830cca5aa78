-- How many steps are laid, and how many of them are loads and stores, whatever the tree.
use Rattle.std.proofs.Common.{◌≡◌, ℕ, ◌+◌, ◌*◌, ◌≤◌, List, [], ◌∷◌, ◌++◌, length, get_or, Option, Some, None, refl, arith, length-append}
use Rattle.std.specs.Prelude.{Bool, true, false, ◌&&◌}
use mathlib.Core.Former.{Count}
use Rattle.el_base.specs.declared.ty.Ty.{Ty}
use Rattle.el_base.specs.declared.ty.Ty.TheVariants.{I8, U8, I16, U16, I32, U32, I64, U64}
use Rattle.el_base.specs.declared.operation.Op1.{Op1}
use Rattle.el_base.specs.declared.operation.Op1.TheVariants.{Zero32, Zero64, U8to32, U16to32}
use Rattle.el_base.specs.declared.operation.Op2.TheVariants.{Mul64, Add64}
use Rattle.el_base.specs.Widths.{ty_width}
use Rattle.c_ast.specs.declared.tree.Binary.{Binary}
use Rattle.c_ast.specs.declared.tree.Binary.TheVariants.{Shl, Shr, Gt, Ge, Both, Either}
use Rattle.c_ast.specs.declared.typed.ArrayOf.{ArrayOf}
use Rattle.c_ast.specs.declared.typed.TypedExprKind.{TypedExprKind, Row_of-TypedExpr, end_of-TypedExpr, more_of-TypedExpr}
use Rattle.c_ast.specs.declared.typed.TypedExprKind as tree
use Rattle.ir.specs.declared.instr.Instr.{Instr}
use Rattle.ir.specs.declared.instr.Instr.TheVariants.{Const, One, Two, Select, Load}
use Rattle.ir.specs.Accesses.{is_access, accesses_in}
use Rattle.c_meaning.specs.Patterns.{conversion_op}
use Rattle.c_meaning.specs.Stores.{dims_of}
use Rattle.c_meaning.specs.Counts.{operator_price, kind_price, indices_price}
use Rattle.c_meaning.specs.Sizes.{reads, reads_row}
use Rattle.struct_cfg.specs.Layings.{Laying, no_step, one_step, after, applied, Piece}
use Rattle.struct_cfg.specs.Operators.{converted, unary_op, flag, zero_test, is_narrow, truth_of, first_else, first_then, both_laid, either_laid, joined, index_laid, next_place, further_places, place_laid}
use Rattle.struct_cfg.specs.Exprs.{kind_laying, row_pieces}

pub accesses_append : (is js : List Instr) → accesses_in (is ++ js) ≡ accesses_in is + accesses_in js
accesses_append [] js = omega arith
accesses_append (i ∷ is) js = omega (arith, accesses_append is js)

-- a number of lists of steps that adds up
pub record Adding (c : List Instr → ℕ) : Type 0 where
  pub none : c [] ≡ 0
  pub both : (is js : List Instr) → c (is ++ js) ≡ c is + c js

pub steps_adding : Adding length
steps_adding = record { none = refl; both = λ is js. length-append is js }

pub accesses_adding : Adding accesses_in
accesses_adding = record { none = refl; both = accesses_append }

-- wherever it is laid, it has at most m
abbrev pub AtMost : (List Instr → ℕ) → Laying → ℕ → Type 0
AtMost c a m = (n : ℕ) → c (a n).steps ≤ m

module _ (c : List Instr → ℕ) (adding : Adding c) where
  pub after_most : (a : Laying) (f : ℕ → Laying) (m k l : ℕ) → AtMost c a m → ((v : ℕ) → AtMost c (f v) k) → m + k ≤ l → AtMost c (after a f) l
  unfolding after
  after_most a f m k l p q le n =
      let x = a n in
      let y = f x.value (n + length x.steps) in
      omega (arith, adding.both x.steps y.steps, p n, q x.value (n + length x.steps))

  pub none_most : (v m : ℕ) → AtMost c (no_step v) m
  none_most v m n = omega (arith, adding.none)

  -- a price of one step that is no access
  module _ (one : ℕ) (plain : (i : Instr) → is_access i ≡ 0 → c (i ∷ []) ≤ one) where
    step_most : (i : Instr) (m : ℕ) → is_access i ≡ 0 → one ≤ m → AtMost c (one_step i) m
    step_most i m e le n = let h = plain i e in omega (arith, h)

    applied_most : (op : Option Op1) (v m : ℕ) → one ≤ m → AtMost c (applied op v) m
    applied_most None v m le = none_most v m
    applied_most (Some op) v m le = step_most (One op v) m refl le

    twice_most : (op op2 : Op1) (v m : ℕ) → one + one ≤ m → AtMost c (after (one_step (One op v)) (λ z. one_step (One op2 z))) m
    twice_most op op2 v m le = after_most (one_step (One op v)) (λ z. one_step (One op2 z)) one one m (step_most (One op v) one refl (omega arith)) (λ z. step_most (One op2 z) one refl (omega arith)) le

    pub flag_most : (t : Ty) (v : ℕ) → AtMost c (flag t v) (one + one)
    flag_most I8 v = step_most (One U8to32 v) (one + one) refl (omega arith)
    flag_most U8 v = step_most (One U8to32 v) (one + one) refl (omega arith)
    flag_most I16 v = step_most (One U16to32 v) (one + one) refl (omega arith)
    flag_most U16 v = step_most (One U16to32 v) (one + one) refl (omega arith)
    flag_most I32 v = none_most v (one + one)
    flag_most U32 v = none_most v (one + one)
    flag_most I64 v = twice_most Zero64 Zero32 v (one + one) (omega arith)
    flag_most U64 v = twice_most Zero64 Zero32 v (one + one) (omega arith)

    narrow_flag : (t : Ty) (v : ℕ) → is_narrow t ≡ true → AtMost c (flag t v) one
    narrow_flag I8 v e = step_most (One U8to32 v) one refl (omega arith)
    narrow_flag U8 v e = step_most (One U8to32 v) one refl (omega arith)
    narrow_flag I16 v e = step_most (One U16to32 v) one refl (omega arith)
    narrow_flag U16 v e = step_most (One U16to32 v) one refl (omega arith)
    narrow_flag t v e = absurd (cc)

    test_most : (t : Ty) (v : ℕ) → AtMost c (zero_test t v) (one + one)
    test_most I8 v = twice_most U8to32 Zero32 v (one + one) (omega arith)
    test_most U8 v = twice_most U8to32 Zero32 v (one + one) (omega arith)
    test_most I16 v = twice_most U16to32 Zero32 v (one + one) (omega arith)
    test_most U16 v = twice_most U16to32 Zero32 v (one + one) (omega arith)
    test_most I32 v = step_most (One Zero32 v) (one + one) refl (omega arith)
    test_most U32 v = step_most (One Zero32 v) (one + one) refl (omega arith)
    test_most I64 v = step_most (One Zero64 v) (one + one) refl (omega arith)
    test_most U64 v = step_most (One Zero64 v) (one + one) refl (omega arith)

    wide_test : (t : Ty) (v : ℕ) → is_narrow t ≡ false → AtMost c (zero_test t v) one
    wide_test I32 v e = step_most (One Zero32 v) one refl (omega arith)
    wide_test U32 v e = step_most (One Zero32 v) one refl (omega arith)
    wide_test I64 v e = step_most (One Zero64 v) one refl (omega arith)
    wide_test U64 v e = step_most (One Zero64 v) one refl (omega arith)
    wide_test t v e = absurd (cc)

    -- two sides, a selection by them, and one or two steps more
    sides_most : (a b : Laying) (f : ℕ → ℕ → Laying) (g : ℕ → Laying) (m k l r : ℕ) → AtMost c a m → AtMost c b k → ((x y : ℕ) → AtMost c (f x y) one) → ((x : ℕ) → AtMost c (g x) l) → m + (k + (one + l)) ≤ r
        → AtMost c (after a (λ x. after b (λ y. after (f x y) g))) r
    sides_most a b f g m k l r p q h i le =
        after_most a (λ x. after b (λ y. after (f x y) g)) m (k + (one + l)) r p
        (λ x. after_most b (λ y. after (f x y) g) k (one + l) (k + (one + l)) q (λ y. after_most (f x y) g one l (one + l) (h x y) i (omega arith)) (omega arith)) le

    chosen_most : (x y z : ℕ) → AtMost c (one_step (Select 32 x y z)) one
    chosen_most x y z = step_most (Select 32 x y z) one refl (omega arith)

    both_most : (p q : Bool) (t u : Ty) (a b : ℕ) → is_narrow t ≡ p → is_narrow u ≡ q → AtMost c (both_laid (p && q) t u a b) (one + one + one + one + one)
    both_most true true t u a b e f = sides_most (flag t a) (flag u b) first_then truth_of one one (one + one) _ (narrow_flag t a e) (narrow_flag u b f) (λ x y. chosen_most x y x) (λ x. twice_most Zero32 Zero32 x (one + one) (omega arith)) (omega arith)
    both_most true false t u a b e f = sides_most (zero_test t a) (zero_test u b) first_else (λ s. one_step (One Zero32 s)) (one + one) one one _ (test_most t a) (wide_test u b f) (λ x y. chosen_most x x y) (λ x. step_most (One Zero32 x) one refl (omega arith)) (omega arith)
    both_most false q t u a b e f = sides_most (zero_test t a) (zero_test u b) first_else (λ s. one_step (One Zero32 s)) one (one + one) one _ (wide_test t a e) (test_most u b) (λ x y. chosen_most x x y) (λ x. step_most (One Zero32 x) one refl (omega arith)) (omega arith)

    either_most : (p q : Bool) (t u : Ty) (a b : ℕ) → is_narrow t ≡ p → is_narrow u ≡ q → AtMost c (either_laid (p && q) t u a b) (one + one + one + one + one)
    either_most true true t u a b e f = sides_most (flag t a) (flag u b) first_else truth_of one one (one + one) _ (narrow_flag t a e) (narrow_flag u b f) (λ x y. chosen_most x x y) (λ x. twice_most Zero32 Zero32 x (one + one) (omega arith)) (omega arith)
    either_most true false t u a b e f = sides_most (zero_test t a) (zero_test u b) first_then (λ s. one_step (One Zero32 s)) (one + one) one one _ (test_most t a) (wide_test u b f) (λ x y. chosen_most x y x) (λ x. step_most (One Zero32 x) one refl (omega arith)) (omega arith)
    either_most false q t u a b e f = sides_most (zero_test t a) (zero_test u b) first_then (λ s. one_step (One Zero32 s)) one (one + one) one _ (wide_test t a e) (test_most u b) (λ x y. chosen_most x y x) (λ x. step_most (One Zero32 x) one refl (omega arith)) (omega arith)

    pub joined_most : (op : Binary) (t u : Ty) (a b m : ℕ) → one * (1 + operator_price op) ≤ m → AtMost c (joined op t u a b) m
    joined_most Shl t u a b m le = after_most (converted u t b) _ one one m (applied_most (conversion_op u t) b one (omega arith)) (λ v. step_most (Two _ a v) one refl (omega arith)) (omega arith)
    joined_most Shr t u a b m le = after_most (converted u t b) _ one one m (applied_most (conversion_op u t) b one (omega arith)) (λ v. step_most (Two _ a v) one refl (omega arith)) (omega arith)
    joined_most Gt t u a b m le = step_most (Two _ b a) m refl (omega arith)
    joined_most Ge t u a b m le = step_most (Two _ b a) m refl (omega arith)
    joined_most Both t u a b m le = λ n. let h = both_most (is_narrow t) (is_narrow u) t u a b refl refl n in omega (arith, h)
    joined_most Either t u a b m le = λ n. let h = either_most (is_narrow t) (is_narrow u) t u a b refl refl n in omega (arith, h)
    joined_most op t u a b m le = step_most (Two _ a b) m refl (omega arith)

    -- ---- places

    -- four for each index besides its expression
    pub data PiecesMost : List Piece → ℕ → Type 0 where
      no_piece : (m : ℕ) → PiecesMost [] m
      one_piece : (p : Piece) (ps : List Piece) (k r m : ℕ) → AtMost c p.laying k → PiecesMost ps r → k + one * 4 + r ≤ m → PiecesMost (p ∷ ps) m

    index_most : (p : Piece) (k m : ℕ) → AtMost c p.laying k → k + one ≤ m → AtMost c (index_laid p) m
    index_most p k m h le = after_most p.laying (λ v. converted p.ty I64 v) k one m h (λ v. applied_most (conversion_op p.ty I64) v one (omega arith)) le

    next_most : (at d : ℕ) (p : Piece) (k m : ℕ) → AtMost c p.laying k → k + one * 4 ≤ m → AtMost c (next_place at d p) m
    next_most at d p k m h le =
        after_most (index_laid p) (λ j. after (one_step (Const 64 d)) (λ q. after (one_step (Two Mul64 at q)) (λ m. one_step (Two Add64 m j)))) (k + one) (one + (one + one)) m (index_most p k (k + one) h (omega arith))
        (λ j. after_most (one_step (Const 64 d)) (λ q. after (one_step (Two Mul64 at q)) (λ m. one_step (Two Add64 m j))) one (one + one) (one + (one + one)) (step_most (Const 64 d) one refl (omega arith))
        (λ q. after_most (one_step (Two Mul64 at q)) (λ m. one_step (Two Add64 m j)) one one (one + one) (step_most (Two Mul64 at q) one refl (omega arith)) (λ m. step_most (Two Add64 m j) one refl (omega arith)) (omega arith)) (omega arith))
        (omega arith)

    further_most : (at : ℕ) (ds : List ℕ) (ps : List Piece) (m : ℕ) → PiecesMost ps m → AtMost c (further_places at ds ps) m
    further_most at [] ps m h = none_most at m
    further_most at (d ∷ ds) [] m h = none_most at m
    further_most at (d ∷ ds) (p ∷ ps) m (one_piece _ _ k r _ h rest le) =
        after_most (next_place at d p) (λ v. further_places v ds ps) (k + one * 4) r m (next_most at d p k (k + one * 4) h (omega arith)) (λ v. further_most v ds ps r rest) le

    pub place_most : (ds : List ℕ) (ps : List Piece) (m : ℕ) → PiecesMost ps m → AtMost c (place_laid ds ps) m
    place_most [] ps m h = none_most 0 m
    place_most (d ∷ ds) [] m h = none_most 0 m
    place_most (d ∷ ds) (p ∷ ps) m (one_piece _ _ k r _ h rest le) =
        after_most (index_laid p) (λ v. further_places v ds ps) (k + one) r m (index_most p k (k + one) h (omega arith)) (λ v. further_most v ds ps r rest) (omega arith)

-- ---- the steps of a tree are at most its price

abbrev Steps : Laying → ℕ → Type 0
Steps a m = AtMost length a m

pub one_long : (i : Instr) → is_access i ≡ 0 → length (i ∷ []) ≤ 1
one_long i e = omega arith

long_step : (i : Instr) (m : ℕ) → 1 ≤ m → Steps (one_step i) m
long_step i m le n = le

mutual
  pub kind_cheap : (arrays : List ArrayOf) (env : List ℕ) (e : TypedExprKind) (ty : Ty) → AtMost length (kind_laying arrays env e ty) (kind_price e)
  kind_cheap arrays env (tree.Number m) ty = long_step (Const (ty_width ty) m) 1 (omega arith)
  kind_cheap arrays env (tree.Var v) ty = none_most length steps_adding (get_or env v 0) 1
  kind_cheap arrays env (tree.Element' a n row) ty =
      after_most length steps_adding (place_laid (dims_of arrays a) (row_pieces arrays env row)) (λ p. one_step (Load a p)) (indices_price row) 1 (1 + indices_price row)
      (place_most length steps_adding 1 one_long (dims_of arrays a) (row_pieces arrays env row) (indices_price row) (row_cheap arrays env row)) (λ p. long_step (Load a p) 1 (omega arith)) (omega arith)
  kind_cheap arrays env (tree.Unary' op b (more_of-TypedExpr e t at end_of-TypedExpr)) ty =
      after_most length steps_adding (kind_laying arrays env e t) (λ v. applied (unary_op op t) v) (kind_price e) 1 (1 + kind_price e) (kind_cheap arrays env e t)
      (λ v. applied_most length steps_adding 1 one_long (unary_op op t) v 1 (omega arith)) (omega arith)
  kind_cheap arrays env (tree.Cast' implied b (more_of-TypedExpr e t at end_of-TypedExpr)) ty =
      after_most length steps_adding (kind_laying arrays env e t) (λ v. converted t ty v) (kind_price e) 1 (1 + kind_price e) (kind_cheap arrays env e t)
      (λ v. applied_most length steps_adding 1 one_long (conversion_op t ty) v 1 (omega arith)) (omega arith)
  kind_cheap arrays env (tree.Binary' op b (more_of-TypedExpr e t at end_of-TypedExpr) b2 (more_of-TypedExpr e2 t2 at2 end_of-TypedExpr)) ty =
      after_most length steps_adding (kind_laying arrays env e t) (λ x. after (kind_laying arrays env e2 t2) (λ y. joined op t t2 x y)) (kind_price e) (kind_price e2 + (1 + operator_price op)) (1 + operator_price op + kind_price e + kind_price e2) (kind_cheap arrays env e t)
      (λ x. after_most length steps_adding (kind_laying arrays env e2 t2) (λ y. joined op t t2 x y) (kind_price e2) (1 + operator_price op) (kind_price e2 + (1 + operator_price op)) (kind_cheap arrays env e2 t2)
      (λ y. joined_most length steps_adding 1 one_long op t t2 x y (1 + operator_price op) (omega arith)) (omega arith)) (omega arith)
  kind_cheap arrays env (tree.Choose' b (more_of-TypedExpr e t at end_of-TypedExpr) b2 (more_of-TypedExpr e2 t2 at2 end_of-TypedExpr) b3 (more_of-TypedExpr e3 t3 at3 end_of-TypedExpr)) ty =
      after_most length steps_adding (kind_laying arrays env e t) (λ x. after (flag t x) (λ f. after (kind_laying arrays env e2 t2) (λ y. after (kind_laying arrays env e3 t3) (λ z. one_step (Select (ty_width ty) f y z)))))
      (kind_price e) (2 + (kind_price e2 + (kind_price e3 + 1))) (3 + kind_price e + kind_price e2 + kind_price e3) (kind_cheap arrays env e t)
      (λ x. after_most length steps_adding (flag t x) (λ f. after (kind_laying arrays env e2 t2) (λ y. after (kind_laying arrays env e3 t3) (λ z. one_step (Select (ty_width ty) f y z)))) 2 (kind_price e2 + (kind_price e3 + 1)) _
      (flag_most length steps_adding 1 one_long t x)
      (λ f. after_most length steps_adding (kind_laying arrays env e2 t2) (λ y. after (kind_laying arrays env e3 t3) (λ z. one_step (Select (ty_width ty) f y z))) (kind_price e2) (kind_price e3 + 1) _ (kind_cheap arrays env e2 t2)
      (λ y. after_most length steps_adding (kind_laying arrays env e3 t3) (λ z. one_step (Select (ty_width ty) f y z)) (kind_price e3) 1 _ (kind_cheap arrays env e3 t3)
      (λ z. long_step (Select (ty_width ty) f y z) 1 (omega arith)) (omega arith)) (omega arith)) (omega arith)) (omega arith)

  pub row_cheap : (arrays : List ArrayOf) (env : List ℕ) {n : Count} (row : Row_of-TypedExpr n) → PiecesMost length steps_adding 1 one_long (row_pieces arrays env row) (indices_price row)
  row_cheap arrays env end_of-TypedExpr = no_piece 0
  row_cheap arrays env (more_of-TypedExpr e t at row) = one_piece _ (row_pieces arrays env row) (kind_price e) (indices_price row) (4 + kind_price e + indices_price row) (kind_cheap arrays env e t) (row_cheap arrays env row) (omega arith)

-- ---- and its loads are at most its reads

pub none_free : (i : Instr) → is_access i ≡ 0 → accesses_in (i ∷ []) ≤ 0
none_free i e = omega arith

free_step : (i : Instr) (m : ℕ) → is_access i ≡ 0 → AtMost accesses_in (one_step i) m
free_step i m e n = omega arith

mutual
  pub kind_reads : (arrays : List ArrayOf) (env : List ℕ) (e : TypedExprKind) (ty : Ty) → AtMost accesses_in (kind_laying arrays env e ty) (reads e)
  kind_reads arrays env (tree.Number m) ty = free_step (Const (ty_width ty) m) 0 refl
  kind_reads arrays env (tree.Var v) ty = none_most accesses_in accesses_adding (get_or env v 0) 0
  kind_reads arrays env (tree.Element' a n row) ty =
      after_most accesses_in accesses_adding (place_laid (dims_of arrays a) (row_pieces arrays env row)) (λ p. one_step (Load a p)) (reads_row row) 1 (1 + reads_row row)
      (place_most accesses_in accesses_adding 0 none_free (dims_of arrays a) (row_pieces arrays env row) (reads_row row) (row_reads arrays env row)) (λ p n. omega arith) (omega arith)
  kind_reads arrays env (tree.Unary' op b (more_of-TypedExpr e t at end_of-TypedExpr)) ty =
      after_most accesses_in accesses_adding (kind_laying arrays env e t) (λ v. applied (unary_op op t) v) (reads e) 0 (reads e) (kind_reads arrays env e t)
      (λ v. applied_most accesses_in accesses_adding 0 none_free (unary_op op t) v 0 (omega arith)) (omega arith)
  kind_reads arrays env (tree.Cast' implied b (more_of-TypedExpr e t at end_of-TypedExpr)) ty =
      after_most accesses_in accesses_adding (kind_laying arrays env e t) (λ v. converted t ty v) (reads e) 0 (reads e) (kind_reads arrays env e t)
      (λ v. applied_most accesses_in accesses_adding 0 none_free (conversion_op t ty) v 0 (omega arith)) (omega arith)
  kind_reads arrays env (tree.Binary' op b (more_of-TypedExpr e t at end_of-TypedExpr) b2 (more_of-TypedExpr e2 t2 at2 end_of-TypedExpr)) ty =
      after_most accesses_in accesses_adding (kind_laying arrays env e t) (λ x. after (kind_laying arrays env e2 t2) (λ y. joined op t t2 x y)) (reads e) (reads e2) (reads e + reads e2) (kind_reads arrays env e t)
      (λ x. after_most accesses_in accesses_adding (kind_laying arrays env e2 t2) (λ y. joined op t t2 x y) (reads e2) 0 (reads e2) (kind_reads arrays env e2 t2)
      (λ y. joined_most accesses_in accesses_adding 0 none_free op t t2 x y 0 (omega arith)) (omega arith)) (omega arith)
  kind_reads arrays env (tree.Choose' b (more_of-TypedExpr e t at end_of-TypedExpr) b2 (more_of-TypedExpr e2 t2 at2 end_of-TypedExpr) b3 (more_of-TypedExpr e3 t3 at3 end_of-TypedExpr)) ty =
      after_most accesses_in accesses_adding (kind_laying arrays env e t) (λ x. after (flag t x) (λ f. after (kind_laying arrays env e2 t2) (λ y. after (kind_laying arrays env e3 t3) (λ z. one_step (Select (ty_width ty) f y z)))))
      (reads e) (reads e2 + reads e3) (reads e + reads e2 + reads e3) (kind_reads arrays env e t)
      (λ x. after_most accesses_in accesses_adding (flag t x) (λ f. after (kind_laying arrays env e2 t2) (λ y. after (kind_laying arrays env e3 t3) (λ z. one_step (Select (ty_width ty) f y z)))) 0 (reads e2 + reads e3) _
      (flag_most accesses_in accesses_adding 0 none_free t x)
      (λ f. after_most accesses_in accesses_adding (kind_laying arrays env e2 t2) (λ y. after (kind_laying arrays env e3 t3) (λ z. one_step (Select (ty_width ty) f y z))) (reads e2) (reads e3) _ (kind_reads arrays env e2 t2)
      (λ y. after_most accesses_in accesses_adding (kind_laying arrays env e3 t3) (λ z. one_step (Select (ty_width ty) f y z)) (reads e3) 0 _ (kind_reads arrays env e3 t3)
      (λ z. free_step (Select (ty_width ty) f y z) 0 refl) (omega arith)) (omega arith)) (omega arith)) (omega arith)

  pub row_reads : (arrays : List ArrayOf) (env : List ℕ) {n : Count} (row : Row_of-TypedExpr n) → PiecesMost accesses_in accesses_adding 0 none_free (row_pieces arrays env row) (reads_row row)
  row_reads arrays env end_of-TypedExpr = no_piece 0
  row_reads arrays env (more_of-TypedExpr e t at row) = one_piece _ (row_pieces arrays env row) (reads e) (reads_row row) (reads e + reads_row row) (kind_reads arrays env e t) (row_reads arrays env row) (omega arith)
