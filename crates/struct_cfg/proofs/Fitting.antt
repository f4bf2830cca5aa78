-- Lawful expressions lay steps that fit.
use Rattle.std.proofs.Common.{◌≡◌, ℕ, ◌+◌, ◌^◌, ◌<◌, List, [], ◌∷◌, ◌++◌, length, get_or, Option, Some, None, refl, sym, ◌∙◌, ap, subst, arith, length-append, inl, inr}
use Rattle.std.specs.Prelude.{Bool, true, false, slice_get, All, ◌&&◌}
use Rattle.std.proofs.lemmas.List.Elements.{All-head, All-tail}
use Rattle.std.proofs.lemmas.Option.{slice_get-get_or}
use Rattle.std.proofs.Math.Seq.{get_or-append_seam}
use mathlib.Core.Former.{Count}
use Rattle.el_base.specs.declared.ty.Ty.{Ty}
use Rattle.el_base.specs.declared.ty.Ty.TheVariants.{I8, U8, I16, U16, I32, U32, I64, U64}
use Rattle.el_base.specs.declared.ty.Array.{Array}
use Rattle.el_base.specs.declared.operation.Op1.{Op1}
use Rattle.el_base.specs.declared.operation.Op1.TheVariants.{Neg32, Neg64, Not32, Not64, Zero32, Zero64, U8to32, U16to32}
use Rattle.el_base.specs.declared.operation.Op2.{Op2}
use Rattle.el_base.specs.declared.operation.Op2.TheVariants.{Add32, Add64, And32, And64, Divs32, Divs64, Divu32, Divu64, Eq32, Eq64, Les32, Les64, Leu32, Leu64, Lts32, Lts64, Ltu32, Ltu64, Mul32, Mul64, Ne32, Ne64, Or32, Or64, Rems32, Rems64, Remu32, Remu64, Shl32, Shl64, Shrs32, Shrs64, Shru32, Shru64, Sub32, Sub64, Xor32, Xor64}
use Rattle.el_base.specs.Widths.{ty_width, op1_in, op1_out, op2_in, op2_out}
use Rattle.c_ast.specs.declared.tree.Unary.{Unary}
use Rattle.c_ast.specs.declared.tree.Unary.TheVariants.{Plus, Minus, Flip, Not}
use Rattle.c_ast.specs.declared.tree.Binary.{Binary}
use Rattle.c_ast.specs.declared.tree.Binary.TheVariants.{Mul, Div, Rem, Add, Sub, Shl, Shr, Lt, Gt, Le, Ge, Eq, Ne, And, Xor, Or, Both, Either}
use Rattle.c_ast.specs.ResultTypes.{promoted, unary_type}
use Rattle.c_ast.specs.declared.typed.ArrayOf.{ArrayOf}
use Rattle.c_ast.specs.declared.typed.TypedExpr.{TypedExpr}
use Rattle.c_ast.specs.declared.typed.TypedExprKind.{TypedExprKind, Row_of-TypedExpr, end_of-TypedExpr, more_of-TypedExpr}
use Rattle.c_ast.specs.declared.typed.TypedExprKind as tree
use Rattle.ir.specs.declared.instr.Instr.{Instr}
use Rattle.ir.specs.declared.instr.Instr.TheVariants.{Const, One, Two, Select, Load}
use Rattle.ir.specs.Shapes.{IsWidth, Shape, IsOfWidth, StepFits, StepsFit, step_width, element_width, shape_after}
use Rattle.c_meaning.specs.Patterns.{by_type, conversion_op}
use Rattle.c_meaning.specs.Stores.{Objects, dims_of}
use Rattle.c_meaning.specs.Lawful.{LawfulKind, LawfulRow, LawfulExpr, IsElement, row_length}
use Rattle.c_meaning.proofs.TypeLemmas.{promoted_usual}
use Rattle.c_meaning.proofs.LawfulExpressions.{get_kept}
use Rattle.c_meaning.proofs.StoreParts.{dims_is}
use Rattle.struct_cfg.specs.Layings.{Laying, no_step, one_step, after, applied, Piece}
use Rattle.struct_cfg.specs.Operators.{converted, unary_op, flag, zero_test, is_narrow, truth_of, first_else, first_then, both_laid, either_laid, joined, index_laid, next_place, further_places, place_laid}
use Rattle.struct_cfg.specs.Exprs.{kind_laying, row_pieces, expr_laying, condition_laying}
use Rattle.struct_cfg.specs.Shares.{IsSmallArray, AreSmallArrays}
use Rattle.struct_cfg.specs.Fits.{EnvFits, Fits, HasObjects, AlwaysFits}
use Rattle.struct_cfg.proofs.ExprLaws.{all_at, dims_few, below_width}

-- ---- shapes

pub shape_append : (arrays : List Array) (ws : Shape) (is js : List Instr) → shape_after arrays ws (is ++ js) ≡ shape_after arrays (shape_after arrays ws is) js
shape_append arrays ws [] js = refl
shape_append arrays ws (i ∷ is) js = shape_append arrays (ws ++ step_width arrays i ∷ []) is js

pub steps_append : (arrays : List Array) (ws : Shape) (is js : List Instr) → StepsFit arrays ws is → StepsFit arrays (shape_after arrays ws is) js → StepsFit arrays ws (is ++ js)
steps_append arrays ws [] js a b = b
steps_append arrays ws (i ∷ is) js a b = (a.0, steps_append arrays (ws ++ step_width arrays i ∷ []) is js a.1 b)

pub width_stays : (arrays : List Array) (is : List Instr) (ws : Shape) (a w : ℕ) → IsOfWidth ws a w → IsOfWidth (shape_after arrays ws is) a w
width_stays arrays [] ws a w h = h
width_stays arrays (i ∷ is) ws a w h = width_stays arrays is (ws ++ step_width arrays i ∷ []) a w (get_kept ws (step_width arrays i ∷ []) a (Some w) h)

pub length_shape : (arrays : List Array) (is : List Instr) (ws : Shape) → length (shape_after arrays ws is) ≡ length ws + length is
length_shape arrays [] ws = omega arith
length_shape arrays (i ∷ is) ws = omega (arith, length_shape arrays is (ws ++ step_width arrays i ∷ []), length-append ws (step_width arrays i ∷ []))

-- widths that are kept
pub record Keeps (ws us : Shape) : Type 0 where
  pub by : (x w : ℕ) → IsOfWidth ws x w → IsOfWidth us x w

pub env_kept : (vars env : List ℕ) (ws us : Shape) → Keeps ws us → EnvFits vars env ws → EnvFits vars env us
env_kept vars env ws us k f = record { by = λ x w e. k.by (get_or env x 0) w (f.by x w e) }

module _ (arrays : List Array) where
  pub steps_keep : (is : List Instr) (ws : Shape) → Keeps ws (shape_after arrays ws is)
  steps_keep is ws = record { by = λ x w h. width_stays arrays is ws x w h }

  -- ---- one laying after another

  pub after_fits : (a : Laying) (f : ℕ → Laying) (ws : Shape) (p q : ℕ) → Fits arrays ws (a (length ws)) p → ((v : ℕ) (us : Shape) → Keeps ws us → IsOfWidth us v p → Fits arrays us (f v (length us)) q) → Fits arrays ws (after a f (length ws)) q
  unfolding after
  after_fits a f ws p q m next =
      let n = length ws in
      let x = a n in
      let us = shape_after arrays ws x.steps in
      let l : length us ≡ n + length x.steps = length_shape arrays x.steps ws in
      let y = f x.value (n + length x.steps) in
      let g : Fits arrays us y q = subst (λ i. Fits arrays us (f x.value i) q) l (next x.value us (steps_keep x.steps ws) m.width) in
      record {
        steps = steps_append arrays ws x.steps y.steps m.steps g.steps;
        width = subst (λ s. IsOfWidth s y.value q) (sym (shape_append arrays ws x.steps y.steps)) g.width;
      }

  pub none_fits : (ws : Shape) (v n w : ℕ) → IsOfWidth ws v w → Fits arrays ws (no_step v n) w
  none_fits ws v n w h = record { steps = tt; width = h }

  last_width : (ws : Shape) (w : Option ℕ) → slice_get (ws ++ w ∷ []) (length ws) ≡ Some w
  last_width ws w =
      slice_get-get_or (ws ++ w ∷ []) (length ws) w (omega (arith, length-append ws (w ∷ []))) ∙ ap Some (get_or-append_seam ws w [] w)

  pub step_fits : (ws : Shape) (i : Instr) (w : ℕ) → StepFits arrays ws i → step_width arrays i ≡ Some w → Fits arrays ws (one_step i (length ws)) w
  step_fits ws i w h e = record { steps = (h, tt); width = last_width ws (step_width arrays i) ∙ ap Some e }

  one_fits : (op : Op1) (ws : Shape) (v p q : ℕ) → op1_in op ≡ p → op1_out op ≡ q → IsOfWidth ws v p → Fits arrays ws (one_step (One op v) (length ws)) q
  one_fits op ws v p q e f h = step_fits ws (One op v) q (subst (IsOfWidth ws v) (sym e) h) (ap Some f)

  two_fits : (op : Op2) (ws : Shape) (a b p q : ℕ) → op2_in op ≡ p → op2_out op ≡ q → IsOfWidth ws a p → IsOfWidth ws b p → Fits arrays ws (one_step (Two op a b) (length ws)) q
  two_fits op ws a b p q e f h i = step_fits ws (Two op a b) q (subst (IsOfWidth ws a) (sym e) h, subst (IsOfWidth ws b) (sym e) i) (ap Some f)

  pub select_fits : (ws : Shape) (w f a b : ℕ) → IsWidth w → IsOfWidth ws f 32 → IsOfWidth ws a w → IsOfWidth ws b w → Fits arrays ws (one_step (Select w f a b) (length ws)) w
  select_fits ws w f a b h i j l = step_fits ws (Select w f a b) w (h, i, j, l) refl

pub width_is : (t : Ty) → IsWidth (ty_width t)
width_is I8 = inl refl
width_is U8 = inl refl
width_is I16 = inr (inl refl)
width_is U16 = inr (inl refl)
width_is I32 = inr (inr (inl refl))
width_is U32 = inr (inr (inl refl))
width_is I64 = inr (inr (inr refl))
width_is U64 = inr (inr (inr refl))

-- ---- conversions

abbrev ConversionFits : Option Op1 → Ty → Ty → Type 0
ConversionFits None s t = ty_width s ≡ ty_width t
ConversionFits (Some op) s t = ◌≡◌ {A = ℕ × ℕ} (op1_in op, op1_out op) (ty_width s, ty_width t)

conversion_fits : (s t : Ty) → ConversionFits (conversion_op s t) s t
conversion_fits I8 I8 = refl
conversion_fits s I8 = refl
conversion_fits s t = refl

-- ---- operations by promoted types

-- one of four operations, of 32, 32, 64 and 64 bits
by_widths : {A : Type 0} (f : A → ℕ) (t : Ty) (a b c d : A) → promoted t ≡ t → f a ≡ 32 → f b ≡ 32 → f c ≡ 64 → f d ≡ 64 → f (by_type t a b c d) ≡ ty_width t
by_widths f I32 a b c d e p q r s = p
by_widths f U32 a b c d e p q r s = q
by_widths f I64 a b c d e p q r s = r
by_widths f U64 a b c d e p q r s = s
by_widths f t a b c d e p q r s = absurd (cc)

-- one of four operations, all of them with a result of w bits
by_one : {A : Type 0} (f : A → ℕ) (t : Ty) (a b c d : A) (w : ℕ) → f a ≡ w → f b ≡ w → f c ≡ w → f d ≡ w → f (by_type t a b c d) ≡ w
by_one f U32 a b c d w p q r s = q
by_one f I64 a b c d w p q r s = r
by_one f U64 a b c d w p q r s = s
by_one f t a b c d w p q r s = p

module _ (arrays : List Array) where
  applied_fits : (op : Option Op1) (s t : Ty) (ws : Shape) (v : ℕ) → ConversionFits op s t → IsOfWidth ws v (ty_width s) → Fits arrays ws (applied op v (length ws)) (ty_width t)
  applied_fits None s t ws v e h = none_fits arrays ws v (length ws) (ty_width t) (subst (IsOfWidth ws v) e h)
  applied_fits (Some op) s t ws v e h = one_fits arrays op ws v (ty_width s) (ty_width t) (ap (λ (p : ℕ × ℕ). p.0) e) (ap (λ (p : ℕ × ℕ). p.1) e) h

  pub converted_fits : (s t : Ty) (ws : Shape) (v : ℕ) → IsOfWidth ws v (ty_width s) → Fits arrays ws (converted s t v (length ws)) (ty_width t)
  converted_fits s t ws v h = applied_fits (conversion_op s t) s t ws v (conversion_fits s t) h

  unary_fits : (op : Unary) (t ty : Ty) (ws : Shape) (v : ℕ) → promoted t ≡ t → ty ≡ unary_type op t → IsOfWidth ws v (ty_width t) → Fits arrays ws (applied (unary_op op t) v (length ws)) (ty_width ty)
  unary_fits Plus t ty ws v p e h = none_fits arrays ws v (length ws) (ty_width ty) (subst (λ u. IsOfWidth ws v (ty_width u)) (sym e) h)
  unary_fits Minus t ty ws v p e h = one_fits arrays _ ws v (ty_width t) (ty_width ty) (by_widths op1_in t Neg32 Neg32 Neg64 Neg64 p refl refl refl refl) (by_widths op1_out t Neg32 Neg32 Neg64 Neg64 p refl refl refl refl ∙ ap ty_width (sym e)) h
  unary_fits Flip t ty ws v p e h = one_fits arrays _ ws v (ty_width t) (ty_width ty) (by_widths op1_in t Not32 Not32 Not64 Not64 p refl refl refl refl) (by_widths op1_out t Not32 Not32 Not64 Not64 p refl refl refl refl ∙ ap ty_width (sym e)) h
  unary_fits Not t ty ws v p e h = one_fits arrays _ ws v (ty_width t) (ty_width ty) (by_widths op1_in t Zero32 Zero32 Zero64 Zero64 p refl refl refl refl) (by_one op1_out t Zero32 Zero32 Zero64 Zero64 32 refl refl refl refl ∙ ap ty_width (sym e)) h

  -- ---- truth

  twice_fits : (op op2 : Op1) (ws : Shape) (v p : ℕ) → op1_in op ≡ p → op1_out op ≡ 32 → op1_in op2 ≡ 32 → op1_out op2 ≡ 32 → IsOfWidth ws v p → Fits arrays ws (after (one_step (One op v)) (λ z. one_step (One op2 z)) (length ws)) 32
  twice_fits op op2 ws v p e f g i h =
      after_fits arrays (one_step (One op v)) (λ z. one_step (One op2 z)) ws 32 32 (one_fits arrays op ws v p 32 e f h) (λ z us k j. one_fits arrays op2 us z 32 32 g i j)

  pub flag_fits : (t : Ty) (ws : Shape) (v : ℕ) → IsOfWidth ws v (ty_width t) → Fits arrays ws (flag t v (length ws)) 32
  flag_fits I8 ws v h = one_fits arrays U8to32 ws v 8 32 refl refl h
  flag_fits U8 ws v h = one_fits arrays U8to32 ws v 8 32 refl refl h
  flag_fits I16 ws v h = one_fits arrays U16to32 ws v 16 32 refl refl h
  flag_fits U16 ws v h = one_fits arrays U16to32 ws v 16 32 refl refl h
  flag_fits I32 ws v h = none_fits arrays ws v (length ws) 32 h
  flag_fits U32 ws v h = none_fits arrays ws v (length ws) 32 h
  flag_fits I64 ws v h = twice_fits Zero64 Zero32 ws v 64 refl refl refl refl h
  flag_fits U64 ws v h = twice_fits Zero64 Zero32 ws v 64 refl refl refl refl h

  test_fits : (t : Ty) (ws : Shape) (v : ℕ) → IsOfWidth ws v (ty_width t) → Fits arrays ws (zero_test t v (length ws)) 32
  test_fits I8 ws v h = twice_fits U8to32 Zero32 ws v 8 refl refl refl refl h
  test_fits U8 ws v h = twice_fits U8to32 Zero32 ws v 8 refl refl refl refl h
  test_fits I16 ws v h = twice_fits U16to32 Zero32 ws v 16 refl refl refl refl h
  test_fits U16 ws v h = twice_fits U16to32 Zero32 ws v 16 refl refl refl refl h
  test_fits I32 ws v h = one_fits arrays Zero32 ws v 32 32 refl refl h
  test_fits U32 ws v h = one_fits arrays Zero32 ws v 32 32 refl refl h
  test_fits I64 ws v h = one_fits arrays Zero64 ws v 64 32 refl refl h
  test_fits U64 ws v h = one_fits arrays Zero64 ws v 64 32 refl refl h

  thirty_two : IsWidth 32
  thirty_two = inr (inr (inl refl))

  truth_fits : (ws : Shape) (v : ℕ) → IsOfWidth ws v 32 → Fits arrays ws (truth_of v (length ws)) 32
  truth_fits ws v h = twice_fits Zero32 Zero32 ws v 32 refl refl refl refl h

  -- two sides, a selection by them, and what is made of it
  sides_fit : (a b : Laying) (f : ℕ → ℕ → Laying) (g : ℕ → Laying) (ws : Shape) → Fits arrays ws (a (length ws)) 32 → ((us : Shape) → Keeps ws us → Fits arrays us (b (length us)) 32)
      → ((us : Shape) (x y : ℕ) → IsOfWidth us x 32 → IsOfWidth us y 32 → Fits arrays us (f x y (length us)) 32) → ((us : Shape) (x : ℕ) → IsOfWidth us x 32 → Fits arrays us (g x (length us)) 32)
      → Fits arrays ws (after a (λ x. after b (λ y. after (f x y) g)) (length ws)) 32
  sides_fit a b f g ws fa fb ff fg =
      after_fits arrays a (λ x. after b (λ y. after (f x y) g)) ws 32 32 fa
      (λ x us k1 h1. after_fits arrays b (λ y. after (f x y) g) us 32 32 (fb us k1)
      (λ y vs k2 h2. after_fits arrays (f x y) g vs 32 32 (ff vs x y (k2.by x 32 h1) h2) (λ s xs k3 h3. fg xs s h3)))

  both_fits : (nb : Bool) (t u : Ty) (ws : Shape) (a b : ℕ) → IsOfWidth ws a (ty_width t) → IsOfWidth ws b (ty_width u) → Fits arrays ws (both_laid nb t u a b (length ws)) 32
  both_fits true t u ws a b h i = sides_fit (flag t a) (flag u b) first_then truth_of ws (flag_fits t ws a h) (λ us k. flag_fits u us b (k.by b (ty_width u) i)) (λ us x y p q. select_fits arrays us 32 x y x thirty_two p q p) truth_fits
  both_fits false t u ws a b h i = sides_fit (zero_test t a) (zero_test u b) first_else (λ s. one_step (One Zero32 s)) ws (test_fits t ws a h) (λ us k. test_fits u us b (k.by b (ty_width u) i)) (λ us x y p q. select_fits arrays us 32 x x y thirty_two p p q) (λ us x p. one_fits arrays Zero32 us x 32 32 refl refl p)

  either_fits : (nb : Bool) (t u : Ty) (ws : Shape) (a b : ℕ) → IsOfWidth ws a (ty_width t) → IsOfWidth ws b (ty_width u) → Fits arrays ws (either_laid nb t u a b (length ws)) 32
  either_fits true t u ws a b h i = sides_fit (flag t a) (flag u b) first_else truth_of ws (flag_fits t ws a h) (λ us k. flag_fits u us b (k.by b (ty_width u) i)) (λ us x y p q. select_fits arrays us 32 x x y thirty_two p p q) truth_fits
  either_fits false t u ws a b h i = sides_fit (zero_test t a) (zero_test u b) first_then (λ s. one_step (One Zero32 s)) ws (test_fits t ws a h) (λ us k. test_fits u us b (k.by b (ty_width u) i)) (λ us x y p q. select_fits arrays us 32 x y x thirty_two p q p) (λ us x p. one_fits arrays Zero32 us x 32 32 refl refl p)

  -- ---- operators on two operands

  -- what an operator asks of the types of its operands and result
  abbrev JoinedTypes : Binary → Ty → Ty → Ty → Type 0
  JoinedTypes Shl t u ty = (promoted t ≡ t) × (ty ≡ t)
  JoinedTypes Shr t u ty = (promoted t ≡ t) × (ty ≡ t)
  JoinedTypes Lt t u ty = (promoted t ≡ t) × (u ≡ t) × (ty ≡ I32)
  JoinedTypes Gt t u ty = (promoted t ≡ t) × (u ≡ t) × (ty ≡ I32)
  JoinedTypes Le t u ty = (promoted t ≡ t) × (u ≡ t) × (ty ≡ I32)
  JoinedTypes Ge t u ty = (promoted t ≡ t) × (u ≡ t) × (ty ≡ I32)
  JoinedTypes Eq t u ty = (promoted t ≡ t) × (u ≡ t) × (ty ≡ I32)
  JoinedTypes Ne t u ty = (promoted t ≡ t) × (u ≡ t) × (ty ≡ I32)
  JoinedTypes Both t u ty = ty ≡ I32
  JoinedTypes Either t u ty = ty ≡ I32
  JoinedTypes op t u ty = (promoted t ≡ t) × (u ≡ t) × (ty ≡ t)

  joined_fits : (op : Binary) (t u ty : Ty) (ws : Shape) (a b : ℕ) → JoinedTypes op t u ty → IsOfWidth ws a (ty_width t) → IsOfWidth ws b (ty_width u) → Fits arrays ws (joined op t u a b (length ws)) (ty_width ty)
  joined_fits Mul t u ty ws a b j h i = two_fits arrays _ ws a b (ty_width t) (ty_width ty) (by_widths op2_in t Mul32 Mul32 Mul64 Mul64 j.0 refl refl refl refl) (by_widths op2_out t Mul32 Mul32 Mul64 Mul64 j.0 refl refl refl refl ∙ ap ty_width (sym j.2)) h (subst (λ v. IsOfWidth ws b (ty_width v)) j.1 i)
  joined_fits Div t u ty ws a b j h i = two_fits arrays _ ws a b (ty_width t) (ty_width ty) (by_widths op2_in t Divs32 Divu32 Divs64 Divu64 j.0 refl refl refl refl) (by_widths op2_out t Divs32 Divu32 Divs64 Divu64 j.0 refl refl refl refl ∙ ap ty_width (sym j.2)) h (subst (λ v. IsOfWidth ws b (ty_width v)) j.1 i)
  joined_fits Rem t u ty ws a b j h i = two_fits arrays _ ws a b (ty_width t) (ty_width ty) (by_widths op2_in t Rems32 Remu32 Rems64 Remu64 j.0 refl refl refl refl) (by_widths op2_out t Rems32 Remu32 Rems64 Remu64 j.0 refl refl refl refl ∙ ap ty_width (sym j.2)) h (subst (λ v. IsOfWidth ws b (ty_width v)) j.1 i)
  joined_fits Add t u ty ws a b j h i = two_fits arrays _ ws a b (ty_width t) (ty_width ty) (by_widths op2_in t Add32 Add32 Add64 Add64 j.0 refl refl refl refl) (by_widths op2_out t Add32 Add32 Add64 Add64 j.0 refl refl refl refl ∙ ap ty_width (sym j.2)) h (subst (λ v. IsOfWidth ws b (ty_width v)) j.1 i)
  joined_fits Sub t u ty ws a b j h i = two_fits arrays _ ws a b (ty_width t) (ty_width ty) (by_widths op2_in t Sub32 Sub32 Sub64 Sub64 j.0 refl refl refl refl) (by_widths op2_out t Sub32 Sub32 Sub64 Sub64 j.0 refl refl refl refl ∙ ap ty_width (sym j.2)) h (subst (λ v. IsOfWidth ws b (ty_width v)) j.1 i)
  joined_fits Shl t u ty ws a b j h i = after_fits arrays (converted u t b) (λ c. one_step (Two (by_type t Shl32 Shl32 Shl64 Shl64) a c)) ws (ty_width t) (ty_width ty) (converted_fits u t ws b i) (λ c us k l. two_fits arrays _ us a c (ty_width t) (ty_width ty) (by_widths op2_in t Shl32 Shl32 Shl64 Shl64 j.0 refl refl refl refl) (by_widths op2_out t Shl32 Shl32 Shl64 Shl64 j.0 refl refl refl refl ∙ ap ty_width (sym j.1)) (k.by a (ty_width t) h) l)
  joined_fits Shr t u ty ws a b j h i = after_fits arrays (converted u t b) (λ c. one_step (Two (by_type t Shrs32 Shru32 Shrs64 Shru64) a c)) ws (ty_width t) (ty_width ty) (converted_fits u t ws b i) (λ c us k l. two_fits arrays _ us a c (ty_width t) (ty_width ty) (by_widths op2_in t Shrs32 Shru32 Shrs64 Shru64 j.0 refl refl refl refl) (by_widths op2_out t Shrs32 Shru32 Shrs64 Shru64 j.0 refl refl refl refl ∙ ap ty_width (sym j.1)) (k.by a (ty_width t) h) l)
  joined_fits Lt t u ty ws a b j h i = two_fits arrays _ ws a b (ty_width t) (ty_width ty) (by_widths op2_in t Lts32 Ltu32 Lts64 Ltu64 j.0 refl refl refl refl) (by_one op2_out t Lts32 Ltu32 Lts64 Ltu64 32 refl refl refl refl ∙ ap ty_width (sym j.2)) h (subst (λ v. IsOfWidth ws b (ty_width v)) j.1 i)
  joined_fits Gt t u ty ws a b j h i = two_fits arrays _ ws b a (ty_width t) (ty_width ty) (by_widths op2_in t Lts32 Ltu32 Lts64 Ltu64 j.0 refl refl refl refl) (by_one op2_out t Lts32 Ltu32 Lts64 Ltu64 32 refl refl refl refl ∙ ap ty_width (sym j.2)) (subst (λ v. IsOfWidth ws b (ty_width v)) j.1 i) h
  joined_fits Le t u ty ws a b j h i = two_fits arrays _ ws a b (ty_width t) (ty_width ty) (by_widths op2_in t Les32 Leu32 Les64 Leu64 j.0 refl refl refl refl) (by_one op2_out t Les32 Leu32 Les64 Leu64 32 refl refl refl refl ∙ ap ty_width (sym j.2)) h (subst (λ v. IsOfWidth ws b (ty_width v)) j.1 i)
  joined_fits Ge t u ty ws a b j h i = two_fits arrays _ ws b a (ty_width t) (ty_width ty) (by_widths op2_in t Les32 Leu32 Les64 Leu64 j.0 refl refl refl refl) (by_one op2_out t Les32 Leu32 Les64 Leu64 32 refl refl refl refl ∙ ap ty_width (sym j.2)) (subst (λ v. IsOfWidth ws b (ty_width v)) j.1 i) h
  joined_fits Eq t u ty ws a b j h i = two_fits arrays _ ws a b (ty_width t) (ty_width ty) (by_widths op2_in t Eq32 Eq32 Eq64 Eq64 j.0 refl refl refl refl) (by_one op2_out t Eq32 Eq32 Eq64 Eq64 32 refl refl refl refl ∙ ap ty_width (sym j.2)) h (subst (λ v. IsOfWidth ws b (ty_width v)) j.1 i)
  joined_fits Ne t u ty ws a b j h i = two_fits arrays _ ws a b (ty_width t) (ty_width ty) (by_widths op2_in t Ne32 Ne32 Ne64 Ne64 j.0 refl refl refl refl) (by_one op2_out t Ne32 Ne32 Ne64 Ne64 32 refl refl refl refl ∙ ap ty_width (sym j.2)) h (subst (λ v. IsOfWidth ws b (ty_width v)) j.1 i)
  joined_fits And t u ty ws a b j h i = two_fits arrays _ ws a b (ty_width t) (ty_width ty) (by_widths op2_in t And32 And32 And64 And64 j.0 refl refl refl refl) (by_widths op2_out t And32 And32 And64 And64 j.0 refl refl refl refl ∙ ap ty_width (sym j.2)) h (subst (λ v. IsOfWidth ws b (ty_width v)) j.1 i)
  joined_fits Xor t u ty ws a b j h i = two_fits arrays _ ws a b (ty_width t) (ty_width ty) (by_widths op2_in t Xor32 Xor32 Xor64 Xor64 j.0 refl refl refl refl) (by_widths op2_out t Xor32 Xor32 Xor64 Xor64 j.0 refl refl refl refl ∙ ap ty_width (sym j.2)) h (subst (λ v. IsOfWidth ws b (ty_width v)) j.1 i)
  joined_fits Or t u ty ws a b j h i = two_fits arrays _ ws a b (ty_width t) (ty_width ty) (by_widths op2_in t Or32 Or32 Or64 Or64 j.0 refl refl refl refl) (by_widths op2_out t Or32 Or32 Or64 Or64 j.0 refl refl refl refl ∙ ap ty_width (sym j.2)) h (subst (λ v. IsOfWidth ws b (ty_width v)) j.1 i)
  joined_fits Both t u ty ws a b j h i = subst (λ v. Fits arrays ws (joined Both t u a b (length ws)) (ty_width v)) (sym j) (both_fits (is_narrow t && is_narrow u) t u ws a b h i)
  joined_fits Either t u ty ws a b j h i = subst (λ v. Fits arrays ws (joined Either t u a b (length ws)) (ty_width v)) (sym j) (either_fits (is_narrow t && is_narrow u) t u ws a b h i)

-- ---- places

abbrev PieceFits : List ℕ → List Array → List ℕ → Piece → Type 0
PieceFits vars arrays env p = AlwaysFits vars arrays env p.laying (ty_width p.ty)

pub data PiecesFit (vars : List ℕ) (arrays : List Array) (env : List ℕ) : List Piece → Type 0 where
  no_piece : PiecesFit vars arrays env []
  one_piece : (p : Piece) (ps : List Piece) → AlwaysFits vars arrays env p.laying (ty_width p.ty) → PiecesFit vars arrays env ps → PiecesFit vars arrays env (p ∷ ps)

module _ (vars : List ℕ) (arrays : List Array) (env : List ℕ) where
  index_fits : (p : Piece) (ws : Shape) → PieceFits vars arrays env p → EnvFits vars env ws → Fits arrays ws (index_laid p (length ws)) 64
  index_fits p ws f e = after_fits arrays p.laying (λ v. converted p.ty I64 v) ws (ty_width p.ty) 64 (f.fits ws e) (λ v us k h. converted_fits arrays p.ty I64 us v h)

  next_fits : (at d : ℕ) (p : Piece) (ws : Shape) → d < 2 ^ 64 → PieceFits vars arrays env p → EnvFits vars env ws → IsOfWidth ws at 64 → Fits arrays ws (next_place at d p (length ws)) 64
  next_fits at d p ws small f e h =
      after_fits arrays (index_laid p) (λ j. after (one_step (Const 64 d)) (λ c. after (one_step (Two Mul64 at c)) (λ m. one_step (Two Add64 m j)))) ws 64 64 (index_fits p ws f e)
      (λ j us k1 h1. after_fits arrays (one_step (Const 64 d)) (λ c. after (one_step (Two Mul64 at c)) (λ m. one_step (Two Add64 m j))) us 64 64 (step_fits arrays us (Const 64 d) 64 (width_is I64, small) refl)
      (λ c vs k2 h2. after_fits arrays (one_step (Two Mul64 at c)) (λ m. one_step (Two Add64 m j)) vs 64 64 (two_fits arrays Mul64 vs at c 64 64 refl refl (k2.by at 64 (k1.by at 64 h)) h2)
      (λ m xs k3 h3. two_fits arrays Add64 xs m j 64 64 refl refl h3 (k3.by j 64 (k2.by j 64 h1)))))

  further_fits : (at : ℕ) (ds : List ℕ) (ps : List Piece) (ws : Shape) → All (λ d. d < 2 ^ 63) ds → PiecesFit vars arrays env ps → EnvFits vars env ws → IsOfWidth ws at 64 → Fits arrays ws (further_places at ds ps (length ws)) 64
  further_fits at [] ps ws small f e h = none_fits arrays ws at (length ws) 64 h
  further_fits at (d ∷ ds) [] ws small f e h = none_fits arrays ws at (length ws) 64 h
  further_fits at (d ∷ ds) (p ∷ ps) ws small (one_piece _ _ f rest) e h =
      let sd : d < 2 ^ 63 = All-head (λ d. d < 2 ^ 63) d ds small in
      after_fits arrays (next_place at d p) (λ v. further_places v ds ps) ws 64 64 (next_fits at d p ws (omega arith) f e h)
      (λ v us k i. further_fits v ds ps us (All-tail (λ d. d < 2 ^ 63) d ds small) rest (env_kept vars env ws us k e) i)

  pub place_fits : (ds : List ℕ) (ps : List Piece) (ws : Shape) → length ds ≡ length ps → 0 < length ds → All (λ d. d < 2 ^ 63) ds → PiecesFit vars arrays env ps → EnvFits vars env ws → Fits arrays ws (place_laid ds ps (length ws)) 64
  place_fits [] ps ws same some small f e = absurd (omega arith)
  place_fits (d ∷ ds) [] ws same some small f e = absurd (omega arith)
  place_fits (d ∷ ds) (p ∷ ps) ws same some small (one_piece _ _ f rest) e =
      after_fits arrays (index_laid p) (λ v. further_places v ds ps) ws 64 64 (index_fits p ws f e)
      (λ v us k i. further_fits v ds ps us (All-tail (λ d. d < 2 ^ 63) d ds small) rest (env_kept vars env ws us k e) i)

  pub load_fits : (k : Objects) (ws : Shape) (a c p : ℕ) (ty : Ty) → HasObjects k vars arrays → IsElement k a c ty → IsOfWidth ws p 64 → Fits arrays ws (one_step (Load a p) (length ws)) (ty_width ty)
  load_fits k ws a c p ty has named h =
      let y = has.arrays_are a named.0 named.1 in
      let is : ty_width y.0.ty ≡ ty_width ty = ap ty_width (y.2 ∙ named.2) in
      step_fits arrays ws (Load a p) (ty_width ty) (ty_width ty, (y.0, y.1, is), h) (ap element_width y.1 ∙ ap Some is)

-- ---- trees

row_count : (as_of : List ArrayOf) (env : List ℕ) {n : Count} (row : Row_of-TypedExpr n) → length (row_pieces as_of env row) ≡ row_length row
row_count as_of env end_of-TypedExpr = refl
row_count as_of env (more_of-TypedExpr e t at row) = omega (arith, row_count as_of env row)

module _ (k : Objects) (small : AreSmallArrays k.arrays) (vars : List ℕ) (arrays : List Array) (has : HasObjects k vars arrays) (env : List ℕ) where
  abbrev KindFits : TypedExprKind → Ty → Type 0
  KindFits e ty = AlwaysFits vars arrays env (kind_laying k.arrays env e ty) (ty_width ty)

  -- the place of an element of the kernel's array
  pub array_place_fits : (a c : ℕ) (ps : List Piece) (ty : Ty) (ws : Shape) → IsElement k a c ty → length ps ≡ c → PiecesFit vars arrays env ps → EnvFits vars env ws → Fits arrays ws (place_laid (dims_of k.arrays a) ps (length ws)) 64
  array_place_fits a c ps ty ws named count f e =
      let fits = all_at IsSmallArray k.arrays a named.0 small named.1 in
      subst (λ d. Fits arrays ws (place_laid d ps (length ws)) 64) (sym (dims_is k.arrays a named.0 named.1))
      (place_fits vars arrays env named.0.dims ps ws (named.3 ∙ sym count) fits.some (dims_few named.0.dims fits.dimensions.1 fits.few) f e)

  binary_fits : (op : Binary) (e e2 : TypedExprKind) (t t2 ty : Ty) → JoinedTypes arrays op t t2 ty → KindFits e t → KindFits e2 t2
      → AlwaysFits vars arrays env (after (kind_laying k.arrays env e t) (λ a. after (kind_laying k.arrays env e2 t2) (λ b. joined op t t2 a b))) (ty_width ty)
  binary_fits op e e2 t t2 ty types fa fb = record {
    fits = λ ws v.
        after_fits arrays (kind_laying k.arrays env e t) (λ a. after (kind_laying k.arrays env e2 t2) (λ b. joined op t t2 a b)) ws (ty_width t) (ty_width ty) (fa.fits ws v)
        (λ a us k1 h. after_fits arrays (kind_laying k.arrays env e2 t2) (λ b. joined op t t2 a b) us (ty_width t2) (ty_width ty) (fb.fits us (env_kept vars env ws us k1 v))
        (λ b vs k2 i. joined_fits arrays op t t2 ty vs a b types (k2.by a (ty_width t) h) i));
  }

  mutual
    pub kind_fits : (e : TypedExprKind) (ty : Ty) → LawfulKind k e ty → KindFits e ty
    kind_fits (tree.Number m) ty h = record { fits = λ ws v. step_fits arrays ws (Const (ty_width ty) m) (ty_width ty) (width_is ty, below_width ty m h) refl }
    kind_fits (tree.Var x) ty h = record { fits = λ ws v. none_fits arrays ws (get_or env x 0) (length ws) (ty_width ty) (v.by x (ty_width ty) (has.vars_are x ty h)) }
    kind_fits (tree.Element' a n row) ty h = record {
      fits = λ ws v.
          after_fits arrays (place_laid (dims_of k.arrays a) (row_pieces k.arrays env row)) (λ p. one_step (Load a p)) ws 64 (ty_width ty)
          (array_place_fits a (row_length row) (row_pieces k.arrays env row) ty ws h.0 (row_count k.arrays env row) (row_fits row h.1) v)
          (λ p us k1 i. load_fits vars arrays env k us a (row_length row) p ty has h.0 i);
    }
    kind_fits (tree.Unary' op b (more_of-TypedExpr e t at end_of-TypedExpr)) ty h =
        let f = kind_fits e t h.2 in
        record { fits = λ ws v. after_fits arrays (kind_laying k.arrays env e t) (λ x. applied (unary_op op t) x) ws (ty_width t) (ty_width ty) (f.fits ws v) (λ x us k1 i. unary_fits arrays op t ty us x (sym h.0) h.1 i) }
    kind_fits (tree.Cast' implied b (more_of-TypedExpr e t at end_of-TypedExpr)) ty h =
        let f = kind_fits e t h.1 in
        record { fits = λ ws v. after_fits arrays (kind_laying k.arrays env e t) (λ x. converted t ty x) ws (ty_width t) (ty_width ty) (f.fits ws v) (λ x us k1 i. converted_fits arrays t ty us x i) }
    kind_fits (tree.Binary' Mul b (more_of-TypedExpr e t at end_of-TypedExpr) b2 (more_of-TypedExpr e2 t2 at2 end_of-TypedExpr)) ty h = binary_fits Mul e e2 t t2 ty (ap promoted h.0.0 ∙ promoted_usual t t2 ∙ sym h.0.0, h.0.1 ∙ sym h.0.0, h.0.2 ∙ sym h.0.0) (kind_fits e t h.1) (kind_fits e2 t2 h.2)
    kind_fits (tree.Binary' Div b (more_of-TypedExpr e t at end_of-TypedExpr) b2 (more_of-TypedExpr e2 t2 at2 end_of-TypedExpr)) ty h = binary_fits Div e e2 t t2 ty (ap promoted h.0.0 ∙ promoted_usual t t2 ∙ sym h.0.0, h.0.1 ∙ sym h.0.0, h.0.2 ∙ sym h.0.0) (kind_fits e t h.1) (kind_fits e2 t2 h.2)
    kind_fits (tree.Binary' Rem b (more_of-TypedExpr e t at end_of-TypedExpr) b2 (more_of-TypedExpr e2 t2 at2 end_of-TypedExpr)) ty h = binary_fits Rem e e2 t t2 ty (ap promoted h.0.0 ∙ promoted_usual t t2 ∙ sym h.0.0, h.0.1 ∙ sym h.0.0, h.0.2 ∙ sym h.0.0) (kind_fits e t h.1) (kind_fits e2 t2 h.2)
    kind_fits (tree.Binary' Add b (more_of-TypedExpr e t at end_of-TypedExpr) b2 (more_of-TypedExpr e2 t2 at2 end_of-TypedExpr)) ty h = binary_fits Add e e2 t t2 ty (ap promoted h.0.0 ∙ promoted_usual t t2 ∙ sym h.0.0, h.0.1 ∙ sym h.0.0, h.0.2 ∙ sym h.0.0) (kind_fits e t h.1) (kind_fits e2 t2 h.2)
    kind_fits (tree.Binary' Sub b (more_of-TypedExpr e t at end_of-TypedExpr) b2 (more_of-TypedExpr e2 t2 at2 end_of-TypedExpr)) ty h = binary_fits Sub e e2 t t2 ty (ap promoted h.0.0 ∙ promoted_usual t t2 ∙ sym h.0.0, h.0.1 ∙ sym h.0.0, h.0.2 ∙ sym h.0.0) (kind_fits e t h.1) (kind_fits e2 t2 h.2)
    kind_fits (tree.Binary' Shl b (more_of-TypedExpr e t at end_of-TypedExpr) b2 (more_of-TypedExpr e2 t2 at2 end_of-TypedExpr)) ty h = binary_fits Shl e e2 t t2 ty (sym h.0.0, h.0.2 ∙ sym h.0.0) (kind_fits e t h.1) (kind_fits e2 t2 h.2)
    kind_fits (tree.Binary' Shr b (more_of-TypedExpr e t at end_of-TypedExpr) b2 (more_of-TypedExpr e2 t2 at2 end_of-TypedExpr)) ty h = binary_fits Shr e e2 t t2 ty (sym h.0.0, h.0.2 ∙ sym h.0.0) (kind_fits e t h.1) (kind_fits e2 t2 h.2)
    kind_fits (tree.Binary' Lt b (more_of-TypedExpr e t at end_of-TypedExpr) b2 (more_of-TypedExpr e2 t2 at2 end_of-TypedExpr)) ty h = binary_fits Lt e e2 t t2 ty (ap promoted h.0.0 ∙ promoted_usual t t2 ∙ sym h.0.0, h.0.1 ∙ sym h.0.0, h.0.2) (kind_fits e t h.1) (kind_fits e2 t2 h.2)
    kind_fits (tree.Binary' Gt b (more_of-TypedExpr e t at end_of-TypedExpr) b2 (more_of-TypedExpr e2 t2 at2 end_of-TypedExpr)) ty h = binary_fits Gt e e2 t t2 ty (ap promoted h.0.0 ∙ promoted_usual t t2 ∙ sym h.0.0, h.0.1 ∙ sym h.0.0, h.0.2) (kind_fits e t h.1) (kind_fits e2 t2 h.2)
    kind_fits (tree.Binary' Le b (more_of-TypedExpr e t at end_of-TypedExpr) b2 (more_of-TypedExpr e2 t2 at2 end_of-TypedExpr)) ty h = binary_fits Le e e2 t t2 ty (ap promoted h.0.0 ∙ promoted_usual t t2 ∙ sym h.0.0, h.0.1 ∙ sym h.0.0, h.0.2) (kind_fits e t h.1) (kind_fits e2 t2 h.2)
    kind_fits (tree.Binary' Ge b (more_of-TypedExpr e t at end_of-TypedExpr) b2 (more_of-TypedExpr e2 t2 at2 end_of-TypedExpr)) ty h = binary_fits Ge e e2 t t2 ty (ap promoted h.0.0 ∙ promoted_usual t t2 ∙ sym h.0.0, h.0.1 ∙ sym h.0.0, h.0.2) (kind_fits e t h.1) (kind_fits e2 t2 h.2)
    kind_fits (tree.Binary' Eq b (more_of-TypedExpr e t at end_of-TypedExpr) b2 (more_of-TypedExpr e2 t2 at2 end_of-TypedExpr)) ty h = binary_fits Eq e e2 t t2 ty (ap promoted h.0.0 ∙ promoted_usual t t2 ∙ sym h.0.0, h.0.1 ∙ sym h.0.0, h.0.2) (kind_fits e t h.1) (kind_fits e2 t2 h.2)
    kind_fits (tree.Binary' Ne b (more_of-TypedExpr e t at end_of-TypedExpr) b2 (more_of-TypedExpr e2 t2 at2 end_of-TypedExpr)) ty h = binary_fits Ne e e2 t t2 ty (ap promoted h.0.0 ∙ promoted_usual t t2 ∙ sym h.0.0, h.0.1 ∙ sym h.0.0, h.0.2) (kind_fits e t h.1) (kind_fits e2 t2 h.2)
    kind_fits (tree.Binary' And b (more_of-TypedExpr e t at end_of-TypedExpr) b2 (more_of-TypedExpr e2 t2 at2 end_of-TypedExpr)) ty h = binary_fits And e e2 t t2 ty (ap promoted h.0.0 ∙ promoted_usual t t2 ∙ sym h.0.0, h.0.1 ∙ sym h.0.0, h.0.2 ∙ sym h.0.0) (kind_fits e t h.1) (kind_fits e2 t2 h.2)
    kind_fits (tree.Binary' Xor b (more_of-TypedExpr e t at end_of-TypedExpr) b2 (more_of-TypedExpr e2 t2 at2 end_of-TypedExpr)) ty h = binary_fits Xor e e2 t t2 ty (ap promoted h.0.0 ∙ promoted_usual t t2 ∙ sym h.0.0, h.0.1 ∙ sym h.0.0, h.0.2 ∙ sym h.0.0) (kind_fits e t h.1) (kind_fits e2 t2 h.2)
    kind_fits (tree.Binary' Or b (more_of-TypedExpr e t at end_of-TypedExpr) b2 (more_of-TypedExpr e2 t2 at2 end_of-TypedExpr)) ty h = binary_fits Or e e2 t t2 ty (ap promoted h.0.0 ∙ promoted_usual t t2 ∙ sym h.0.0, h.0.1 ∙ sym h.0.0, h.0.2 ∙ sym h.0.0) (kind_fits e t h.1) (kind_fits e2 t2 h.2)
    kind_fits (tree.Binary' Both b (more_of-TypedExpr e t at end_of-TypedExpr) b2 (more_of-TypedExpr e2 t2 at2 end_of-TypedExpr)) ty h = binary_fits Both e e2 t t2 ty h.0.2 (kind_fits e t h.1) (kind_fits e2 t2 h.2)
    kind_fits (tree.Binary' Either b (more_of-TypedExpr e t at end_of-TypedExpr) b2 (more_of-TypedExpr e2 t2 at2 end_of-TypedExpr)) ty h = binary_fits Either e e2 t t2 ty h.0.2 (kind_fits e t h.1) (kind_fits e2 t2 h.2)
    kind_fits (tree.Choose' b (more_of-TypedExpr e t at end_of-TypedExpr) b2 (more_of-TypedExpr e2 t2 at2 end_of-TypedExpr) b3 (more_of-TypedExpr e3 t3 at3 end_of-TypedExpr)) ty h =
        let fc = kind_fits e t h.1 in
        let fa = kind_fits e2 t2 h.2 in
        let fb = kind_fits e3 t3 h.3 in
        let same2 : ty_width t2 ≡ ty_width ty = ap ty_width (h.0.0 ∙ sym h.0.2) in
        let same3 : ty_width t3 ≡ ty_width ty = ap ty_width (h.0.1 ∙ sym h.0.2) in
        record {
          fits = λ ws v.
              after_fits arrays (kind_laying k.arrays env e t) (λ c. after (flag t c) (λ f. after (kind_laying k.arrays env e2 t2) (λ a. after (kind_laying k.arrays env e3 t3) (λ b. one_step (Select (ty_width ty) f a b))))) ws (ty_width t) (ty_width ty) (fc.fits ws v)
              (λ c us k1 h1. after_fits arrays (flag t c) (λ f. after (kind_laying k.arrays env e2 t2) (λ a. after (kind_laying k.arrays env e3 t3) (λ b. one_step (Select (ty_width ty) f a b)))) us 32 (ty_width ty) (flag_fits arrays t us c h1)
              (λ f vs k2 h2. let v2 = env_kept vars env us vs k2 (env_kept vars env ws us k1 v) in
              after_fits arrays (kind_laying k.arrays env e2 t2) (λ a. after (kind_laying k.arrays env e3 t3) (λ b. one_step (Select (ty_width ty) f a b))) vs (ty_width t2) (ty_width ty) (fa.fits vs v2)
              (λ a xs k3 h3. after_fits arrays (kind_laying k.arrays env e3 t3) (λ b. one_step (Select (ty_width ty) f a b)) xs (ty_width t3) (ty_width ty) (fb.fits xs (env_kept vars env vs xs k3 v2))
              (λ b ys k4 h4. select_fits arrays ys (ty_width ty) f a b (width_is ty) (k4.by f 32 (k3.by f 32 h2)) (subst (IsOfWidth ys a) same2 (k4.by a (ty_width t2) h3)) (subst (IsOfWidth ys b) same3 h4)))));
        }

    pub row_fits : {n : Count} (row : Row_of-TypedExpr n) → LawfulRow k row → PiecesFit vars arrays env (row_pieces k.arrays env row)
    row_fits end_of-TypedExpr h = no_piece
    row_fits (more_of-TypedExpr e t at row) h = one_piece (record { ty = t; laying = kind_laying k.arrays env e t }) (row_pieces k.arrays env row) (kind_fits e t h.0) (row_fits row h.1)

  pub expr_fits : (e : TypedExpr) → LawfulExpr k e → AlwaysFits vars arrays env (expr_laying k.arrays env e) (ty_width e.ty)
  expr_fits e h = kind_fits e.kind e.ty h

  pub condition_fits : (e : TypedExpr) → LawfulExpr k e → AlwaysFits vars arrays env (condition_laying k.arrays env e) 32
  condition_fits e h =
      let f = kind_fits e.kind e.ty h in
      record { fits = λ ws v. after_fits arrays (expr_laying k.arrays env e) (λ x. flag e.ty x) ws (ty_width e.ty) 32 (f.fits ws v) (λ x us k1 i. flag_fits arrays e.ty us x i) }
