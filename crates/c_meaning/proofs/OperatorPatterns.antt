-- Operators on numbers and their operations on patterns, from the laws of the operations.
use Rattle.std.proofs.Common.{◌≡◌, ℕ, ◌^◌, ◌<◌, Option, Some, None, is_some, nat_lt, refl, sym, ◌∙◌, ap, arith}
use Rattle.std.specs.Prelude.{Bool, true, false, not, ◌≢◌, ℤ, pos, negsuc, ◌+ℤ◌, ◌-ℤ◌, ◌*ℤ◌, neg_ℤ, ◌<ℤ◌, ◌≤ℤ◌, int_div, int_rem, int_lt, int_le, bit_and, bit_or, bit_xor, ◌&&◌, if◌then◌else◌, option_and_then}
use Rattle.std.specs.Int.{int_shr, is_negative}
use Rattle.std.specs.Ordering.{int_eq}
use Rattle.std.proofs.lemmas.Bool.{false≢true, ltb-true}
use Rattle.std.proofs.lemmas.Bool.Decides.{Decides-int_eq, Decides-eqb}
use Rattle.std.proofs.lemmas.Int.{ints, quot-rem}
use Rattle.std.proofs.lemmas.Option.{same_Some}
use Rattle.el_base.specs.declared.ty.Ty.{Ty}
use Rattle.el_base.specs.declared.ty.Ty.TheVariants.{I8, U8, I16, U16, I32, U32, I64, U64}
use Rattle.el_base.specs.declared.operation.Op1.TheVariants as op1
use Rattle.el_base.specs.declared.operation.Op2.TheVariants as op2
use Rattle.el_base.specs.Numbers.{pattern, number}
use Rattle.el_base.specs.Widths.{ty_width, ty_signed}
use Rattle.word_ops.specs.Laws.{Gives1, GivesIn1, Gives2, Divides, JoinsBits, Shifts, ShiftsIn, IsTruthOf, Tells1, Tells2, BelowWidth2}
use Rattle.word_ops.specs.Operations.{op1_result, op2_result}
use Rattle.c_ast.specs.declared.tree.Unary.TheVariants as unary
use Rattle.c_ast.specs.declared.tree.Binary.TheVariants as op
use Rattle.c_ast.specs.ResultTypes.{promoted}
use Rattle.c_meaning.specs.declared.profile.Profile.{Profile}
use Rattle.c_meaning.specs.declared.profile.Profile.TheVariants.{Plain, Wrap}
use Rattle.c_meaning.specs.Types.{range, conv, exact, signed_fit, fit}
use Rattle.c_meaning.specs.Operators.{is_zero, truth, quotient, remainder, amount, left_shift, right_shift, joined}
use Rattle.c_meaning.specs.Patterns.{KeepsPatterns, ShiftKeepsPatterns, KeepsPattern, ConvertsPattern}

-- a pattern of the type's width is that of the number that it stands for, and patterns have their width
abbrev pub RoundTrip : Type 0
RoundTrip = (t : Ty) (p : ℕ) → p < 2 ^ ty_width t → pattern t (number t p) ≡ p

abbrev pub HasWidth : Type 0
HasWidth = (t : Ty) (z : ℤ) → pattern t z < 2 ^ ty_width t

-- ---- options

none_is : {P : Type 0} (z : ℤ) → ◌≡◌ {A = Option ℤ} None (Some z) → P
none_is z e = absurd (false≢true (ap is_some e))

-- ---- rules of results

exact_cases : (P : Option ℤ → Type 0) → P None → (t : Ty) (v : ℤ) → P (Some v) → (b : Bool) → P (if b then Some v else None)
exact_cases P none t v some true = some
exact_cases P none t v some false = none

signed_cases : (p : Profile) (t : Ty) (v z : ℤ) → pattern t (conv t v) ≡ pattern t v → signed_fit p t v ≡ Some z → pattern t z ≡ pattern t v
signed_cases Plain t v z back e = exact_cases (λ o. o ≡ Some z → pattern t z ≡ pattern t v) (none_is z) t v (λ f. ap (pattern t) (sym (same_Some v z f))) (range t v) e
signed_cases Wrap t v z back e = ap (pattern t) (sym (same_Some (conv t v) z e)) ∙ back

fit_cases : (p : Profile) (t : Ty) (v z : ℤ) → pattern t (conv t v) ≡ pattern t v → (b : Bool) → (if b then signed_fit p t v else Some (conv t v)) ≡ Some z → pattern t z ≡ pattern t v
fit_cases p t v z back true e = signed_cases p t v z back e
fit_cases p t v z back false e = ap (pattern t) (sym (same_Some (conv t v) z e)) ∙ back

-- a quotient is undefined for divisor 0, or out of range
zero_divisor : (P : Option ℤ → Type 0) → P None → (t : Ty) (x y : ℤ) → (¬ (y ≡ pos 0) → P (Some (int_div x y))) → (b : Bool) → (b ≡ false → ¬ (y ≡ pos 0)) → P (if b then None else exact t (int_div x y))
zero_divisor P none t x y some true is = none
zero_divisor P none t x y some false is = exact_cases P none t (int_div x y) (some (is refl)) (range t (int_div x y))

not_zero : (y : ℤ) → is_zero y ≡ false → ¬ (y ≡ pos 0)
not_zero y e is = false≢true (sym e ∙ ap is_zero is)

quotient_cases : (P : Option ℤ → Type 0) → P None → (t : Ty) (x y : ℤ) → (¬ (y ≡ pos 0) → P (Some (int_div x y))) → P (quotient t x y)
quotient_cases P none t x y some = zero_divisor P none t x y some (is_zero y) (not_zero y)

pub remainder_is : (x y : ℤ) → x -ℤ int_div x y *ℤ y ≡ int_rem x y
remainder_is x y = let q = quot-rem x y in omega (arith, ints)

amount_below : (P : Option ℕ → Type 0) → P None → (k w : ℕ) → (k < w → P (Some k)) → (b : Bool) → (b ≡ true → k < w) → P (if b then Some k else None)
amount_below P none k w some true is = some (is refl)
amount_below P none k w some false is = none

amount_cases : (P : Option ℕ → Type 0) → P None → (t : Ty) (y : ℤ) → ((k : ℕ) → y ≡ pos k → k < ty_width t → P (Some k)) → P (amount t y)
amount_cases P none t (pos k) some = amount_below P none k (ty_width t) (some k refl) (nat_lt k (ty_width t)) (ltb-true k (ty_width t))
amount_cases P none t (negsuc k) some = none

-- ---- the pattern p of a result v is that of the number z that an operator gives

module _ (round : RoundTrip) (width : HasWidth) where
  conv_back : (t : Ty) (v : ℤ) → pattern t (conv t v) ≡ pattern t v
  conv_back t v = round t (pattern t v) (width t v)

  fit_law : (f : Profile) (t : Ty) (p : ℕ) (v z : ℤ) → p ≡ pattern t v → fit f t v ≡ Some z → p ≡ pattern t z
  fit_law f t p v z is e = is ∙ sym (fit_cases f t v z (conv_back t v) (ty_signed t) e)

  joined_law : (t : Ty) (f : ℕ → ℕ → ℕ) (p : ℕ) (x y z : ℤ) → p < 2 ^ ty_width t → p ≡ f (pattern t x) (pattern t y) → joined t f x y ≡ Some z → p ≡ pattern t z
  joined_law t f p x y z below is e =
      let back : pattern t (number t p) ≡ p = round t p below in
      sym back ∙ ap (λ n. pattern t (number t n)) is ∙ ap (pattern t) (same_Some (number t (f (pattern t x) (pattern t y))) z e)

quotient_law : (t : Ty) (p : ℕ) (x y z : ℤ) → (¬ (y ≡ pos 0) → p ≡ pattern t (int_div x y)) → quotient t x y ≡ Some z → p ≡ pattern t z
quotient_law t p x y z is e = quotient_cases (λ o. o ≡ Some z → p ≡ pattern t z) (none_is z) t x y (λ n f. is n ∙ ap (pattern t) (same_Some (int_div x y) z f)) e

remainder_law : (t : Ty) (p : ℕ) (x y z : ℤ) → (¬ (y ≡ pos 0) → p ≡ pattern t (int_rem x y)) → remainder t x y ≡ Some z → p ≡ pattern t z
remainder_law t p x y z is e =
    quotient_cases (λ o. option_and_then (λ q. Some (x -ℤ q *ℤ y)) o ≡ Some z → p ≡ pattern t z) (none_is z) t x y
    (λ n f. is n ∙ ap (pattern t) (sym (remainder_is x y) ∙ same_Some (x -ℤ int_div x y *ℤ y) z f)) e

shift_law : (t : Ty) (g : ℕ → Option ℤ) (p : ℕ) (y z : ℤ) → ((k : ℕ) → y ≡ pos k → k < ty_width t → g k ≡ Some z → p ≡ pattern t z) → option_and_then g (amount t y) ≡ Some z → p ≡ pattern t z
shift_law t g p y z is e = amount_cases (λ o. option_and_then g o ≡ Some z → p ≡ pattern t z) (none_is z) t y (λ k at below f. is k at below f) e

plain_cases : (t : Ty) (x z : ℤ) (k : ℕ) (P : Type 0) → (fit Plain t (x *ℤ pos (2 ^ k)) ≡ Some z → P) → (b : Bool) → (if b then None else fit Plain t (x *ℤ pos (2 ^ k))) ≡ Some z → P
plain_cases t x z k P f true e = none_is z e
plain_cases t x z k P f false e = f e

left_cases : (p : Profile) (t : Ty) (x z : ℤ) (k : ℕ) (P : Type 0) → (fit p t (x *ℤ pos (2 ^ k)) ≡ Some z → P) → left_shift p t x k ≡ Some z → P
left_cases Plain t x z k P f e = plain_cases t x z k P f (ty_signed t && is_negative x) e
left_cases Wrap t x z k P f e = f e

truth_law : (v : ℕ) (b : Bool) (R : Type 0) (z : ℤ) → IsTruthOf v R → (b ≡ true → R) → (b ≡ false → ¬ R) → Some (truth b) ≡ Some z → v ≡ pattern I32 z
truth_law v true R z told if_so if_not e = told.0 (if_so refl) ∙ ap (pattern I32) (same_Some (pos 1) z e)
truth_law v false R z told if_so if_not e = told.1 (if_not refl) ∙ ap (pattern I32) (same_Some (pos 0) z e)

unequal_law : (v : ℕ) (b : Bool) (R : Type 0) (z : ℤ) → IsTruthOf v (¬ R) → (b ≡ true → R) → (b ≡ false → ¬ R) → Some (truth (not b)) ≡ Some z → v ≡ pattern I32 z
unequal_law v true R z told if_so if_not e = told.1 (λ n. n (if_so refl)) ∙ ap (pattern I32) (same_Some (pos 0) z e)
unequal_law v false R z told if_so if_not e = told.0 (if_not refl) ∙ ap (pattern I32) (same_Some (pos 1) z e)

less_yes : (x y : ℤ) → int_lt x y ≡ true → x <ℤ y
less_yes x y e = omega (arith, ints)

less_no : (x y : ℤ) → int_lt x y ≡ false → ¬ (x <ℤ y)
less_no x y e h = omega (arith, ints)

pub most_yes : (x y : ℤ) → int_le x y ≡ true → x ≤ℤ y
most_yes x y e = omega (arith, ints)

most_no : (x y : ℤ) → int_le x y ≡ false → ¬ (x ≤ℤ y)
most_no x y e h = omega (arith, ints)

equal_yes : (x y : ℤ) → int_eq x y ≡ true → x ≡ y
equal_yes x y = (Decides-int_eq x y).0

equal_no : (x y : ℤ) → int_eq x y ≡ false → ¬ (x ≡ y)
equal_no x y e h = false≢true (sym e ∙ (Decides-int_eq x y).1 h)

pub zero_yes : (x : ℤ) → is_zero x ≡ true → x ≡ pos 0
zero_yes (pos n) e = ap pos ((Decides-eqb n 0).0 e)
zero_yes (negsuc n) e = absurd (false≢true e)

pub by_promoted : (P : Ty → Type 0) → P I32 → P U32 → P I64 → P U64 → (t : Ty) → P (promoted t)
by_promoted P a b c d I8 = a
by_promoted P a b c d U8 = a
by_promoted P a b c d I16 = a
by_promoted P a b c d U16 = a
by_promoted P a b c d I32 = a
by_promoted P a b c d U32 = b
by_promoted P a b c d I64 = c
by_promoted P a b c d U64 = d

-- ---- each operator, from the laws of its operations

module _ (round : RoundTrip) (width : HasWidth) where
  pub products_keep : Gives2 op2.Mul32 (λ x y. x *ℤ y) → Gives2 op2.Mul64 (λ x y. x *ℤ y) → (t : Ty) → KeepsPatterns op.Mul (promoted t)
  products_keep g h = by_promoted (KeepsPatterns op.Mul) (λ f x y z r q e. fit_law round width f I32 (op2_result op2.Mul32 (pattern I32 x) (pattern I32 y)) (x *ℤ y) z (g x y) e) (λ f x y z r q e. fit_law round width f U32 (op2_result op2.Mul32 (pattern U32 x) (pattern U32 y)) (x *ℤ y) z (g x y) e) (λ f x y z r q e. fit_law round width f I64 (op2_result op2.Mul64 (pattern I64 x) (pattern I64 y)) (x *ℤ y) z (h x y) e) (λ f x y z r q e. fit_law round width f U64 (op2_result op2.Mul64 (pattern U64 x) (pattern U64 y)) (x *ℤ y) z (h x y) e)

  pub sums_keep : Gives2 op2.Add32 (λ x y. x +ℤ y) → Gives2 op2.Add64 (λ x y. x +ℤ y) → (t : Ty) → KeepsPatterns op.Add (promoted t)
  sums_keep g h = by_promoted (KeepsPatterns op.Add) (λ f x y z r q e. fit_law round width f I32 (op2_result op2.Add32 (pattern I32 x) (pattern I32 y)) (x +ℤ y) z (g x y) e) (λ f x y z r q e. fit_law round width f U32 (op2_result op2.Add32 (pattern U32 x) (pattern U32 y)) (x +ℤ y) z (g x y) e) (λ f x y z r q e. fit_law round width f I64 (op2_result op2.Add64 (pattern I64 x) (pattern I64 y)) (x +ℤ y) z (h x y) e) (λ f x y z r q e. fit_law round width f U64 (op2_result op2.Add64 (pattern U64 x) (pattern U64 y)) (x +ℤ y) z (h x y) e)

  pub differences_keep : Gives2 op2.Sub32 (λ x y. x -ℤ y) → Gives2 op2.Sub64 (λ x y. x -ℤ y) → (t : Ty) → KeepsPatterns op.Sub (promoted t)
  differences_keep g h = by_promoted (KeepsPatterns op.Sub) (λ f x y z r q e. fit_law round width f I32 (op2_result op2.Sub32 (pattern I32 x) (pattern I32 y)) (x -ℤ y) z (g x y) e) (λ f x y z r q e. fit_law round width f U32 (op2_result op2.Sub32 (pattern U32 x) (pattern U32 y)) (x -ℤ y) z (g x y) e) (λ f x y z r q e. fit_law round width f I64 (op2_result op2.Sub64 (pattern I64 x) (pattern I64 y)) (x -ℤ y) z (h x y) e) (λ f x y z r q e. fit_law round width f U64 (op2_result op2.Sub64 (pattern U64 x) (pattern U64 y)) (x -ℤ y) z (h x y) e)

  pub conjunctions_keep : BelowWidth2 → JoinsBits op2.And32 bit_and → JoinsBits op2.And64 bit_and → (t : Ty) → KeepsPatterns op.And (promoted t)
  conjunctions_keep below g h = by_promoted (KeepsPatterns op.And) (λ f x y z r q e. joined_law round width I32 bit_and (op2_result op2.And32 (pattern I32 x) (pattern I32 y)) x y z (below op2.And32 (pattern I32 x) (pattern I32 y)) (g x y) e) (λ f x y z r q e. joined_law round width U32 bit_and (op2_result op2.And32 (pattern U32 x) (pattern U32 y)) x y z (below op2.And32 (pattern U32 x) (pattern U32 y)) (g x y) e) (λ f x y z r q e. joined_law round width I64 bit_and (op2_result op2.And64 (pattern I64 x) (pattern I64 y)) x y z (below op2.And64 (pattern I64 x) (pattern I64 y)) (h x y) e) (λ f x y z r q e. joined_law round width U64 bit_and (op2_result op2.And64 (pattern U64 x) (pattern U64 y)) x y z (below op2.And64 (pattern U64 x) (pattern U64 y)) (h x y) e)

  pub disjunctions_keep : BelowWidth2 → JoinsBits op2.Or32 bit_or → JoinsBits op2.Or64 bit_or → (t : Ty) → KeepsPatterns op.Or (promoted t)
  disjunctions_keep below g h = by_promoted (KeepsPatterns op.Or) (λ f x y z r q e. joined_law round width I32 bit_or (op2_result op2.Or32 (pattern I32 x) (pattern I32 y)) x y z (below op2.Or32 (pattern I32 x) (pattern I32 y)) (g x y) e) (λ f x y z r q e. joined_law round width U32 bit_or (op2_result op2.Or32 (pattern U32 x) (pattern U32 y)) x y z (below op2.Or32 (pattern U32 x) (pattern U32 y)) (g x y) e) (λ f x y z r q e. joined_law round width I64 bit_or (op2_result op2.Or64 (pattern I64 x) (pattern I64 y)) x y z (below op2.Or64 (pattern I64 x) (pattern I64 y)) (h x y) e) (λ f x y z r q e. joined_law round width U64 bit_or (op2_result op2.Or64 (pattern U64 x) (pattern U64 y)) x y z (below op2.Or64 (pattern U64 x) (pattern U64 y)) (h x y) e)

  pub exclusions_keep : BelowWidth2 → JoinsBits op2.Xor32 bit_xor → JoinsBits op2.Xor64 bit_xor → (t : Ty) → KeepsPatterns op.Xor (promoted t)
  exclusions_keep below g h = by_promoted (KeepsPatterns op.Xor) (λ f x y z r q e. joined_law round width I32 bit_xor (op2_result op2.Xor32 (pattern I32 x) (pattern I32 y)) x y z (below op2.Xor32 (pattern I32 x) (pattern I32 y)) (g x y) e) (λ f x y z r q e. joined_law round width U32 bit_xor (op2_result op2.Xor32 (pattern U32 x) (pattern U32 y)) x y z (below op2.Xor32 (pattern U32 x) (pattern U32 y)) (g x y) e) (λ f x y z r q e. joined_law round width I64 bit_xor (op2_result op2.Xor64 (pattern I64 x) (pattern I64 y)) x y z (below op2.Xor64 (pattern I64 x) (pattern I64 y)) (h x y) e) (λ f x y z r q e. joined_law round width U64 bit_xor (op2_result op2.Xor64 (pattern U64 x) (pattern U64 y)) x y z (below op2.Xor64 (pattern U64 x) (pattern U64 y)) (h x y) e)

  pub left_shifts_keep : Shifts op2.Shl32 (λ x k. x *ℤ pos (2 ^ k)) → Shifts op2.Shl64 (λ x k. x *ℤ pos (2 ^ k)) → (t : Ty) → ShiftKeepsPatterns op.Shl (promoted t)
  left_shifts_keep g h = by_promoted (ShiftKeepsPatterns op.Shl) (λ m x y z r e. shift_law I32 (left_shift m I32 x) (op2_result op2.Shl32 (pattern I32 x) (pattern I32 y)) y z (λ k at below f. left_cases m I32 x z k (op2_result op2.Shl32 (pattern I32 x) (pattern I32 y) ≡ pattern I32 z) (λ i. fit_law round width m I32 (op2_result op2.Shl32 (pattern I32 x) (pattern I32 y)) (x *ℤ pos (2 ^ k)) z (ap (λ n. op2_result op2.Shl32 (pattern I32 x) (pattern I32 n)) at ∙ g x k below) i) f) e) (λ m x y z r e. shift_law U32 (left_shift m U32 x) (op2_result op2.Shl32 (pattern U32 x) (pattern U32 y)) y z (λ k at below f. left_cases m U32 x z k (op2_result op2.Shl32 (pattern U32 x) (pattern U32 y) ≡ pattern U32 z) (λ i. fit_law round width m U32 (op2_result op2.Shl32 (pattern U32 x) (pattern U32 y)) (x *ℤ pos (2 ^ k)) z (ap (λ n. op2_result op2.Shl32 (pattern U32 x) (pattern U32 n)) at ∙ g x k below) i) f) e) (λ m x y z r e. shift_law I64 (left_shift m I64 x) (op2_result op2.Shl64 (pattern I64 x) (pattern I64 y)) y z (λ k at below f. left_cases m I64 x z k (op2_result op2.Shl64 (pattern I64 x) (pattern I64 y) ≡ pattern I64 z) (λ i. fit_law round width m I64 (op2_result op2.Shl64 (pattern I64 x) (pattern I64 y)) (x *ℤ pos (2 ^ k)) z (ap (λ n. op2_result op2.Shl64 (pattern I64 x) (pattern I64 n)) at ∙ h x k below) i) f) e) (λ m x y z r e. shift_law U64 (left_shift m U64 x) (op2_result op2.Shl64 (pattern U64 x) (pattern U64 y)) y z (λ k at below f. left_cases m U64 x z k (op2_result op2.Shl64 (pattern U64 x) (pattern U64 y) ≡ pattern U64 z) (λ i. fit_law round width m U64 (op2_result op2.Shl64 (pattern U64 x) (pattern U64 y)) (x *ℤ pos (2 ^ k)) z (ap (λ n. op2_result op2.Shl64 (pattern U64 x) (pattern U64 n)) at ∙ h x k below) i) f) e)

  pub negatives_keep : Gives1 op1.Neg32 neg_ℤ → Gives1 op1.Neg64 neg_ℤ → (t : Ty) → KeepsPattern unary.Minus (promoted t)
  negatives_keep g h = by_promoted (KeepsPattern unary.Minus) (λ f x z r e. fit_law round width f I32 (op1_result op1.Neg32 (pattern I32 x)) (neg_ℤ x) z (g x) e) (λ f x z r e. fit_law round width f U32 (op1_result op1.Neg32 (pattern U32 x)) (neg_ℤ x) z (g x) e) (λ f x z r e. fit_law round width f I64 (op1_result op1.Neg64 (pattern I64 x)) (neg_ℤ x) z (h x) e) (λ f x z r e. fit_law round width f U64 (op1_result op1.Neg64 (pattern U64 x)) (neg_ℤ x) z (h x) e)

  pub flips_keep : Gives1 op1.Not32 (λ x. negsuc 0 -ℤ x) → Gives1 op1.Not64 (λ x. negsuc 0 -ℤ x) → (t : Ty) → KeepsPattern unary.Flip (promoted t)
  flips_keep g h = by_promoted (KeepsPattern unary.Flip) (λ f x z r e. g x ∙ sym (conv_back round width I32 (negsuc 0 -ℤ x)) ∙ ap (pattern I32) (same_Some (conv I32 (negsuc 0 -ℤ x)) z e)) (λ f x z r e. g x ∙ sym (conv_back round width U32 (negsuc 0 -ℤ x)) ∙ ap (pattern U32) (same_Some (conv U32 (negsuc 0 -ℤ x)) z e)) (λ f x z r e. h x ∙ sym (conv_back round width I64 (negsuc 0 -ℤ x)) ∙ ap (pattern I64) (same_Some (conv I64 (negsuc 0 -ℤ x)) z e)) (λ f x z r e. h x ∙ sym (conv_back round width U64 (negsuc 0 -ℤ x)) ∙ ap (pattern U64) (same_Some (conv U64 (negsuc 0 -ℤ x)) z e))

pub quotients_keep : Divides true op2.Divs32 int_div → Divides false op2.Divu32 int_div → Divides true op2.Divs64 int_div → Divides false op2.Divu64 int_div → (t : Ty) → KeepsPatterns op.Div (promoted t)
quotients_keep a b c d = by_promoted (KeepsPatterns op.Div) (λ f x y z r q e. quotient_law I32 (op2_result op2.Divs32 (pattern I32 x) (pattern I32 y)) x y z (a x y r q) e) (λ f x y z r q e. quotient_law U32 (op2_result op2.Divu32 (pattern U32 x) (pattern U32 y)) x y z (b x y r q) e) (λ f x y z r q e. quotient_law I64 (op2_result op2.Divs64 (pattern I64 x) (pattern I64 y)) x y z (c x y r q) e) (λ f x y z r q e. quotient_law U64 (op2_result op2.Divu64 (pattern U64 x) (pattern U64 y)) x y z (d x y r q) e)

pub remainders_keep : Divides true op2.Rems32 int_rem → Divides false op2.Remu32 int_rem → Divides true op2.Rems64 int_rem → Divides false op2.Remu64 int_rem → (t : Ty) → KeepsPatterns op.Rem (promoted t)
remainders_keep a b c d = by_promoted (KeepsPatterns op.Rem) (λ f x y z r q e. remainder_law I32 (op2_result op2.Rems32 (pattern I32 x) (pattern I32 y)) x y z (a x y r q) e) (λ f x y z r q e. remainder_law U32 (op2_result op2.Remu32 (pattern U32 x) (pattern U32 y)) x y z (b x y r q) e) (λ f x y z r q e. remainder_law I64 (op2_result op2.Rems64 (pattern I64 x) (pattern I64 y)) x y z (c x y r q) e) (λ f x y z r q e. remainder_law U64 (op2_result op2.Remu64 (pattern U64 x) (pattern U64 y)) x y z (d x y r q) e)

pub right_shifts_keep : ShiftsIn true op2.Shrs32 int_shr → ShiftsIn false op2.Shru32 int_shr → ShiftsIn true op2.Shrs64 int_shr → ShiftsIn false op2.Shru64 int_shr → (t : Ty) → ShiftKeepsPatterns op.Shr (promoted t)
right_shifts_keep a b c d = by_promoted (ShiftKeepsPatterns op.Shr) (λ m x y z r e. shift_law I32 (right_shift x) (op2_result op2.Shrs32 (pattern I32 x) (pattern I32 y)) y z (λ k at below f. ap (λ n. op2_result op2.Shrs32 (pattern I32 x) (pattern I32 n)) at ∙ a x k r below ∙ ap (pattern I32) (same_Some (int_shr x k) z f)) e) (λ m x y z r e. shift_law U32 (right_shift x) (op2_result op2.Shru32 (pattern U32 x) (pattern U32 y)) y z (λ k at below f. ap (λ n. op2_result op2.Shru32 (pattern U32 x) (pattern U32 n)) at ∙ b x k r below ∙ ap (pattern U32) (same_Some (int_shr x k) z f)) e) (λ m x y z r e. shift_law I64 (right_shift x) (op2_result op2.Shrs64 (pattern I64 x) (pattern I64 y)) y z (λ k at below f. ap (λ n. op2_result op2.Shrs64 (pattern I64 x) (pattern I64 n)) at ∙ c x k r below ∙ ap (pattern I64) (same_Some (int_shr x k) z f)) e) (λ m x y z r e. shift_law U64 (right_shift x) (op2_result op2.Shru64 (pattern U64 x) (pattern U64 y)) y z (λ k at below f. ap (λ n. op2_result op2.Shru64 (pattern U64 x) (pattern U64 n)) at ∙ d x k r below ∙ ap (pattern U64) (same_Some (int_shr x k) z f)) e)

pub less_keeps : Tells2 true op2.Lts32 (λ x y. x <ℤ y) → Tells2 false op2.Ltu32 (λ x y. x <ℤ y) → Tells2 true op2.Lts64 (λ x y. x <ℤ y) → Tells2 false op2.Ltu64 (λ x y. x <ℤ y) → (t : Ty) → KeepsPatterns op.Lt (promoted t)
less_keeps a b c d = by_promoted (KeepsPatterns op.Lt) (λ f x y z r q e. truth_law (op2_result op2.Lts32 (pattern I32 x) (pattern I32 y)) (int_lt x y) (x <ℤ y) z (a x y r q) (less_yes x y) (less_no x y) e) (λ f x y z r q e. truth_law (op2_result op2.Ltu32 (pattern U32 x) (pattern U32 y)) (int_lt x y) (x <ℤ y) z (b x y r q) (less_yes x y) (less_no x y) e) (λ f x y z r q e. truth_law (op2_result op2.Lts64 (pattern I64 x) (pattern I64 y)) (int_lt x y) (x <ℤ y) z (c x y r q) (less_yes x y) (less_no x y) e) (λ f x y z r q e. truth_law (op2_result op2.Ltu64 (pattern U64 x) (pattern U64 y)) (int_lt x y) (x <ℤ y) z (d x y r q) (less_yes x y) (less_no x y) e)

pub greater_keeps : Tells2 true op2.Lts32 (λ x y. x <ℤ y) → Tells2 false op2.Ltu32 (λ x y. x <ℤ y) → Tells2 true op2.Lts64 (λ x y. x <ℤ y) → Tells2 false op2.Ltu64 (λ x y. x <ℤ y) → (t : Ty) → KeepsPatterns op.Gt (promoted t)
greater_keeps a b c d = by_promoted (KeepsPatterns op.Gt) (λ f x y z r q e. truth_law (op2_result op2.Lts32 (pattern I32 y) (pattern I32 x)) (int_lt y x) (y <ℤ x) z (a y x q r) (less_yes y x) (less_no y x) e) (λ f x y z r q e. truth_law (op2_result op2.Ltu32 (pattern U32 y) (pattern U32 x)) (int_lt y x) (y <ℤ x) z (b y x q r) (less_yes y x) (less_no y x) e) (λ f x y z r q e. truth_law (op2_result op2.Lts64 (pattern I64 y) (pattern I64 x)) (int_lt y x) (y <ℤ x) z (c y x q r) (less_yes y x) (less_no y x) e) (λ f x y z r q e. truth_law (op2_result op2.Ltu64 (pattern U64 y) (pattern U64 x)) (int_lt y x) (y <ℤ x) z (d y x q r) (less_yes y x) (less_no y x) e)

pub at_most_keeps : Tells2 true op2.Les32 (λ x y. x ≤ℤ y) → Tells2 false op2.Leu32 (λ x y. x ≤ℤ y) → Tells2 true op2.Les64 (λ x y. x ≤ℤ y) → Tells2 false op2.Leu64 (λ x y. x ≤ℤ y) → (t : Ty) → KeepsPatterns op.Le (promoted t)
at_most_keeps a b c d = by_promoted (KeepsPatterns op.Le) (λ f x y z r q e. truth_law (op2_result op2.Les32 (pattern I32 x) (pattern I32 y)) (int_le x y) (x ≤ℤ y) z (a x y r q) (most_yes x y) (most_no x y) e) (λ f x y z r q e. truth_law (op2_result op2.Leu32 (pattern U32 x) (pattern U32 y)) (int_le x y) (x ≤ℤ y) z (b x y r q) (most_yes x y) (most_no x y) e) (λ f x y z r q e. truth_law (op2_result op2.Les64 (pattern I64 x) (pattern I64 y)) (int_le x y) (x ≤ℤ y) z (c x y r q) (most_yes x y) (most_no x y) e) (λ f x y z r q e. truth_law (op2_result op2.Leu64 (pattern U64 x) (pattern U64 y)) (int_le x y) (x ≤ℤ y) z (d x y r q) (most_yes x y) (most_no x y) e)

pub at_least_keeps : Tells2 true op2.Les32 (λ x y. x ≤ℤ y) → Tells2 false op2.Leu32 (λ x y. x ≤ℤ y) → Tells2 true op2.Les64 (λ x y. x ≤ℤ y) → Tells2 false op2.Leu64 (λ x y. x ≤ℤ y) → (t : Ty) → KeepsPatterns op.Ge (promoted t)
at_least_keeps a b c d = by_promoted (KeepsPatterns op.Ge) (λ f x y z r q e. truth_law (op2_result op2.Les32 (pattern I32 y) (pattern I32 x)) (int_le y x) (y ≤ℤ x) z (a y x q r) (most_yes y x) (most_no y x) e) (λ f x y z r q e. truth_law (op2_result op2.Leu32 (pattern U32 y) (pattern U32 x)) (int_le y x) (y ≤ℤ x) z (b y x q r) (most_yes y x) (most_no y x) e) (λ f x y z r q e. truth_law (op2_result op2.Les64 (pattern I64 y) (pattern I64 x)) (int_le y x) (y ≤ℤ x) z (c y x q r) (most_yes y x) (most_no y x) e) (λ f x y z r q e. truth_law (op2_result op2.Leu64 (pattern U64 y) (pattern U64 x)) (int_le y x) (y ≤ℤ x) z (d y x q r) (most_yes y x) (most_no y x) e)

pub equal_keeps : ((s : Bool) → Tells2 s op2.Eq32 (λ x y. x ≡ y)) → ((s : Bool) → Tells2 s op2.Eq64 (λ x y. x ≡ y)) → (t : Ty) → KeepsPatterns op.Eq (promoted t)
equal_keeps g h = by_promoted (KeepsPatterns op.Eq) (λ f x y z r q e. truth_law (op2_result op2.Eq32 (pattern I32 x) (pattern I32 y)) (int_eq x y) (x ≡ y) z (g true x y r q) (equal_yes x y) (equal_no x y) e) (λ f x y z r q e. truth_law (op2_result op2.Eq32 (pattern U32 x) (pattern U32 y)) (int_eq x y) (x ≡ y) z (g false x y r q) (equal_yes x y) (equal_no x y) e) (λ f x y z r q e. truth_law (op2_result op2.Eq64 (pattern I64 x) (pattern I64 y)) (int_eq x y) (x ≡ y) z (h true x y r q) (equal_yes x y) (equal_no x y) e) (λ f x y z r q e. truth_law (op2_result op2.Eq64 (pattern U64 x) (pattern U64 y)) (int_eq x y) (x ≡ y) z (h false x y r q) (equal_yes x y) (equal_no x y) e)

pub unequal_keeps : ((s : Bool) → Tells2 s op2.Ne32 (λ x y. x ≢ y)) → ((s : Bool) → Tells2 s op2.Ne64 (λ x y. x ≢ y)) → (t : Ty) → KeepsPatterns op.Ne (promoted t)
unequal_keeps g h = by_promoted (KeepsPatterns op.Ne) (λ f x y z r q e. unequal_law (op2_result op2.Ne32 (pattern I32 x) (pattern I32 y)) (int_eq x y) (x ≡ y) z (g true x y r q) (equal_yes x y) (equal_no x y) e) (λ f x y z r q e. unequal_law (op2_result op2.Ne32 (pattern U32 x) (pattern U32 y)) (int_eq x y) (x ≡ y) z (g false x y r q) (equal_yes x y) (equal_no x y) e) (λ f x y z r q e. unequal_law (op2_result op2.Ne64 (pattern I64 x) (pattern I64 y)) (int_eq x y) (x ≡ y) z (h true x y r q) (equal_yes x y) (equal_no x y) e) (λ f x y z r q e. unequal_law (op2_result op2.Ne64 (pattern U64 x) (pattern U64 y)) (int_eq x y) (x ≡ y) z (h false x y r q) (equal_yes x y) (equal_no x y) e)

pub nots_keep : Tells1 op1.Zero32 (λ x. x ≡ pos 0) → Tells1 op1.Zero64 (λ x. x ≡ pos 0) → (t : Ty) → KeepsPattern unary.Not (promoted t)
nots_keep g h = by_promoted (KeepsPattern unary.Not) (λ f x z r e. truth_law (op1_result op1.Zero32 (pattern I32 x)) (is_zero x) (x ≡ pos 0) z (g true x r) (zero_yes x) (not_zero x) e) (λ f x z r e. truth_law (op1_result op1.Zero32 (pattern U32 x)) (is_zero x) (x ≡ pos 0) z (g false x r) (zero_yes x) (not_zero x) e) (λ f x z r e. truth_law (op1_result op1.Zero64 (pattern I64 x)) (is_zero x) (x ≡ pos 0) z (h true x r) (zero_yes x) (not_zero x) e) (λ f x z r e. truth_law (op1_result op1.Zero64 (pattern U64 x)) (is_zero x) (x ≡ pos 0) z (h false x r) (zero_yes x) (not_zero x) e)

pub pluses_keep : (t : Ty) → KeepsPattern unary.Plus (promoted t)
pluses_keep = by_promoted (KeepsPattern unary.Plus) (λ f x z r e. ap (pattern I32) (same_Some x z e)) (λ f x z r e. ap (pattern U32) (same_Some x z e)) (λ f x z r e. ap (pattern I64) (same_Some x z e)) (λ f x z r e. ap (pattern U64) (same_Some x z e))

-- ---- conversions

-- what the law of conversions says of each operation
pub record ConversionLaws : Type 0 where
  pub s8to16 : GivesIn1 true op1.S8to16 (λ x. x)
  pub s8to32 : GivesIn1 true op1.S8to32 (λ x. x)
  pub s8to64 : GivesIn1 true op1.S8to64 (λ x. x)
  pub s16to32 : GivesIn1 true op1.S16to32 (λ x. x)
  pub s16to64 : GivesIn1 true op1.S16to64 (λ x. x)
  pub s32to64 : GivesIn1 true op1.S32to64 (λ x. x)
  pub u8to16 : GivesIn1 false op1.U8to16 (λ x. x)
  pub u8to32 : GivesIn1 false op1.U8to32 (λ x. x)
  pub u8to64 : GivesIn1 false op1.U8to64 (λ x. x)
  pub u16to32 : GivesIn1 false op1.U16to32 (λ x. x)
  pub u16to64 : GivesIn1 false op1.U16to64 (λ x. x)
  pub u32to64 : GivesIn1 false op1.U32to64 (λ x. x)
  pub cut16to8 : Gives1 op1.Cut16to8 (λ x. x)
  pub cut32to8 : Gives1 op1.Cut32to8 (λ x. x)
  pub cut32to16 : Gives1 op1.Cut32to16 (λ x. x)
  pub cut64to8 : Gives1 op1.Cut64to8 (λ x. x)
  pub cut64to16 : Gives1 op1.Cut64to16 (λ x. x)
  pub cut64to32 : Gives1 op1.Cut64to32 (λ x. x)

pub conversions_keep : RoundTrip → HasWidth → ConversionLaws → (s t : Ty) → ConvertsPattern s t
conversions_keep round width laws I8 I8 = λ x r. sym (conv_back round width I8 x)
conversions_keep round width laws I8 U8 = λ x r. sym (conv_back round width U8 x)
conversions_keep round width laws I8 I16 = λ x r. laws.s8to16 x r ∙ sym (conv_back round width I16 x)
conversions_keep round width laws I8 U16 = λ x r. laws.s8to16 x r ∙ sym (conv_back round width U16 x)
conversions_keep round width laws I8 I32 = λ x r. laws.s8to32 x r ∙ sym (conv_back round width I32 x)
conversions_keep round width laws I8 U32 = λ x r. laws.s8to32 x r ∙ sym (conv_back round width U32 x)
conversions_keep round width laws I8 I64 = λ x r. laws.s8to64 x r ∙ sym (conv_back round width I64 x)
conversions_keep round width laws I8 U64 = λ x r. laws.s8to64 x r ∙ sym (conv_back round width U64 x)
conversions_keep round width laws U8 I8 = λ x r. sym (conv_back round width I8 x)
conversions_keep round width laws U8 U8 = λ x r. sym (conv_back round width U8 x)
conversions_keep round width laws U8 I16 = λ x r. laws.u8to16 x r ∙ sym (conv_back round width I16 x)
conversions_keep round width laws U8 U16 = λ x r. laws.u8to16 x r ∙ sym (conv_back round width U16 x)
conversions_keep round width laws U8 I32 = λ x r. laws.u8to32 x r ∙ sym (conv_back round width I32 x)
conversions_keep round width laws U8 U32 = λ x r. laws.u8to32 x r ∙ sym (conv_back round width U32 x)
conversions_keep round width laws U8 I64 = λ x r. laws.u8to64 x r ∙ sym (conv_back round width I64 x)
conversions_keep round width laws U8 U64 = λ x r. laws.u8to64 x r ∙ sym (conv_back round width U64 x)
conversions_keep round width laws I16 I8 = λ x r. laws.cut16to8 x ∙ sym (conv_back round width I8 x)
conversions_keep round width laws I16 U8 = λ x r. laws.cut16to8 x ∙ sym (conv_back round width U8 x)
conversions_keep round width laws I16 I16 = λ x r. sym (conv_back round width I16 x)
conversions_keep round width laws I16 U16 = λ x r. sym (conv_back round width U16 x)
conversions_keep round width laws I16 I32 = λ x r. laws.s16to32 x r ∙ sym (conv_back round width I32 x)
conversions_keep round width laws I16 U32 = λ x r. laws.s16to32 x r ∙ sym (conv_back round width U32 x)
conversions_keep round width laws I16 I64 = λ x r. laws.s16to64 x r ∙ sym (conv_back round width I64 x)
conversions_keep round width laws I16 U64 = λ x r. laws.s16to64 x r ∙ sym (conv_back round width U64 x)
conversions_keep round width laws U16 I8 = λ x r. laws.cut16to8 x ∙ sym (conv_back round width I8 x)
conversions_keep round width laws U16 U8 = λ x r. laws.cut16to8 x ∙ sym (conv_back round width U8 x)
conversions_keep round width laws U16 I16 = λ x r. sym (conv_back round width I16 x)
conversions_keep round width laws U16 U16 = λ x r. sym (conv_back round width U16 x)
conversions_keep round width laws U16 I32 = λ x r. laws.u16to32 x r ∙ sym (conv_back round width I32 x)
conversions_keep round width laws U16 U32 = λ x r. laws.u16to32 x r ∙ sym (conv_back round width U32 x)
conversions_keep round width laws U16 I64 = λ x r. laws.u16to64 x r ∙ sym (conv_back round width I64 x)
conversions_keep round width laws U16 U64 = λ x r. laws.u16to64 x r ∙ sym (conv_back round width U64 x)
conversions_keep round width laws I32 I8 = λ x r. laws.cut32to8 x ∙ sym (conv_back round width I8 x)
conversions_keep round width laws I32 U8 = λ x r. laws.cut32to8 x ∙ sym (conv_back round width U8 x)
conversions_keep round width laws I32 I16 = λ x r. laws.cut32to16 x ∙ sym (conv_back round width I16 x)
conversions_keep round width laws I32 U16 = λ x r. laws.cut32to16 x ∙ sym (conv_back round width U16 x)
conversions_keep round width laws I32 I32 = λ x r. sym (conv_back round width I32 x)
conversions_keep round width laws I32 U32 = λ x r. sym (conv_back round width U32 x)
conversions_keep round width laws I32 I64 = λ x r. laws.s32to64 x r ∙ sym (conv_back round width I64 x)
conversions_keep round width laws I32 U64 = λ x r. laws.s32to64 x r ∙ sym (conv_back round width U64 x)
conversions_keep round width laws U32 I8 = λ x r. laws.cut32to8 x ∙ sym (conv_back round width I8 x)
conversions_keep round width laws U32 U8 = λ x r. laws.cut32to8 x ∙ sym (conv_back round width U8 x)
conversions_keep round width laws U32 I16 = λ x r. laws.cut32to16 x ∙ sym (conv_back round width I16 x)
conversions_keep round width laws U32 U16 = λ x r. laws.cut32to16 x ∙ sym (conv_back round width U16 x)
conversions_keep round width laws U32 I32 = λ x r. sym (conv_back round width I32 x)
conversions_keep round width laws U32 U32 = λ x r. sym (conv_back round width U32 x)
conversions_keep round width laws U32 I64 = λ x r. laws.u32to64 x r ∙ sym (conv_back round width I64 x)
conversions_keep round width laws U32 U64 = λ x r. laws.u32to64 x r ∙ sym (conv_back round width U64 x)
conversions_keep round width laws I64 I8 = λ x r. laws.cut64to8 x ∙ sym (conv_back round width I8 x)
conversions_keep round width laws I64 U8 = λ x r. laws.cut64to8 x ∙ sym (conv_back round width U8 x)
conversions_keep round width laws I64 I16 = λ x r. laws.cut64to16 x ∙ sym (conv_back round width I16 x)
conversions_keep round width laws I64 U16 = λ x r. laws.cut64to16 x ∙ sym (conv_back round width U16 x)
conversions_keep round width laws I64 I32 = λ x r. laws.cut64to32 x ∙ sym (conv_back round width I32 x)
conversions_keep round width laws I64 U32 = λ x r. laws.cut64to32 x ∙ sym (conv_back round width U32 x)
conversions_keep round width laws I64 I64 = λ x r. sym (conv_back round width I64 x)
conversions_keep round width laws I64 U64 = λ x r. sym (conv_back round width U64 x)
conversions_keep round width laws U64 I8 = λ x r. laws.cut64to8 x ∙ sym (conv_back round width I8 x)
conversions_keep round width laws U64 U8 = λ x r. laws.cut64to8 x ∙ sym (conv_back round width U8 x)
conversions_keep round width laws U64 I16 = λ x r. laws.cut64to16 x ∙ sym (conv_back round width I16 x)
conversions_keep round width laws U64 U16 = λ x r. laws.cut64to16 x ∙ sym (conv_back round width U16 x)
conversions_keep round width laws U64 I32 = λ x r. laws.cut64to32 x ∙ sym (conv_back round width I32 x)
conversions_keep round width laws U64 U32 = λ x r. laws.cut64to32 x ∙ sym (conv_back round width U32 x)
conversions_keep round width laws U64 I64 = λ x r. sym (conv_back round width I64 x)
conversions_keep round width laws U64 U64 = λ x r. sym (conv_back round width U64 x)
