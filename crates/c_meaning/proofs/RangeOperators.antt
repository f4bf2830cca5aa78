-- What an operator gives lies in the range of its type.
use Rattle.std.proofs.Common.{◌≡◌, ℕ, zero, suc, ◌/◌, ◌%◌, ◌^◌, ◌<◌, ◌≤◌, Option, Some, None, refl, sym, ◌∙◌, ap, subst, arith, rules}
use Rattle.std.specs.Prelude.{Bool, true, false, not, ℤ, pos, negsuc, ◌+ℤ◌, ◌-ℤ◌, ◌*ℤ◌, neg_ℤ, nat_abs, ◌≤ℤ◌, int_div, int_rem, int_lt, int_le, bit_and, bit_or, bit_xor, ◌&&◌, if◌then◌else◌, option_and_then}
use Rattle.std.specs.Int.{int_shr, is_negative}
use Rattle.std.specs.Ordering.{int_eq}
use Rattle.std.proofs.lemmas.Int.{ints}
use Rattle.std.proofs.Math.Nat.{mod-le, div-le_self}
use Rattle.el_base.specs.declared.ty.Ty.{Ty}
use Rattle.el_base.specs.declared.ty.Ty.TheVariants.{I8, U8, I16, U16, I32, U32, I64, U64}
use Rattle.el_base.specs.declared.operation.Op2.TheVariants as op2
use Rattle.el_base.specs.Numbers.{pattern, number, least_in, greatest_in, IsInRange}
use Rattle.el_base.specs.Widths.{ty_width, ty_signed}
use Rattle.word_ops.specs.Laws.{JoinsBits, BelowWidth2}
use Rattle.c_ast.specs.ResultTypes.{promoted, usual, joint_type, unary_type, result_type}
use Rattle.c_ast.specs.Casts.{left_type}
use Rattle.c_ast.specs.declared.tree.Unary.{Unary}
use Rattle.c_ast.specs.declared.tree.Unary.TheVariants as unary
use Rattle.c_ast.specs.declared.tree.Binary.{Binary}
use Rattle.c_ast.specs.declared.tree.Binary.TheVariants as op
use Rattle.c_meaning.specs.declared.profile.Profile.{Profile}
use Rattle.c_meaning.specs.declared.profile.Profile.TheVariants.{Plain, Wrap}
use Rattle.c_meaning.specs.Types.{range, conv, exact, signed_fit, fit}
use Rattle.c_meaning.specs.Operators.{is_zero, truth, quotient, amount, left_shift, right_shift, joined, unary_value, binary_value}
use Rattle.c_meaning.proofs.TypeLemmas.{promoted_usual}
use Rattle.c_meaning.proofs.OperatorPatterns.{by_promoted, remainder_is}
use Rattle.c_meaning.proofs.ProfileExpressions.{range_is}

-- what there is of a number lies in a type
abbrev pub OptionIn : Ty → Option ℤ → Type 0
OptionIn t None = Unit {0}
OptionIn t (Some z) = IsInRange t z

abbrev pub HasWidth : Type 0
HasWidth = (t : Ty) (z : ℤ) → pattern t z < 2 ^ ty_width t

abbrev pub StandsInRange : Type 0
StandsInRange = (t : Ty) (p : ℕ) → p < 2 ^ ty_width t → IsInRange t (number t p)

truth_in : (b : Bool) → IsInRange I32 (truth b)
truth_in true = record { above = search rules; below = search rules }
truth_in false = record { above = search rules; below = search rules }

-- 0 lies in every range, and what lies between 0 and a number in range
pub zero_in : (t : Ty) → IsInRange t (pos 0)
zero_in I8 = record { above = search rules; below = search rules }
zero_in U8 = record { above = search rules; below = search rules }
zero_in I16 = record { above = search rules; below = search rules }
zero_in U16 = record { above = search rules; below = search rules }
zero_in I32 = record { above = search rules; below = search rules }
zero_in U32 = record { above = search rules; below = search rules }
zero_in I64 = record { above = search rules; below = search rules }
zero_in U64 = record { above = search rules; below = search rules }

at_most_trans : (x y z : ℤ) → x ≤ℤ y → y ≤ℤ z → x ≤ℤ z
at_most_trans x y z h i = omega (arith, ints)

up_to : (t : Ty) (x z : ℤ) → pos 0 ≤ℤ z → z ≤ℤ x → IsInRange t x → IsInRange t z
up_to t x z l h r =
    let o = zero_in t in
    record { above = at_most_trans (least_in (ty_signed t) (ty_width t)) (pos 0) z o.above l; below = at_most_trans z x (greatest_in (ty_signed t) (ty_width t)) h r.below }

down_to : (t : Ty) (x z : ℤ) → x ≤ℤ z → z ≤ℤ pos 0 → IsInRange t x → IsInRange t z
down_to t x z l h r =
    let o = zero_in t in
    record { above = at_most_trans (least_in (ty_signed t) (ty_width t)) x z r.above l; below = at_most_trans z (pos 0) (greatest_in (ty_signed t) (ty_width t)) h o.below }

small : (a b : ℕ) → a ≤ b → pos a ≤ℤ pos b
small a b h = omega (arith, ints)

positive : (a : ℕ) → pos 0 ≤ℤ pos a
positive a = omega (arith, ints)

negative : (a b : ℕ) → a ≤ suc b → negsuc b ≤ℤ neg_ℤ (pos a)
negative zero b h = omega (arith, ints)
negative (suc a) b h = omega (arith, ints)

not_positive : (a : ℕ) → neg_ℤ (pos a) ≤ℤ pos 0
not_positive zero = omega (arith, ints)
not_positive (suc a) = omega (arith, ints)

rest_in : (t : Ty) (x y : ℤ) → IsInRange t x → IsInRange t (int_rem x y)
rest_in t (pos a) y r = up_to t (pos a) (pos (a % nat_abs y)) (positive (a % nat_abs y)) (small (a % nat_abs y) a (mod-le a (nat_abs y))) r
rest_in t (negsuc a) y r = down_to t (negsuc a) (neg_ℤ (pos (suc a % nat_abs y))) (negative (suc a % nat_abs y) a (mod-le (suc a) (nat_abs y))) (not_positive (suc a % nat_abs y)) r

less_negative : (a b : ℕ) → b ≤ a → negsuc a ≤ℤ negsuc b
less_negative a b h = omega (arith, ints)

below_zero : (a : ℕ) → negsuc a ≤ℤ pos 0
below_zero a = omega (arith, ints)

quotient_below : (a d : ℕ) → a / d ≤ a
quotient_below a d = div-le_self a d

shifted_in : (t : Ty) (x : ℤ) (k : ℕ) → IsInRange t x → IsInRange t (int_shr x k)
shifted_in t (pos a) k r = up_to t (pos a) (pos (a / 2 ^ k)) (positive (a / 2 ^ k)) (small (a / 2 ^ k) a (quotient_below a (2 ^ k))) r
shifted_in t (negsuc a) k r = down_to t (negsuc a) (negsuc (a / 2 ^ k)) (less_negative a (a / 2 ^ k) (quotient_below a (2 ^ k))) (below_zero (a / 2 ^ k)) r

exact_in : (t : Ty) (z : ℤ) (b : Bool) → (b ≡ true → IsInRange t z) → OptionIn t (if b then Some z else None)
exact_in t z true h = h refl
exact_in t z false h = tt

quotient_in : (t : Ty) (x y : ℤ) (b : Bool) → OptionIn t (if b then None else exact t (int_div x y))
quotient_in t x y true = tt
quotient_in t x y false = exact_in t (int_div x y) (range t (int_div x y)) (range_is t (int_div x y))

remainder_in : (t : Ty) (x y : ℤ) → IsInRange t x → (q : Option ℤ) → ((z : ℤ) → q ≡ Some z → z ≡ int_div x y) → OptionIn t (option_and_then (λ z. Some (x -ℤ z *ℤ y)) q)
remainder_in t x y r None is = tt
remainder_in t x y r (Some z) is = subst (IsInRange t) (sym (ap (λ u. x -ℤ u *ℤ y) (is z refl) ∙ remainder_is x y)) (rest_in t x y r)

exact_is : (t : Ty) (v z : ℤ) (b : Bool) → (if b then Some v else None) ≡ Some z → z ≡ v
exact_is t v z true e = cc
exact_is t v z false e = cc

quotient_is : (t : Ty) (x y z : ℤ) (b : Bool) → (if b then None else exact t (int_div x y)) ≡ Some z → z ≡ int_div x y
quotient_is t x y z true e = cc
quotient_is t x y z false e = exact_is t (int_div x y) z (range t (int_div x y)) e

-- the bits of two patterns of a promoted type, joined
abbrev pub BitsBelow : (ℕ → ℕ → ℕ) → Ty → Type 0
BitsBelow f t = (x y : ℤ) → f (pattern t x) (pattern t y) < 2 ^ ty_width t

pub and_below : BelowWidth2 → JoinsBits op2.And32 bit_and → JoinsBits op2.And64 bit_and → (t : Ty) → BitsBelow bit_and (promoted t)
and_below below g h = by_promoted (BitsBelow bit_and)
    (λ x y. subst (λ n. n < 2 ^ 32) (g x y) (below op2.And32 (pattern I32 x) (pattern I32 y))) (λ x y. subst (λ n. n < 2 ^ 32) (g x y) (below op2.And32 (pattern U32 x) (pattern U32 y)))
    (λ x y. subst (λ n. n < 2 ^ 64) (h x y) (below op2.And64 (pattern I64 x) (pattern I64 y))) (λ x y. subst (λ n. n < 2 ^ 64) (h x y) (below op2.And64 (pattern U64 x) (pattern U64 y)))

pub or_below : BelowWidth2 → JoinsBits op2.Or32 bit_or → JoinsBits op2.Or64 bit_or → (t : Ty) → BitsBelow bit_or (promoted t)
or_below below g h = by_promoted (BitsBelow bit_or)
    (λ x y. subst (λ n. n < 2 ^ 32) (g x y) (below op2.Or32 (pattern I32 x) (pattern I32 y))) (λ x y. subst (λ n. n < 2 ^ 32) (g x y) (below op2.Or32 (pattern U32 x) (pattern U32 y)))
    (λ x y. subst (λ n. n < 2 ^ 64) (h x y) (below op2.Or64 (pattern I64 x) (pattern I64 y))) (λ x y. subst (λ n. n < 2 ^ 64) (h x y) (below op2.Or64 (pattern U64 x) (pattern U64 y)))

pub xor_below : BelowWidth2 → JoinsBits op2.Xor32 bit_xor → JoinsBits op2.Xor64 bit_xor → (t : Ty) → BitsBelow bit_xor (promoted t)
xor_below below g h = by_promoted (BitsBelow bit_xor)
    (λ x y. subst (λ n. n < 2 ^ 32) (g x y) (below op2.Xor32 (pattern I32 x) (pattern I32 y))) (λ x y. subst (λ n. n < 2 ^ 32) (g x y) (below op2.Xor32 (pattern U32 x) (pattern U32 y)))
    (λ x y. subst (λ n. n < 2 ^ 64) (h x y) (below op2.Xor64 (pattern I64 x) (pattern I64 y))) (λ x y. subst (λ n. n < 2 ^ 64) (h x y) (below op2.Xor64 (pattern U64 x) (pattern U64 y)))

-- what the laws of patterns say
pub record PatternLaws : Type 0 where
  pub width : HasWidth
  pub stands : StandsInRange
  pub ands : (t : Ty) → BitsBelow bit_and (promoted t)
  pub ors : (t : Ty) → BitsBelow bit_or (promoted t)
  pub xors : (t : Ty) → BitsBelow bit_xor (promoted t)

module _ (laws : PatternLaws) where
  pub conv_in : (t : Ty) (z : ℤ) → IsInRange t (conv t z)
  conv_in t z = laws.stands t (pattern t z) (laws.width t z)

  signed_in : (p : Profile) (t : Ty) (z : ℤ) → OptionIn t (signed_fit p t z)
  signed_in Plain t z = exact_in t z (range t z) (range_is t z)
  signed_in Wrap t z = conv_in t z

  fit_cases : (p : Profile) (t : Ty) (z : ℤ) (b : Bool) → OptionIn t (if b then signed_fit p t z else Some (conv t z))
  fit_cases p t z true = signed_in p t z
  fit_cases p t z false = conv_in t z

  fit_in : (p : Profile) (t : Ty) (z : ℤ) → OptionIn t (fit p t z)
  fit_in p t z = fit_cases p t z (ty_signed t)

  plain_in : (t : Ty) (z : ℤ) (b : Bool) → OptionIn t (if b then None else fit Plain t z)
  plain_in t z true = tt
  plain_in t z false = fit_in Plain t z

  left_in : (p : Profile) (t : Ty) (x : ℤ) (k : Option ℕ) → OptionIn t (option_and_then (left_shift p t x) k)
  left_in p t x None = tt
  left_in Plain t x (Some k) = plain_in t (x *ℤ pos (2 ^ k)) (ty_signed t && is_negative x)
  left_in Wrap t x (Some k) = fit_in Wrap t (x *ℤ pos (2 ^ k))

  right_in : (t : Ty) (x : ℤ) → IsInRange t x → (k : Option ℕ) → OptionIn t (option_and_then (right_shift x) k)
  right_in t x r None = tt
  right_in t x r (Some k) = shifted_in t x k r

  pub unary_in : (p : Profile) (o : Unary) (t u : Ty) (x : ℤ) → t ≡ unary_type o u → IsInRange u x → OptionIn t (unary_value p o t x)
  unary_in p unary.Plus t u x e r = subst (λ v. IsInRange v x) (sym e) r
  unary_in p unary.Minus t u x e r = fit_in p t (neg_ℤ x)
  unary_in p unary.Flip t u x e r = conv_in t (negsuc 0 -ℤ x)
  unary_in p unary.Not t u x e r = subst (λ v. IsInRange v (truth (is_zero x))) (sym e) (truth_in (is_zero x))

  bits_in : (f : ℕ → ℕ → ℕ) → ((t : Ty) → BitsBelow f (promoted t)) → (t : Ty) (x y : ℤ) → promoted t ≡ t → OptionIn t (joined t f x y)
  bits_in f g t x y e = laws.stands t (f (pattern t x) (pattern t y)) (subst (λ v. f (pattern v x) (pattern v y) < 2 ^ ty_width v) e (g t x y))

  -- a type that operands are joined in is promoted
  usual_promoted : (t a b : Ty) → t ≡ usual a b → promoted t ≡ t
  usual_promoted t a b e = ap promoted e ∙ promoted_usual a b ∙ sym e

  pub binary_in : (p : Profile) (o : Binary) (t a b : Ty) (x y : ℤ) → a ≡ left_type o a b → t ≡ result_type o (joint_type o a b) → IsInRange a x → OptionIn t (binary_value p o t x y)
  binary_in p op.Mul t a b x y l e r = fit_in p t (x *ℤ y)
  binary_in p op.Div t a b x y l e r = quotient_in t x y (is_zero y)
  binary_in p op.Rem t a b x y l e r = remainder_in t x y (subst (λ v. IsInRange v x) (l ∙ sym e) r) (quotient t x y) (λ z q. quotient_is t x y z (is_zero y) q)
  binary_in p op.Add t a b x y l e r = fit_in p t (x +ℤ y)
  binary_in p op.Sub t a b x y l e r = fit_in p t (x -ℤ y)
  binary_in p op.Shl t a b x y l e r = left_in p t x (amount t y)
  binary_in p op.Shr t a b x y l e r = right_in t x (subst (λ v. IsInRange v x) (l ∙ sym e) r) (amount t y)
  binary_in p op.Lt t a b x y l e r = subst (λ v. IsInRange v (truth (int_lt x y))) (sym e) (truth_in (int_lt x y))
  binary_in p op.Gt t a b x y l e r = subst (λ v. IsInRange v (truth (int_lt y x))) (sym e) (truth_in (int_lt y x))
  binary_in p op.Le t a b x y l e r = subst (λ v. IsInRange v (truth (int_le x y))) (sym e) (truth_in (int_le x y))
  binary_in p op.Ge t a b x y l e r = subst (λ v. IsInRange v (truth (int_le y x))) (sym e) (truth_in (int_le y x))
  binary_in p op.Eq t a b x y l e r = subst (λ v. IsInRange v (truth (int_eq x y))) (sym e) (truth_in (int_eq x y))
  binary_in p op.Ne t a b x y l e r = subst (λ v. IsInRange v (truth (not (int_eq x y)))) (sym e) (truth_in (not (int_eq x y)))
  binary_in p op.And t a b x y l e r = bits_in bit_and laws.ands t x y (usual_promoted t a b e)
  binary_in p op.Xor t a b x y l e r = bits_in bit_xor laws.xors t x y (usual_promoted t a b e)
  binary_in p op.Or t a b x y l e r = bits_in bit_or laws.ors t x y (usual_promoted t a b e)
  binary_in p op.Both t a b x y l e r = tt
  binary_in p op.Either t a b x y l e r = tt

  pub sides_in : (t : Ty) (b : Bool) → t ≡ I32 → IsInRange t (truth b)
  sides_in t b e = subst (λ v. IsInRange v (truth b)) (sym e) (truth_in b)
