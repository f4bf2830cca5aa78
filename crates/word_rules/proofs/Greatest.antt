-- No result is greater than what is computed from the greatest values of the operands.
use Rattle.std.proofs.Common.{◌≡◌, ℕ, zero, suc, ◌+◌, ◌-◌, ◌*◌, ◌/◌, ◌%◌, ◌^◌, ◌<◌, ◌≤◌, Bool, true, false, lit<, lit≤, eqb, ltb, min, max, refl, sym, ap, subst, arith}
use Rattle.std.specs.Prelude.{pos, bit_and, bit_or, bit_xor, ◌==◌, nat_lt, nat_le, not, int_lt, int_le}
use Rattle.std.specs.Int.{from_bool}
use Rattle.std.proofs.lemmas.Bool.{cond_both, ltb-true}
use Rattle.std.proofs.lemmas.Nat.{pow_pos, pow-add, and_le_l, and_le_r, or_lt, xor_lt, shr_le, mul-le, mod_below, le-div}
use Rattle.std.proofs.Math.Nat.{mod-le, div-le_self, mul-le-mul_right, lt_of_not-le, le_refl, div-zero, div-mul-le_self}
use Rattle.std.proofs.Math.Pow.{pow_mono}
use borrow.Author.Tests.{eqb-false}
use Rattle.el_base.specs.declared.operation.Op1.TheVariants.{Neg32, Neg64, Not32, Not64, Zero32, Zero64, S8to16, S8to32, S8to64, S16to32, S16to64, S32to64, U8to16, U8to32, U8to64, U16to32, U16to64, U32to64, Cut16to8, Cut32to8, Cut32to16, Cut64to8, Cut64to16, Cut64to32}
use Rattle.el_base.specs.declared.operation.Op2.TheVariants.{Add32, Add64, Sub32, Sub64, Mul32, Mul64, And32, And64, Or32, Or64, Xor32, Xor64, Shl32, Shl64, Shru32, Shru64, Shrs32, Shrs64, Divu32, Divu64, Remu32, Remu64, Divs32, Divs64, Rems32, Rems64, Eq32, Eq64, Ne32, Ne64, Ltu32, Ltu64, Leu32, Leu64, Lts32, Lts64, Les32, Les64}
use Rattle.el_base.specs.Numbers.{residue, signed_number}
use Rattle.word_ops.specs.Operations.{sum_of, product_of, left_shift_of, right_shift_of, quotient_of, remainder_of, extension_of, op1_on, op2_on, op1_result, op2_result}
use Rattle.word_ops.proofs.Below.{below_width1, below_width2}
use Rattle.word_ops.proofs.Residues.{residue_below}
use Rattle.word_rules.specs.Bounds.{all_ones, ones_over, greatest_extension, greatest1, greatest2, greatest_by, BoundedResults1, BoundedResults2, BoundedResultsBy, BoundsAreBelowWidth1, BoundsAreBelowWidth2, BoundsAreBelowWidthBy}
use Rattle.word_rules.proofs.Digits.{digits_are_counted}
use Rattle.word_rules.proofs.Patterns.{kept, signed_low}

-- ---- the rules over a width

truth_bounded : (b : Bool) → from_bool b ≤ 1
truth_bounded true = omega arith
truth_bounded false = omega arith

full : (w v : ℕ) → v < 2 ^ w → v ≤ all_ones w
full w v h = omega arith

-- a quotient of a smaller number is no greater
quotient_bounded : (a x c : ℕ) → a ≤ x → a / c ≤ x / c
quotient_bounded a x zero h = omega (arith, div-zero a)
quotient_bounded a x (suc c) h = le-div (a / suc c) x (suc c) (omega arith) (omega (arith, div-mul-le_self a (suc c)))

-- numbers with as many digits as n stay below 2 ^ t with their bits joined
ones_digits : (n : ℕ) → n < 2 ^ 64 → (t : ℕ) × (n < 2 ^ t) × (ones_over n ≡ 2 ^ t - 1) × (2 ^ t ≤ 2 * n + 1)
ones_digits n h = let d = digits_are_counted 64 n h in (_, d.below, refl, d.least)

module _ (w a x : ℕ) (le : a ≤ x) where
  low : a % 2 ^ w ≤ x
  low = omega (arith, mod-le a (2 ^ w))

  extension_bounded : (v : ℕ) → 0 < w → extension_of w v (a % 2 ^ w) ≤ greatest_extension w v x
  extension_bounded v some =
      cond_both (ltb x (2 ^ (w - 1))) x (all_ones v) (λ n. extension_of w v (a % 2 ^ w) ≤ n) (λ e. small (ltb-true x (2 ^ (w - 1)) e)) (λ e. full v (extension_of w v (a % 2 ^ w)) (residue_below v (signed_number w (a % 2 ^ w))))
    where
      small : x < 2 ^ (w - 1) → extension_of w v (a % 2 ^ w) ≤ x
      small lt =
          let is : signed_number w (a % 2 ^ w) ≡ pos (a % 2 ^ w) = signed_low w (a % 2 ^ w) some (mod_below a (2 ^ w) (pow_pos w)) (omega (arith, low)) in
          let e : extension_of w v (a % 2 ^ w) ≡ a % 2 ^ w % 2 ^ v = ap (residue v) is in
          omega (arith, low, mod-le (a % 2 ^ w) (2 ^ v))

  shifted_left_bounded : (c : ℕ) → left_shift_of w (a % 2 ^ w) c ≤ min (x * 2 ^ (c % w)) (all_ones w)
  shifted_left_bounded c =
      let p = 2 ^ (c % w) in
      let most : a % 2 ^ w * p ≤ x * p = mul-le-mul_right p low in
      omega (arith, mod-le (a % 2 ^ w * p) (2 ^ w), residue_below w (pos (a % 2 ^ w * p)))

  shifted_right_bounded : (c : ℕ) → right_shift_of w (a % 2 ^ w) c ≤ x / 2 ^ (c % w)
  shifted_right_bounded c = quotient_bounded (a % 2 ^ w) x (2 ^ (c % w)) low

  shifted_bounded : (b : ℕ) → right_shift_of w (a % 2 ^ w) b ≤ x
  shifted_bounded b = omega (arith, low, shr_le (a % 2 ^ w) (b % w))

  divided_bounded : (b : ℕ) → quotient_of (a % 2 ^ w) b ≤ x
  divided_bounded b = cond_both (eqb b 0) 0 (a % 2 ^ w / b) (λ n. n ≤ x) (λ e. omega arith) (λ e. omega (arith, low, div-le_self (a % 2 ^ w) b))

  rest_bounded : (b : ℕ) → remainder_of (a % 2 ^ w) b ≤ x
  rest_bounded b = cond_both (eqb b 0) 0 (a % 2 ^ w % b) (λ n. n ≤ x) (λ e. omega arith) (λ e. omega (arith, low, mod-le (a % 2 ^ w) b))

  divided_by_bounded : (c : ℕ) → c < 2 ^ w → quotient_of (a % 2 ^ w) (c % 2 ^ w) ≤ x / c
  divided_by_bounded c h = subst (λ k. quotient_of (a % 2 ^ w) k ≤ x / c) (sym (kept w c h)) (cond_both (eqb c 0) 0 (a % 2 ^ w / c) (λ n. n ≤ x / c) (λ e. omega arith) (λ e. quotient_bounded (a % 2 ^ w) x c low))

  rest_by_bounded : (c : ℕ) → c < 2 ^ w → remainder_of (a % 2 ^ w) (c % 2 ^ w) ≤ min x (c - 1)
  rest_by_bounded c h =
      subst (λ k. remainder_of (a % 2 ^ w) k ≤ min x (c - 1)) (sym (kept w c h))
      (cond_both (eqb c 0) 0 (a % 2 ^ w % c) (λ n. n ≤ min x (c - 1)) (λ e. omega arith) (λ e. let some : 0 < c = positive c (eqb-false c 0 e) in omega (arith, low, mod-le (a % 2 ^ w) c, mod_below (a % 2 ^ w) c some)))
    where
      positive : (c : ℕ) → ¬ (c ≡ 0) → 0 < c
      positive c n = omega arith

  module _ (b y : ℕ) (at : b ≤ y) where
    low_second : b % 2 ^ w ≤ y
    low_second = omega (arith, mod-le b (2 ^ w))

    sum_bounded : sum_of w (a % 2 ^ w) (b % 2 ^ w) ≤ min (x + y) (all_ones w)
    sum_bounded =
        let s = a % 2 ^ w + b % 2 ^ w in
        omega (arith, low, low_second, mod-le s (2 ^ w), residue_below w (pos s))

    product_bounded : product_of w (a % 2 ^ w) (b % 2 ^ w) ≤ min (x * y) (all_ones w)
    product_bounded =
        let p = a % 2 ^ w * (b % 2 ^ w) in
        omega (arith, mul-le (a % 2 ^ w) (b % 2 ^ w) x y low low_second, mod-le p (2 ^ w), residue_below w (pos p))

    and_bounded : bit_and (a % 2 ^ w) (b % 2 ^ w) ≤ min x y
    and_bounded = omega (arith, low, low_second, and_le_l (a % 2 ^ w) (b % 2 ^ w), and_le_r (a % 2 ^ w) (b % 2 ^ w))

    or_bounded : x < 2 ^ 64 → y < 2 ^ 64 → bit_or (a % 2 ^ w) (b % 2 ^ w) ≤ ones_over (max x y)
    or_bounded h l =
        let d = ones_digits (max x y) (omega arith) in
        omega (arith, d.2, or_lt d.0 (a % 2 ^ w) (b % 2 ^ w) (omega (arith, low, d.1)) (omega (arith, low_second, d.1)))

    xor_bounded : x < 2 ^ 64 → y < 2 ^ 64 → bit_xor (a % 2 ^ w) (b % 2 ^ w) ≤ ones_over (max x y)
    xor_bounded h l =
        let d = ones_digits (max x y) (omega arith) in
        omega (arith, d.2, xor_lt d.0 (a % 2 ^ w) (b % 2 ^ w) (omega (arith, low, d.1)) (omega (arith, low_second, d.1)))

-- all ones over numbers below 2 ^ w are below it
ones_below : (w x y : ℕ) → w ≤ 64 → x < 2 ^ w → y < 2 ^ w → ones_over (max x y) < 2 ^ w
ones_below w x y le h l =
    let top : 2 ^ w ≤ 2 ^ 64 = pow_mono {i = w} {j = 64} le in
    let d = ones_digits (max x y) (omega arith) in
    let two : 2 ^ (w + 1) ≡ 2 ^ w * 2 = pow-add 2 w 1 in
    let few : d.0 < w + 1 = lt_of_not-le (λ m. let p : 2 ^ (w + 1) ≤ 2 ^ d.0 = pow_mono {i = w + 1} {j = d.0} m in omega (arith, d.3)) in
    let most : 2 ^ d.0 ≤ 2 ^ w = pow_mono {i = d.0} {j = w} (omega arith) in
    omega (arith, d.2, pow_pos w)

cut_bounded : (w v a x : ℕ) → a ≤ x → a % 2 ^ w % 2 ^ v ≤ min x (all_ones v)
cut_bounded w v a x h = omega (arith, mod-le a (2 ^ w), mod-le (a % 2 ^ w) (2 ^ v), mod_below (a % 2 ^ w) (2 ^ v) (pow_pos v))

by_kept : (w c : ℕ) (P : ℕ → Type 0) → c < 2 ^ w → P c → P (c % 2 ^ w)
by_kept w c P h p = subst P (sym (kept w c h)) p

extension_below : (w v x : ℕ) → 2 ^ (w - 1) ≤ 2 ^ v → greatest_extension w v x < 2 ^ v
extension_below w v x le = cond_both (ltb x (2 ^ (w - 1))) x (all_ones v) (λ n. n < 2 ^ v) (λ e. omega (arith, ltb-true x (2 ^ (w - 1)) e)) (λ e. omega (arith, pow_pos v))

-- ---- operations with one operand

pub bounded1 : BoundedResults1
unfolding op1_result op1_on greatest1
bounded1 Neg32 a x h = full 32 (op1_result Neg32 a) (below_width1 Neg32 a)
bounded1 Neg64 a x h = full 64 (op1_result Neg64 a) (below_width1 Neg64 a)
bounded1 Not32 a x h = full 32 (op1_result Not32 a) (below_width1 Not32 a)
bounded1 Not64 a x h = full 64 (op1_result Not64 a) (below_width1 Not64 a)
bounded1 Zero32 a x h = truth_bounded (a % 2 ^ 32 == 0)
bounded1 Zero64 a x h = truth_bounded (a % 2 ^ 64 == 0)
bounded1 S8to16 a x h = extension_bounded 8 a x h 16 (lit< tt)
bounded1 S8to32 a x h = extension_bounded 8 a x h 32 (lit< tt)
bounded1 S8to64 a x h = extension_bounded 8 a x h 64 (lit< tt)
bounded1 S16to32 a x h = extension_bounded 16 a x h 32 (lit< tt)
bounded1 S16to64 a x h = extension_bounded 16 a x h 64 (lit< tt)
bounded1 S32to64 a x h = extension_bounded 32 a x h 64 (lit< tt)
bounded1 U8to16 a x h = low 8 a x h
bounded1 U8to32 a x h = low 8 a x h
bounded1 U8to64 a x h = low 8 a x h
bounded1 U16to32 a x h = low 16 a x h
bounded1 U16to64 a x h = low 16 a x h
bounded1 U32to64 a x h = low 32 a x h
bounded1 Cut16to8 a x h = cut_bounded 16 8 a x h
bounded1 Cut32to8 a x h = cut_bounded 32 8 a x h
bounded1 Cut32to16 a x h = cut_bounded 32 16 a x h
bounded1 Cut64to8 a x h = cut_bounded 64 8 a x h
bounded1 Cut64to16 a x h = cut_bounded 64 16 a x h
bounded1 Cut64to32 a x h = cut_bounded 64 32 a x h

pub bounds_below1 : BoundsAreBelowWidth1
unfolding greatest1
bounds_below1 Neg32 x h = omega arith
bounds_below1 Neg64 x h = omega arith
bounds_below1 Not32 x h = omega arith
bounds_below1 Not64 x h = omega arith
bounds_below1 Zero32 x h = omega arith
bounds_below1 Zero64 x h = omega arith
bounds_below1 S8to16 x h = extension_below 8 16 x (lit≤ tt)
bounds_below1 S8to32 x h = extension_below 8 32 x (lit≤ tt)
bounds_below1 S8to64 x h = extension_below 8 64 x (lit≤ tt)
bounds_below1 S16to32 x h = extension_below 16 32 x (lit≤ tt)
bounds_below1 S16to64 x h = extension_below 16 64 x (lit≤ tt)
bounds_below1 S32to64 x h = extension_below 32 64 x (lit≤ tt)
bounds_below1 U8to16 x h = omega arith
bounds_below1 U8to32 x h = omega arith
bounds_below1 U8to64 x h = omega arith
bounds_below1 U16to32 x h = omega arith
bounds_below1 U16to64 x h = omega arith
bounds_below1 U32to64 x h = omega arith
bounds_below1 Cut16to8 x h = omega arith
bounds_below1 Cut32to8 x h = omega arith
bounds_below1 Cut32to16 x h = omega arith
bounds_below1 Cut64to8 x h = omega arith
bounds_below1 Cut64to16 x h = omega arith
bounds_below1 Cut64to32 x h = omega arith

-- ---- operations with two operands

pub bounded2 : BoundedResults2
unfolding op2_result op2_on greatest2
bounded2 Add32 a b x y h l f g = sum_bounded 32 a x h b y l
bounded2 Add64 a b x y h l f g = sum_bounded 64 a x h b y l
bounded2 Sub32 a b x y h l f g = full 32 (op2_result Sub32 a b) (below_width2 Sub32 a b)
bounded2 Sub64 a b x y h l f g = full 64 (op2_result Sub64 a b) (below_width2 Sub64 a b)
bounded2 Mul32 a b x y h l f g = product_bounded 32 a x h b y l
bounded2 Mul64 a b x y h l f g = product_bounded 64 a x h b y l
bounded2 And32 a b x y h l f g = and_bounded 32 a x h b y l
bounded2 And64 a b x y h l f g = and_bounded 64 a x h b y l
bounded2 Or32 a b x y h l f g = or_bounded 32 a x h b y l (omega arith) (omega arith)
bounded2 Or64 a b x y h l f g = or_bounded 64 a x h b y l (omega arith) (omega arith)
bounded2 Xor32 a b x y h l f g = xor_bounded 32 a x h b y l (omega arith) (omega arith)
bounded2 Xor64 a b x y h l f g = xor_bounded 64 a x h b y l (omega arith) (omega arith)
bounded2 Shl32 a b x y h l f g = full 32 (op2_result Shl32 a b) (below_width2 Shl32 a b)
bounded2 Shl64 a b x y h l f g = full 64 (op2_result Shl64 a b) (below_width2 Shl64 a b)
bounded2 Shru32 a b x y h l f g = shifted_bounded 32 a x h (b % 2 ^ 32)
bounded2 Shru64 a b x y h l f g = shifted_bounded 64 a x h (b % 2 ^ 64)
bounded2 Shrs32 a b x y h l f g = full 32 (op2_result Shrs32 a b) (below_width2 Shrs32 a b)
bounded2 Shrs64 a b x y h l f g = full 64 (op2_result Shrs64 a b) (below_width2 Shrs64 a b)
bounded2 Divu32 a b x y h l f g = divided_bounded 32 a x h (b % 2 ^ 32)
bounded2 Divu64 a b x y h l f g = divided_bounded 64 a x h (b % 2 ^ 64)
bounded2 Remu32 a b x y h l f g = rest_bounded 32 a x h (b % 2 ^ 32)
bounded2 Remu64 a b x y h l f g = rest_bounded 64 a x h (b % 2 ^ 64)
bounded2 Divs32 a b x y h l f g = full 32 (op2_result Divs32 a b) (below_width2 Divs32 a b)
bounded2 Divs64 a b x y h l f g = full 64 (op2_result Divs64 a b) (below_width2 Divs64 a b)
bounded2 Rems32 a b x y h l f g = full 32 (op2_result Rems32 a b) (below_width2 Rems32 a b)
bounded2 Rems64 a b x y h l f g = full 64 (op2_result Rems64 a b) (below_width2 Rems64 a b)
bounded2 Eq32 a b x y h l f g = truth_bounded (a % 2 ^ 32 == b % 2 ^ 32)
bounded2 Eq64 a b x y h l f g = truth_bounded (a % 2 ^ 64 == b % 2 ^ 64)
bounded2 Ne32 a b x y h l f g = truth_bounded (not (a % 2 ^ 32 == b % 2 ^ 32))
bounded2 Ne64 a b x y h l f g = truth_bounded (not (a % 2 ^ 64 == b % 2 ^ 64))
bounded2 Ltu32 a b x y h l f g = truth_bounded (nat_lt (a % 2 ^ 32) (b % 2 ^ 32))
bounded2 Ltu64 a b x y h l f g = truth_bounded (nat_lt (a % 2 ^ 64) (b % 2 ^ 64))
bounded2 Leu32 a b x y h l f g = truth_bounded (nat_le (a % 2 ^ 32) (b % 2 ^ 32))
bounded2 Leu64 a b x y h l f g = truth_bounded (nat_le (a % 2 ^ 64) (b % 2 ^ 64))
bounded2 Lts32 a b x y h l f g = truth_bounded (int_lt (signed_number 32 (a % 2 ^ 32)) (signed_number 32 (b % 2 ^ 32)))
bounded2 Lts64 a b x y h l f g = truth_bounded (int_lt (signed_number 64 (a % 2 ^ 64)) (signed_number 64 (b % 2 ^ 64)))
bounded2 Les32 a b x y h l f g = truth_bounded (int_le (signed_number 32 (a % 2 ^ 32)) (signed_number 32 (b % 2 ^ 32)))
bounded2 Les64 a b x y h l f g = truth_bounded (int_le (signed_number 64 (a % 2 ^ 64)) (signed_number 64 (b % 2 ^ 64)))

pub bounds_below2 : BoundsAreBelowWidth2
unfolding greatest2
bounds_below2 Add32 x y h l = omega arith
bounds_below2 Add64 x y h l = omega arith
bounds_below2 Sub32 x y h l = omega arith
bounds_below2 Sub64 x y h l = omega arith
bounds_below2 Mul32 x y h l = omega arith
bounds_below2 Mul64 x y h l = omega arith
bounds_below2 And32 x y h l = omega arith
bounds_below2 And64 x y h l = omega arith
bounds_below2 Or32 x y h l = ones_below 32 x y (lit≤ tt) h l
bounds_below2 Or64 x y h l = ones_below 64 x y (lit≤ tt) h l
bounds_below2 Xor32 x y h l = ones_below 32 x y (lit≤ tt) h l
bounds_below2 Xor64 x y h l = ones_below 64 x y (lit≤ tt) h l
bounds_below2 Shl32 x y h l = omega arith
bounds_below2 Shl64 x y h l = omega arith
bounds_below2 Shru32 x y h l = omega arith
bounds_below2 Shru64 x y h l = omega arith
bounds_below2 Shrs32 x y h l = omega arith
bounds_below2 Shrs64 x y h l = omega arith
bounds_below2 Divu32 x y h l = omega arith
bounds_below2 Divu64 x y h l = omega arith
bounds_below2 Remu32 x y h l = omega arith
bounds_below2 Remu64 x y h l = omega arith
bounds_below2 Divs32 x y h l = omega arith
bounds_below2 Divs64 x y h l = omega arith
bounds_below2 Rems32 x y h l = omega arith
bounds_below2 Rems64 x y h l = omega arith
bounds_below2 Eq32 x y h l = omega arith
bounds_below2 Eq64 x y h l = omega arith
bounds_below2 Ne32 x y h l = omega arith
bounds_below2 Ne64 x y h l = omega arith
bounds_below2 Ltu32 x y h l = omega arith
bounds_below2 Ltu64 x y h l = omega arith
bounds_below2 Leu32 x y h l = omega arith
bounds_below2 Leu64 x y h l = omega arith
bounds_below2 Lts32 x y h l = omega arith
bounds_below2 Lts64 x y h l = omega arith
bounds_below2 Les32 x y h l = omega arith
bounds_below2 Les64 x y h l = omega arith

-- ---- by a constant

pub bounded_by : BoundedResultsBy
unfolding op2_result op2_on greatest_by
bounded_by Add32 a x c h f g = bounded2 Add32 a c x c h (le_refl c) f g
bounded_by Add64 a x c h f g = bounded2 Add64 a c x c h (le_refl c) f g
bounded_by Sub32 a x c h f g = bounded2 Sub32 a c x c h (le_refl c) f g
bounded_by Sub64 a x c h f g = bounded2 Sub64 a c x c h (le_refl c) f g
bounded_by Mul32 a x c h f g = bounded2 Mul32 a c x c h (le_refl c) f g
bounded_by Mul64 a x c h f g = bounded2 Mul64 a c x c h (le_refl c) f g
bounded_by And32 a x c h f g = bounded2 And32 a c x c h (le_refl c) f g
bounded_by And64 a x c h f g = bounded2 And64 a c x c h (le_refl c) f g
bounded_by Or32 a x c h f g = bounded2 Or32 a c x c h (le_refl c) f g
bounded_by Or64 a x c h f g = bounded2 Or64 a c x c h (le_refl c) f g
bounded_by Xor32 a x c h f g = bounded2 Xor32 a c x c h (le_refl c) f g
bounded_by Xor64 a x c h f g = bounded2 Xor64 a c x c h (le_refl c) f g
bounded_by Shl32 a x c h f g = by_kept 32 c (λ k. left_shift_of 32 (a % 2 ^ 32) k ≤ min (x * 2 ^ (c % 32)) (all_ones 32)) g (shifted_left_bounded 32 a x h c)
bounded_by Shl64 a x c h f g = by_kept 64 c (λ k. left_shift_of 64 (a % 2 ^ 64) k ≤ min (x * 2 ^ (c % 64)) (all_ones 64)) g (shifted_left_bounded 64 a x h c)
bounded_by Shru32 a x c h f g = by_kept 32 c (λ k. right_shift_of 32 (a % 2 ^ 32) k ≤ x / 2 ^ (c % 32)) g (shifted_right_bounded 32 a x h c)
bounded_by Shru64 a x c h f g = by_kept 64 c (λ k. right_shift_of 64 (a % 2 ^ 64) k ≤ x / 2 ^ (c % 64)) g (shifted_right_bounded 64 a x h c)
bounded_by Shrs32 a x c h f g = bounded2 Shrs32 a c x c h (le_refl c) f g
bounded_by Shrs64 a x c h f g = bounded2 Shrs64 a c x c h (le_refl c) f g
bounded_by Divu32 a x c h f g = divided_by_bounded 32 a x h c g
bounded_by Divu64 a x c h f g = divided_by_bounded 64 a x h c g
bounded_by Remu32 a x c h f g = rest_by_bounded 32 a x h c g
bounded_by Remu64 a x c h f g = rest_by_bounded 64 a x h c g
bounded_by Divs32 a x c h f g = bounded2 Divs32 a c x c h (le_refl c) f g
bounded_by Divs64 a x c h f g = bounded2 Divs64 a c x c h (le_refl c) f g
bounded_by Rems32 a x c h f g = bounded2 Rems32 a c x c h (le_refl c) f g
bounded_by Rems64 a x c h f g = bounded2 Rems64 a c x c h (le_refl c) f g
bounded_by Eq32 a x c h f g = bounded2 Eq32 a c x c h (le_refl c) f g
bounded_by Eq64 a x c h f g = bounded2 Eq64 a c x c h (le_refl c) f g
bounded_by Ne32 a x c h f g = bounded2 Ne32 a c x c h (le_refl c) f g
bounded_by Ne64 a x c h f g = bounded2 Ne64 a c x c h (le_refl c) f g
bounded_by Ltu32 a x c h f g = bounded2 Ltu32 a c x c h (le_refl c) f g
bounded_by Ltu64 a x c h f g = bounded2 Ltu64 a c x c h (le_refl c) f g
bounded_by Leu32 a x c h f g = bounded2 Leu32 a c x c h (le_refl c) f g
bounded_by Leu64 a x c h f g = bounded2 Leu64 a c x c h (le_refl c) f g
bounded_by Lts32 a x c h f g = bounded2 Lts32 a c x c h (le_refl c) f g
bounded_by Lts64 a x c h f g = bounded2 Lts64 a c x c h (le_refl c) f g
bounded_by Les32 a x c h f g = bounded2 Les32 a c x c h (le_refl c) f g
bounded_by Les64 a x c h f g = bounded2 Les64 a c x c h (le_refl c) f g

pub bounds_below_by : BoundsAreBelowWidthBy
unfolding greatest_by
bounds_below_by Add32 x c h l = bounds_below2 Add32 x c h l
bounds_below_by Add64 x c h l = bounds_below2 Add64 x c h l
bounds_below_by Sub32 x c h l = bounds_below2 Sub32 x c h l
bounds_below_by Sub64 x c h l = bounds_below2 Sub64 x c h l
bounds_below_by Mul32 x c h l = bounds_below2 Mul32 x c h l
bounds_below_by Mul64 x c h l = bounds_below2 Mul64 x c h l
bounds_below_by And32 x c h l = bounds_below2 And32 x c h l
bounds_below_by And64 x c h l = bounds_below2 And64 x c h l
bounds_below_by Or32 x c h l = bounds_below2 Or32 x c h l
bounds_below_by Or64 x c h l = bounds_below2 Or64 x c h l
bounds_below_by Xor32 x c h l = bounds_below2 Xor32 x c h l
bounds_below_by Xor64 x c h l = bounds_below2 Xor64 x c h l
bounds_below_by Shl32 x c h l = omega arith
bounds_below_by Shl64 x c h l = omega arith
bounds_below_by Shru32 x c h l = omega (arith, shr_le x (c % 32))
bounds_below_by Shru64 x c h l = omega (arith, shr_le x (c % 64))
bounds_below_by Shrs32 x c h l = bounds_below2 Shrs32 x c h l
bounds_below_by Shrs64 x c h l = bounds_below2 Shrs64 x c h l
bounds_below_by Divu32 x c h l = omega (arith, div-le_self x c)
bounds_below_by Divu64 x c h l = omega (arith, div-le_self x c)
bounds_below_by Remu32 x c h l = omega arith
bounds_below_by Remu64 x c h l = omega arith
bounds_below_by Divs32 x c h l = bounds_below2 Divs32 x c h l
bounds_below_by Divs64 x c h l = bounds_below2 Divs64 x c h l
bounds_below_by Rems32 x c h l = bounds_below2 Rems32 x c h l
bounds_below_by Rems64 x c h l = bounds_below2 Rems64 x c h l
bounds_below_by Eq32 x c h l = bounds_below2 Eq32 x c h l
bounds_below_by Eq64 x c h l = bounds_below2 Eq64 x c h l
bounds_below_by Ne32 x c h l = bounds_below2 Ne32 x c h l
bounds_below_by Ne64 x c h l = bounds_below2 Ne64 x c h l
bounds_below_by Ltu32 x c h l = bounds_below2 Ltu32 x c h l
bounds_below_by Ltu64 x c h l = bounds_below2 Ltu64 x c h l
bounds_below_by Leu32 x c h l = bounds_below2 Leu32 x c h l
bounds_below_by Leu64 x c h l = bounds_below2 Leu64 x c h l
bounds_below_by Lts32 x c h l = bounds_below2 Lts32 x c h l
bounds_below_by Lts64 x c h l = bounds_below2 Lts64 x c h l
bounds_below_by Les32 x c h l = bounds_below2 Les32 x c h l
bounds_below_by Les64 x c h l = bounds_below2 Les64 x c h l
