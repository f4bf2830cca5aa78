-- What an operation on two values becomes has its value.
use Rattle.std.proofs.Common.{◌≡◌, ℕ, ◌-◌, ◌%◌, ◌^◌, ◌<◌, Bool, true, false, cond, List, length, Option, Some, None, refl, sym, ◌∙◌, ap, subst, eqb, ltb, leb, arith}
use Rattle.std.specs.Prelude.{pos, ◌==◌, not, ◌&&◌, bit_and, bit_or, bit_xor}
use Rattle.std.specs.Int.{from_bool}
use Rattle.std.proofs.lemmas.Bool.{false≢true, cond_both, and_parts}
use Rattle.std.proofs.lemmas.Nat.{pow_pos, and_comm, or_comm, xor_comm}
use Rattle.std.proofs.Math.IntN.{+ℤ_comm, *ℤ_comm}
use borrow.Author.Tests.{eqb-true}
use Rattle.el_base.specs.declared.ty.Array.{Array}
use Rattle.el_base.specs.declared.operation.Op2.{Op2}
use Rattle.el_base.specs.Numbers.{residue, signed_number}
use Rattle.el_base.specs.Widths.{op2_in, op2_out}
use Rattle.word_ops.specs.Operations.{sum_of, difference_of, product_of, negative_of, flipped_of, left_shift_of, right_shift_of, signed_shift_of, quotient_of, remainder_of, signed_quotient_of, signed_remainder_of, op2_result}
use Rattle.word_ops.proofs.Below.{below_width2}
use Rattle.ir.specs.declared.instr.Instr.TheVariants.{Const, One, Two}
use Rattle.block_rules.specs.declared.change.Change.{Change}
use Rattle.block_rules.specs.declared.change.Change.TheVariants.{Stays, Is, Becomes}
use Rattle.block_rules.specs.declared.kind.Kind.{Kind}
use Rattle.block_rules.specs.declared.kind.Kind.TheVariants.{Add, Sub, Mul, And, Or, Xor, Shl, Shru, Shrs, Divu, Remu, Divs, Rems, Eq, Ne, Ltu, Leu, Lts, Les}
use Rattle.block_rules.specs.declared.kind.Word.{Word}
use Rattle.block_rules.specs.declared.kind.Word.TheVariants.{Word32, Word64}
use Rattle.ir.specs.Shapes.{Shape, IsOfWidth, IsWidth}
use Rattle.ir.specs.Steps.{value_at}
use Rattle.block_rules.specs.Kinds.{bits, word_of, kind_of, negative_on, flip_on, zero_on, commutes}
use Rattle.block_rules.specs.TwoRules.{of_equal, by_left, exponent_of, product_by, quotient_by, remainder_by, by_right, by_none, by_constants}
use Rattle.block_rules.proofs.Operations.{kind_on, width_out, in-word, op2-width, word-width, negative-result, negative-in, negative-out, flip-result, flip-in, flip-out, zero-test, zero-in, zero-32, result-below, result-out}
use Rattle.block_rules.proofs.Identities.{sum-zero, difference-zero, zero-difference, difference-self, product-zero, product-one, product-power, and-ones, and-one, or-ones, xor-ones32, xor-ones64, left_shift-zero, right_shift-zero, signed_shift-zero, quotient-one, remainder-one, signed_quotient-one, signed_remainder-one, quotient-power, remainder-power, eqb-swap, eqb-self, ltb-self, leb-self, int_lt-self, int_le-self, bit-equal_one, bit-unequal_zero, bit-unequal_one}
use Rattle.block_rules.proofs.Exponents.{less_places, exponent_law}
use Rattle.block_rules.proofs.Facts.{IsConstant, IsBit}
use Rattle.block_rules.proofs.Changed.{IsStep, IsChange, const_step, one_step, by_new}
use Rattle.std.specs.Int.Bits.{and_zero_r, or_zero_r, xor_zero_r, and_self, or_self, xor_self}
use Rattle.std.proofs.Math.Nat.{mod-eq_of_lt}

-- a fact of y that is n
from_eq : (f : ℕ → ℕ) (y n z : ℕ) → eqb y n ≡ true → f n ≡ z → z ≡ f y
from_eq f y n z e h = sym (ap f (eqb-true y n e) ∙ h)

-- ---- by the two words

one_signed : (w : Word) → signed_number (bits w) 1 ≡ pos 1
one_signed Word32 = refl
one_signed Word64 = refl

some_fits : (w : Word) → 0 < 2 ^ bits w
some_fits w = pow_pos (bits w)

places_fit : (w : Word) (k : ℕ) → k < bits w → k < 2 ^ bits w
places_fit Word32 k h = omega arith
places_fit Word64 k h = omega arith

xor_ones : (w : Word) (x : ℕ) → x < 2 ^ bits w → bit_xor x (2 ^ bits w - 1) ≡ flipped_of (bits w) x
xor_ones Word32 x h = xor-ones32 x h
xor_ones Word64 x h = xor-ones64 x h

-- ---- the power of two that a number is

-- y is 2 ^ k, with fewer places than the word
record IsPower (w : Word) (y k : ℕ) : Type 0 where
  is : y ≡ 2 ^ k
  places : k < bits w

power : (w : Word) (y k : ℕ) → y < 2 ^ bits w → exponent_of y ≡ Some k → IsPower w y k
power w y k h e =
    let p = exponent_law y k e in
    record { is = p.is; places = less_places (bits w) k (subst (λ (z : ℕ). z < 2 ^ bits w) p.is h) }

-- ---- of two values of a word's width

-- a value of the width
pub record IsOperand (ws : Shape) (vs : List ℕ) (w : Word) (a : ℕ) : Type 0 where
  pub width : IsOfWidth ws a (bits w)
  pub below : value_at vs a < 2 ^ bits w

-- the operands of an operation
pub record AreOperands (ws : Shape) (vs : List ℕ) (op : Op2) (a b : ℕ) : Type 0 where
  pub first : IsOfWidth ws a (op2_in op)
  pub second : IsOfWidth ws b (op2_in op)
  pub first_below : value_at vs a < 2 ^ op2_in op
  pub second_below : value_at vs b < 2 ^ op2_in op

-- what is known where the second operand is the constant y
pub record OnRight (ws : Shape) (vs : List ℕ) (w : Word) (m a b y : ℕ) (t : Bool) : Type 0 where
  pub long : length ws ≡ length vs
  pub next : m ≡ length ws
  pub left : IsOperand ws vs w a
  pub right : IsOfWidth ws b (bits w)
  pub is : value_at vs b ≡ y
  pub small : y < 2 ^ bits w
  pub test : t ≡ true → IsBit ws vs a

module _ (arrays : List Array) (ws : Shape) (vs : List ℕ) where
  -- one of two changes, by a test
  pub given : (w x : ℕ) (t : Bool) (c d : Change) → (t ≡ true → IsChange arrays ws vs w x c) → (t ≡ false → IsChange arrays ws vs w x d) → IsChange arrays ws vs w x (cond t c d)
  given w x t c d f g = cond_both t c d (IsChange arrays ws vs w x) f g

  pub number : (w c x : ℕ) → IsWidth w → c < 2 ^ w → c ≡ x → IsChange arrays ws vs w x (Becomes (Const w c))
  number w c x h lt e = subst (λ (z : ℕ). IsStep arrays ws vs w z (Const w c)) e (const_step arrays ws vs w c h lt)

  equal_law : (k : Kind) (w : Word) (a : ℕ) → IsOperand ws vs w a → IsChange arrays ws vs (width_out k (bits w)) (kind_on k (bits w) (value_at vs a) (value_at vs a)) (of_equal k w a)
  unfolding of_equal
  equal_law Add w a h = tt
  equal_law Sub w a h = number (bits w) 0 (difference_of (bits w) (value_at vs a) (value_at vs a)) (word-width w) (some_fits w) (sym (difference-self (bits w) (value_at vs a)))
  equal_law Mul w a h = tt
  equal_law And w a h = (h.width, sym (and_self (value_at vs a)))
  equal_law Or w a h = (h.width, sym (or_self (value_at vs a)))
  equal_law Xor w a h = number (bits w) 0 (bit_xor (value_at vs a) (value_at vs a)) (word-width w) (some_fits w) (sym (xor_self (value_at vs a)))
  equal_law Shl w a h = tt
  equal_law Shru w a h = tt
  equal_law Shrs w a h = tt
  equal_law Divu w a h = tt
  equal_law Remu w a h = tt
  equal_law Divs w a h = tt
  equal_law Rems w a h = tt
  equal_law Eq w a h = number 32 1 (from_bool (eqb (value_at vs a) (value_at vs a))) (word-width Word32) (places_fit Word32 1 (omega arith)) (ap from_bool (sym (eqb-self (value_at vs a))))
  equal_law Ne w a h = number 32 0 (from_bool (not (eqb (value_at vs a) (value_at vs a)))) (word-width Word32) (some_fits Word32) (ap (λ (b : Bool). from_bool (not b)) (sym (eqb-self (value_at vs a))))
  equal_law Ltu w a h = number 32 0 (from_bool (ltb (value_at vs a) (value_at vs a))) (word-width Word32) (some_fits Word32) (ap from_bool (sym (ltb-self (value_at vs a))))
  equal_law Leu w a h = number 32 1 (from_bool (leb (value_at vs a) (value_at vs a))) (word-width Word32) (places_fit Word32 1 (omega arith)) (ap from_bool (sym (leb-self (value_at vs a))))
  equal_law Lts w a h = number 32 0 (kind_on Lts (bits w) (value_at vs a) (value_at vs a)) (word-width Word32) (some_fits Word32) (ap from_bool (sym (int_lt-self (signed_number (bits w) (value_at vs a)))))
  equal_law Les w a h = number 32 1 (kind_on Les (bits w) (value_at vs a) (value_at vs a)) (word-width Word32) (places_fit Word32 1 (omega arith)) (ap from_bool (sym (int_le-self (signed_number (bits w) (value_at vs a)))))

  left_law : (k : Kind) (w : Word) (b x : ℕ) → IsOperand ws vs w b → IsChange arrays ws vs (width_out k (bits w)) (kind_on k (bits w) x (value_at vs b)) (by_left k w b x)
  unfolding by_left
  left_law Add w b x h = tt
  left_law Sub w b x h =
      let y = value_at vs b in
      let small : y % 2 ^ bits w ≡ y = mod-eq_of_lt h.below in
      given (bits w) (difference_of (bits w) x y) (x == 0) (Becomes (One (negative_on w) b)) Stays
      (λ e. one_step arrays ws vs (negative_on w) b (bits w) (bits w) (difference_of (bits w) x y) (negative-in w) (negative-out w) h.width
      (negative-result w y ∙ ap (negative_of (bits w)) small ∙ from_eq (λ (z : ℕ). difference_of (bits w) z y) x 0 (negative_of (bits w) y) e (zero-difference (bits w) y)))
      (λ e. tt)
  left_law Mul w b x h = tt
  left_law And w b x h = tt
  left_law Or w b x h = tt
  left_law Xor w b x h = tt
  left_law Shl w b x h = tt
  left_law Shru w b x h = tt
  left_law Shrs w b x h = tt
  left_law Divu w b x h = tt
  left_law Remu w b x h = tt
  left_law Divs w b x h = tt
  left_law Rems w b x h = tt
  left_law Eq w b x h = tt
  left_law Ne w b x h = tt
  left_law Ltu w b x h = tt
  left_law Leu w b x h = tt
  left_law Lts w b x h = tt
  left_law Les w b x h = tt

  module _ (w : Word) (m a b y : ℕ) (t : Bool) (r : OnRight ws vs w m a b y t) where
    -- the value a, or the value b, where y is n
    is_left : (f : ℕ → ℕ) (n : ℕ) → eqb y n ≡ true → f n ≡ value_at vs a → IsChange arrays ws vs (bits w) (f y) (Is a)
    is_left f n e h = (r.left.width, from_eq f y n (value_at vs a) e h)

    is_right : (f : ℕ → ℕ) (n : ℕ) → eqb y n ≡ true → f n ≡ n → IsChange arrays ws vs (bits w) (f y) (Is b)
    is_right f n e h = (r.right, r.is ∙ eqb-true y n e ∙ from_eq f y n n e h)

    zero_left : (f : ℕ → ℕ) → f 0 ≡ value_at vs a → IsChange arrays ws vs (bits w) (f y) (cond (eqb y 0) (Is a) Stays)
    zero_left f h = given (bits w) (f y) (eqb y 0) (Is a) Stays (λ e. is_left f 0 e h) (λ e. tt)

    one_left : (f : ℕ → ℕ) → f 1 ≡ value_at vs a → IsChange arrays ws vs (bits w) (f y) (cond (eqb y 1) (Is a) Stays)
    one_left f h = given (bits w) (f y) (eqb y 1) (Is a) Stays (λ e. is_left f 1 e h) (λ e. tt)

    -- the constant 0 where y is 1
    one_zero : (f : ℕ → ℕ) (c : Change) → f 1 ≡ 0 → IsChange arrays ws vs (bits w) (f y) c → IsChange arrays ws vs (bits w) (f y) (cond (eqb y 1) (Becomes (Const (bits w) 0)) c)
    one_zero f c h g = given (bits w) (f y) (eqb y 1) (Becomes (Const (bits w) 0)) c (λ e. number (bits w) 0 (f y) (word-width w) (some_fits w) (from_eq f y 1 0 e h)) (λ e. g)

    -- the value a where it is a test's and y is n
    test_left : (u : ℕ) (f : ℕ → ℕ) (n : ℕ) → IsOfWidth ws a u → ((q : Bool) → value_at vs a ≡ from_bool q → f n ≡ value_at vs a)
        → (t && eqb y n) ≡ true → IsChange arrays ws vs u (f y) (Is a)
    test_left u f n wide h e =
        let p = and_parts t (eqb y n) e in
        let q = r.test p.0 in
        (wide, from_eq f y n (value_at vs a) p.1 (h q.bit q.value))

    product_law : (o : Option ℕ) → exponent_of y ≡ o → IsChange arrays ws vs (bits w) (product_of (bits w) (value_at vs a) y) (product_by w m a o)
    product_law None e = tt
    product_law (Some k) e =
        let p = power w y k r.small e in
        by_new arrays ws vs Shl w m a k (product_of (bits w) (value_at vs a) y) r.long r.next r.left.width r.left.below (places_fit w k p.places)
        (product-power (bits w) (value_at vs a) k p.places ∙ ap (product_of (bits w) (value_at vs a)) (sym p.is))

    quotient_law : (o : Option ℕ) → exponent_of y ≡ o → IsChange arrays ws vs (bits w) (quotient_of (value_at vs a) y) (quotient_by w m a o)
    quotient_law None e = tt
    quotient_law (Some k) e =
        let p = power w y k r.small e in
        by_new arrays ws vs Shru w m a k (quotient_of (value_at vs a) y) r.long r.next r.left.width r.left.below (places_fit w k p.places)
        (quotient-power (bits w) (value_at vs a) k p.places ∙ ap (quotient_of (value_at vs a)) (sym p.is))

    remainder_law : (o : Option ℕ) → exponent_of y ≡ o → IsChange arrays ws vs (bits w) (remainder_of (value_at vs a) y) (remainder_by w m a y o)
    remainder_law None e = tt
    remainder_law (Some k) e =
        let p = power w y k r.small e in
        let less : y - 1 < 2 ^ bits w = omega (arith, r.small) in
        by_new arrays ws vs And w m a (y - 1) (remainder_of (value_at vs a) y) r.long r.next r.left.width r.left.below less
        (ap (λ (z : ℕ). bit_and (value_at vs a) (z - 1)) p.is ∙ remainder-power (value_at vs a) k ∙ ap (remainder_of (value_at vs a)) (sym p.is))

    shift_left : (f : ℕ → ℕ) → (y % bits w ≡ 0 → f y ≡ value_at vs a) → IsChange arrays ws vs (bits w) (f y) (cond (eqb (y % bits w) 0) (Is a) Stays)
    shift_left f h = given (bits w) (f y) (eqb (y % bits w) 0) (Is a) Stays (λ e. (r.left.width, sym (h (eqb-true (y % bits w) 0 e)))) (λ e. tt)

    small_left : value_at vs a % 2 ^ bits w ≡ value_at vs a
    small_left = mod-eq_of_lt r.left.below

    bit_width : (n : ℕ) → (t && eqb y n) ≡ true → IsOfWidth ws a 32
    bit_width n e = (r.test (and_parts t (eqb y n) e).0).width

    -- a test for 0
    zero_step : (x : ℕ) → from_bool (eqb (value_at vs a) 0) ≡ x → IsChange arrays ws vs 32 x (Becomes (One (zero_on w) a))
    zero_step x e = one_step arrays ws vs (zero_on w) a (bits w) 32 x (zero-in w) (zero-32 w) r.left.width (zero-test w (value_at vs a) ∙ ap (λ (v : ℕ). from_bool (eqb v 0)) small_left ∙ e)

    right_law : (k : Kind) → IsChange arrays ws vs (width_out k (bits w)) (kind_on k (bits w) (value_at vs a) y) (by_right k w m a b y t)
    unfolding by_right
    right_law Add = zero_left (sum_of (bits w) (value_at vs a)) (sum-zero (bits w) (value_at vs a) r.left.below)
    right_law Sub = zero_left (difference_of (bits w) (value_at vs a)) (difference-zero (bits w) (value_at vs a) r.left.below)
    right_law Mul =
        let f = product_of (bits w) (value_at vs a) in
        let rest = product_by w m a (exponent_of y) in
        given (bits w) (f y) (eqb y 0) (Is b) (cond (eqb y 1) (Is a) rest) (λ e. is_right f 0 e (product-zero (bits w) (value_at vs a)))
        (λ z. given (bits w) (f y) (eqb y 1) (Is a) rest (λ e. is_left f 1 e (product-one (bits w) (value_at vs a) r.left.below)) (λ e. product_law (exponent_of y) refl))
    right_law And =
        let f = bit_and (value_at vs a) in
        let last = cond (t && eqb y 1) (Is a) Stays in
        given (bits w) (f y) (eqb y 0) (Is b) (cond (eqb y (2 ^ bits w - 1)) (Is a) last) (λ e. is_right f 0 e (and_zero_r (value_at vs a)))
        (λ z. given (bits w) (f y) (eqb y (2 ^ bits w - 1)) (Is a) last (λ e. is_left f (2 ^ bits w - 1) e (and-ones (bits w) (value_at vs a) r.left.below))
        (λ o. given (bits w) (f y) (t && eqb y 1) (Is a) Stays
        (test_left (bits w) f 1 r.left.width (λ q e. ap (λ (v : ℕ). bit_and v 1) e ∙ and-one q ∙ sym e)) (λ e. tt)))
    right_law Or =
        let f = bit_or (value_at vs a) in
        let last = cond (eqb y (2 ^ bits w - 1)) (Is b) Stays in
        given (bits w) (f y) (eqb y 0) (Is a) last (λ e. is_left f 0 e (or_zero_r (value_at vs a)))
        (λ z. given (bits w) (f y) (eqb y (2 ^ bits w - 1)) (Is b) Stays (λ e. is_right f (2 ^ bits w - 1) e (or-ones (bits w) (value_at vs a) r.left.below)) (λ e. tt))
    right_law Xor =
        let f = bit_xor (value_at vs a) in
        let last = cond (eqb y (2 ^ bits w - 1)) (Becomes (One (flip_on w) a)) Stays in
        given (bits w) (f y) (eqb y 0) (Is a) last (λ e. is_left f 0 e (xor_zero_r (value_at vs a)))
        (λ z. given (bits w) (f y) (eqb y (2 ^ bits w - 1)) (Becomes (One (flip_on w) a)) Stays
        (λ e. one_step arrays ws vs (flip_on w) a (bits w) (bits w) (f y) (flip-in w) (flip-out w) r.left.width
        (flip-result w (value_at vs a) ∙ ap (flipped_of (bits w)) small_left ∙ from_eq f y (2 ^ bits w - 1) (flipped_of (bits w) (value_at vs a)) e (xor_ones w (value_at vs a) r.left.below)))
        (λ e. tt))
    right_law Shl = shift_left (left_shift_of (bits w) (value_at vs a)) (λ e. left_shift-zero (bits w) (value_at vs a) y r.left.below e)
    right_law Shru = shift_left (right_shift_of (bits w) (value_at vs a)) (λ e. right_shift-zero (bits w) (value_at vs a) y e)
    right_law Shrs = shift_left (signed_shift_of (bits w) (value_at vs a)) (λ e. signed_shift-zero (bits w) (value_at vs a) y r.left.below e)
    right_law Divu =
        let f = quotient_of (value_at vs a) in
        given (bits w) (f y) (eqb y 1) (Is a) (quotient_by w m a (exponent_of y)) (λ e. is_left f 1 e (quotient-one (value_at vs a))) (λ e. quotient_law (exponent_of y) refl)
    right_law Remu = one_zero (remainder_of (value_at vs a)) (remainder_by w m a y (exponent_of y)) (remainder-one (value_at vs a)) (remainder_law (exponent_of y) refl)
    right_law Divs = one_left (signed_quotient_of (bits w) (value_at vs a)) (signed_quotient-one (bits w) (value_at vs a) (one_signed w) r.left.below)
    right_law Rems = one_zero (signed_remainder_of (bits w) (value_at vs a)) Stays (signed_remainder-one (bits w) (value_at vs a) (one_signed w)) tt
    right_law Eq =
        let f : ℕ → ℕ = λ v. from_bool (eqb (value_at vs a) v) in
        let last = cond (t && eqb y 1) (Is a) Stays in
        given 32 (f y) (eqb y 0) (Becomes (One (zero_on w) a)) last (λ e. zero_step (f y) (from_eq f y 0 (f 0) e refl))
        (λ z. given 32 (f y) (t && eqb y 1) (Is a) Stays
        (λ e. test_left 32 f 1 (bit_width 1 e) (λ q h. ap (λ (v : ℕ). from_bool (eqb v 1)) h ∙ bit-equal_one q ∙ sym h) e) (λ e. tt))
    right_law Ne =
        let f : ℕ → ℕ = λ v. from_bool (not (eqb (value_at vs a) v)) in
        let last = cond (t && eqb y 1) (Becomes (One (zero_on w) a)) Stays in
        given 32 (f y) (t && eqb y 0) (Is a) last
        (λ e. test_left 32 f 0 (bit_width 0 e) (λ q h. ap (λ (v : ℕ). from_bool (not (eqb v 0))) h ∙ bit-unequal_zero q ∙ sym h) e)
        (λ z. given 32 (f y) (t && eqb y 1) (Becomes (One (zero_on w) a)) Stays
        (λ e. let p = and_parts t (eqb y 1) e in
        let q = r.test p.0 in
        zero_step (f y) (from_eq f y 1 (from_bool (eqb (value_at vs a) 0)) p.1 (ap (λ (v : ℕ). from_bool (not (eqb v 1))) q.value ∙ bit-unequal_one q.bit ∙ sym (ap (λ (v : ℕ). from_bool (eqb v 0)) q.value))))
        (λ e. tt))
    right_law Ltu = tt
    right_law Leu = tt
    right_law Lts = tt
    right_law Les = tt

  -- ---- of two that are no constants

  swapped : (k : Kind) (w x y : ℕ) → commutes k ≡ true → kind_on k w y x ≡ kind_on k w x y
  swapped Add w x y h = ap (residue w) (+ℤ_comm (pos y) (pos x))
  swapped Sub w x y h = absurd (false≢true h)
  swapped Mul w x y h = ap (residue w) (*ℤ_comm (pos y) (pos x))
  swapped And w x y h = and_comm y x
  swapped Or w x y h = or_comm y x
  swapped Xor w x y h = xor_comm y x
  swapped Shl w x y h = absurd (false≢true h)
  swapped Shru w x y h = absurd (false≢true h)
  swapped Shrs w x y h = absurd (false≢true h)
  swapped Divu w x y h = absurd (false≢true h)
  swapped Remu w x y h = absurd (false≢true h)
  swapped Divs w x y h = absurd (false≢true h)
  swapped Rems w x y h = absurd (false≢true h)
  swapped Eq w x y h = ap from_bool (eqb-swap y x)
  swapped Ne w x y h = ap (λ (b : Bool). from_bool (not b)) (eqb-swap y x)
  swapped Ltu w x y h = absurd (false≢true h)
  swapped Leu w x y h = absurd (false≢true h)
  swapped Lts w x y h = absurd (false≢true h)
  swapped Les w x y h = absurd (false≢true h)

  -- the operation on the operands the other way round
  swap_law : (op : Op2) (a b : ℕ) → IsOfWidth ws a (op2_in op) → IsOfWidth ws b (op2_in op) → value_at vs a < 2 ^ op2_in op → value_at vs b < 2 ^ op2_in op → commutes (kind_of op) ≡ true
      → IsStep arrays ws vs (op2_out op) (op2_result op (value_at vs a) (value_at vs b)) (Two op b a)
  swap_law op a b ha hb la lb h =
      let x = value_at vs a in
      let y = value_at vs b in
      let w = bits (word_of (op2_in op)) in
      record {
        pure = tt;
        fits = (hb, ha);
        width = refl;
        value = result-below op y x lb la ∙ swapped (kind_of op) w x y h ∙ sym (result-below op x y la lb);
      }

  -- a change by kind and word is one of the operation
  of_kind : (op : Op2) (x y z : ℕ) (c : Change) → x < 2 ^ op2_in op → y < 2 ^ op2_in op → z ≡ op2_result op x y
      → IsChange arrays ws vs (width_out (kind_of op) (bits (word_of (op2_in op)))) (kind_on (kind_of op) (bits (word_of (op2_in op))) x y) c
      → IsChange arrays ws vs (op2_out op) z c
  of_kind op x y z c lx ly e h =
      let k = kind_on (kind_of op) (bits (word_of (op2_in op))) x y in
      let first : IsChange arrays ws vs (op2_out op) k c = subst (λ (u : ℕ). IsChange arrays ws vs u k c) (sym (result-out op)) h in
      subst (λ (v : ℕ). IsChange arrays ws vs (op2_out op) v c) (sym (e ∙ result-below op x y lx ly)) first

  pub operand : (op : Op2) (a : ℕ) → IsOfWidth ws a (op2_in op) → value_at vs a < 2 ^ op2_in op → IsOperand ws vs (word_of (op2_in op)) a
  operand op a h l = record {
    width = subst (λ (u : ℕ). IsOfWidth ws a u) (in-word op) h;
    below = subst (λ (u : ℕ). value_at vs a < 2 ^ u) (in-word op) l;
  }

  none_law : (op : Op2) (a b : ℕ) → AreOperands ws vs op a b → IsChange arrays ws vs (op2_out op) (op2_result op (value_at vs a) (value_at vs b)) (by_none op a b)
  unfolding by_none
  none_law op a b r =
      let x = value_at vs a in
      let y = value_at vs b in
      let z = op2_result op x y in
      let k = kind_of op in
      let w = word_of (op2_in op) in
      given (op2_out op) z (eqb a b) (of_equal k w a) (cond (commutes k && ltb b a) (Becomes (Two op b a)) Stays)
      (λ e. let same : y ≡ x = ap (value_at vs) (sym (eqb-true a b e)) in
      of_kind op x x z (of_equal k w a) r.first_below r.first_below (ap (op2_result op x) same) (equal_law k w a (operand op a r.first r.first_below)))
      (λ n. given (op2_out op) z (commutes k && ltb b a) (Becomes (Two op b a)) Stays
      (λ e. swap_law op a b r.first r.second r.first_below r.second_below (and_parts (commutes k) (ltb b a) e).0) (λ e. tt))

  -- ---- by which operands are constants

  -- what is known of the operands where they may be constants
  pub two_law : (op : Op2) (m a b : ℕ) (x y : Option ℕ) (t : Bool) → length ws ≡ length vs → m ≡ length ws → AreOperands ws vs op a b
      → ((c : ℕ) → x ≡ Some c → IsConstant vs a (op2_in op) c) → ((c : ℕ) → y ≡ Some c → IsConstant vs b (op2_in op) c) → (t ≡ true → IsBit ws vs a)
      → IsChange arrays ws vs (op2_out op) (op2_result op (value_at vs a) (value_at vs b)) (by_constants op m a b x y t)
  unfolding by_constants
  two_law op m a b (Some x) (Some y) t long next r left right test =
      let p = left x refl in
      let q = right y refl in
      number (op2_out op) (op2_result op x y) (op2_result op (value_at vs a) (value_at vs b)) (op2-width op) (below_width2 op x y) (λ i. op2_result op (sym p.value i) (sym q.value i))
  two_law op m a b (Some x) None t long next r left right test =
      let p = left x refl in
      let v = value_at vs b in
      let z = op2_result op (value_at vs a) v in
      let k = kind_of op in
      let w = word_of (op2_in op) in
      given (op2_out op) z (commutes k) (Becomes (Two op b a)) (by_left k w b x)
      (λ e. swap_law op a b r.first r.second r.first_below r.second_below e)
      (λ e. of_kind op x v z (by_left k w b x) p.small r.second_below (ap (λ (u : ℕ). op2_result op u v) p.value) (left_law k w b x (operand op b r.second r.second_below)))
  two_law op m a b None (Some y) t long next r left right test =
      let q = right y refl in
      let v = value_at vs a in
      let k = kind_of op in
      let w = word_of (op2_in op) in
      let o : OnRight ws vs w m a b y t = record {
        long = long;
        next = next;
        left = operand op a r.first r.first_below;
        right = subst (λ (u : ℕ). IsOfWidth ws b u) (in-word op) r.second;
        is = q.value;
        small = subst (λ (u : ℕ). y < 2 ^ u) (in-word op) q.small;
        test = test;
      } in
      of_kind op v y (op2_result op v (value_at vs b)) (by_right k w m a b y t) r.first_below q.small (ap (op2_result op v) q.value) (right_law w m a b y t o k)
  two_law op m a b None None t long next r left right test = none_law op a b r
