-- What operations give for equal operands and for one constant operand, whatever the other is.
use Rattle.std.proofs.Common.{◌≡◌, ℕ, suc, ◌+◌, ◌-◌, ◌*◌, ◌/◌, ◌%◌, ◌^◌, ◌<◌, Bool, true, false, refl, sym, ◌∙◌, ap, eqb, ltb, leb, inl, inr, arith}
use Rattle.std.specs.Prelude.{ℤ, pos, negsuc, ◌-ℤ◌, neg_ℤ, ◌==◌, nat_lt, not, int_lt, int_le, int_div, int_rem, bit_and, bit_or, bit_xor}
use Rattle.std.specs.Int.{from_bool, int_shr, bit_at, w32, w64}
use Rattle.std.proofs.lemmas.Bool.{cond_both, cond-false, cases_lt, cases_eq}
use Rattle.std.proofs.lemmas.Nat.{pow_pos, and_mask, or_lt, xor_lt}
use Rattle.std.proofs.lemmas.Nat.Bits.{bit_at_or, bit_at_xor, bit_at_not, bit_at_ones, bit_at-lt, same_from_bits_below}
use Rattle.std.proofs.Math.Nat.{mod-eq_of_lt, div-one}
use Rattle.std.proofs.Math.IntN.{+ℤ_idl}
use borrow.Author.Differences.{same_in, sum_is_lem, neg_is}
use borrow.Author.Tests.{eq-eqb, ne_eqb, lt-ltb, le-ltb, le-leb, lt-leb}
use Rattle.el_base.specs.Numbers.{residue, signed_number}
use Rattle.word_ops.specs.Operations.{sum_of, difference_of, product_of, negative_of, flipped_of, left_shift_of, right_shift_of, signed_shift_of, quotient_of, remainder_of, signed_quotient_of, signed_remainder_of}
use Rattle.word_ops.proofs.Residues.{same_residue}

kept : (w n x : ℕ) → n ≡ x → x < 2 ^ w → n % 2 ^ w ≡ x
kept w n x e h =
    let m : x % 2 ^ w ≡ x = mod-eq_of_lt h in
    ap (λ (k : ℕ). k % 2 ^ w) e ∙ m

zero_residue : (w : ℕ) → residue w (pos 0) ≡ 0
zero_residue w = mod-eq_of_lt (pow_pos w)

-- ---- sums, differences and products

pub sum-zero : (w x : ℕ) → x < 2 ^ w → sum_of w x 0 ≡ x
sum-zero w x h = kept w (x + 0) x (omega arith) h

pub difference-zero : (w x : ℕ) → x < 2 ^ w → difference_of w x 0 ≡ x
difference-zero w x h =
    let e : pos x -ℤ pos 0 ≡ pos x = omega (arith, same_in, sum_is_lem, neg_is) in
    ap (residue w) e ∙ kept w x x refl h

pub zero-difference : (w y : ℕ) → difference_of w 0 y ≡ negative_of w y
zero-difference w y = ap (residue w) (+ℤ_idl (neg_ℤ (pos y)))

pub difference-self : (w x : ℕ) → difference_of w x x ≡ 0
difference-self w x =
    let e : pos x -ℤ pos x ≡ pos 0 = omega (arith, same_in, sum_is_lem, neg_is) in
    ap (residue w) e ∙ zero_residue w

pub product-zero : (w x : ℕ) → product_of w x 0 ≡ 0
product-zero w x = kept w (x * 0) 0 (omega arith) (pow_pos w)

pub product-one : (w x : ℕ) → x < 2 ^ w → product_of w x 1 ≡ x
product-one w x h = kept w (x * 1) x (omega arith) h

pub product-power : (w x k : ℕ) → k < w → left_shift_of w x k ≡ product_of w x (2 ^ k)
product-power w x k h =
    let e : k % w ≡ k = mod-eq_of_lt h in
    ap (λ (j : ℕ). product_of w x (2 ^ j)) e

-- ---- bits

pub and-ones : (w x : ℕ) → x < 2 ^ w → bit_and x (2 ^ w - 1) ≡ x
and-ones w x h = and_mask x w ∙ kept w x x refl h

pub and-one : (b : Bool) → bit_and (from_bool b) 1 ≡ from_bool b
and-one true = refl
and-one false = refl

pub or-ones : (w x : ℕ) → x < 2 ^ w → bit_or x (2 ^ w - 1) ≡ 2 ^ w - 1
or-ones w x h =
    let m = 2 ^ w - 1 in
    let lt : m < 2 ^ w = omega (arith, pow_pos w) in
    same_from_bits_below w (bit_or x m) m (or_lt w x m h lt) lt (λ i g. omega (arith, bit_at_or x m i, bit_at-lt x i, bit_at_ones w i g))

xor_ones : (w x : ℕ) → ((i : ℕ) → i < w → bit_at (2 ^ w - 1 - x) i ≡ 1 - bit_at x i) → bit_xor x (2 ^ w - 1) < 2 ^ w → bit_xor x (2 ^ w - 1) ≡ flipped_of w x
xor_ones w x flips lt =
    let m = 2 ^ w - 1 in
    same_from_bits_below w (bit_xor x m) (m - x) lt (omega (arith, pow_pos w)) (λ i g. omega (arith, bit_at_xor x m i, bit_at-lt x i, bit_at_ones w i g, flips i g))

-- ---- shifts by 0 modulo the width

power_zero : (w y : ℕ) → y % w ≡ 0 → 2 ^ (y % w) ≡ 1
power_zero w y e = ap (λ (k : ℕ). 2 ^ k) e

pub left_shift-zero : (w x y : ℕ) → x < 2 ^ w → y % w ≡ 0 → left_shift_of w x y ≡ x
left_shift-zero w x y h e = ap (λ (p : ℕ). product_of w x p) (power_zero w y e) ∙ product-one w x h

pub right_shift-zero : (w x y : ℕ) → y % w ≡ 0 → right_shift_of w x y ≡ x
right_shift-zero w x y e = ap (λ (p : ℕ). x / p) (power_zero w y e) ∙ div-one x

shr_zero : (z : ℤ) → int_shr z 0 ≡ z
shr_zero (pos a) = ap pos (div-one a)
shr_zero (negsuc a) = ap negsuc (div-one a)

signed_back : (w x : ℕ) → x < 2 ^ w → residue w (signed_number w x) ≡ x
signed_back w x h =
    let small : x % 2 ^ w ≡ x = mod-eq_of_lt h in
    cond_both (nat_lt x (2 ^ (w - 1))) (pos x) (pos x -ℤ pos (2 ^ w)) (λ z. residue w z ≡ x) (λ e. small)
    (λ e. same_residue w (pos x -ℤ pos (2 ^ w)) (pos x) 1 0 (omega (arith, same_in, sum_is_lem, neg_is)) ∙ small)

pub signed_shift-zero : (w x y : ℕ) → x < 2 ^ w → y % w ≡ 0 → signed_shift_of w x y ≡ x
signed_shift-zero w x y h e = ap (λ (k : ℕ). residue w (int_shr (signed_number w x) k)) e ∙ ap (residue w) (shr_zero (signed_number w x)) ∙ signed_back w x h

-- ---- quotients and remainders

pub quotient-one : (x : ℕ) → quotient_of x 1 ≡ x
quotient-one x = div-one x

pub remainder-one : (x : ℕ) → remainder_of x 1 ≡ 0
remainder-one x = omega arith

div_one : (z : ℤ) → int_div z (pos 1) ≡ z
div_one (pos a) = ap pos (div-one a)
div_one (negsuc a) = ap (λ (n : ℕ). neg_ℤ (pos n)) (div-one (suc a))

rem_one : (z : ℤ) → int_rem z (pos 1) ≡ pos 0
rem_one (pos a) = let e : a % 1 ≡ 0 = omega arith in ap pos e
rem_one (negsuc a) = let e : suc a % 1 ≡ 0 = omega arith in ap (λ (n : ℕ). neg_ℤ (pos n)) e

pub signed_quotient-one : (w x : ℕ) → signed_number w 1 ≡ pos 1 → x < 2 ^ w → signed_quotient_of w x 1 ≡ x
signed_quotient-one w x e h = ap (λ (z : ℤ). residue w (int_div (signed_number w x) z)) e ∙ ap (residue w) (div_one (signed_number w x)) ∙ signed_back w x h

pub signed_remainder-one : (w x : ℕ) → signed_number w 1 ≡ pos 1 → signed_remainder_of w x 1 ≡ 0
signed_remainder-one w x e = ap (λ (z : ℤ). residue w (int_rem (signed_number w x) z)) e ∙ ap (residue w) (rem_one (signed_number w x)) ∙ zero_residue w

power_is_some : (k : ℕ) → eqb (2 ^ k) 0 ≡ false
power_is_some k = ne_eqb (2 ^ k) 0 (λ e. omega (arith, pow_pos k))

pub quotient-power : (w x k : ℕ) → k < w → right_shift_of w x k ≡ quotient_of x (2 ^ k)
quotient-power w x k h =
    let e : k % w ≡ k = mod-eq_of_lt h in
    ap (λ (j : ℕ). x / 2 ^ j) e ∙ sym (cond-false (eqb (2 ^ k) 0) 0 (x / 2 ^ k) (power_is_some k))

pub remainder-power : (x k : ℕ) → bit_and x (2 ^ k - 1) ≡ remainder_of x (2 ^ k)
remainder-power x k = and_mask x k ∙ sym (cond-false (eqb (2 ^ k) 0) 0 (x % 2 ^ k) (power_is_some k))

-- ---- comparisons

pub eqb-swap : (x y : ℕ) → eqb x y ≡ eqb y x
eqb-swap x y = elim (cases_eq x y) [
  | inl e ↦ eq-eqb x y e ∙ sym (eq-eqb y x (sym e))
  | inr n ↦ ne_eqb x y n ∙ sym (ne_eqb y x (λ e. n (sym e)))
]

pub eqb-self : (x : ℕ) → eqb x x ≡ true
eqb-self x = eq-eqb x x refl

pub ltb-self : (x : ℕ) → ltb x x ≡ false
ltb-self x = le-ltb x x (omega arith)

pub leb-self : (x : ℕ) → leb x x ≡ true
leb-self x = le-leb x x (omega arith)

pub int_lt-self : (z : ℤ) → int_lt z z ≡ false
int_lt-self (pos a) = ltb-self a
int_lt-self (negsuc a) = ltb-self a

pub int_le-self : (z : ℤ) → int_le z z ≡ true
int_le-self (pos a) = leb-self a
int_le-self (negsuc a) = leb-self a

pub not-ltb : (x y : ℕ) → not (ltb x y) ≡ leb y x
not-ltb x y = elim (cases_lt x y) [
  | inl h ↦ ap not (lt-ltb x y h) ∙ sym (lt-leb y x h)
  | inr h ↦ ap not (le-ltb x y h) ∙ sym (le-leb y x h)
]

pub not-leb : (x y : ℕ) → not (leb x y) ≡ ltb y x
not-leb x y = elim (cases_lt y x) [
  | inl h ↦ ap not (lt-leb x y h) ∙ sym (lt-ltb y x h)
  | inr h ↦ ap not (le-leb x y h) ∙ sym (le-ltb y x h)
]

pub not-int_lt : (x y : ℤ) → not (int_lt x y) ≡ int_le y x
not-int_lt (pos a) (pos b) = not-ltb a b
not-int_lt (pos a) (negsuc b) = refl
not-int_lt (negsuc a) (pos b) = refl
not-int_lt (negsuc a) (negsuc b) = not-ltb b a

pub not-int_le : (x y : ℤ) → not (int_le x y) ≡ int_lt y x
not-int_le (pos a) (pos b) = not-leb a b
not-int_le (pos a) (negsuc b) = refl
not-int_le (negsuc a) (pos b) = refl
not-int_le (negsuc a) (negsuc b) = not-leb b a

-- ---- a test's value, which is 0 or 1

pub bit-equal_one : (b : Bool) → from_bool (from_bool b == 1) ≡ from_bool b
bit-equal_one true = refl
bit-equal_one false = refl

pub bit-unequal_zero : (b : Bool) → from_bool (not (from_bool b == 0)) ≡ from_bool b
bit-unequal_zero true = refl
bit-unequal_zero false = refl

pub bit-unequal_one : (b : Bool) → from_bool (not (from_bool b == 1)) ≡ from_bool (from_bool b == 0)
bit-unequal_one true = refl
bit-unequal_one false = refl

pub bit-zero : (b : Bool) → (from_bool b == 0) ≡ not b
bit-zero true = refl
bit-zero false = refl

-- ---- by the two words

pub xor-ones32 : (x : ℕ) → x < 2 ^ 32 → bit_xor x (2 ^ 32 - 1) ≡ flipped_of 32 x
xor-ones32 x h = xor_ones 32 x (λ i g. bit_at_not w32 x i h g) (xor_lt 32 x (2 ^ 32 - 1) h (omega arith))

pub xor-ones64 : (x : ℕ) → x < 2 ^ 64 → bit_xor x (2 ^ 64 - 1) ≡ flipped_of 64 x
xor-ones64 x h = xor_ones 64 x (λ i g. bit_at_not w64 x i h g) (xor_lt 64 x (2 ^ 64 - 1) h (omega arith))
