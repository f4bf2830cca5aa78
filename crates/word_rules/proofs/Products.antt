-- Quotients of patterns by products with magic numbers.
use Rattle.std.proofs.Common.{◌≡◌, ℕ, suc, ◌+◌, ◌-◌, ◌*◌, ◌/◌, ◌%◌, ◌^◌, ◌<◌, ◌≤◌, true, lit<, lit≤, sym, ◌∙◌, ap, arith}
use Rattle.std.specs.Prelude.{ℤ, pos, negsuc, ◌-ℤ◌, ◌*ℤ◌, int_div}
use Rattle.std.specs.Int.{int_shr}
use Rattle.std.proofs.lemmas.Int.{ints}
use Rattle.std.proofs.lemmas.Nat.{mul-le, shr-shr}
use Rattle.std.proofs.Math.Nat.{mul_comm, div-le_self, div-eq_of_lt, mul-le-mul_left}
use borrow.Author.Differences.{same_in, sum_is_lem, neg_is}
use Rattle.el_base.specs.declared.operation.Op1.TheVariants.{S32to64, U32to64, Cut64to32}
use Rattle.el_base.specs.declared.operation.Op2.TheVariants.{Add64, Sub32, Mul64, Shru64, Shrs32, Shrs64, Divu32, Divu64, Divs32}
use Rattle.el_base.specs.Numbers.{residue, signed_number, IsWithin}
use Rattle.word_ops.specs.Operations.{op1_on, op2_on, op1_result, op2_result}
use Rattle.word_ops.proofs.ByOperation as by
use Rattle.word_rules.specs.Magic.{IsMagic, IsSignedMagic, FitsWord}
use Rattle.word_rules.specs.Quotients.{shifted_product32, shifted_product64, shifted_signed_product, DividesByProduct, DividesByLongProduct, DividesBySignedProduct}
use Rattle.word_rules.proofs.Numbers.{products_are_quotients, products_are_below_quotients}
use Rattle.word_rules.proofs.Patterns.{kept, sum_small, product_small, right_shift_small, quotient_small, residue_signed, signed_within}

-- ---- what the operations give on small operands

add64_small : (a b : ℕ) → a + b < 2 ^ 64 → op2_result Add64 a b ≡ a + b
unfolding op2_result op2_on
add64_small = sum_small 64

mul64_small : (a b : ℕ) → a * b < 2 ^ 64 → op2_result Mul64 a b ≡ a * b
unfolding op2_result op2_on
mul64_small = product_small 64

shru64_small : (a k : ℕ) → a < 2 ^ 64 → k < 64 → op2_result Shru64 a k ≡ a / 2 ^ k
unfolding op2_result op2_on
shru64_small a k = right_shift_small 64 a k (lit≤ tt)

divu32_small : (a b : ℕ) → a < 2 ^ 32 → 0 < b → b < 2 ^ 32 → op2_result Divu32 a b ≡ a / b
unfolding op2_result op2_on
divu32_small = quotient_small 32

divu64_small : (a b : ℕ) → a < 2 ^ 64 → 0 < b → b < 2 ^ 64 → op2_result Divu64 a b ≡ a / b
unfolding op2_result op2_on
divu64_small = quotient_small 64

u32to64_small : (a : ℕ) → a < 2 ^ 32 → op1_result U32to64 a ≡ a
unfolding op1_result op1_on
u32to64_small = kept 32

cut64to32_small : (a : ℕ) → a < 2 ^ 32 → op1_result Cut64to32 a ≡ a
unfolding op1_result op1_on
cut64to32_small a h = ap (λ n. n % 2 ^ 32) (kept 64 a (omega arith)) ∙ kept 32 a h

-- ---- unsigned quotients

-- a magic number for numbers up to top is one for n
magic_for : (top d s m n : ℕ) → n ≤ top → IsMagic top d s m → IsMagic n d s m
magic_for top d s m n le h = record { above = h.above; close = let k = mul-le-mul_left (m * d - 2 ^ s) le in omega (arith, h.close) }

module _ (top d s m n : ℕ) (some : 0 < d) (le : n ≤ top) (magic : IsMagic top d s m) where
  divided : n * m / 2 ^ s ≡ n / d
  divided = ap (λ k. k / 2 ^ s) (mul_comm n m) ∙ products_are_quotients n d s m some (magic_for top d s m n le magic)

  product_shifted : FitsWord top s m → shifted_product64 n m s ≡ n / d
  product_shifted f =
      let most : n * m < 2 ^ 64 = let k = mul-le-mul_left m le in omega (arith, f.product) in
      ap (λ a. op2_result Shru64 a s) (mul64_small n m most) ∙ shru64_small (n * m) s most f.amount ∙ divided

pub divides_by_product64 : DividesByProduct 64 Divu64 shifted_product64
divides_by_product64 top d s m n some ld ln le magic f = product_shifted top d s m n some le magic f ∙ sym (divu64_small n d ln some ld)

pub divides_by_product32 : DividesByProduct 32 Divu32 shifted_product32
divides_by_product32 top d s m n some ld ln le magic f =
    ap (λ a. op1_result Cut64to32 (shifted_product64 a m s)) (u32to64_small n ln)
    ∙ ap (op1_result Cut64to32) (product_shifted top d s m n some le magic f)
    ∙ cut64to32_small (n / d) (omega (arith, div-le_self n d)) ∙ sym (divu32_small n d ln some ld)

-- a quotient by 2 ^ 32 of the product with 2 ^ 32 + m
long_product : (n m t : ℕ) → (n * m / 2 ^ 32 + n) / 2 ^ t ≡ n * (2 ^ 32 + m) / 2 ^ (32 + t)
long_product n m t =
    let e : n * m / 2 ^ 32 + n ≡ n * (2 ^ 32 + m) / 2 ^ 32 = omega arith in
    ap (λ a. a / 2 ^ t) e ∙ shr-shr (n * (2 ^ 32 + m)) 32 t

pub divides_by_long_product : DividesByLongProduct
divides_by_long_product top d t m n some ld ln le magic lm lt =
    let most : n * m ≤ (2 ^ 32 - 1) * (2 ^ 32 - 1) = mul-le n m (2 ^ 32 - 1) (2 ^ 32 - 1) (omega arith) (omega arith) in
    let high = n * m / 2 ^ 32 in
    let first : op2_result Shru64 (op2_result Mul64 n m) 32 ≡ high = ap (λ a. op2_result Shru64 a 32) (mul64_small n m (omega arith)) ∙ shru64_small (n * m) 32 (omega arith) (lit< tt) in
    let sum : op2_result Add64 (op2_result Shru64 (op2_result Mul64 n m) 32) n ≡ high + n = ap (λ a. op2_result Add64 a n) first ∙ add64_small high n (omega arith) in
    ap (λ x. op1_result Cut64to32 (op2_result Shru64 (op2_result Add64 (op2_result Shru64 (op2_result Mul64 x m) 32) x) t)) (u32to64_small n ln)
    ∙ ap (λ a. op1_result Cut64to32 (op2_result Shru64 a t)) sum
    ∙ ap (op1_result Cut64to32) (shru64_small (high + n) t (omega arith) lt ∙ long_product n m t ∙ divided top d (32 + t) (2 ^ 32 + m) n some le magic)
    ∙ cut64to32_small (n / d) (omega (arith, div-le_self n d)) ∙ sym (divu32_small n d ln some ld)

-- ---- signed quotients

-- the product of a number of 32 bits with one below 2 ^ 32 is a number of 64 bits
product_within : (x : ℤ) (m : ℕ) → IsWithin true 32 x → m < 2 ^ 32 → IsWithin true 64 (x *ℤ pos m)
product_within (pos a) m r l =
    let k : a * m ≤ (2 ^ 31 - 1) * (2 ^ 32 - 1) = mul-le a m (2 ^ 31 - 1) (2 ^ 32 - 1) (omega (arith, ints, r.below)) (omega arith) in
    record { above = omega (arith, ints); below = omega (arith, ints) }
product_within (negsuc a) m r l =
    let k : suc a * m ≤ 2 ^ 31 * (2 ^ 32 - 1) = mul-le (suc a) m (2 ^ 31) (2 ^ 32 - 1) (omega (arith, ints, r.above)) (omega arith) in
    record { above = omega (arith, ints); below = omega (arith, ints) }

-- a number of 32 bits is of no greater size than 2 ^ 31
module _ (d s m a : ℕ) (some : 0 < d) (magic : IsSignedMagic d s m) (le : a ≤ 2 ^ 31) where
  signed_magic_for : IsMagic a d s m
  signed_magic_for = magic_for (2 ^ 31) d s m a le (record { above = omega (arith, magic.above); close = magic.close })

signed_quotient : (x : ℤ) (d s m : ℕ) → 0 < d → IsSignedMagic d s m → IsWithin true 32 x → int_shr (x *ℤ pos m) s -ℤ int_shr x 31 ≡ int_div x (pos d)
signed_quotient (pos a) d s m some magic r =
    let lt : a < 2 ^ 31 = omega (arith, ints, r.below) in
    let q : m * a / 2 ^ s ≡ a / d = products_are_quotients a d s m some (signed_magic_for d s m a some magic (omega arith)) in
    let none : a / 2 ^ 31 ≡ 0 = div-eq_of_lt lt in
    let turned : a * m / 2 ^ s ≡ a / d = ap (λ k. k / 2 ^ s) (mul_comm a m) ∙ q in
    (λ i. pos (turned i) -ℤ pos (none i)) ∙ same_in (pos (a / d) -ℤ pos 0) (pos (a / d)) (omega (arith, sum_is_lem, neg_is))
signed_quotient (negsuc a) d s m some magic r =
    let le : suc a ≤ 2 ^ 31 = omega (arith, ints, r.above) in
    let q = products_are_below_quotients (negsuc a) d s m some (omega (arith, ints)) magic.above (signed_magic_for d s m (suc a) some magic le) in
    let none : a / 2 ^ 31 ≡ 0 = div-eq_of_lt (omega arith) in
    let z = int_div (negsuc a) (pos d) in
    (λ i. q i -ℤ negsuc (none i)) ∙ same_in ((z -ℤ pos 1) -ℤ negsuc 0) z (omega (arith, sum_is_lem, neg_is))

-- what the operations give of the pattern of x
signed_product : (x : ℤ) (m s : ℕ) → IsWithin true 32 x → m < 2 ^ 32 → s < 64 → shifted_signed_product (residue 32 x) m s ≡ residue 32 (int_shr (x *ℤ pos m) s -ℤ int_shr x 31)
signed_product x m s r lm ls =
    let z = x *ℤ pos m in
    let factor : residue 64 (pos m) ≡ m = kept 64 m (omega arith) in
    let amount : residue 64 (pos s) ≡ s = kept 64 s (omega arith) in
    let product : op2_result Mul64 (op1_result S32to64 (residue 32 x)) m ≡ residue 64 z = (λ i. op2_result Mul64 (by.s32to64 x r i) (sym factor i)) ∙ by.mul64 x (pos m) in
    let shifted : op2_result Shrs64 (op2_result Mul64 (op1_result S32to64 (residue 32 x)) m) s ≡ residue 64 (int_shr z s) = (λ i. op2_result Shrs64 (product i) (sym amount i)) ∙ by.shrs64 z s (product_within x m r lm) ls in
    let floor : op1_result Cut64to32 (op2_result Shrs64 (op2_result Mul64 (op1_result S32to64 (residue 32 x)) m) s) ≡ residue 32 (int_shr z s) = ap (op1_result Cut64to32) shifted ∙ by.cut64to32 (int_shr z s) in
    let sign : op2_result Shrs32 (residue 32 x) 31 ≡ residue 32 (int_shr x 31) = by.shrs32 x 31 r (lit< tt) in
    (λ i. op2_result Sub32 (floor i) (sign i)) ∙ by.sub32 (int_shr z s) (int_shr x 31)

pub divides_by_signed_product : DividesBySignedProduct
divides_by_signed_product d s m n some ld ln magic lm ls =
    let x = signed_number 32 n in
    let r = signed_within 32 n (lit< tt) ln in
    let back = residue_signed 32 n (lit< tt) ln in
    let divisor : residue 32 (pos d) ≡ d = kept 32 d (omega arith) in
    let in_range : IsWithin true 32 (pos d) = record { above = omega (arith, ints); below = omega (arith, ints) } in
    ap (λ k. shifted_signed_product k m s) (sym back) ∙ signed_product x m s r lm ls ∙ ap (residue 32) (signed_quotient x d s m some magic r)
    ∙ sym (by.divs32 x (pos d) r in_range (λ e. omega (arith, ints))) ∙ (λ i. op2_result Divs32 (back i) (divisor i))
