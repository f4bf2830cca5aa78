-- Numbers of 64 bits, as the code computes with them, and their residues modulo 2 ^ w, for w up to 64.
use Rattle.std.proofs.Common.{◌≡◌, ℕ, suc, ◌+◌, ◌-◌, ◌*◌, ◌/◌, ◌%◌, ◌^◌, ◌<◌, ◌≤◌, Bool, true, false, ltb, refl, sym, ◌∙◌, ap, arith}
use Rattle.std.specs.Prelude.{ℤ, pos, negsuc, ◌+ℤ◌, ◌-ℤ◌, bit_and, int_div, FitsSigned}
use Rattle.std.specs.Int.{w64, cast_unsigned, cast_signed}
use Rattle.std.proofs.lemmas.Bool.{cond_above}
use Rattle.std.proofs.lemmas.Nat.{pow_pos, pow-add, and_mask, mod_low, one_shl}
use Rattle.std.proofs.lemmas.Nat.Bits.{ones_shr}
use Rattle.std.proofs.Math.Nat.{add-mul, div-le_self}
use Rattle.std.proofs.Math.Pow.{pow_mono}
use borrow.Author.Differences.{up, down, same_in, sum_is_lem, neg_is}
use borrow.Author.Tests.{ltb-true}
use mir.Val.{sel}
use Rattle.el_base.specs.Numbers.{residue, signed_number}
use Rattle.word_ops.specs.Operations.{flipped_of}
use Rattle.word_ops.proofs.Residues.{same_narrower, residue-narrower}

-- the lowest w bits
pub masked : (w a : ℕ) → w ≤ 64 → bit_and a ((2 ^ 64 - 1) / 2 ^ (64 - w)) ≡ a % 2 ^ w
masked w a h =
    let width : 64 - (64 - w) ≡ w = omega arith in
    ap (bit_and a) (ones_shr 64 (64 - w) (omega arith) ∙ ap (λ k. 2 ^ k - 1) width) ∙ and_mask a w

split : (w : ℕ) → w ≤ 64 → 2 ^ (64 - w) * 2 ^ w ≡ 2 ^ 64
split w h =
    let width : (64 - w) + w ≡ 64 = omega arith in
    sym (pow-add 2 (64 - w) w) ∙ ap (λ k. 2 ^ k) width

-- x and y differ by a multiple of 2 ^ 64
same_below : (w : ℕ) (x y : ℤ) (j k : ℕ) → w ≤ 64 → x +ℤ pos (j * 2 ^ 64) ≡ y +ℤ pos (k * 2 ^ 64) → residue w x ≡ residue w y
same_below w x y j k h e = same_narrower w 64 x y j k h e

pub word-residue : (w : ℕ) (z : ℤ) → w ≤ 64 → residue 64 z % 2 ^ w ≡ residue w z
word-residue w z h = residue-narrower w 64 z h

-- what `wrapping_sub` gives
pub word-difference : (w a b : ℕ) → w ≤ 64 → b < 2 ^ 64 → (a + (2 ^ 64 - b)) % 2 ^ 64 % 2 ^ w ≡ residue w (pos a -ℤ pos b)
word-difference w a b h p =
    word-residue w (pos (a + (2 ^ 64 - b))) h ∙ same_below w (pos (a + (2 ^ 64 - b))) (pos a -ℤ pos b) 0 1 h (omega (arith, same_in, sum_is_lem, neg_is))

-- what `!` gives: all ones above the width, and the flipped bits below
flip_parts : (q m a : ℕ) → a < m → (q + 1) * m - 1 - a ≡ q * m + (m - 1 - a)
flip_parts q m a p = let e : (q + 1) * m ≡ q * m + 1 * m = add-mul q 1 m in omega arith

pub word-flipped : (w a : ℕ) → w ≤ 64 → a < 2 ^ w → (2 ^ 64 - 1 - a) % 2 ^ w ≡ flipped_of w a
word-flipped w a h p =
    let q = 2 ^ (64 - w) - 1 in
    let more : q + 1 ≡ 2 ^ (64 - w) = omega (arith, pow_pos (64 - w)) in
    let whole : (q + 1) * 2 ^ w ≡ 2 ^ 64 = ap (λ n. n * 2 ^ w) more ∙ split w h in
    let parts : 2 ^ 64 - 1 - a ≡ q * 2 ^ w + (2 ^ w - 1 - a) = ap (λ n. n - 1 - a) (sym whole) ∙ flip_parts q (2 ^ w) a p in
    ap (λ n. n % 2 ^ w) parts ∙ mod_low q w (2 ^ w - 1 - a) (omega arith)

-- the bits of a signed number
pub word-bits : (w : ℕ) (z : ℤ) → w ≤ 64 → down z ≤ 2 ^ 64 → cast_unsigned w64 z % 2 ^ w ≡ residue w z
word-bits w (pos n) h p = refl
word-bits w (negsuc n) h p = same_below w (pos (2 ^ 64 - suc n)) (negsuc n) 0 1 h (omega (arith, same_in, sum_is_lem))

-- the signed number of bits
pub word-read : (w n : ℕ) → w ≤ 64 → n < 2 ^ 64 → residue w (cast_signed w64 n) ≡ n % 2 ^ w
word-read w n h p = by (ltb n (2 ^ 63))
  where
    by : (t : Bool) → residue w (sel t (pos n) (negsuc (2 ^ 64 - suc n))) ≡ n % 2 ^ w
    by true = refl
    by false = same_below w (negsuc (2 ^ 64 - suc n)) (pos n) 1 0 h (omega (arith, same_in, sum_is_lem))

pub word-round : (w : ℕ) (z : ℤ) → w ≤ 64 → up z < 2 ^ 64 → down z ≤ 2 ^ 64 → residue w (cast_signed w64 (cast_unsigned w64 z)) ≡ residue w z
word-round w (pos n) h p q = word-read w n h p
word-round w (negsuc n) h p q = word-read w (2 ^ 64 - suc n) h (omega arith) ∙ word-bits w (negsuc n) h q

-- ---- a pattern with its sign bit set

pub half_twice : (w : ℕ) → 0 < w → 2 ^ (w - 1) + 2 ^ (w - 1) ≡ 2 ^ w
half_twice w h =
    let width : (w - 1) + 1 ≡ w = omega arith in
    let twice : 2 ^ ((w - 1) + 1) ≡ 2 ^ (w - 1) * 2 = pow-add 2 (w - 1) 1 in
    let same : 2 ^ ((w - 1) + 1) ≡ 2 ^ w = ap (λ k. 2 ^ k) width in
    omega arith

sel-high : (n : ℕ) → 2 ^ 63 ≤ n → cast_signed w64 n ≡ negsuc (2 ^ 64 - suc n)
sel-high n h = by (ltb n (2 ^ 63)) refl
  where
    by : (t : Bool) → ltb n (2 ^ 63) ≡ t → sel t (pos n) (negsuc (2 ^ 64 - suc n)) ≡ negsuc (2 ^ 64 - suc n)
    by true e = absurd (omega (arith, ltb-true n (2 ^ 63) e))
    by false e = refl

-- `a` less the half twice
high_twice : (a h : ℕ) → 0 < h → h ≤ 2 ^ 63 → h ≤ a → a < h + h → cast_signed w64 (((a + (2 ^ 64 - h)) % 2 ^ 64 + (2 ^ 64 - h)) % 2 ^ 64) ≡ pos a -ℤ pos (h + h)
high_twice a h some most le lt =
    let once : (a + (2 ^ 64 - h)) % 2 ^ 64 ≡ a - h = omega arith in
    let twice : ((a + (2 ^ 64 - h)) % 2 ^ 64 + (2 ^ 64 - h)) % 2 ^ 64 ≡ 2 ^ 64 - (h + h - a) = omega arith in
    ap (cast_signed w64) twice ∙ sel-high (2 ^ 64 - (h + h - a)) (omega arith) ∙ omega (arith, same_in, sum_is_lem, neg_is)

pub read_high : (w a h : ℕ) → 0 < w → w ≤ 64 → a < 2 ^ w → h ≡ 1 * 2 ^ (w - 1) % 2 ^ 64 → h ≤ a → cast_signed w64 (((a + (2 ^ 64 - h)) % 2 ^ 64 + (2 ^ 64 - h)) % 2 ^ 64) ≡ signed_number w a
read_high w a h some most lt e le =
    let is : h ≡ 2 ^ (w - 1) = e ∙ one_shl (w - 1) 64 (omega arith) in
    let twice = half_twice w some in
    let top : 2 ^ (w - 1) ≤ 2 ^ 63 = pow_mono {i = w - 1} {j = 63} (omega arith) in
    let width : h + h ≡ 2 ^ w = omega arith in
    cond_above a (2 ^ (w - 1)) (pos a) (pos a -ℤ pos (2 ^ w)) _ (omega arith) (high_twice a h (omega (arith, pow_pos (w - 1))) (omega arith) le (omega arith) ∙ ap (λ n. pos a -ℤ pos n) width)

-- ---- quotients

quotient_size : (x y : ℤ) → (up (int_div x y) ≤ up x + down x) × (down (int_div x y) ≤ up x + down x)
quotient_size (pos a) (pos b) = omega (arith, div-le_self a b)
quotient_size (pos a) (negsuc b) = omega (arith, neg_is, div-le_self a (suc b))
quotient_size (negsuc a) (pos b) = omega (arith, neg_is, div-le_self (suc a) b)
quotient_size (negsuc a) (negsuc b) = omega (arith, div-le_self (suc a) (suc b))

size : (x : ℤ) → FitsSigned w64 x → up x + down x ≤ 2 ^ 63
size (pos n) f = omega (arith, f.sfits)
size (negsuc n) f = omega (arith, f.sfits)

-- what `wrapping_div` gives
pub word-quotient : (w : ℕ) (x y : ℤ) → w ≤ 64 → FitsSigned w64 x → residue w (cast_signed w64 (cast_unsigned w64 (int_div x y))) ≡ residue w (int_div x y)
word-quotient w x y h f = let most = size x f in let q = quotient_size x y in word-round w (int_div x y) h (omega (arith, q.0)) (omega (arith, q.1))
