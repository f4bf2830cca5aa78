-- Numbers in the range of a signed or unsigned type of w bits, and their patterns.
use Rattle.std.proofs.Common.{◌≡◌, ℕ, ◌-◌, ◌%◌, ◌^◌, ◌<◌, Bool, true, false, sym, ◌∙◌, ap, arith}
use Rattle.std.specs.Prelude.{ℤ, pos, negsuc, ◌-ℤ◌}
use Rattle.std.proofs.lemmas.Bool.{cond_above, cond_below}
use Rattle.std.proofs.lemmas.Int.{ints}
use Rattle.std.proofs.lemmas.Nat.{pow_pos}
use Rattle.std.proofs.Math.Nat.{mod-eq_of_lt}
use borrow.Author.Differences.{same_in, sum_is_lem, neg_is}
use Rattle.el_base.specs.Numbers.{residue, signed_number, number_in, IsWithin}
use Rattle.word_ops.proofs.Words.{half_twice}

-- the number of the pattern of a number in range is that number
signed_back : (w : ℕ) (x : ℤ) → 0 < w → IsWithin true w x → signed_number w (residue w x) ≡ x
signed_back w (pos n) some r =
    let lt : n < 2 ^ (w - 1) = omega (arith, ints, r.below) in
    let t = half_twice w some in
    let small : n % 2 ^ w ≡ n = mod-eq_of_lt (omega arith) in
    ap (signed_number w) small ∙ sym (cond_below n (2 ^ (w - 1)) (pos n) (pos n -ℤ pos (2 ^ w)) lt)
signed_back w (negsuc n) some r =
    let lt : n < 2 ^ (w - 1) = omega (arith, ints, r.above) in
    let t = half_twice w some in
    let small : n % 2 ^ w ≡ n = mod-eq_of_lt (omega arith) in
    let p = 2 ^ w - 1 - n in
    let is : residue w (negsuc n) ≡ p = ap (λ k. 2 ^ w - 1 - k) small in
    ap (signed_number w) is ∙ sym (cond_above p (2 ^ (w - 1)) (pos p) (pos p -ℤ pos (2 ^ w)) (negsuc n) (omega arith) (omega (arith, same_in, sum_is_lem, neg_is)))

unsigned_back : (w : ℕ) (x : ℤ) → IsWithin false w x → pos (residue w x) ≡ x
unsigned_back w (pos n) r = let lt : n < 2 ^ w = omega (arith, ints, r.below, pow_pos w) in ap pos (mod-eq_of_lt lt)
unsigned_back w (negsuc n) r = absurd r.above.le

pub number-residue : (s : Bool) (w : ℕ) (x : ℤ) → 0 < w → IsWithin s w x → number_in s w (residue w x) ≡ x
number-residue true w x some r = signed_back w x some r
number-residue false w x some r = unsigned_back w x r

-- numbers in range with one pattern are equal
pub same_from_residue : (s : Bool) (w : ℕ) (x y : ℤ) → 0 < w → IsWithin s w x → IsWithin s w y → residue w x ≡ residue w y → x ≡ y
same_from_residue s w x y some r t e = sym (number-residue s w x some r) ∙ ap (number_in s w) e ∙ number-residue s w y some t
