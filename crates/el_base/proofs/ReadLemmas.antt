-- A number that was written is read as itself.
use Rattle.std.proofs.Common.{◌≡◌, ℕ, ℤ, pos, negsuc, zero, suc, ◌+◌, ◌^◌, ◌<◌, ◌≤◌, true, false, List, [], ◌∷◌, ◌++◌, length, get_or, drop, Some, refl, ap, ◌∙◌, arith, append_assoc, decimal, unsigned_abs}
use Rattle.std.proofs.Math.Seq.{drop-append_seam}
use Rattle.std.proofs.lemmas.Bool.{ne_eqb}
use Rattle.std.proofs.lemmas.Fmt.{decimal_is_IsNumeral, decimal_digit, first_decimal}
use Rattle.std.proofs.lemmas.Str.Parse.{digit_at}
use Rattle.std.specs.Fmt.{signed_decimal}
use Rattle.std.specs.Str.Parse.{starts_with_minus}
use Rattle.el_base.specs.Digits.{ReadsBack, digits_at_front, is_canonical, leading_digits, minus_len, number_of}
use Rattle.el_base.proofs.DigitLemmas.{all_digits_count, leading_digits-append, number_of_is}

-- decimals have no leading zero, and a minus stands before none that is zero
canonical_plain : (n : ℕ) → n < 2 ^ 64 → is_canonical false (decimal n) ≡ true
canonical_plain zero h = ap (is_canonical false) (decimal_digit 0 (omega arith))
canonical_plain (suc n) h = rw (ne_eqb (get_or (decimal (suc n)) 0 0) 48 (λ e. omega (arith, first_decimal (suc n) (omega arith) h))) refl

canonical_minus : (n : ℕ) → 0 < n → n < 2 ^ 64 → is_canonical true (decimal n) ≡ true
canonical_minus n some h = rw (ne_eqb (get_or (decimal n) 0 0) 48 (λ e. omega (arith, first_decimal n some h))) refl

-- digits are no minus
no_minus : (ds after : List ℕ) → 0 < length ds → 48 ≤ get_or ds 0 0 → starts_with_minus (ds ++ after) ≡ false
no_minus [] after some low = absurd (omega arith)
no_minus (d ∷ ds) after some low = ne_eqb d 45 (λ e. omega arith)

-- a whole decimal, read at place `at` of a text that goes on with it
reads_plain : (n at : ℕ) (after : List ℕ) → n < 2 ^ 64 → leading_digits after ≡ [] →
    number_of (starts_with_minus (decimal n ++ after)) (digits_at_front (decimal n ++ after)) at ≡ Some (record { value = pos n; end = at + length (decimal n); canonical = true })
reads_plain n at after small none =
    let numeral = decimal_is_IsNumeral n small in
    let plain : starts_with_minus (decimal n ++ after) ≡ false = no_minus (decimal n) after numeral.0.0 (digit_at (decimal n) 0 numeral.0.1 numeral.0.0).0 in
    let front : leading_digits (decimal n ++ after) ≡ decimal n = leading_digits-append (decimal n) after (all_digits_count (decimal n) numeral.0.1) none in
    ap (λ b. number_of b (leading_digits (drop (minus_len b) (decimal n ++ after))) at) plain
    ∙ ap (λ l. number_of false l at) front
    ∙ number_of_is false (decimal n) at n numeral.0.0 numeral.1 small (canonical_plain n small)
    ∙ ap (λ k. Some (record { value = pos n; end = k + length (decimal n); canonical = true })) (omega arith)

reads_minus : (n at : ℕ) (after : List ℕ) → suc n < 2 ^ 64 → leading_digits after ≡ [] →
    number_of true (leading_digits (decimal (suc n) ++ after)) at ≡ Some (record { value = negsuc n; end = at + suc (length (decimal (suc n))); canonical = true })
reads_minus n at after small none =
    let numeral = decimal_is_IsNumeral (suc n) small in
    let front : leading_digits (decimal (suc n) ++ after) ≡ decimal (suc n) = leading_digits-append (decimal (suc n)) after (all_digits_count (decimal (suc n)) numeral.0.1) none in
    ap (λ l. number_of true l at) front
    ∙ number_of_is true (decimal (suc n)) at (suc n) numeral.0.0 numeral.1 small (canonical_minus (suc n) (omega arith) small)
    ∙ ap (λ k. Some (record { value = negsuc n; end = k; canonical = true })) (omega arith)

reads_here : (z : ℤ) (at : ℕ) (after : List ℕ) → unsigned_abs z < 2 ^ 64 → leading_digits after ≡ [] →
    number_of (starts_with_minus (signed_decimal z ++ after)) (digits_at_front (signed_decimal z ++ after)) at ≡ Some (record { value = z; end = at + length (signed_decimal z); canonical = true })
reads_here (pos n) at after small none = reads_plain n at after small none
reads_here (negsuc n) at after small none = reads_minus n at after small none

pub reads_back : (z : ℤ) → ReadsBack z
reads_back z before after small none =
    ap (λ l. number_of (starts_with_minus l) (digits_at_front l) (length before))
    (ap (drop (length before)) (append_assoc before (signed_decimal z) after) ∙ drop-append_seam before (signed_decimal z ++ after))
    ∙ reads_here z (length before) after small none
