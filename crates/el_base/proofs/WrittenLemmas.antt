-- A canonical number that was read stands in the text as it would be written.
use Rattle.std.proofs.Common.{◌≡◌, ℕ, pos, zero, suc, ◌+◌, ◌-◌, ◌^◌, ◌<◌, Bool, true, false, cond, not, ◌&&◌, ◌||◌, eqb, ltb, List, [], ◌∷◌, length, get_or, take, drop, Some, None, refl, sym, ap, subst, ◌∙◌, ⊎_elim, eq-eqb, neg_ℤ, arith, decimal, unsigned_abs}
use Rattle.std.proofs.lemmas.Bool.{cases_lt, eqb-true, lt-ltb}
use Rattle.std.proofs.lemmas.Fmt.{decimal-digits_value, decimal_digit}
use Rattle.std.proofs.lemmas.List.Folds.{length-prefix_len}
use Rattle.std.proofs.lemmas.Str.Parse.{IsNumeralModel, numerals_by_value, tells_by_index}
use Rattle.std.specs.Char.{is_ascii_digit}
use Rattle.std.specs.Int.{IsInRange}
use Rattle.std.specs.Fmt.{signed_decimal}
use Rattle.std.specs.List.{slice_range}
use Rattle.std.specs.Str.Parse.{digits_value, starts_with_minus}
use Rattle.el_base.specs.declared.digits.Number.{Number}
use Rattle.el_base.specs.Digits.{IsAsWritten, capped_value, digits_at_front, is_canonical, leading_digits, minus_len, signed}
use Rattle.el_base.proofs.DigitLemmas.{all_leading, digit_low}

-- a first zero of canonical digits is the only digit, and no minus stands before it
lone_zero : (d l : ℕ) (b : Bool) → not (eqb d 48 && (b || ltb 1 l)) ≡ true → 0 < l → d ≡ 48 → (l ≡ 1) × (b ≡ false)
lone_zero d l true plain some first =
    let g : false ≡ true = ap (λ t. not (t && true)) (sym (eq-eqb d 48 first)) ∙ plain in
    let f : ⊥ = cc in absurd f
lone_zero d l false plain some first =
    let g : not (ltb 1 l) ≡ true = ap (λ t. not (t && ltb 1 l)) (sym (eq-eqb d 48 first)) ∙ plain in
    (⊎_elim (λ more. let k : false ≡ true = ap not (sym (lt-ltb 1 l more)) ∙ g in let f : ⊥ = cc in absurd f) (λ few. omega arith) (cases_lt 1 l), refl)

own : IsNumeralModel (λ ds. (i : ℕ) → i < length ds → IsInRange 48 57 (get_or ds i 0)) (digits_value 10)
own = numerals_by_value _ tells_by_index

-- canonical digits are what is written of their value
spelled : (rest : List ℕ) (b : Bool) → 0 < length (leading_digits rest) → is_canonical b (leading_digits rest) ≡ true → capped_value (leading_digits rest) < 2 ^ 64
    → decimal (capped_value (leading_digits rest)) ≡ leading_digits rest
spelled rest b some plain small =
    let ds = leading_digits rest in
    let worth : capped_value ds ≡ digits_value 10 ds = omega arith in
    ap decimal worth ∙ decimal-digits_value own ds (λ i h. digit_low (get_or ds i 0) (all_leading rest i 0 h)) some (λ z. (lone_zero (get_or ds 0 0) (length ds) b plain some z).0) (omega arith)

-- as many bytes as there are leading digits are those digits
front : (rest : List ℕ) → take (length (leading_digits rest)) rest ≡ leading_digits rest
front rest = ap (λ n. take n rest) (length-prefix_len is_ascii_digit rest)

begins : (rest : List ℕ) → starts_with_minus rest ≡ true → rest ≡ 45 ∷ drop 1 rest
begins [] e = let f : ⊥ = cc in absurd f
begins (r ∷ rest) e = ap (λ d. d ∷ rest) (eqb-true r 45 e)

minus_written : (m : ℕ) (ds : List ℕ) → decimal m ≡ ds → is_canonical true ds ≡ true → 0 < length ds → 45 ∷ ds ≡ signed_decimal (signed true m)
minus_written zero ds e plain some =
    let z : get_or ds 0 0 ≡ 48 = ap (λ l. get_or l 0 0) (sym e ∙ decimal_digit 0 (omega arith)) in
    let t : true ≡ false = (lone_zero (get_or ds 0 0) (length ds) true plain some z).1 in
    let f : ⊥ = cc in absurd f
minus_written (suc m) ds e plain some = ap (λ l. 45 ∷ l) (sym e)

-- how many bytes stand between the number's ends
plain_count : (at l : ℕ) → at + 0 + l - at ≡ l
plain_count at l = omega arith

minus_count : (at l : ℕ) → at + 1 + l - at ≡ suc l
minus_count at l = omega arith

written_by : (b : Bool) (text : List ℕ) (at : ℕ) → starts_with_minus (drop at text) ≡ b
    → 0 < length (leading_digits (drop (minus_len b) (drop at text)))
    → is_canonical b (leading_digits (drop (minus_len b) (drop at text))) ≡ true
    → unsigned_abs (signed b (capped_value (leading_digits (drop (minus_len b) (drop at text))))) < 2 ^ 64
    → slice_range text at (at + minus_len b + length (leading_digits (drop (minus_len b) (drop at text)))) ≡ signed_decimal (signed b (capped_value (leading_digits (drop (minus_len b) (drop at text)))))
written_by false text at minus some plain small =
    let rest = drop at text in
    ap (λ n. take n rest) (plain_count at (length (leading_digits rest))) ∙ front rest ∙ sym (spelled rest false some plain small)
written_by true text at minus some plain small =
    let rest = drop at text in
    let ds = leading_digits (drop 1 rest) in
    let small : capped_value ds < 2 ^ 64 = magnitude (capped_value ds) small in
    ap (λ n. take n rest) (minus_count at (length ds)) ∙ ap (take (suc (length ds))) (begins rest minus) ∙ ap (λ l. 45 ∷ l) (front (drop 1 rest))
    ∙ minus_written (capped_value ds) ds (spelled (drop 1 rest) true some plain small) plain some
  where
    magnitude : (m : ℕ) → unsigned_abs (neg_ℤ (pos m)) < 2 ^ 64 → m < 2 ^ 64
    magnitude zero h = omega arith
    magnitude (suc m) h = h

-- what a choice that is `Some` says
parts : (b : Bool) (r n : Number) → cond b None (Some r) ≡ Some n → (b ≡ false) × (r ≡ n)
parts true r n e = let f : ⊥ = cc in absurd f
parts false r n e = (refl, cc)

some_from : (ds : List ℕ) → eqb (length ds) 0 ≡ false → 0 < length ds
some_from [] e = let f : ⊥ = cc in absurd f
some_from (d ∷ ds) e = omega arith

pub as_written : (text : List ℕ) (at : ℕ) (n : Number) → IsAsWritten text at n
as_written text at n e =
    let rest = drop at text in
    let ds = digits_at_front rest in
    let p = parts (eqb (length ds) 0) (record { value = signed (starts_with_minus rest) (capped_value ds); end = at + minus_len (starts_with_minus rest) + length ds; canonical = is_canonical (starts_with_minus rest) ds }) n e in
    subst (λ (m : Number). m.canonical ≡ true → unsigned_abs m.value < 2 ^ 64 → slice_range text at m.end ≡ signed_decimal m.value) p.1
    (written_by (starts_with_minus rest) text at refl (some_from ds p.0))
