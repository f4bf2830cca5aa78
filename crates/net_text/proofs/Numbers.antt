-- Numbers as texts: what `parse` reads, without a plus and leading zeros.
use Rattle.std.proofs.Common.{◌≡◌, ◌≢◌, ℕ, zero, suc, ◌^◌, ◌<◌, ◌&&◌, not, nat_lt, true, false, List, length, get_or, refl, sym, ap, ◌∙◌, subst, arith, decimal, eqb, eq-eqb, Result, Ok, Err}
use Rattle.std.specs.Str.Parse.{digits_value, IsNumeral, ParsesUnsigned, without_leading_plus}
use Rattle.std.proofs.lemmas.Fmt.{decimal-digits_value, decimal_digit, first_decimal, parse-decimal}
use Rattle.std.specs.Result.{result_ok}
use Rattle.std.proofs.lemmas.Bool.{ne_eqb, false≢true}
use Rattle.std.proofs.lemmas.Bool.Decides.{nat_tests}
use Rattle.std.proofs.lemmas.Str.Parse.{IsNumeralModel, numerals_by_value, tells_digits, without_leading_plus_none}
use Rattle.std.specs.Str.Parse.{AllDigits}
use Rattle.net_text.specs.Reads.{Named, Every, starts_plain}
use Rattle.net_text.specs.Fits.{FitsU64}

own : IsNumeralModel (AllDigits 10) (digits_value 10)
own = numerals_by_value _ tells_digits

-- decimals start plainly
pub decimal_starts_plain : (n : ℕ) → n < 2 ^ 64 → starts_plain (decimal n) ≡ true
decimal_starts_plain zero h = ap starts_plain (decimal_digit 0 (omega arith))
decimal_starts_plain (suc n) h =
    let first : 48 < get_or (decimal (suc n)) 0 0 = first_decimal (suc n) (omega arith) h in
    let plus : eqb (get_or (decimal (suc n)) 0 0) 43 ≡ false = ne_eqb _ _ (λ e. omega arith) in
    let zeros : eqb (get_or (decimal (suc n)) 0 0) 48 ≡ false = ne_eqb _ _ (λ e. omega arith) in
    rw (plus, zeros) refl

no_plus : (bs : List ℕ) → starts_plain bs ≡ true → get_or bs 0 0 ≢ 43
no_plus bs plain e = false≢true (sym (ap (λ b. not b && not (eqb (get_or bs 0 0) 48 && nat_lt 1 (length bs))) (eq-eqb _ _ e)) ∙ plain)

no_zeros : (bs : List ℕ) → starts_plain bs ≡ true → 0 < length bs → get_or bs 0 0 ≡ 48 → length bs ≡ 1
no_zeros bs plain some e = grind (arith, nat_tests)

-- a numeral that starts plainly is the decimal of its value
pub plain_is_decimal : (bs : List ℕ) (v : ℕ) → starts_plain bs ≡ true → IsNumeral 10 (without_leading_plus bs) → v ≡ digits_value 10 (without_leading_plus bs) → v < 2 ^ 64 → decimal v ≡ bs
plain_is_decimal bs v plain numeral worth small =
    let same : without_leading_plus bs ≡ bs = without_leading_plus_none bs (no_plus bs plain) in
    let own_numeral : IsNumeral 10 bs = subst (IsNumeral 10) same numeral in
    let own_worth : v ≡ digits_value 10 bs = worth ∙ ap (digits_value 10) same in
    ap decimal own_worth ∙ decimal-digits_value own bs own_numeral.1 own_numeral.0 (no_zeros bs plain own_numeral.0) (subst (λ n. n < 2 ^ 64) own_worth small)

-- what `parse` gives of bytes that start plainly is the number of which they are the decimal
pub named_parse : {E : Type 0} (bs t : List ℕ) (r : Result ℕ E) → t ≡ bs → starts_plain bs ≡ true → ParsesUnsigned 64 10 t r → Named FitsU64 decimal bs (result_ok r)
named_parse bs t (Ok v) e plain p =
    let numeral : IsNumeral 10 (without_leading_plus bs) = subst (λ l. IsNumeral 10 (without_leading_plus l)) e p.0.0 in
    let worth : v ≡ digits_value 10 (without_leading_plus bs) = p.1 ∙ ap (λ l. digits_value 10 (without_leading_plus l)) e in
    let small : v < 2 ^ 64 = omega (arith, p.0.1, p.1) in
    (small, plain_is_decimal bs v plain numeral worth small)
named_parse bs t (Err x) e plain p = tt

pub every_parse : {E : Type 0} (bs t : List ℕ) (r : Result ℕ E) → t ≡ bs → ParsesUnsigned 64 10 t r → Every FitsU64 decimal bs (result_ok r)
every_parse bs t r e p v small is = ap result_ok (parse-decimal 64 v t r small small (e ∙ sym is) p)
