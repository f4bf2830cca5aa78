-- Facts on the digits with which a text begins, and on what they are worth.
use Rattle.std.proofs.Common.{◌≡◌, ℕ, ◌+◌, ◌-◌, ◌*◌, ◌^◌, ◌<◌, ◌≤◌, min, Bool, true, false, cond, ℤ, Some, None, List, [], ◌∷◌, ◌++◌, length, get_or, take, drop, All, refl, sym, ap, eq-eqb, ◌∙◌, arith, eqb}
use Rattle.std.specs.Char.{is_ascii_digit, digit_value}
use Rattle.std.specs.List.{prefix_len}
use Rattle.std.specs.Str.Parse.{AllDigits, digits_value, starts_with_minus}
use Rattle.std.proofs.Math.Seq.{take-append_seam}
use Rattle.std.proofs.lemmas.Bool.{ne_eqb, le-leb, and_from}
use Rattle.std.proofs.lemmas.Slice.{between_to_end}
use Rattle.std.proofs.lemmas.Str.Parse.{digit_from_value}
use Rattle.std.proofs.lemmas.Bool.Decides.{nat_tests}
use Rattle.std.proofs.lemmas.Int.Digits.{digits_value_more}
use Rattle.std.proofs.lemmas.List.{get_or-take}
use Rattle.std.proofs.lemmas.List.Elements.{All-from_get_or}
use Rattle.std.proofs.lemmas.List.Folds.{length-prefix_len, prefix_len-append}
use Rattle.std.proofs.lemmas.List.Sums.{prefix_len_is, prefix_len_passes}
use Rattle.el_base.specs.Digits.{leading_digits, capped_value, digits_at_front, minus_len, signed, is_canonical, number_of, number_at}

-- the digits end at the first byte that is none
pub leading_digits_is : (bs : List ℕ) (n : ℕ) → n ≤ length bs → ((k : ℕ) → k < n → is_ascii_digit (get_or bs k 0) ≡ true) → (n < length bs → is_ascii_digit (get_or bs n 0) ≡ false) → take n bs ≡ leading_digits bs
leading_digits_is bs n within before here = ap (λ k. take k bs) (sym (prefix_len_is is_ascii_digit bs n 0 within before here))

-- all of them are digits
pub all_leading : (bs : List ℕ) → All (λ b. is_ascii_digit b ≡ true) (leading_digits bs)
all_leading bs = All-from_get_or (λ b. is_ascii_digit b ≡ true) (leading_digits bs) 0 (λ i h.
    let inside : i < prefix_len is_ascii_digit bs = omega (arith, length-prefix_len is_ascii_digit bs) in
    rw (get_or-take (prefix_len is_ascii_digit bs) bs i 0 inside) (prefix_len_passes is_ascii_digit bs i 0 inside))

-- a value that is capped on the way is capped as at the end
capped_step : (v d cap : ℕ) → min (min v cap * 10 + d) cap ≡ min (v * 10 + d) cap
capped_step v d cap = omega arith

pub digit_worth : (b : ℕ) → is_ascii_digit b ≡ true → digit_value b ≡ b - 48
digit_worth b h = grind (arith, nat_tests)

pub digit_low : (b : ℕ) → is_ascii_digit b ≡ true → (48 ≤ b) × (b ≤ 57)
digit_low b h = grind (arith, nat_tests)

-- one digit more
pub capped_more : (ds : List ℕ) (i v : ℕ) → i < length ds → is_ascii_digit (get_or ds i 0) ≡ true → v ≡ capped_value (take i ds) → min (v * 10 + (get_or ds i 0 - 48)) (2 ^ 100) ≡ capped_value (take (i + 1) ds)
capped_more ds i v inside digit is =
    ap (λ n. min (n * 10 + (get_or ds i 0 - 48)) (2 ^ 100)) is
    ∙ capped_step (digits_value 10 (take i ds)) (get_or ds i 0 - 48) (2 ^ 100)
    ∙ ap (λ n. min (digits_value 10 (take i ds) * 10 + n) (2 ^ 100)) (sym (digit_worth (get_or ds i 0) digit))
    ∙ ap (λ n. min n (2 ^ 100)) (sym (digits_value_more 10 ds i inside))

-- a sign, digits and what they are worth make the number at a place
pub number_at_is : (bs rest unsigned : List ℕ) (at from : ℕ) (negative : Bool) (ds : List ℕ) (value : ℤ) (canonical : Bool)
    → rest ≡ drop at bs → unsigned ≡ drop from rest → negative ≡ starts_with_minus rest → from ≡ minus_len negative → ds ≡ leading_digits unsigned
    → eqb (length ds) 0 ≡ false → value ≡ signed negative (capped_value ds) → canonical ≡ is_canonical negative ds
    → Some (record { value = value; end = at + from + length ds; canonical = canonical }) ≡ number_at bs at
number_at_is bs rest unsigned at from negative ds value canonical behind after minus begins digits some worth plain =
    let filled : Some (record { value = value; end = at + from + length ds; canonical = canonical }) ≡ number_of negative ds at =
    rw (worth, plain, begins) (ap (λ b. cond b None (Some (record { value = signed negative (capped_value ds); end = at + minus_len negative + length ds; canonical = is_canonical negative ds }))) (sym some)) in
    let fronted : ds ≡ leading_digits (drop (minus_len negative) rest) = digits ∙ ap leading_digits (after ∙ ap (λ n. drop n rest) begins) in
    filled ∙ ap (λ l. number_of negative l at) fronted ∙ ap (λ b. number_of b (leading_digits (drop (minus_len b) rest)) at) minus
    ∙ ap (λ l. number_of (starts_with_minus l) (digits_at_front l) at) behind

-- what `&xs[i..]` points to
pub rest_is : (xs : List ℕ) (i : ℕ) → take (length xs - i) (drop i xs) ≡ drop i xs
rest_is xs i = between_to_end xs i (length xs) (omega arith)

-- digits before bytes that begin with none are the digits at the front
pub leading_digits-append : (ds after : List ℕ) → prefix_len is_ascii_digit ds ≡ length ds → leading_digits after ≡ [] → leading_digits (ds ++ after) ≡ ds
leading_digits-append ds after all none =
    let none_after : prefix_len is_ascii_digit after ≡ 0 = sym (length-prefix_len is_ascii_digit after) ∙ ap length none in
    let count : prefix_len is_ascii_digit (ds ++ after) ≡ length ds =
    prefix_len-append is_ascii_digit ds after ∙ rw (all, none_after, eq-eqb (length ds) (length ds) refl) (omega arith) in
    ap (λ n. take n (ds ++ after)) count ∙ take-append_seam ds after

pub all_digits_count : (ds : List ℕ) → AllDigits 10 ds → prefix_len is_ascii_digit ds ≡ length ds
all_digits_count [] h = refl
all_digits_count (d ∷ ds) h =
    let here : is_ascii_digit d ≡ true = digit_from d h.0 in
    rw here (omega (arith, all_digits_count ds h.1))
  where
    digit_from : (d : ℕ) → digit_value d < 10 → is_ascii_digit d ≡ true
    digit_from d h = let r = digit_from_value d h in and_from _ _ (le-leb 48 d r.0) (le-leb d 57 r.1)

-- the number that canonical digits write
pub number_of_is : (negative : Bool) (ds : List ℕ) (at m : ℕ) → 0 < length ds → digits_value 10 ds ≡ m → m < 2 ^ 64 → is_canonical negative ds ≡ true
    → number_of negative ds at ≡ Some (record { value = signed negative m; end = at + minus_len negative + length ds; canonical = true })
number_of_is negative ds at m some worth small plain =
    let capped : capped_value ds ≡ m = ap (λ n. min n (2 ^ 100)) worth ∙ omega arith in
    let test : eqb (length ds) 0 ≡ false = ne_eqb (length ds) 0 (λ e. omega arith) in
    rw (test, capped, plain) refl
