-- Sets of numbers as words of 64 bits: one number put in or taken out, and a search word by word.
use Rattle.std.proofs.Common.{◌≡◌, ◌≢◌, ℕ, ◌+◌, ◌-◌, ◌*◌, ◌/◌, ◌%◌, ◌^◌, ◌<◌, ◌≤◌, ◌⊎◌, min, Bool, true, false, List, length, get_or, set, eqb, refl, sym, ap, ◌∙◌, inl, inr, arith}
use lib.Bits.{bit_or, bit_and}
use Rattle.std.specs.Int.{bit_at, trailing_zeros, bit_not, w64}
use Rattle.std.proofs.Math.Nat.{div-div-eq-div-mul, div-le_self}
use Rattle.std.proofs.lemmas.Bool.{cases_eq, cases_lt}
use Rattle.std.proofs.lemmas.List.{get_or-set_same, get_or-set_other, length-set}
use Rattle.std.proofs.lemmas.Nat.{pow-add}
use Rattle.std.proofs.lemmas.Nat.Bits.{bit_at-trailing_zeros, bit_at-zero, bit_at_above, bit_at_set_same, bit_at_set_other, bit_at_clear_same, bit_at_clear_other}
use Rattle.lsq_core.specs.Bits.{has, IsSet, IsNext}

pub set_is : (words : List ℕ) (i v : ℕ) (b : Bool) → i < 64 * length words → eqb (bit_at v (i % 64)) 1 ≡ b
    → ((k : ℕ) → k < 64 → k ≢ i % 64 → bit_at v k ≡ bit_at (get_or words (i / 64) 0) k) → IsSet i b words (set words (i / 64) v)
set_is words i v b l here other = record {
  size = length-set words (i / 64) v;
  here = (let w : i / 64 < length words = omega arith in rw (get_or-set_same words (i / 64) v 0 w) here);
  other = λ j ne. at j ne (cases_eq (j / 64) (i / 64));
}
  where
    at : (j : ℕ) → (j ≡ i → ⊥) → (j / 64 ≡ i / 64) ⊎ (j / 64 ≡ i / 64 → ⊥) → has (set words (i / 64) v) j ≡ has words j
    at j ne (inl e) =
        let w : i / 64 < length words = omega arith in
        let m : j % 64 ≢ i % 64 = λ s. ne (omega arith) in
        let o : bit_at v (j % 64) ≡ bit_at (get_or words (i / 64) 0) (j % 64) = other (j % 64) (omega arith) m in
        rw (e, get_or-set_same words (i / 64) v 0 w) (ap (λ n. eqb n 1) o)
    at j ne (inr d) = rw (get_or-set_other words (i / 64) (j / 64) v 0 d) refl

-- the bits of a word that is shifted
pub shifted : (v k t : ℕ) → bit_at (v / 2 ^ k) t ≡ bit_at v (k + t)
shifted v k t = ap (λ n. n % 2) (div-div-eq-div-mul v (2 ^ k) (2 ^ t) ∙ ap (λ n. v / n) (sym (pow-add 2 k t)))

has_shift : (words : List ℕ) (at t : ℕ) → at % 64 + t < 64 → has words (at + t) ≡ eqb (bit_at (get_or words (at / 64) 0 / 2 ^ (at % 64)) t) 1
has_shift words at t l =
    let q : (at + t) / 64 ≡ at / 64 = omega arith in
    let r : (at + t) % 64 ≡ at % 64 + t = omega arith in
    rw (q, r) (ap (λ n. eqb n 1) (sym (shifted (get_or words (at / 64) 0) (at % 64) t)))

-- no number of the set from one place on, below another
abbrev pub NoneFrom : List ℕ → ℕ → ℕ → Type 0
NoneFrom words from at = (j : ℕ) → from ≤ j → j < at → has words j ≡ false

-- nothing is left of the word
pub none_left : (words : List ℕ) (from at rest : ℕ) → NoneFrom words from at → rest ≡ get_or words (at / 64) 0 / 2 ^ (at % 64) → rest ≡ 0
    → NoneFrom words from ((at / 64 + 1) * 64)
none_left words from at rest h is none j f l = by (cases_lt j at)
  where
    by : (j < at) ⊎ (at ≤ j) → has words j ≡ false
    by (inl m) = h j f m
    by (inr m) =
        let e : j ≡ at + (j - at) = omega arith in
        let s : at % 64 + (j - at) < 64 = omega arith in
        ap (has words) e ∙ has_shift words at (j - at) s ∙ ap (λ n. eqb (bit_at n (j - at)) 1) (sym is ∙ none) ∙ ap (λ n. eqb n 1) (bit_at-zero (j - at))

-- the lowest bit that is left of a word is one of the word's
pub left_below : (n s : ℕ) → n < 2 ^ 64 → n / 2 ^ s ≢ 0 → s + trailing_zeros w64 (n / 2 ^ s) < 64
left_below n s wide some = by (cases_lt (s + trailing_zeros w64 (n / 2 ^ s)) 64)
  where
    by : (s + trailing_zeros w64 (n / 2 ^ s) < 64) ⊎ (64 ≤ s + trailing_zeros w64 (n / 2 ^ s)) → s + trailing_zeros w64 (n / 2 ^ s) < 64
    by (inl near) = near
    by (inr far) =
        let d = div-le_self n (2 ^ s) in
        let one = (bit_at-trailing_zeros w64 (n / 2 ^ s) (omega arith) (omega arith)).1 in
        let o : bit_at (n / 2 ^ s) (trailing_zeros w64 (n / 2 ^ s)) ≡ 0 = shifted n s (trailing_zeros w64 (n / 2 ^ s)) ∙ bit_at_above n 64 (s + trailing_zeros w64 (n / 2 ^ s)) wide far in
        absurd (omega arith)

-- the lowest bit that is left is the next number
pub next_here : (words : List ℕ) (from to at rest : ℕ) → NoneFrom words from at → from ≤ at → at < to
    → rest ≡ get_or words (at / 64) 0 / 2 ^ (at % 64) → get_or words (at / 64) 0 < 2 ^ 64 → 0 < rest → rest < 2 ^ 64
    → IsNext words from to (min to (at + trailing_zeros w64 rest))
next_here words from to at rest h f l is wide some fits =
    let z = bit_at-trailing_zeros w64 rest some fits in
    let near = rw (← is) at (left_below (get_or words (at / 64) 0) (at % 64) wide (rw (← is) (omega arith))) in
    by z.1 z.2 near
  where
    by : bit_at rest (trailing_zeros w64 rest) ≡ 1 → ((i : ℕ) → i < trailing_zeros w64 rest → bit_at rest i ≡ 0)
        → at % 64 + trailing_zeros w64 rest < 64 → IsNext words from to (min to (at + trailing_zeros w64 rest))
    by one zeros near = record {
      from_on = omega arith;
      at_most = omega arith;
      here = λ b.
          (let e : min to (at + trailing_zeros w64 rest) ≡ at + trailing_zeros w64 rest = omega arith in
          ap (has words) e ∙ has_shift words at (trailing_zeros w64 rest) near ∙ ap (λ n. eqb (bit_at n (trailing_zeros w64 rest)) 1) (sym is) ∙ ap (λ n. eqb n 1) one);
      before = λ j g b. before j g b (cases_lt j at);
    }
      where
        before : (j : ℕ) → from ≤ j → j < min to (at + trailing_zeros w64 rest) → (j < at) ⊎ (at ≤ j) → has words j ≡ false
        before j g b (inl m) = h j g m
        before j g b (inr m) =
            let e : j ≡ at + (j - at) = omega arith in
            let s : at % 64 + (j - at) < 64 = omega arith in
            let z : bit_at rest (j - at) ≡ 0 = zeros (j - at) (omega arith) in
            ap (has words) e ∙ has_shift words at (j - at) s ∙ ap (λ n. eqb (bit_at n (j - at)) 1) (sym is) ∙ ap (λ n. eqb n 1) z

pub put_in : (words old new : List ℕ) (i v : ℕ) (b : Bool) → words ≡ old → i < 64 * length old → b ≡ true
    → v ≡ bit_or (get_or words (i / 64) 0) (1 * 2 ^ (i % 64) % 2 ^ 64) → new ≡ set words (i / 64) v → IsSet i b old new
put_in words old new i v b is l e put made =
    let w : i % 64 < 64 = omega arith in
    let o : (v : ℕ) → v ≡ bit_or (get_or old (i / 64) 0) (1 * 2 ^ (i % 64) % 2 ^ 64) → IsSet i true old (set old (i / 64) v) =
    λ v p. set_is old i v true l
    (ap (λ n. eqb (bit_at n (i % 64)) 1) p ∙ ap (λ n. eqb n 1) (bit_at_set_same w64 (get_or old (i / 64) 0) (i % 64) w))
    (λ k m ne. ap (λ n. bit_at n k) p ∙ bit_at_set_other w64 (get_or old (i / 64) 0) (i % 64) w k ne) in
    rw (e, made, is) (o v (put ∙ ap (λ ws. bit_or (get_or ws (i / 64) 0) (1 * 2 ^ (i % 64) % 2 ^ 64)) is))

pub take_out : (words old new : List ℕ) (i v : ℕ) (b : Bool) → words ≡ old → i < 64 * length old → b ≡ false
    → v ≡ bit_and (get_or words (i / 64) 0) (bit_not w64 (1 * 2 ^ (i % 64) % 2 ^ 64)) → new ≡ set words (i / 64) v → IsSet i b old new
take_out words old new i v b is l e put made =
    let w : i % 64 < 64 = omega arith in
    let o : (v : ℕ) → v ≡ bit_and (get_or old (i / 64) 0) (bit_not w64 (1 * 2 ^ (i % 64) % 2 ^ 64)) → IsSet i false old (set old (i / 64) v) =
    λ v p. set_is old i v false l
    (ap (λ n. eqb (bit_at n (i % 64)) 1) p ∙ ap (λ n. eqb n 1) (bit_at_clear_same w64 (get_or old (i / 64) 0) (i % 64) w))
    (λ k m ne. ap (λ n. bit_at n k) p ∙ bit_at_clear_other w64 (get_or old (i / 64) 0) (i % 64) w k m ne) in
    rw (e, made, is) (o v (put ∙ ap (λ ws. bit_and (get_or ws (i / 64) 0) (bit_not w64 (1 * 2 ^ (i % 64) % 2 ^ 64))) is))

abbrev rest_of : List ℕ → ℕ → ℕ
rest_of words at = get_or words (at / 64) 0 / 2 ^ (at % 64)

pub next_answer : (words old : List ℕ) (from to at r : ℕ) → words ≡ old → NoneFrom old from at → from ≤ at → at < to → ((i : ℕ) → get_or words i 0 < 2 ^ 64)
    → rest_of words at ≢ 0 → r ≡ min to (at + trailing_zeros w64 (rest_of words at)) → IsNext old from to r
next_answer words old from to at r is h f l wide some made =
    let w = wide (at / 64) in
    let d = div-le_self (get_or words (at / 64) 0) (2 ^ (at % 64)) in
    let n = next_here words from to at (rest_of words at) (rw (is) h) f l refl w (omega arith) (omega arith) in
    rw (made, ← is) n

pub next_more : (words old : List ℕ) (from at : ℕ) → words ≡ old → NoneFrom old from at → rest_of words at ≡ 0 → NoneFrom old from ((at / 64 + 1) * 64)
next_more words old from at is h none = none_left old from at (rest_of old at) h refl (ap (λ ws. rest_of ws at) (sym is) ∙ none)
