-- Numerals: what stands at a word's front as a number, and numbers whose magnitude is capped.
use Rattle.std.proofs.Common.{◌≡◌, ℕ, ℤ, zero, suc, ◌+◌, ◌^◌, ◌<◌, ◌≤◌, min, eqb, ltb, cond, ◌&&◌, ◌⊎◌, inl, inr, Bool, true, false, List, [], ◌∷◌, ◌++◌, length, take, map, Option, Some, None, refl, sym, ap, ◌∙◌, true≢false, arith}
use Rattle.std.proofs.Math.Bool.{and-false, and-true}
use Rattle.std.proofs.Math.Seq.{take-nil}
use Rattle.std.proofs.lemmas.Bool.{eqb-true, lt-ltb, ltb-true, ltb-false}
use Rattle.std.proofs.lemmas.List.{take_all, length-drop, length-append, length-map, map-append, take-append-le}
use Rattle.std.proofs.lemmas.List.Folds.{length-prefix_len, list_all-append}
use Rattle.std.specs.Char.{is_ascii_digit}
use Rattle.std.specs.List.{list_all, prefix_len}
use Rattle.std.specs.Str.Parse.{digits_value, starts_with_minus}
use Rattle.el_base.specs.declared.digits.Number.{Number}
use Rattle.el_base.specs.declared.ty.Ty.{Ty}
use Rattle.el_base.specs.declared.ty.Ty.TheVariants.{I8, U8, I16, U16, I32, U32, I64, U64}
use Rattle.el_base.specs.Digits.{capped_value, is_canonical, leading_digits, minus_len, number_at, number_of, signed}
use Rattle.el_base.specs.Numbers.{pattern}
use Rattle.inputs_text.specs.declared.header.Slot.{Slot}
use Rattle.inputs_text.specs.declared.numerals.Numbers.{Numbers}
use Rattle.inputs_text.specs.Lines.{digits_of, is_numeral, numeral_number, numbers_in, words}
use Rattle.inputs_text.specs.Measures.{AddsNumber, MeasuresText, MeasuresWords, capped_number}
use Rattle.inputs_text.specs.Rules.{is_in_range}

-- a test passes throughout exactly where the longest front that passes is all
module _ (p : ℕ → Bool) where
  all_from_prefix : (xs : List ℕ) → prefix_len p xs ≡ length xs → list_all p xs ≡ true
  all_from_prefix [] h = refl
  all_from_prefix (x ∷ xs) h = by (p x) refl (λ k. all_from_prefix xs k)
    where
      by : (b : Bool) → p x ≡ b → (prefix_len p xs ≡ length xs → list_all p xs ≡ true) → list_all p (x ∷ xs) ≡ true
      by true e rest = rw e (rest (let k = rw e at h in omega arith))
      by false e rest = absurd (let k = rw e at h in omega arith)

  prefix_from_all : (xs : List ℕ) → list_all p xs ≡ true → prefix_len p xs ≡ length xs
  prefix_from_all [] h = refl
  prefix_from_all (x ∷ xs) h = by (p x) refl (λ k. prefix_from_all xs k)
    where
      by : (b : Bool) → p x ≡ b → (list_all p xs ≡ true → prefix_len p xs ≡ length xs) → prefix_len p (x ∷ xs) ≡ length (x ∷ xs)
      by true e rest = rw e (let k : prefix_len p xs ≡ length xs = rest (rw e at h) in omega arith)
      by false e rest = absurd (true≢false (sym (rw e at h)))

-- a minus is a byte of the word
minus_within : (word : List ℕ) → minus_len (starts_with_minus word) ≤ length word
minus_within [] = omega arith
minus_within (b ∷ bs) = by (eqb b 45)
  where
    by : (v : Bool) → minus_len v ≤ length (b ∷ bs)
    by true = omega arith
    by false = omega arith

-- a sign and digits write a number where there is a digit
module _ (neg : Bool) (ds : List ℕ) where
  abbrev there : Number
  there = record { value = signed neg (capped_value ds); end = 0 + minus_len neg + length ds; canonical = is_canonical neg ds }

  no_digits : number_of neg ds 0 ≡ None → length ds ≡ 0
  no_digits h = by (eqb (length ds) 0) refl h
    where
      by : (b : Bool) → eqb (length ds) 0 ≡ b → cond {A = Option Number} b None (Some there) ≡ None → length ds ≡ 0
      by true e k = eqb-true (length ds) 0 e
      by false e k = cc

  digits_there : (n : Number) → number_of neg ds 0 ≡ Some n → (0 < length ds) × (n.end ≡ minus_len neg + length ds) × (n.value ≡ signed neg (capped_value ds))
  digits_there n h = by (eqb (length ds) 0) refl h
    where
      by : (b : Bool) → eqb (length ds) 0 ≡ b → cond {A = Option Number} b None (Some there) ≡ Some n
          → (0 < length ds) × (n.end ≡ minus_len neg + length ds) × (n.value ≡ signed neg (capped_value ds))
      by true e k = cc
      by false e k =
          let same : n ≡ there = cc in
          (grind arith, ap (λ (m : Number). m.end) same ∙ omega arith, ap (λ (m : Number). m.value) same)

-- what follows the minus, and the digits at its front
module _ (neg : Bool) (u : List ℕ) where
  none_at : number_of neg (leading_digits u) 0 ≡ None → (ltb 0 (length u) && list_all is_ascii_digit u) ≡ false
  none_at h = by (list_all is_ascii_digit u) refl
    where
      none : list_all is_ascii_digit u ≡ true → length u ≡ 0
      none e = sym (prefix_from_all is_ascii_digit u e) ∙ sym (length-prefix_len is_ascii_digit u) ∙ no_digits neg (leading_digits u) h

      by : (b : Bool) → list_all is_ascii_digit u ≡ b → (ltb 0 (length u) && list_all is_ascii_digit u) ≡ false
      by true e = ap (λ n. ltb 0 n && list_all is_ascii_digit u) (none e)
      by false e = ap (λ v. ltb 0 (length u) && v) e ∙ and-false (ltb 0 (length u))

  short_at : (n : Number) → number_of neg (leading_digits u) 0 ≡ Some n → (n.end ≡ minus_len neg + length u → ⊥) → (ltb 0 (length u) && list_all is_ascii_digit u) ≡ false
  short_at n h other = by (list_all is_ascii_digit u) refl
    where
      by : (b : Bool) → list_all is_ascii_digit u ≡ b → (ltb 0 (length u) && list_all is_ascii_digit u) ≡ false
      by true e = absurd (other ((digits_there neg (leading_digits u) n h).1 ∙ ap (λ k. minus_len neg + k) (length-prefix_len is_ascii_digit u ∙ prefix_from_all is_ascii_digit u e)))
      by false e = ap (λ v. ltb 0 (length u) && v) e ∙ and-false (ltb 0 (length u))

  whole_at : (n : Number) → number_of neg (leading_digits u) 0 ≡ Some n → n.end ≡ minus_len neg + length u
      → ((ltb 0 (length u) && list_all is_ascii_digit u) ≡ true) × (n.value ≡ signed neg (capped_value u))
  whole_at n h same =
      let there = digits_there neg (leading_digits u) n h in
      let long : prefix_len is_ascii_digit u ≡ length u = omega (arith, there.1, same, length-prefix_len is_ascii_digit u) in
      let all : leading_digits u ≡ u = take_all (prefix_len is_ascii_digit u) u (omega arith) in (
        rw (all_from_prefix is_ascii_digit u long, lt-ltb 0 (length u) (omega (arith, there.0, length-prefix_len is_ascii_digit u))) refl,
        there.2 ∙ ap (λ ds. signed neg (capped_value ds)) all,
      )

-- no type holds a number of that magnitude
out_of_range : (ty : Ty) (neg : Bool) (v : ℕ) → 2 ^ 100 ≤ v → is_in_range ty (signed neg v) ≡ false
unfolding is_in_range
out_of_range ty neg zero h = absurd (omega arith)
out_of_range I8 true (suc n) h = grind arith
out_of_range U8 true (suc n) h = grind arith
out_of_range I16 true (suc n) h = grind arith
out_of_range U16 true (suc n) h = grind arith
out_of_range I32 true (suc n) h = grind arith
out_of_range U32 true (suc n) h = grind arith
out_of_range I64 true (suc n) h = grind arith
out_of_range U64 true (suc n) h = grind arith
out_of_range I8 false (suc n) h = grind arith
out_of_range U8 false (suc n) h = grind arith
out_of_range I16 false (suc n) h = grind arith
out_of_range U16 false (suc n) h = grind arith
out_of_range I32 false (suc n) h = grind arith
out_of_range U32 false (suc n) h = grind arith
out_of_range I64 false (suc n) h = grind arith
out_of_range U64 false (suc n) h = grind arith

-- the cap changes neither whether a type holds a number nor a number that one holds
module _ (ty : Ty) (neg : Bool) (v : ℕ) where
  cap_cases : ((min v (2 ^ 100) ≡ v) ⊎ ((min v (2 ^ 100) ≡ 2 ^ 100) × (2 ^ 100 ≤ v)))
  cap_cases = grind arith

  capped_range : is_in_range ty (signed neg (min v (2 ^ 100))) ≡ is_in_range ty (signed neg v)
  capped_range = elim cap_cases [
    | inl same ↦ ap (λ n. is_in_range ty (signed neg n)) same
    | inr far ↦ ap (λ n. is_in_range ty (signed neg n)) far.0 ∙ out_of_range ty neg (2 ^ 100) (omega arith) ∙ sym (out_of_range ty neg v far.1)
  ]

  capped_same : is_in_range ty (signed neg v) ≡ true → signed neg (min v (2 ^ 100)) ≡ signed neg v
  capped_same held = elim cap_cases [
    | inl same ↦ ap (signed neg) same
    | inr far ↦ absurd (true≢false (sym held ∙ out_of_range ty neg v far.1))
  ]

-- the number of a numeral that a type holds, where it is read
module _ (ty : Ty) (word : List ℕ) where
  read_range : is_in_range ty (capped_number word) ≡ is_in_range ty (numeral_number word)
  unfolding numeral_number
  read_range = capped_range ty (starts_with_minus word) (digits_value 10 (digits_of word))

  read_same : is_in_range ty (numeral_number word) ≡ true → capped_number word ≡ numeral_number word
  unfolding numeral_number
  read_same held = capped_same ty (starts_with_minus word) (digits_value 10 (digits_of word)) held

-- one element more at the end of the first n
module _ (n : ℕ) (xs : List ℕ) (x : ℕ) where
  take_one_more : length xs < n → take n (xs ++ x ∷ []) ≡ take n xs ++ x ∷ []
  take_one_more room = take_all n (xs ++ x ∷ []) (omega (arith, length-append xs (x ∷ []))) ∙ ap (λ ys. ys ++ x ∷ []) (sym (take_all n xs (omega arith)))

  take_no_more : n ≤ length xs → take n (xs ++ x ∷ []) ≡ take n xs
  take_no_more full = take-append-le n xs (x ∷ []) full

both_hold : (a b : Bool) → (a && b) ≡ true → (a ≡ true) × (b ≡ true)
both_hold true b h = (refl, h)
both_hold false b h = absurd (true≢false (sym h))

-- a numeral more
module _ (slot : Slot) where
  pub measures_none : (n : Numbers) → n.count ≡ 0 → n.in_range ≡ true → n.patterns ≡ [] → MeasuresWords slot [] n
  measures_none n count held none = record { numerals = refl; measured = record { count = count; in_range = held; patterns = λ _. none ∙ sym (take-nil slot.len) } }

  patterns_more : (ws : List (List ℕ)) (word : List ℕ) (old : List ℕ) (count : ℕ) → count ≡ length ws → old ≡ take slot.len (map (pattern slot.ty) (map numeral_number ws))
      → cond (ltb count slot.len) (old ++ pattern slot.ty (numeral_number word) ∷ []) old ≡ take slot.len (map (pattern slot.ty) (map numeral_number (ws ++ word ∷ [])))
  patterns_more ws word old count counted is =
      by (ltb count slot.len) refl ∙ ap (take slot.len) (sym (ap (map (pattern slot.ty)) (map-append numeral_number ws (word ∷ [])) ∙ map-append (pattern slot.ty) (map numeral_number ws) (numeral_number word ∷ [])))
    where
      long : length (map (pattern slot.ty) (map numeral_number ws)) ≡ count
      long = length-map (map numeral_number ws) (pattern slot.ty) ∙ length-map ws numeral_number ∙ sym counted

      by : (b : Bool) → ltb count slot.len ≡ b
          → cond (ltb count slot.len) (old ++ pattern slot.ty (numeral_number word) ∷ []) old ≡ take slot.len (map (pattern slot.ty) (map numeral_number ws) ++ pattern slot.ty (numeral_number word) ∷ [])
      by true e = rw (e, is) (sym (take_one_more slot.len (map (pattern slot.ty) (map numeral_number ws)) (pattern slot.ty (numeral_number word)) (omega (arith, long, ltb-true count slot.len e))))
      by false e = rw (e, is) (sym (take_no_more slot.len (map (pattern slot.ty) (map numeral_number ws)) (pattern slot.ty (numeral_number word)) (omega (arith, long, ltb-false count slot.len e))))

  pub measures_more : (ws : List (List ℕ)) (old new : Numbers) (word : List ℕ) (z : ℤ) → MeasuresWords slot ws old → is_numeral word ≡ true → z ≡ capped_number word → AddsNumber slot z old new
      → MeasuresWords slot (ws ++ word ∷ []) new
  measures_more ws old new word z before numeral is adds =
      let range : is_in_range slot.ty z ≡ is_in_range slot.ty (numeral_number word) = ap (is_in_range slot.ty) is ∙ read_range slot.ty word in record {
        numerals = list_all-append is_numeral ws (word ∷ []) ∙ ap (λ b. b && (is_numeral word && true)) before.numerals ∙ ap (λ b. b && true) numeral;
        measured = record {
          count = adds.count ∙ ap (λ n. n + 1) before.measured.count ∙ sym (ap length (map-append numeral_number ws (word ∷ [])) ∙ length-append (map numeral_number ws) (numeral_number word ∷ []));
          in_range =
              adds.in_range ∙ ap (λ b. b && is_in_range slot.ty z) before.measured.in_range
              ∙ ap (λ b. list_all (is_in_range slot.ty) (map numeral_number ws) && b) (range ∙ sym (and-true (is_in_range slot.ty (numeral_number word))))
              ∙ sym (ap (list_all (is_in_range slot.ty)) (map-append numeral_number ws (word ∷ [])) ∙ list_all-append (is_in_range slot.ty) (map numeral_number ws) (numeral_number word ∷ []));
          patterns = λ held.
              let both = both_hold old.in_range (is_in_range slot.ty z) (sym adds.in_range ∙ held) in
              let same : z ≡ numeral_number word = is ∙ read_same slot.ty word (sym range ∙ both.1) in
              adds.patterns ∙ ap (λ x. cond (ltb old.count slot.len) (old.patterns ++ pattern slot.ty x ∷ []) old.patterns) same
              ∙ patterns_more ws word old.patterns old.count (before.measured.count ∙ length-map ws numeral_number) (before.measured.patterns both.0);
        };
      }

-- a word is its minus and the rest
word_length : (word : List ℕ) → length word ≡ minus_len (starts_with_minus word) + length (digits_of word)
word_length word = omega (arith, minus_within word, length-drop (minus_len (starts_with_minus word)) word)

-- no number stands at its front
pub none_numeral : (word : List ℕ) → number_at word 0 ≡ None → is_numeral word ≡ false
unfolding is_numeral
none_numeral word h = none_at (starts_with_minus word) (digits_of word) h

-- one does, and does not end with it
pub short_numeral : (word : List ℕ) (n : Number) → number_at word 0 ≡ Some n → (n.end ≡ length word → ⊥) → is_numeral word ≡ false
unfolding is_numeral
short_numeral word n h other = short_at (starts_with_minus word) (digits_of word) n h (λ e. other (e ∙ sym (word_length word)))

-- one does, and ends with it
pub whole_numeral : (word : List ℕ) (n : Number) → number_at word 0 ≡ Some n → n.end ≡ length word → (is_numeral word ≡ true) × (n.value ≡ capped_number word)
unfolding is_numeral
whole_numeral word n h same = whole_at (starts_with_minus word) (digits_of word) n h (same ∙ word_length word)

-- what is kept of the words before the rest of a text
pub record SoFar (slot : Slot) (text rest : List ℕ) (n : Numbers) : Type 0 where
  pub done : List (List ℕ)
  pub whole : words text ≡ done ++ words rest
  pub measured : MeasuresWords slot done n
  pub room : n.count + length rest ≤ length text

-- words that are all numerals have numbers where there is one
pub numbers_there : (ws : List (List ℕ)) → list_all is_numeral ws ≡ true → 0 < length ws → numbers_in ws ≡ Some (map numeral_number ws)
numbers_there [] all some = absurd (omega arith)
numbers_there (w ∷ ws) all some = ap (λ b. cond b (Some (map numeral_number (w ∷ ws))) None) all

pub no_numbers : (ws : List (List ℕ)) → list_all is_numeral ws ≡ false → numbers_in ws ≡ None
no_numbers [] all = absurd (true≢false all)
no_numbers (w ∷ ws) all = ap (λ b. cond b (Some (map numeral_number (w ∷ ws))) None) all

pub measures_text : (slot : Slot) (text : List ℕ) (n : Numbers) → MeasuresWords slot (words text) n → 0 < n.count → MeasuresText slot text n
measures_text slot text n measured some = record {
  numbers = map numeral_number (words text);
  there = numbers_there (words text) measured.numerals (omega (arith, measured.measured.count, length-map (words text) numeral_number));
  measured = measured.measured;
}

pub measures_nothing : (slot : Slot) (text : List ℕ) (n : Numbers) → MeasuresWords slot (words text) n → n.count ≡ 0 → numbers_in (words text) ≡ None
measures_nothing slot text n measured none = by (words text) (omega (arith, measured.measured.count, length-map (words text) numeral_number))
  where
    by : (ws : List (List ℕ)) → length ws ≡ 0 → numbers_in ws ≡ None
    by [] e = refl
    by (w ∷ ws) e = absurd (omega arith)
