-- Digits, words and what they are worth.
use Rattle.std.proofs.Common.{⊎_elim, ◌≡◌, ℕ, suc, ◌+◌, ◌*◌, ◌^◌, ◌<◌, ◌≤◌, Bool, true, false, cond, ◌||◌, ◌&&◌, ◌==◌, List, [], ◌∷◌, length, take, drop, get_or, All, Option, Some, None, refl, sym, ap, ◌∙◌, subst, arith, get_or-take}
use Rattle.std.specs.Prelude.{is_none, nat_lt, if◌then◌else◌}
use Rattle.std.proofs.lemmas.Bool.{cases_lt, le-ltb, lt-ltb}
use Rattle.std.proofs.lemmas.Int.Digits.{digits_value_more}
use Rattle.std.specs.Char.{digit_value}
use Rattle.std.proofs.lemmas.List.Folds.{length-prefix_len}
use Rattle.std.proofs.lemmas.List.Sums.{prefix_len_passes}
use Rattle.std.proofs.lemmas.Str.Parse.{digits_value-take-le}
use Rattle.std.specs.Int.{is_in_range}
use Rattle.std.specs.Char.{is_digit, is_ascii_digit}
use Rattle.std.specs.List.{prefix_len, list_all}
use Rattle.std.specs.Str.Parse.{digits_value}
use Rattle.el_base.specs.Words.{is_letter, is_word, letter_is_word, is_identifier}
use Rattle.c_ast.specs.Numerals.{base_of, digits_of, prefix_of}
use Rattle.c_ast.specs.Pieces.{word_of, number_token, is_number_byte, begins_with_letter, begins_with_digit, is_definable, key_of}

-- what is taken while a test passes, passes it
all_prefix : {X : Type 0} (p : X → Bool) (xs : List X) → All (λ x. p x ≡ true) (take (prefix_len p xs) xs)
all_prefix p xs i d below =
    let low : i < prefix_len p xs = omega (arith, below, length-prefix_len p xs) in
    ap p (get_or-take (prefix_len p xs) xs i d low) ∙ prefix_len_passes p xs i d low

pub digits_pass : (token : List ℕ) → All (λ b. is_digit b (base_of token) ≡ true) (digits_of token)
unfolding digits_of
digits_pass token = all_prefix (λ b. is_digit b (base_of token)) (drop (prefix_of token) token)

pub digits_pass_at : (token ds : List ℕ) (base : ℕ) → ds ≡ digits_of token → base ≡ base_of token → All (λ b. is_digit b base ≡ true) ds
digits_pass_at token ds base is in_base =
    subst (λ xs. All (λ b. is_digit b base ≡ true) xs) (sym is) (subst (λ n. All (λ b. is_digit b n ≡ true) (digits_of token)) (sym in_base) (digits_pass token))

-- a number below 2 ^ 64, or none
abbrev pub below_64 : ℕ → Option ℕ
below_64 n = if nat_lt n (2 ^ 64) then Some n else None

pub wide_value : (base : ℕ) (ds : List ℕ) (i n : ℕ) → 1 ≤ base → n ≤ digits_value base (take i ds) → 2 ^ 64 ≤ n → None ≡ below_64 (digits_value base ds)
wide_value base ds i n some low wide =
    let more = digits_value-take-le base ds i some in
    sym (ap (λ t. cond t (Some (digits_value base ds)) None) (le-ltb (digits_value base ds) (2 ^ 64) (omega (arith, more, low, wide))))

pub narrow_value : (n m : ℕ) → n ≡ m → n < 2 ^ 64 → Some n ≡ below_64 m
narrow_value n m is low = ap Some is ∙ sym (ap (λ t. cond t (Some m) None) (lt-ltb m (2 ^ 64) (omega (arith, is, low))))

-- one more digit
pub value_more : (base : ℕ) (ds : List ℕ) (i v m p d : ℕ) → i < length ds → v ≡ digits_value base (take i ds) → m ≡ base → p ≡ v * m → d ≡ digit_value (get_or ds i 0)
    → p + d ≡ digits_value base (take (i + 1) ds)
value_more base ds i v m p d within is in_base product digit =
    ap (λ x. x + d) (product ∙ ap (λ x. x * m) is ∙ ap (λ x. digits_value base (take i ds) * x) in_base)
    ∙ ap (λ x. digits_value base (take i ds) * base + x) digit ∙ sym (digits_value_more base ds i within)

le_add : (a d : ℕ) → a ≤ a + d
le_add a d = omega arith

high_from : (n m : ℕ) → (n < m → ⊥) → m ≤ n
high_from n m never = ⊎_elim (λ low. absurd (never low)) (λ high. high) (cases_lt n m)

pub mul_wide : (base : ℕ) (ds : List ℕ) (i v m : ℕ) → 1 ≤ base → i < length ds → v ≡ digits_value base (take i ds) → m ≡ base → (v * m < 2 ^ 64 → ⊥) → None ≡ below_64 (digits_value base ds)
mul_wide base ds i v m some within is in_base never =
    let more = value_more base ds i v m (v * m) (digit_value (get_or ds i 0)) within is in_base refl refl in
    wide_value base ds (i + 1) (v * m) some (subst (λ y. v * m ≤ y) more (le_add (v * m) (digit_value (get_or ds i 0)))) (high_from (v * m) (2 ^ 64) never)

pub add_wide : (base : ℕ) (ds : List ℕ) (i v m p d : ℕ) → 1 ≤ base → i < length ds → v ≡ digits_value base (take i ds) → m ≡ base → p ≡ v * m → d ≡ digit_value (get_or ds i 0)
    → (p + d < 2 ^ 64 → ⊥) → None ≡ below_64 (digits_value base ds)
add_wide base ds i v m p d some within is in_base product digit never =
    let more = value_more base ds i v m p d within is in_base product digit in
    wide_value base ds (i + 1) (p + d) some (omega (arith, more)) (high_from (p + d) (2 ^ 64) never)

-- ---- words

digit_is_word : (d a b u : Bool) → d ≡ true → (((d || a) || b) || u) ≡ true
digit_is_word true a b u e = refl
digit_is_word false a b u e = absurd (cc)

digit_is_number_byte : (b : ℕ) → is_ascii_digit b ≡ true → is_number_byte b ≡ true
digit_is_number_byte b e = ap (λ t. t || (b == 46)) (digit_is_word (is_in_range 48 57 b) (is_in_range 65 90 b) (is_in_range 97 122 b) (b == 95) e)

one_more : (n : ℕ) → 1 + n ≡ suc n
one_more n = omega arith

prefix_front : (p : ℕ → Bool) (b : ℕ) (rest : List ℕ) → p b ≡ true → take (prefix_len p (b ∷ rest)) (b ∷ rest) ≡ b ∷ take (prefix_len p rest) rest
prefix_front p b rest yes_b = ap (λ n. take n (b ∷ rest)) (ap (λ t. cond t (1 + prefix_len p rest) 0) yes_b ∙ one_more (prefix_len p rest))

words_all : (text : List ℕ) → list_all is_word (take (prefix_len is_word text) text) ≡ true
words_all [] = refl
words_all (b ∷ rest) = by (is_word b) refl (words_all rest)
  where
    by : (t : Bool) → is_word b ≡ t → list_all is_word (take (prefix_len is_word rest) rest) ≡ true → list_all is_word (take (prefix_len is_word (b ∷ rest)) (b ∷ rest)) ≡ true
    by true is h = ap (list_all is_word) (prefix_front is_word b rest is) ∙ ap (λ t. t && list_all is_word (take (prefix_len is_word rest) rest)) is ∙ h
    by false is h = ap (λ t. list_all is_word (take (cond t (1 + prefix_len is_word rest) 0) (b ∷ rest))) is

pub word_is_identifier : (text : List ℕ) → begins_with_letter text ≡ true → is_identifier (word_of text) ≡ true
unfolding word_of
word_is_identifier [] e = absurd (cc)
word_is_identifier (b ∷ rest) e =
    ap is_identifier (prefix_front is_word b rest (letter_is_word b e)) ∙ ap (λ t. t && list_all is_word (take (prefix_len is_word rest) rest)) e ∙ words_all rest

pub word_some : (text : List ℕ) → begins_with_letter text ≡ true → 0 < length (word_of text)
unfolding word_of
word_some [] e = absurd (cc)
word_some (b ∷ rest) e = let front = ap length (prefix_front is_word b rest (letter_is_word b e)) in omega (arith, front)

pub number_some : (text : List ℕ) → begins_with_digit text ≡ true → 0 < length (number_token text)
unfolding number_token
number_some [] e = absurd (cc)
number_some (b ∷ rest) e = let front = ap length (prefix_front is_number_byte b rest (digit_is_number_byte b e)) in omega (arith, front)

-- what a word that begins with a letter is
begins_with_no_letter : (text : List ℕ) → begins_with_letter text ≡ false → begins_with_letter (word_of text) ≡ false
unfolding word_of
begins_with_no_letter [] e = refl
begins_with_no_letter (b ∷ rest) e = by (is_word b) refl
  where
    by : (t : Bool) → is_word b ≡ t → begins_with_letter (take (prefix_len is_word (b ∷ rest)) (b ∷ rest)) ≡ false
    by true is = ap begins_with_letter (prefix_front is_word b rest is) ∙ e
    by false is = ap (λ t. begins_with_letter (take (cond t (1 + prefix_len is_word rest) 0) (b ∷ rest))) is

pub word_identifier : (text : List ℕ) → begins_with_letter (word_of text) ≡ true → is_identifier (word_of text) ≡ true
word_identifier text e = by (begins_with_letter text) refl
  where
    by : (t : Bool) → begins_with_letter text ≡ t → is_identifier (word_of text) ≡ true
    by true is = word_is_identifier text is
    by false is = absurd (let never = begins_with_no_letter text is in cc)

and_first : (a b c : Bool) → true ≡ (a && b && c) → a ≡ true
and_first true b c e = refl
and_first false b c e = absurd (cc)

definable_letter : (word : List ℕ) → is_definable word ≡ true → begins_with_letter word ≡ true
unfolding is_definable
definable_letter word e = by (begins_with_letter word) refl
  where
    by : (t : Bool) → begins_with_letter word ≡ t → begins_with_letter word ≡ true
    by true is = is
    by false is = absurd (let never : is_definable word ≡ false = ap (λ t. t && is_none (key_of word)) is in cc)

-- the name of an accepted definition is an identifier
pub defined_identifier : (text name : List ℕ) (b c : Bool) → name ≡ word_of text → true ≡ (is_definable name && b && c) → is_identifier name ≡ true
defined_identifier text name b c is accepted =
    ap is_identifier is ∙ word_identifier text (ap begins_with_letter (sym is) ∙ definable_letter name (and_first (is_definable name) b c accepted))
