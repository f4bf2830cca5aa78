-- The lines of a text and the words of a line, taken off one by one.
use Rattle.std.proofs.Common.{◌≡◌, ℕ, zero, suc, ◌+◌, ◌-◌, ◌<◌, ◌≤◌, eqb, ltb, cond, not, Bool, true, false, List, [], ◌∷◌, length, take, drop, get_or, filter, position, Some, None, refl, sym, ap, ◌∙◌, subst, true≢false, add-zero, add-one, drop-cons, arith}
use Rattle.std.proofs.lemmas.Bool.{ltb-true, lt-ltb, not-true}
use Rattle.std.proofs.lemmas.List.{drop_all, length-drop, length-take, length-take-le, get_or-drop}
use Rattle.std.proofs.lemmas.List.Elements.{All-from_get_or}
use Rattle.std.proofs.lemmas.List.Splits.{slice_split-cons_yes, slice_split_none, slice_split_first}
use Rattle.std.proofs.lemmas.List.Sums.{fails_before_first, passes_at_first}
use Rattle.std.specs.List.{slice_split, position_or_len, All}
use Rattle.std.specs.Str.Lines.{lines, lines_of_parts, strip_carriage_return}
use Rattle.inputs_text.specs.Lines.{is_blank, words}

module _ (p : ℕ → Bool) (xs : List ℕ) where
  -- where `position` finds a place, it is the first
  pub first_is : (i : ℕ) → position p xs ≡ Some i → (position_or_len p xs ≡ i) × (i < length xs)
  first_is i h = by (ltb (position_or_len p xs) (length xs)) refl h
    where
      by : (b : Bool) → ltb (position_or_len p xs) (length xs) ≡ b → cond b (Some (position_or_len p xs)) None ≡ Some i → (position_or_len p xs ≡ i) × (i < length xs)
      by true e is = let same : position_or_len p xs ≡ i = cc in (same, subst (λ n. n < length xs) same (ltb-true _ _ e))
      by false e is = cc

  -- else none passes
  pub none_is : position p xs ≡ None → (length xs ≤ position_or_len p xs) × All (λ x. p x ≡ false) xs
  none_is h = by (ltb (position_or_len p xs) (length xs)) refl h
    where
      long : ltb (position_or_len p xs) (length xs) ≡ false → length xs ≤ position_or_len p xs
      long e = grind arith

      by : (b : Bool) → ltb (position_or_len p xs) (length xs) ≡ b → cond b (Some (position_or_len p xs)) None ≡ None → (length xs ≤ position_or_len p xs) × All (λ x. p x ≡ false) xs
      by true e is = cc
      by false e is = (long e, All-from_get_or (λ x. p x ≡ false) xs 0 (λ k within. fails_before_first p xs k 0 (omega (arith, long e))))

-- a split has a first part
split_some : (p : ℕ → Bool) (xs : List ℕ) → (part : List ℕ) × (parts : List (List ℕ)) × (slice_split p xs ≡ part ∷ parts)
split_some p [] = ([], [], refl)
split_some p (x ∷ xs) = by (p x) refl (slice_split p xs) refl
  where
    by : (b : Bool) → p x ≡ b → (rest : List (List ℕ)) → slice_split p xs ≡ rest → (part : List ℕ) × (parts : List (List ℕ)) × (slice_split p (x ∷ xs) ≡ part ∷ parts)
    by true e rest is = ([], rest, rw (e, is) refl)
    by false e [] is = (x ∷ [], [], rw (e, is) refl)
    by false e (y ∷ ys) is = (x ∷ y, ys, rw (e, is) refl)

-- a part before others is a line of its own
parts_more : (x : List ℕ) (parts : List (List ℕ)) (y : List ℕ) (more : List (List ℕ)) → parts ≡ y ∷ more → lines_of_parts (x ∷ parts) ≡ strip_carriage_return x ∷ lines_of_parts parts
parts_more x parts y more e = subst (λ ps. lines_of_parts (x ∷ ps) ≡ strip_carriage_return x ∷ lines_of_parts ps) (sym e) refl

pub lines_more : (bytes : List ℕ) (i : ℕ) → position (λ b. eqb b 10) bytes ≡ Some i → lines bytes ≡ strip_carriage_return (take i bytes) ∷ lines (drop (i + 1) bytes)
lines_more bytes i h =
    let first = first_is (λ b. eqb b 10) bytes i h in
    let rest = split_some (λ b. eqb b 10) (drop (i + 1) bytes) in
    ap lines_of_parts (slice_split_first (λ b. eqb b 10) bytes 0 (subst (λ n. n < length bytes) (sym first.0) first.1))
    ∙ ap (λ n. lines_of_parts (take n bytes ∷ slice_split (λ b. eqb b 10) (drop (n + 1) bytes))) first.0
    ∙ parts_more (take i bytes) (slice_split (λ b. eqb b 10) (drop (i + 1) bytes)) rest.0 rest.1 rest.2

pub lines_last : (bytes : List ℕ) → position (λ b. eqb b 10) bytes ≡ None → 0 < length bytes → lines bytes ≡ bytes ∷ []
lines_last [] h some = absurd (omega arith)
lines_last (b ∷ bs) h some =
    let full : eqb (suc (length bs)) 0 ≡ false = grind arith in
    ap lines_of_parts (slice_split_none (λ b. eqb b 10) (b ∷ bs) (none_is (λ b. eqb b 10) (b ∷ bs) h).1)
    ∙ ap (λ e. cond e [] ((b ∷ bs) ∷ [])) full

pub stripped_shorter : (l : List ℕ) → length (strip_carriage_return l) ≤ length l
stripped_shorter l = by (eqb (get_or l (length l - 1) 0) 13)
  where
    by : (b : Bool) → length (cond b (take (length l - 1) l) l) ≤ length l
    by true = omega (arith, length-take (length l - 1) l)
    by false = omega arith

-- a blank at the front makes no word
words-blank : (b : ℕ) (text : List ℕ) → is_blank b ≡ true → words (b ∷ text) ≡ words text
unfolding words
words-blank b text h = ap (filter (λ w. ltb 0 (length w))) (slice_split-cons_yes is_blank b text h)

-- nor do blanks
more_blank : (b : ℕ) (bs : List ℕ) → is_blank b ≡ true → position_or_len (λ x. not (is_blank x)) (b ∷ bs) ≡ suc (position_or_len (λ x. not (is_blank x)) bs)
more_blank b bs e = ap (λ v. cond (not (not v)) (1 + position_or_len (λ x. not (is_blank x)) bs) 0) e ∙ omega arith

words_after_blanks : (text : List ℕ) → words text ≡ words (drop (position_or_len (λ b. not (is_blank b)) text) text)
words_after_blanks [] = refl
words_after_blanks (b ∷ bs) = by (is_blank b) refl (words_after_blanks bs)
  where
    by : (blank : Bool) → is_blank b ≡ blank → words bs ≡ words (drop (position_or_len (λ x. not (is_blank x)) bs) bs) → words (b ∷ bs) ≡ words (drop (position_or_len (λ x. not (is_blank x)) (b ∷ bs)) (b ∷ bs))
    by true e rest = words-blank b bs e ∙ rest ∙ ap (λ n. words (drop n (b ∷ bs))) (sym (more_blank b bs e))
    by false e rest = ap (λ v. words (drop (cond (not (not v)) (1 + position_or_len (λ x. not (is_blank x)) bs) 0) (b ∷ bs))) (sym e)

-- a text of blanks has no words
pub words_none : (text : List ℕ) → position (λ b. not (is_blank b)) text ≡ None → words text ≡ []
unfolding words
words_none text h =
    words_after_blanks text
    ∙ ap words (drop_all _ text (none_is (λ b. not (is_blank b)) text h).0)

-- what does not begin with a blank begins with a word
module _ (text : List ℕ) (some : 0 < length text) (plain : is_blank (get_or text 0 0) ≡ false) where
  apart : (n : ℕ) → is_blank (get_or text n 0) ≡ true → 0 < n
  apart zero here = absurd (true≢false (sym here ∙ plain))
  apart (suc n) here = omega arith

  -- the first blank stands past its first byte
  blank_there : (n : ℕ) → position is_blank text ≡ Some n → (is_blank (get_or text n 0) ≡ true) × (0 < n)
  blank_there n h =
      let first = first_is is_blank text n h in
      let within : position_or_len is_blank text < length text = subst (λ m. m < length text) (sym first.0) first.1 in
      let here : is_blank (get_or text n 0) ≡ true = subst (λ m. is_blank (get_or text m 0) ≡ true) first.0 (passes_at_first is_blank text 0 within) in
      (here, apart n here)

  words_more : (n : ℕ) → position is_blank text ≡ Some n → words text ≡ take n text ∷ words (drop n text)
  unfolding words
  words_more n h =
      let first = first_is is_blank text n h in
      let there = blank_there n h in
      let within : position_or_len is_blank text < length text = subst (λ m. m < length text) (sym first.0) first.1 in
      let seam : drop n text ≡ get_or text n 0 ∷ drop (n + 1) text = rw add-one (drop-cons text n 0 first.1) in
      let full : ltb 0 (length (take n text)) ≡ true = rw (length-take-le n text (omega arith)) (lt-ltb 0 n there.1) in
      ap (filter (λ w. ltb 0 (length w))) (slice_split_first is_blank text 0 within ∙ ap (λ m. take m text ∷ slice_split is_blank (drop (m + 1) text)) first.0)
      ∙ ap (λ v. cond v (take n text ∷ words (drop (n + 1) text)) (words (drop (n + 1) text))) full
      ∙ ap (λ ws. take n text ∷ ws) (sym (ap words seam ∙ words-blank (get_or text n 0) (drop (n + 1) text) there.0))

  words_one : position is_blank text ≡ None → words text ≡ text ∷ words []
  unfolding words
  words_one h =
      ap (filter (λ w. ltb 0 (length w))) (slice_split_none is_blank text (none_is is_blank text h).1)
      ∙ ap (λ v. cond v (text ∷ []) []) (lt-ltb 0 (length text) some)

-- the text from its first word on
module _ (text : List ℕ) (start : ℕ) (h : position (λ b. not (is_blank b)) text ≡ Some start) where
  starts : (words text ≡ words (drop start text)) × (0 < length (drop start text)) × (is_blank (get_or (drop start text) 0 0) ≡ false)
  starts =
      let first = first_is (λ b. not (is_blank b)) text start h in
      let within : position_or_len (λ b. not (is_blank b)) text < length text = subst (λ m. m < length text) (sym first.0) first.1 in
      let here : not (is_blank (get_or text start 0)) ≡ true = subst (λ m. not (is_blank (get_or text m 0)) ≡ true) first.0 (passes_at_first (λ b. not (is_blank b)) text 0 within) in
      (words_after_blanks text ∙ ap (λ n. words (drop n text)) first.0, omega (arith, first.1, length-drop start text), rw (get_or-drop start text 0 0, add-zero) (not-true _ here))

  pub next_more : (n : ℕ) → position is_blank (drop start text) ≡ Some n → words text ≡ take n (drop start text) ∷ words (drop n (drop start text))
  next_more n k = starts.0 ∙ words_more (drop start text) starts.1 starts.2 n k

  pub next_last : position is_blank (drop start text) ≡ None → words text ≡ drop start text ∷ words []
  next_last k = starts.0 ∙ words_one (drop start text) starts.1 starts.2 k

  -- it takes a byte at least
  pub next_shorter : (n : ℕ) → position is_blank (drop start text) ≡ Some n → length (drop n (drop start text)) < length text
  next_shorter n k = omega (arith, starts.1, (blank_there (drop start text) starts.1 starts.2 n k).1, (first_is is_blank (drop start text) n k).1, length-drop n (drop start text), length-drop start text)

  pub some_there : start < length text
  some_there = (first_is (λ b. not (is_blank b)) text start h).1
