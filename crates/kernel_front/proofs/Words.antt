-- The words of a text: each piece that is a name or a reserved word has a byte or more, and as many as its spelling.
use Rattle.std.proofs.Common.{◌≡◌, ℕ, ◌+◌, ◌<◌, Bool, true, false, cond, ◌==◌, ◌||◌, List, [], ◌∷◌, length, Option, Some, None, find, refl, sym, ap, subst, arith}
use Rattle.std.proofs.lemmas.List.Folds.{length-prefix_len}
use Rattle.std.proofs.lemmas.Slice.Eq.{bytes_eq-Decides}
use Rattle.std.specs.Prelude.{bytes_eq}
use Rattle.std.specs.Char.{is_ascii_digit}
use Rattle.std.specs.List.{prefix_len}
use Rattle.el_base.specs.Choices.{Has, has, has_if}
use Rattle.el_base.specs.declared.span.Span.{Span}
use Rattle.el_base.specs.declared.ty.Ty.{Ty}
use Rattle.el_base.specs.Words.{is_letter, is_word, letter_is_word}
use Rattle.c_ast.specs.Numerals.{number_of}
use Rattle.c_ast.specs.Pieces.{Numeral, Directive, includes, defines, directive_of, key_of, keys, is_white, number_token, word_of, mark_of}
use Rattle.c_ast.specs.Texts.{key_text}
use Rattle.c_ast.specs.Tokens.{End, Turn, goes, stops, Defined, number_for, name_or_number, meaning_by, meaning_of, number_by, number_turn, mark_turn, define_by, directive_by, directive_turn, gives, turn, span_at}
use Rattle.c_ast.specs.declared.key.Key.{Key}
use Rattle.c_ast.specs.declared.mark.Mark.{Mark}
use Rattle.c_ast.specs.declared.token.Token.{Token}
use Rattle.c_ast.specs.declared.token.Word.{Word}
use Rattle.c_ast.specs.declared.token.Word.TheVariants as word

-- the one value where the test passes
has_given : {A : Type 0} {P : A → Type 0} (b t : Bool) (x y : A) → b ≡ t → (b ≡ true → Has P x) → Has P y → Has P (cond t x y)
has_given b true x y is one other = one is
has_given b false x y is one other = other

-- ---- words

-- a name or a reserved word has n bytes, and not 0
abbrev pub WordLong : Word → ℕ → Type 0
WordLong (word.Name x) n = (0 < n) × (length x ≡ n)
WordLong (word.Key k) n = (0 < n) × (length (key_text k) ≡ n)
WordLong (word.Number v t) n = Unit {0}
WordLong (word.Mark m) n = Unit {0}

abbrev KeyLong : List ℕ → Option Key → Type 0
KeyLong name None = Unit {0}
KeyLong name (Some k) = length (key_text k) ≡ length name

key_if : (name : List ℕ) (k : Key) (o : Option Key) (b : Bool) → bytes_eq (key_text k) name ≡ b → KeyLong name o → KeyLong name (cond b (Some k) o)
key_if name k o true is rest = ap length ((bytes_eq-Decides (key_text k) name).0 is)
key_if name k o false is rest = rest

found_long : (name : List ℕ) (ks : List Key) → KeyLong name (find (λ k. bytes_eq (key_text k) name) ks)
found_long name [] = tt
found_long name (k ∷ ks) = key_if name k (find (λ k. bytes_eq (key_text k) name) ks) (bytes_eq (key_text k) name) refl (found_long name ks)

key_long : (name : List ℕ) → KeyLong name (key_of name)
unfolding key_of
key_long name = found_long name keys

word_long : (name : List ℕ) (o : Option Numeral) → 0 < length name → WordLong (name_or_number name o) (length name)
word_long name None some = (some, refl)
word_long name (Some n) some = tt

meant_long : (ds : Defined) (name : List ℕ) (o : Option Key) → 0 < length name → KeyLong name o → WordLong (meaning_by ds name o) (length name)
meant_long ds name None some is = word_long name (number_for ds name) some
meant_long ds name (Some k) some is = (some, is)

meaning_long : (ds : Defined) (name : List ℕ) → 0 < length name → WordLong (meaning_of ds name) (length name)
unfolding meaning_of
meaning_long ds name some = meant_long ds name (key_of name) some (key_long name)

some_passes : (p : ℕ → Bool) (b : ℕ) (rest : List ℕ) → p b ≡ true → 0 < prefix_len p (b ∷ rest)
some_passes p b rest h = by (p b) h
  where
    by : (t : Bool) → t ≡ true → 0 < cond t (1 + prefix_len p rest) 0
    by true h = omega arith
    by false h = absurd (cc)

word_some : (b : ℕ) (rest : List ℕ) → is_letter b ≡ true → 0 < length (word_of (b ∷ rest))
unfolding word_of
word_some b rest h = subst (λ n. 0 < n) (sym (length-prefix_len is_word (b ∷ rest))) (some_passes is_word b rest (letter_is_word b h))

-- ---- pieces

-- a piece of n bytes at byte k gives one token at most, which is there
abbrev pub PieceLaid : ℕ → ℕ → List Token → Type 0
PieceLaid k n [] = Unit {0}
PieceLaid k n (t ∷ ts) = (t.span.start ≡ k) × (t.span.end ≡ k + n) × WordLong t.word n × (ts ≡ [])

abbrev pub TurnLaid : ℕ → Turn → Type 0
TurnLaid k (goes n first ds more) = PieceLaid k n more
TurnLaid k (stops e) = Unit {0}

one_token : (bytes : List ℕ) (k : ℕ) (ds : Defined) (w : Word) (n : ℕ) → WordLong w n → Has (TurnLaid k) (gives bytes k ds w n)
unfolding span_at
one_token bytes k ds w n long = has (gives bytes k ds w n) (refl, refl, long, refl)

no_token : (k n : ℕ) (first : Bool) (ds : Defined) → Has (TurnLaid k) (goes n first ds [])
no_token k n first ds = has (goes n first ds []) tt

stopped : (k : ℕ) (e : End) → Has (TurnLaid k) (stops e)
stopped k e = has (stops e) tt

number_by_laid : (bytes : List ℕ) (k n : ℕ) (ds : Defined) (o : Option (ℕ × Ty)) → Has (TurnLaid k) (number_by bytes k ds n o)
number_by_laid bytes k n ds None = stopped k _
number_by_laid bytes k n ds (Some v) = one_token bytes k ds (word.Number v.0 v.1) n tt

number_laid : (bytes : List ℕ) (k : ℕ) (ds : Defined) (token : List ℕ) → Has (TurnLaid k) (number_turn bytes k ds token)
unfolding number_turn
number_laid bytes k ds token = has_if _ _ _ (number_by_laid bytes k _ ds (number_of token)) (stopped k _)

mark_laid : (bytes : List ℕ) (k : ℕ) (ds : Defined) (o : Option Mark) → Has (TurnLaid k) (mark_turn bytes k ds o)
mark_laid bytes k ds None = stopped k _
mark_laid bytes k ds (Some m) = one_token bytes k ds (word.Mark m) _ tt

define_laid : (k : ℕ) (ds : Defined) (name : List ℕ) (at : Span) (n : Numeral) (len : ℕ) (o : Option Numeral) → Has (TurnLaid k) (define_by ds name at n len o)
define_laid k ds name at n len None = no_token k len false _
define_laid k ds name at n len (Some d) = has_if _ _ _ (no_token k len false ds) (stopped k _)

directive_by_laid : (bytes : List ℕ) (k : ℕ) (ds : Defined) (o : Option Directive) → Has (TurnLaid k) (directive_by bytes k ds o)
directive_by_laid bytes k ds None = stopped k _
directive_by_laid bytes k ds (Some (includes len)) = no_token k len false ds
directive_by_laid bytes k ds (Some (defines name at n len)) = define_laid k ds name _ n len (number_for ds name)

directive_laid : (bytes : List ℕ) (k : ℕ) (first : Bool) (ds : Defined) (text : List ℕ) → Has (TurnLaid k) (directive_turn bytes k first ds text)
unfolding directive_turn
directive_laid bytes k first ds text = has_if first _ _ (directive_by_laid bytes k ds (directive_of text)) (stopped k _)

turn_has : (bytes : List ℕ) (k : ℕ) (first : Bool) (ds : Defined) (text : List ℕ) → Has (TurnLaid k) (turn bytes k first ds text)
unfolding turn
turn_has bytes k first ds [] = stopped k _
turn_has bytes k first ds (b ∷ rest) =
    has_if (is_white b) _ _ (no_token k 1 (first || b == 10) ds)
    (has_if (b == 35) _ _ (directive_laid bytes k first ds (b ∷ rest))
    (has_given (is_letter b) (is_letter b) _ _ refl (λ h. one_token bytes k ds (meaning_of ds (word_of (b ∷ rest))) (length (word_of (b ∷ rest))) (meaning_long ds (word_of (b ∷ rest)) (word_some b rest h)))
    (has_if (is_ascii_digit b) _ _ (number_laid bytes k ds (number_token (b ∷ rest)))
    (mark_laid bytes k ds (mark_of (b ∷ rest))))))

pub turn_laid : (bytes : List ℕ) (k : ℕ) (first : Bool) (ds : Defined) (text : List ℕ) → TurnLaid k (turn bytes k first ds text)
turn_laid bytes k first ds text = (turn_has bytes k first ds text).is
