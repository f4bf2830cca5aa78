-- The tokens of a text stand one after another, so the place of a word is known from its first byte.
use Rattle.std.proofs.Common.{◌≡◌, ℕ, ◌+◌, ◌<◌, ◌≤◌, Bool, true, false, cond, ◌==◌, List, [], ◌∷◌, ◌++◌, length, Option, Some, None, refl, sym, ap, ◌∙◌, subst, arith}
use Rattle.std.proofs.lemmas.Bool.Decides.{nat_tests}
use Rattle.el_base.specs.declared.span.Span.{Span}
use Rattle.c_ast.specs.Texts.{key_text}
use Rattle.c_ast.specs.Tokens.{End, Defined, Lexed, stop, piece, Tokens}
use Rattle.c_ast.specs.declared.token.Token.{Token}
use Rattle.c_ast.specs.declared.token.Word.{Word}
use Rattle.c_ast.specs.declared.token.Word.TheVariants as word
use Rattle.kernel_front.proofs.Words.{WordLong, PieceLaid, TurnLaid, turn_laid}

-- a name or a reserved word has a byte or more, as many as its spelling, at a place that keeps Q
abbrev pub WordIs : (Span → Type 0) → Word → Span → Type 0
WordIs Q (word.Name x) s = Q s × (s.start < s.end) × (s.end ≡ s.start + length x)
WordIs Q (word.Key k) s = Q s × (s.start < s.end) × (s.end ≡ s.start + length (key_text k))
WordIs Q (word.Number v t) s = Unit {0}
WordIs Q (word.Mark m) s = Unit {0}

-- tokens that stand one after another from a byte on
abbrev pub AreLaid : (Span → Type 0) → ℕ → List Token → Type 0
AreLaid Q k [] = Unit {0}
AreLaid Q k (t ∷ ts) = (k ≤ t.span.start) × (t.span.start ≤ t.span.end) × WordIs Q t.word t.span × AreLaid Q t.span.end ts

abbrev AnyPlace : Span → Type 0
AnyPlace s = Unit {0}

sooner : (j k : ℕ) (ts : List Token) → j ≤ k → AreLaid AnyPlace k ts → AreLaid AnyPlace j ts
sooner j k [] le h = tt
sooner j k (t ∷ ts) le h = (omega (arith, h.0), h.1, h.2, h.3)

word_is : (w : Word) (s : Span) (k n : ℕ) → s.start ≡ k → s.end ≡ k + n → WordLong w n → WordIs AnyPlace w s
word_is (word.Name x) s k n start end long = (tt, omega (arith, long.0), omega (arith, long.1))
word_is (word.Key q) s k n start end long = (tt, omega (arith, long.0), omega (arith, long.1))
word_is (word.Number v t) s k n start end long = tt
word_is (word.Mark m) s k n start end long = tt

one_more : (k n : ℕ) (us vs : List Token) → PieceLaid k n us → AreLaid AnyPlace (k + n) vs → AreLaid AnyPlace k (us ++ vs)
one_more k n [] vs here more = sooner k (k + n) vs (omega arith) more
one_more k n (t ∷ ts) vs here more = (
  omega (arith, here.0),
  omega (arith, here.0, here.1),
  word_is t.word t.span k n here.0 here.1 here.2,
  subst (λ us. AreLaid AnyPlace t.span.end (us ++ vs)) (sym here.3) (subst (λ j. AreLaid AnyPlace j vs) (sym here.1) more),
)

pieces_laid : (bytes : List ℕ) (k : ℕ) (first : Bool) (ds : Defined) (text : List ℕ) (ts : List Token) (e : End) → Lexed bytes k first ds text ts e → AreLaid AnyPlace k ts
pieces_laid bytes k first ds text ts e (stop l f d t end is) = tt
pieces_laid bytes k first ds text ts e (piece l n f later d known t us vs end is more) =
    one_more l n us vs (subst (TurnLaid l) is (turn_laid bytes l f d t)) (pieces_laid bytes _ _ _ _ vs _ more)

-- ---- the place of the word that begins at a byte

abbrev is_word_token : Word → Bool
is_word_token (word.Name x) = true
is_word_token (word.Key k) = true
is_word_token (word.Number v t) = false
is_word_token (word.Mark m) = false

abbrev pub place_from : List Token → ℕ → Option Span
place_from [] n = None
place_from (t ∷ ts) n = cond (is_word_token t.word) (cond (t.span.start == n) (Some t.span) (place_from ts n)) (place_from ts n)

-- the place is that of the word that begins at its first byte
abbrev pub IsPlaceOf : List Token → Span → Type 0
IsPlaceOf all s = place_from all s.start ≡ Some s

same_start : (n : ℕ) → (n == n) ≡ true
same_start n = grind (arith, nat_tests)

other_start : (m n : ℕ) → m < n → (m == n) ≡ false
other_start m n h = grind (arith, nat_tests)

here_is : (all : List Token) (w : Word) (s : Span) (o : Option Span) → place_from all s.start ≡ cond (is_word_token w) (cond (s.start == s.start) (Some s) o) o → WordIs AnyPlace w s → WordIs (IsPlaceOf all) w s
here_is all (word.Name x) s o is h = (is ∙ ap (λ b. cond b (Some s) o) (same_start s.start), h.1, h.2)
here_is all (word.Key k) s o is h = (is ∙ ap (λ b. cond b (Some s) o) (same_start s.start), h.1, h.2)
here_is all (word.Number v t) s o is h = tt
here_is all (word.Mark m) s o is h = tt

passed : (w : Word) (s : Span) (n : ℕ) (o : Option Span) → WordIs AnyPlace w s → s.end ≤ n → cond (is_word_token w) (cond (s.start == n) (Some s) o) o ≡ o
passed (word.Name x) s n o h le = ap (λ b. cond b (Some s) o) (other_start s.start n (omega (arith, h.1)))
passed (word.Key k) s n o h le = ap (λ b. cond b (Some s) o) (other_start s.start n (omega (arith, h.1)))
passed (word.Number v t) s n o h le = refl
passed (word.Mark m) s n o h le = refl

placed : (all : List Token) (k : ℕ) (ts : List Token) → ((n : ℕ) → k ≤ n → place_from all n ≡ place_from ts n) → AreLaid AnyPlace k ts → AreLaid (IsPlaceOf all) k ts
placed all k [] rest h = tt
placed all k (t ∷ ts) rest h = (
  h.0,
  h.1,
  here_is all t.word t.span (place_from ts t.span.start) (rest t.span.start h.0) h.2,
  placed all t.span.end ts (λ n le. rest n (omega (arith, h.0, h.1)) ∙ passed t.word t.span n (place_from ts n) h.2 le) h.3,
)

-- the words of a text's tokens each stand at the place that begins at their first byte
pub tokens_laid : (bytes : List ℕ) (ts : List Token) → Tokens bytes ts → AreLaid (IsPlaceOf ts) 0 ts
tokens_laid bytes ts r = placed ts 0 ts (λ n le. refl) (pieces_laid bytes 0 true [] r.text ts r.tokens_end r.lexed)
