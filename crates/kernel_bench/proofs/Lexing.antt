-- The tokens of a bench's kernel.
use Rattle.std.proofs.Common.{◌≡◌, ℕ, zero, suc, ◌+◌, Bool, true, false, ◌&&◌, List, [], ◌∷◌, ◌++◌, drop, Option, Some, None, refl, subst}
use Rattle.std.specs.Prelude.{codes, option_map, is_none}
use Rattle.el_base.specs.declared.ty.Ty.TheVariants.{I32}
use Rattle.c_ast.specs.declared.token.Token.{Token}
use Rattle.c_ast.specs.declared.key.Key.TheVariants as key
use Rattle.c_ast.specs.declared.mark.Mark.TheVariants as mark
use Rattle.c_ast.specs.Derives.{marked, keyed, named, numbered}
use Rattle.c_ast.specs.Numerals.{prefix_of, base_of, digits_of, suffix_of, unsigned_len, long_len, long_at, unsigned_at, is_long, is_unsigned, is_suffix, is_numeral, typed_value, number_of}
use Rattle.c_ast.specs.Pieces.{comment_len, word_of, number_token, key_of, mark_of}
use Rattle.c_ast.specs.Tokens.{Turn, goes, stops, whole, broken, Blanked, ends, byte, Defined, turn, Lexed, stop, piece, span_at, place_after, meaning_of, number_turn, directive_turn, Tokens}
use Rattle.kernel_bench.specs.Histogram.{bench_kernel, line_span}

-- ---- a text in which no comment begins

abbrev has_no_comment : List ℕ → Bool
has_no_comment [] = true
has_no_comment (b ∷ rest) = is_none (comment_len (b ∷ rest)) && has_no_comment rest

both_true : (a b : Bool) → a && b ≡ true → (a ≡ true) × (b ≡ true)
both_true true b h = (refl, h)
both_true false b h = absurd (cc)

none_of : (o : Option ℕ) → is_none o ≡ true → o ≡ None
none_of None h = refl
none_of (Some n) h = absurd (cc)

blanked : (bytes : List ℕ) (k : ℕ) (text : List ℕ) → has_no_comment text ≡ true → Blanked bytes k text text whole
blanked bytes k [] h = ends k
blanked bytes k (b ∷ rest) h =
    let parts = both_true (is_none (comment_len (b ∷ rest))) (has_no_comment rest) h in
    byte k b rest rest whole (none_of (comment_len (b ∷ rest)) parts.0) (blanked bytes (k + 1) rest parts.1)

plain : has_no_comment bench_kernel ≡ true
unfolding comment_len
plain = refl

-- ---- the pieces, one after another

-- what a turn leads to
abbrev after_turn : (ℕ → Bool → Defined → Option (List Token)) → Turn → Option (List Token)
after_turn next (goes len first ds more) = option_map (λ ts. more ++ ts) (next len first ds)
after_turn next (stops whole) = Some []
after_turn next (stops (broken f s)) = None

-- the tokens of a text of fewer pieces than n
abbrev lexed : ℕ → List ℕ → ℕ → Bool → Defined → List ℕ → Option (List Token)
lexed zero bytes k first ds text = None
lexed (suc n) bytes k first ds text = after_turn (λ len later known. lexed n bytes (k + len) later known (drop len text)) (turn bytes k first ds text)

some_of : {A : Type 0} → (x y : A) → Some x ≡ Some y → x ≡ y
some_of x y h = cc

abbrev IsLexed : ℕ → List ℕ → Type 0
IsLexed n bytes = (k : ℕ) (first : Bool) (ds : Defined) (text : List ℕ) (ts : List Token) → lexed n bytes k first ds text ≡ Some ts → Lexed bytes k first ds text ts whole

module _ (n : ℕ) (bytes : List ℕ) (behind : IsLexed n bytes) (k : ℕ) (first : Bool) (ds : Defined) (text : List ℕ) (ts : List Token) where
  abbrev next : ℕ → Bool → Defined → Option (List Token)
  next len later known = lexed n bytes (k + len) later known (drop len text)

  by_rest : (len : ℕ) (later : Bool) (known : Defined) (more : List Token) (o : Option (List Token)) → turn bytes k first ds text ≡ goes len later known more
      → next len later known ≡ o → option_map (λ us. more ++ us) o ≡ Some ts → Lexed bytes k first ds text ts whole
  by_rest len later known more None is rest e = absurd (cc)
  by_rest len later known more (Some us) is rest e =
      subst (λ xs. Lexed bytes k first ds text xs whole) (some_of (more ++ us) ts e)
      (piece k len first later ds known text more us whole is (behind (k + len) later known (drop len text) us rest))

  by_turn : (t : Turn) → turn bytes k first ds text ≡ t → after_turn next t ≡ Some ts → Lexed bytes k first ds text ts whole
  by_turn (goes len later known more) is e = by_rest len later known more (next len later known) is refl e
  by_turn (stops whole) is e = subst (λ xs. Lexed bytes k first ds text xs whole) (some_of [] ts e) (stop k first ds text whole is)
  by_turn (stops (broken f s)) is e = absurd (cc)

lexed_is : (n : ℕ) (bytes : List ℕ) → IsLexed n bytes
lexed_is zero bytes k first ds text ts h = absurd (cc)
lexed_is (suc n) bytes k first ds text ts h = by_turn n bytes (lexed_is n bytes) k first ds text ts (turn bytes k first ds text) refl h

-- ---- the tokens

abbrev pub tokens : List Token
tokens = keyed key.Void (line_span 0 4) ∷ named (codes "hist") (line_span 5 9) ∷ marked mark.Open (line_span 9 10) ∷ keyed key.Int32 (line_span 10 17) ∷ named (codes "n") (line_span 18 19)
    ∷ marked mark.Comma (line_span 19 20) ∷ keyed key.Int32 (line_span 21 28) ∷ named (codes "x") (line_span 29 30) ∷ marked mark.OpenBracket (line_span 30 31) ∷ numbered 1024 I32 (line_span 31 35)
    ∷ marked mark.CloseBracket (line_span 35 36) ∷ marked mark.Comma (line_span 36 37) ∷ keyed key.Int32 (line_span 38 45) ∷ named (codes "w") (line_span 46 47) ∷ marked mark.OpenBracket (line_span 47 48)
    ∷ numbered 1024 I32 (line_span 48 52) ∷ marked mark.CloseBracket (line_span 52 53) ∷ marked mark.Comma (line_span 53 54) ∷ keyed key.Int32 (line_span 55 62) ∷ named (codes "h") (line_span 63 64)
    ∷ marked mark.OpenBracket (line_span 64 65) ∷ numbered 64 I32 (line_span 65 67) ∷ marked mark.CloseBracket (line_span 67 68) ∷ marked mark.Close (line_span 68 69)
    ∷ marked mark.OpenBrace (line_span 70 71) ∷ keyed key.For (line_span 72 75) ∷ marked mark.Open (line_span 76 77) ∷ keyed key.Int32 (line_span 77 84) ∷ named (codes "i") (line_span 85 86)
    ∷ marked mark.Assign (line_span 87 88) ∷ numbered 0 I32 (line_span 89 90) ∷ marked mark.Semicolon (line_span 90 91) ∷ named (codes "i") (line_span 92 93) ∷ marked mark.Less (line_span 94 95)
    ∷ named (codes "n") (line_span 96 97) ∷ marked mark.Semicolon (line_span 97 98) ∷ named (codes "i") (line_span 99 100) ∷ marked mark.Increment (line_span 100 102)
    ∷ marked mark.Close (line_span 102 103) ∷ named (codes "h") (line_span 104 105) ∷ marked mark.OpenBracket (line_span 105 106) ∷ named (codes "x") (line_span 106 107)
    ∷ marked mark.OpenBracket (line_span 107 108) ∷ named (codes "i") (line_span 108 109) ∷ marked mark.CloseBracket (line_span 109 110) ∷ marked mark.CloseBracket (line_span 110 111)
    ∷ marked mark.AddAssign (line_span 112 114) ∷ named (codes "w") (line_span 115 116) ∷ marked mark.OpenBracket (line_span 116 117) ∷ named (codes "i") (line_span 117 118)
    ∷ marked mark.CloseBracket (line_span 118 119) ∷ marked mark.Semicolon (line_span 119 120) ∷ marked mark.CloseBrace (line_span 121 122) ∷ []

pieces : lexed 150 bench_kernel 0 true [] bench_kernel ≡ Some tokens
unfolding turn span_at place_after meaning_of number_turn directive_turn word_of number_token key_of mark_of prefix_of base_of digits_of suffix_of unsigned_len long_len long_at unsigned_at is_long is_unsigned is_suffix is_numeral typed_value number_of
pieces = refl

pub read : Tokens bench_kernel tokens
read = record {
  text = bench_kernel;
  comments_end = whole;
  tokens_end = whole;
  blanked = blanked bench_kernel 0 bench_kernel plain;
  lexed = lexed_is 150 bench_kernel 0 true [] bench_kernel tokens pieces;
  ends = refl;
}
