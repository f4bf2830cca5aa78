-- A worked example of `Tokens`: a text with a define and a comment.
use Rattle.std.proofs.Common.{ℕ, true, false, List, [], ◌∷◌, ◌++◌, drop, refl}
use Rattle.std.specs.Prelude.{codes}
use Rattle.el_base.specs.declared.ty.Ty.TheVariants.{I32}
use Rattle.c_ast.specs.Derives.{marked, numbered}
use Rattle.c_ast.specs.Numerals.{prefix_of, base_of, digits_of, suffix_of, unsigned_len, long_len, long_at, unsigned_at, is_long, is_unsigned, is_suffix, is_numeral, typed_value, number_of}
use Rattle.c_ast.specs.Pieces.{first_place, close_of, comment_len, word_of, number_token, key_of, mark_of, after_blanks, ends_line, is_definable, Numeral, include_of, defines_of, define_of, directive_of}
use Rattle.c_ast.specs.Tokens.{place_after, span_at, whole, splice_in, is_open, comment_end, Blanked, ends, byte, comment, Defined, meaning_of, directive_turn, turn, Lexed, stop, piece, Tokens}
use Rattle.c_ast.specs.declared.token.Token.{Token}
use Rattle.c_ast.specs.declared.mark.Mark.TheVariants as mark

-- `#define N 8`, and on the next line `N /**/+`
abbrev bytes : List ℕ
bytes = codes "#define N 8" ++ 10 ∷ codes "N /**/+"

abbrev plain : List ℕ
plain = codes "#define N 8" ++ 10 ∷ codes "N     +"

abbrev eight : Token
eight = numbered 8 I32 (record { start = 12; end = 13; line = 2; column = 1 })

abbrev plus : Token
plus = marked mark.Plus (record { start = 18; end = 19; line = 2; column = 7 })

abbrev number : Numeral
number = record { spelling = codes "8"; value = 8; ty = I32 }

abbrev known : Defined
known = (codes "N", number) ∷ []

blanks : Blanked bytes 0 bytes plain whole
unfolding comment_len close_of first_place comment_end is_open splice_in
blanks = byte _ _ _ _ _ refl (byte _ _ _ _ _ refl (byte _ _ _ _ _ refl (byte _ _ _ _ _ refl (byte _ _ _ _ _ refl (byte _ _ _ _ _ refl (byte _ _ _ _ _ refl (
    byte _ _ _ _ _ refl (byte _ _ _ _ _ refl (byte _ _ _ _ _ refl (byte _ _ _ _ _ refl (byte _ _ _ _ _ refl (byte _ _ _ _ _ refl (byte _ _ _ _ _ refl (
    comment 14 4 (codes "/**/+") (codes "+") whole refl (byte 18 43 [] [] whole refl (ends 19))))))))))))))))

pieces : Lexed bytes 0 true [] plain (eight ∷ plus ∷ []) whole
unfolding turn directive_turn directive_of include_of define_of defines_of after_blanks ends_line word_of number_token is_definable key_of mark_of is_numeral number_of typed_value prefix_of base_of digits_of suffix_of is_suffix is_long is_unsigned long_at unsigned_at long_len unsigned_len meaning_of span_at place_after
pieces =
    piece 0 11 true false [] known plain [] (eight ∷ plus ∷ []) whole refl (
    piece 11 1 false true known known (drop 11 plain) [] (eight ∷ plus ∷ []) whole refl (
    piece 12 1 true false known known (drop 12 plain) (eight ∷ []) (plus ∷ []) whole refl (
    piece 13 1 false false known known (drop 13 plain) [] (plus ∷ []) whole refl (
    piece 14 1 false false known known (drop 14 plain) [] (plus ∷ []) whole refl (
    piece 15 1 false false known known (drop 15 plain) [] (plus ∷ []) whole refl (
    piece 16 1 false false known known (drop 16 plain) [] (plus ∷ []) whole refl (
    piece 17 1 false false known known (drop 17 plain) [] (plus ∷ []) whole refl (
    piece 18 1 false false known known (drop 18 plain) (plus ∷ []) [] whole refl (
    stop 19 false known [] whole refl)))))))))

-- its tokens are 8, of the type `int32_t`, at the place of N, and `+`
pub example : Tokens bytes (eight ∷ plus ∷ [])
example = record { text = plain; comments_end = whole; tokens_end = whole; blanked = blanks; lexed = pieces; ends = refl }
