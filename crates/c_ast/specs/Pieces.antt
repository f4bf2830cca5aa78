-- The pieces of a kernel text: comments, white space, words, punctuators and directives (ISO/IEC 9899:1999 6.4, 6.10). Each is the longest that can stand there.
use Rattle.std.specs.Prelude.{ℕ, ◌+◌, ◌-◌, Bool, true, false, not, ◌==◌, ◌&&◌, ◌||◌, if◌then◌else◌, List, [], ◌∷◌, length, take, drop, Option, Some, None, option_map, is_none, codes, bytes_eq}
use Rattle.std.specs.Char.{is_ascii_digit}
use Rattle.std.specs.List.{prefix_len, find}
use Rattle.el_base.specs.Words.{is_word, is_letter}
use Rattle.el_base.specs.declared.ty.Ty.{Ty}
use Rattle.c_ast.specs.Numerals.{begins, is_numeral, number_of}
use Rattle.c_ast.specs.Texts.{key_text, mark_text}
use Rattle.c_ast.specs.declared.key.Key.{Key}
use Rattle.c_ast.specs.declared.key.Key.TheVariants as key
use Rattle.c_ast.specs.declared.mark.Mark.{Mark}
use Rattle.c_ast.specs.declared.mark.Mark.TheVariants as mark

-- ---- bytes

-- space, horizontal tab, line feed, carriage return, vertical tab, form feed
abbrev pub is_white : ℕ → Bool
is_white b = b == 32 || b == 9 || b == 10 || b == 13 || b == 11 || b == 12

-- space or horizontal tab: what may part the parts of a directive
abbrev pub is_blank : ℕ → Bool
is_blank b = b == 32 || b == 9

-- a byte that goes on a number
abbrev pub is_number_byte : ℕ → Bool
is_number_byte b = is_word b || b == 46

abbrev pub is_not_line_feed : ℕ → Bool
is_not_line_feed b = not (b == 10)

-- ---- comments

-- the first place at which what is left of a text passes a test
unfoldable pub first_place : (List ℕ → Bool) → List ℕ → Option ℕ
first_place test [] = None
first_place test (b ∷ rest) = if test (b ∷ rest) then Some 0 else option_map (λ n. n + 1) (first_place test rest)

-- a comment's end
abbrev pub closes : List ℕ → Bool
closes text = begins (codes "*/") text

-- a backslash directly before a line's end
abbrev pub splices : List ℕ → Bool
splices text = begins (92 ∷ 10 ∷ []) text || begins (92 ∷ 13 ∷ 10 ∷ []) text

-- the place of the `*/` that closes the comment with which a text begins
unfoldable pub close_of : List ℕ → Option ℕ
close_of text = first_place closes (drop 2 text)

-- a comment with its end, or without: then it takes all that is left
abbrev pub block_len : ℕ → Option ℕ → ℕ
block_len all None = all
block_len all (Some n) = n + 4

-- how long the comment is with which a text begins, its line feed left aside; `None` where it begins with none
unfoldable pub comment_len : List ℕ → Option ℕ
comment_len text = if begins (codes "/*") text then Some (block_len (length text) (close_of text))
    else (if begins (codes "//") text then Some (prefix_len is_not_line_feed text) else None)

-- ---- words, numbers, punctuators

-- the letters, digits and underscores with which a text begins
unfoldable pub word_of : List ℕ → List ℕ
word_of text = take (prefix_len is_word text) text

-- the letters, digits, underscores and points with which a text begins
unfoldable pub number_token : List ℕ → List ℕ
number_token text = take (prefix_len is_number_byte text) text

-- the reserved words
abbrev pub keys : List Key
keys = key.Auto ∷ key.Break ∷ key.Case ∷ key.Char ∷ key.Const ∷ key.Continue ∷ key.Default ∷ key.Do ∷ key.Double ∷ key.Else ∷ key.Enum ∷ key.Extern ∷ key.Float ∷ key.For ∷ key.Goto ∷ key.If ∷ key.Inline ∷ key.Int ∷ key.Long ∷ key.Register ∷ key.Restrict ∷ key.Return ∷ key.Short ∷ key.Signed ∷ key.Sizeof ∷ key.Static ∷ key.Struct ∷ key.Switch ∷ key.Typedef ∷ key.Union ∷ key.Unsigned ∷ key.Void ∷ key.Volatile ∷ key.While ∷ key.Bool ∷ key.Complex ∷ key.Imaginary ∷ key.Int8 ∷ key.Int16 ∷ key.Int32 ∷ key.Int64 ∷ key.Uint8 ∷ key.Uint16 ∷ key.Uint32 ∷ key.Uint64 ∷ []

-- the reserved word that some bytes spell
unfoldable pub key_of : List ℕ → Option Key
key_of word = find (λ k. bytes_eq (key_text k) word) keys

-- the punctuators, the longest first
abbrev pub marks : List Mark
marks = mark.ShlAssign ∷ mark.ShrAssign ∷ mark.Increment ∷ mark.Decrement ∷ mark.AddAssign ∷ mark.SubAssign ∷ mark.MulAssign ∷ mark.DivAssign ∷ mark.RemAssign ∷ mark.AndAssign ∷ mark.OrAssign ∷ mark.XorAssign ∷ mark.Shl ∷ mark.Shr ∷ mark.LessEqual ∷ mark.GreaterEqual ∷ mark.EqualEqual ∷ mark.NotEqual ∷ mark.AndAnd ∷ mark.OrOr ∷ mark.Plus ∷ mark.Minus ∷ mark.Star ∷ mark.Slash ∷ mark.Percent ∷ mark.Ampersand ∷ mark.Bar ∷ mark.Caret ∷ mark.Tilde ∷ mark.Bang ∷ mark.Less ∷ mark.Greater ∷ mark.Assign ∷ mark.Question ∷ mark.Colon ∷ mark.Semicolon ∷ mark.Comma ∷ mark.Open ∷ mark.Close ∷ mark.OpenBracket ∷ mark.CloseBracket ∷ mark.OpenBrace ∷ mark.CloseBrace ∷ []

-- the longest punctuator with which a text begins
unfoldable pub mark_of : List ℕ → Option Mark
mark_of text = find (λ m. begins (mark_text m) text) marks

-- ---- directives, in a text whose comments are blanks

-- what follows the blanks at the front of a text
unfoldable pub after_blanks : List ℕ → List ℕ
after_blanks text = drop (prefix_len is_blank text) text

abbrev pub is_nothing : List ℕ → Bool
is_nothing [] = true
is_nothing (b ∷ bs) = false

-- a line's end: that of the text, a line feed, or a carriage return and a line feed
unfoldable pub ends_line : List ℕ → Bool
ends_line text = is_nothing text || begins (10 ∷ []) text || begins (13 ∷ 10 ∷ []) text

abbrev pub begins_with_digit : List ℕ → Bool
begins_with_digit [] = false
begins_with_digit (b ∷ bs) = is_ascii_digit b

abbrev pub begins_with_letter : List ℕ → Bool
begins_with_letter [] = false
begins_with_letter (b ∷ bs) = is_letter b

-- a name that can be defined: an identifier that is not reserved
unfoldable pub is_definable : List ℕ → Bool
is_definable word = begins_with_letter word && is_none (key_of word)

-- a number that stands for a name, with its spelling
pub record Numeral : Type 0 where
  pub spelling : List ℕ
  pub value : ℕ
  pub ty : Ty

-- an accepted directive; each has its length up to the line's end
pub data Directive : Type 0 where
  includes : ℕ → Directive
  defines : (name : List ℕ) (name_at : ℕ) (number : Numeral) (len : ℕ) → Directive

-- `#include <stdint.h>`: what stands after the word `include` and blanks, of a directive of this length
unfoldable pub include_of : ℕ → List ℕ → Option Directive
include_of all text =
    let tail = after_blanks (drop 10 text) in
    if begins (codes "<stdint.h>") text && ends_line tail then Some (includes (all - length tail)) else None

-- a name at a place, with the number that it stands for
unfoldable pub defines_of : List ℕ → ℕ → List ℕ → ℕ → Option Directive
defines_of name at spelling len = option_map (λ n. defines name at (record { spelling = spelling; value = n.0; ty = n.1 }) len) (number_of spelling)

-- `#define NAME number`: what stands after the word `define` and blanks, of a directive of this length
unfoldable pub define_of : ℕ → List ℕ → Option Directive
define_of all text =
    let name = word_of text in
    let number = after_blanks (drop (length name) text) in
    let spelling = number_token number in
    let tail = after_blanks (drop (length spelling) number) in
    if is_definable name && is_numeral spelling && ends_line tail then defines_of name (all - length text) spelling (all - length tail) else None

-- the accepted directive with which a text begins, whose first byte is the `#`
unfoldable pub directive_of : List ℕ → Option Directive
directive_of text =
    let first = after_blanks (drop 1 text) in
    let word = word_of first in
    let second = after_blanks (drop (length word) first) in
    if bytes_eq word (codes "include") then include_of (length text) second
    else (if bytes_eq word (codes "define") then define_of (length text) second else None)
