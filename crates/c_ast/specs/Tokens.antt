-- The tokens of a kernel text with their places, and the first place at which a rule of their spelling is broken (ISO/IEC 9899:1999 5.1.1.2, 6.4, 6.10).
-- As in the standard's phases of translation, comments first become white space, byte for byte; the text is then taken apart from the left, each piece the longest that can stand there. A directive does its work there, and is no token.
use Rattle.std.specs.Prelude.{◌≡◌, ℕ, ◌+◌, Bool, true, false, ◌==◌, ◌&&◌, ◌||◌, nat_lt, if◌then◌else◌, List, [], ◌∷◌, ◌++◌, length, take, drop, replicate, Option, Some, None, is_none, codes, bytes_eq}
use Rattle.std.specs.Char.{is_ascii_digit}
use Rattle.std.specs.Map.{lookup}
use Rattle.std.specs.Cmp.Lexicographic.{pointwise}
use Rattle.el_base.specs.Words.{is_letter}
use Rattle.el_base.specs.declared.span.Span.{Span}
use Rattle.el_base.specs.declared.ty.Ty.{Ty}
use Rattle.c_ast.specs.Numerals.{begins, is_numeral, number_of}
use Rattle.c_ast.specs.Pieces.{is_white, first_place, splices, close_of, comment_len, word_of, number_token, key_of, mark_of, Numeral, Directive, includes, defines, directive_of}
use Rattle.c_ast.specs.Texts.{mark_text}
use Rattle.c_ast.specs.declared.key.Key.{Key}
use Rattle.c_ast.specs.declared.mark.Mark.{Mark}
use Rattle.c_ast.specs.declared.token.Token.{Token}
use Rattle.c_ast.specs.declared.token.Word.{Word}
use Rattle.c_ast.specs.declared.token.Word.TheVariants as word

-- ---- places

-- a line and a column, from 1
pub record Place : Type 0 where
  pub line : ℕ
  pub column : ℕ

abbrev pub first_of_text : Place
first_of_text = record { line = 1; column = 1 }

-- a line feed leads to the next line's first column, every other byte to the next column
abbrev pub after_byte : ℕ → Place → Place
after_byte b p = if b == 10 then record { line = p.line + 1; column = 1 } else record { line = p.line; column = p.column + 1 }

-- the place after some bytes
unfoldable pub place_after : Place → List ℕ → Place
place_after p [] = p
place_after p (b ∷ bs) = place_after (after_byte b p) bs

-- n bytes of a text from byte k on
unfoldable pub span_at : List ℕ → ℕ → ℕ → Span
span_at bytes k n =
    let p = place_after first_of_text (take k bytes) in
    record { start = k; end = k + n; line = p.line; column = p.column }

-- ---- broken rules

pub data Fault : Type 0 where
  bad_byte : Fault
  open_comment : Fault
  bad_number : Fault
  wide_number : Fault
  bad_directive : Fault
  redefined : Fault

-- how a text ends: whole, or at a broken rule with its place
pub data End : Type 0 where
  whole : End
  broken : Fault → Span → End

-- ---- comments become white space

-- the first backslash before a line's end in a comment of n bytes, its own line feed looked at too
unfoldable pub splice_in : List ℕ → ℕ → Option ℕ
splice_in text n = first_place splices (take (n + 1) text)

abbrev pub splice_fault : List ℕ → ℕ → Option ℕ → End
splice_fault bytes k None = whole
splice_fault bytes k (Some n) = broken bad_byte (span_at bytes (k + n) 1)

-- a comment without an end
unfoldable pub is_open : List ℕ → Bool
is_open text = begins (codes "/*") text && is_none (close_of text)

-- the rule that a comment of n bytes at byte k breaks: it has no end, or a backslash stands before a line's end
unfoldable pub comment_end : List ℕ → ℕ → List ℕ → ℕ → End
comment_end bytes k text n = if is_open text then broken open_comment (span_at bytes k 2) else splice_fault bytes k (splice_in text n)

-- the one end, or the other where the one is whole
abbrev pub end_or : End → End → End
end_or whole e = e
end_or (broken f s) e = broken f s

-- a text from byte k on, the same text with blanks for its comments, and the first rule that they break
pub data Blanked (bytes : List ℕ) : ℕ → List ℕ → List ℕ → End → Type 0 where
  ends : (k : ℕ) → Blanked bytes k [] [] whole
  byte : (k b : ℕ) (rest text : List ℕ) (e : End) → comment_len (b ∷ rest) ≡ None → Blanked bytes (k + 1) rest text e
      → Blanked bytes k (b ∷ rest) (b ∷ text) e
  comment : (k n : ℕ) (rest text : List ℕ) (e : End) → comment_len rest ≡ Some n → Blanked bytes (k + n) (drop n rest) text e
      → Blanked bytes k rest (replicate n 32 ++ text) (end_or (comment_end bytes k rest n) e)

-- ---- tokens of a text without comments

-- the numbers that names stand for
abbrev pub Defined : Type 0
Defined = List (List ℕ × Numeral)

abbrev pub number_for : Defined → List ℕ → Option Numeral
number_for ds name = lookup (pointwise ◌==◌ name) ds

-- what a piece does: it goes on so many bytes, perhaps as the first on its line still, with these numbers for names and these tokens more; or the text ends there
pub data Turn : Type 0 where
  goes : (len : ℕ) (first : Bool) (ds : Defined) (more : List Token) → Turn
  stops : End → Turn

abbrev pub fails : Fault → Span → Turn
fails f s = stops (broken f s)

-- a token of n bytes at byte k
abbrev pub gives : List ℕ → ℕ → Defined → Word → ℕ → Turn
gives bytes k ds w n = goes n false ds (record { word = w; span = span_at bytes k n } ∷ [])

-- a reserved word, the number that a name stands for, or a name
abbrev pub name_or_number : List ℕ → Option Numeral → Word
name_or_number name None = word.Name name
name_or_number name (Some n) = word.Number n.value n.ty

abbrev pub meaning_by : Defined → List ℕ → Option Key → Word
meaning_by ds name (Some k) = word.Key k
meaning_by ds name None = name_or_number name (number_for ds name)

unfoldable pub meaning_of : Defined → List ℕ → Word
meaning_of ds name = meaning_by ds name (key_of name)

abbrev pub number_by : List ℕ → ℕ → Defined → ℕ → Option (ℕ × Ty) → Turn
number_by bytes k ds n None = fails wide_number (span_at bytes k n)
number_by bytes k ds n (Some v) = gives bytes k ds (word.Number v.0 v.1) n

unfoldable pub number_turn : List ℕ → ℕ → Defined → List ℕ → Turn
number_turn bytes k ds token = if is_numeral token then number_by bytes k ds (length token) (number_of token)
    else fails bad_number (span_at bytes k (length token))

abbrev pub mark_turn : List ℕ → ℕ → Defined → Option Mark → Turn
mark_turn bytes k ds None = fails bad_byte (span_at bytes k 1)
mark_turn bytes k ds (Some m) = gives bytes k ds (word.Mark m) (length (mark_text m))

-- a name stands for the number of its first `#define`; another spelling of it is refused at the name
abbrev pub define_by : Defined → List ℕ → Span → Numeral → ℕ → Option Numeral → Turn
define_by ds name at n len None = goes len false (ds ++ (name, n) ∷ []) []
define_by ds name at n len (Some d) = if bytes_eq d.spelling n.spelling then goes len false ds [] else fails redefined at

abbrev pub directive_by : List ℕ → ℕ → Defined → Option Directive → Turn
directive_by bytes k ds None = fails bad_directive (span_at bytes k 1)
directive_by bytes k ds (Some (includes len)) = goes len false ds []
directive_by bytes k ds (Some (defines name at n len)) = define_by ds name (span_at bytes (k + at) (length name)) n len (number_for ds name)

-- a `#` begins a directive where only white space stands before it on its line
unfoldable pub directive_turn : List ℕ → ℕ → Bool → Defined → List ℕ → Turn
directive_turn bytes k first ds text = if first then directive_by bytes k ds (directive_of text) else fails bad_directive (span_at bytes k 1)

-- the piece with which a text begins from byte k on: by its first byte
unfoldable pub turn : List ℕ → ℕ → Bool → Defined → List ℕ → Turn
turn bytes k first ds [] = stops whole
turn bytes k first ds (b ∷ rest) =
    if is_white b then goes 1 (first || b == 10) ds []
    else (if b == 35 then directive_turn bytes k first ds (b ∷ rest)
    else (if is_letter b then gives bytes k ds (meaning_of ds (word_of (b ∷ rest))) (length (word_of (b ∷ rest)))
    else (if is_ascii_digit b then number_turn bytes k ds (number_token (b ∷ rest))
    else mark_turn bytes k ds (mark_of (b ∷ rest)))))

-- the pieces of a text from byte k on give these tokens, and end so
pub data Lexed (bytes : List ℕ) : ℕ → Bool → Defined → List ℕ → List Token → End → Type 0 where
  stop : (k : ℕ) (first : Bool) (ds : Defined) (text : List ℕ) (e : End) → turn bytes k first ds text ≡ stops e → Lexed bytes k first ds text [] e
  piece : (k n : ℕ) (first later : Bool) (ds known : Defined) (text : List ℕ) (ts us : List Token) (e : End)
      → turn bytes k first ds text ≡ goes n later known ts → Lexed bytes (k + n) later known (drop n text) us e
      → Lexed bytes k first ds text (ts ++ us) e

-- ---- whole texts

-- of two broken rules the one that stands first
abbrev pub first_end : End → End → End
first_end whole e = e
first_end (broken f s) whole = broken f s
first_end (broken f s) (broken g t) = if nat_lt s.start t.start then broken f s else broken g t

-- a text gives these tokens up to its end, or to the broken rule that is found in them, and ends so
pub record Reads (bytes : List ℕ) (ts : List Token) (e : End) : Type 0 where
  pub text : List ℕ
  pub comments_end : End
  pub tokens_end : End
  pub blanked : Blanked bytes 0 bytes text comments_end
  pub lexed : Lexed bytes 0 true [] text ts tokens_end
  pub ends : first_end comments_end tokens_end ≡ e

-- the tokens of a text
abbrev pub Tokens : List ℕ → List Token → Type 0
Tokens bytes ts = Reads bytes ts whole

-- the first place, from the left, at which a rule is broken
abbrev pub Refused : List ℕ → Fault → Span → Type 0
Refused bytes f s = (ts : List Token) × Reads bytes ts (broken f s)
