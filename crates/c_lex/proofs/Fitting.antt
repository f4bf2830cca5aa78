-- The numbers of tokens lie in their types: a constant has the first type that holds it.
use Rattle.std.proofs.Common.{◌≡◌, ℕ, ◌^◌, ◌<◌, pos, ◌-ℤ◌, ◌≤ℤ◌, Bool, true, false, cond, ◌==◌, ◌||◌, List, [], ◌∷◌, ◌++◌, length, Option, Some, None, Result, Ok, Err, IfOk, option_map, refl, subst, arith}
use Rattle.std.proofs.lemmas.Bool.{ltb-true}
use Rattle.std.proofs.lemmas.Int.{ints}
use Rattle.std.proofs.lemmas.List.Elements.{All-nil, All-cons, All-append}
use Rattle.std.specs.Char.{is_ascii_digit}
use Rattle.std.specs.List.{All, find}
use Rattle.std.specs.Map.{lookup}
use Rattle.el_base.specs.Choices.{Has, has, has_if}
use Rattle.el_base.specs.declared.span.Span.{Span}
use Rattle.el_base.specs.declared.ty.Ty.{Ty}
use Rattle.el_base.specs.declared.ty.Ty.TheVariants.{I8, U8, I16, U16, I32, U32, I64, U64}
use Rattle.el_base.specs.Numbers.{IsInRange}
use Rattle.el_base.specs.Words.{is_letter}
use Rattle.c_ast.specs.Constants.{NumberFits, WordFits}
use Rattle.c_ast.specs.Numerals.{holds, number_of, typed_value}
use Rattle.c_ast.specs.Pieces.{Numeral, Directive, includes, defines, include_of, define_of, defines_of, directive_of, key_of, is_white, number_token, word_of, mark_of}
use Rattle.c_ast.specs.Tokens.{End, Turn, goes, stops, Defined, number_for, name_or_number, meaning_by, meaning_of, number_by, number_turn, mark_turn, define_by, directive_by, directive_turn, gives, turn, Lexed, stop, piece, Tokens}
use Rattle.c_ast.specs.declared.key.Key.{Key}
use Rattle.c_ast.specs.declared.mark.Mark.{Mark}
use Rattle.c_ast.specs.declared.token.Token.{Token}
use Rattle.c_lex.specs.Refusals.{Says}
use Rattle.c_lex.specs.declared.refusal.LexRefusal.{LexRefusal}

-- ---- constants

signed_fits : (h n : ℕ) → n < h → (pos 0 -ℤ pos h) ≤ℤ pos n
signed_fits h n below = omega (arith, ints)

top_fits : (f n : ℕ) → n < f → pos n ≤ℤ (pos f -ℤ pos 1)
top_fits f n below = omega (arith, ints)

low_fits : (n : ℕ) → pos 0 ≤ℤ pos n
low_fits n = omega (arith, ints)

-- a number lies in a type that holds it
held_fits : (n : ℕ) (t : Ty) → holds n t ≡ true → IsInRange t (pos n)
held_fits n I8 h = let below = ltb-true n (2 ^ 7) h in record { above = signed_fits (2 ^ 7) n below; below = top_fits (2 ^ 7) n below }
held_fits n U8 h = record { above = low_fits n; below = top_fits (2 ^ 8) n (ltb-true n (2 ^ 8) h) }
held_fits n I16 h = let below = ltb-true n (2 ^ 15) h in record { above = signed_fits (2 ^ 15) n below; below = top_fits (2 ^ 15) n below }
held_fits n U16 h = record { above = low_fits n; below = top_fits (2 ^ 16) n (ltb-true n (2 ^ 16) h) }
held_fits n I32 h = let below = ltb-true n (2 ^ 31) h in record { above = signed_fits (2 ^ 31) n below; below = top_fits (2 ^ 31) n below }
held_fits n U32 h = record { above = low_fits n; below = top_fits (2 ^ 32) n (ltb-true n (2 ^ 32) h) }
held_fits n I64 h = let below = ltb-true n (2 ^ 63) h in record { above = signed_fits (2 ^ 63) n below; below = top_fits (2 ^ 63) n below }
held_fits n U64 h = record { above = low_fits n; below = top_fits (2 ^ 64) n (ltb-true n (2 ^ 64) h) }

abbrev TypeFits : ℕ → Option Ty → Type 0
TypeFits n None = Unit {0}
TypeFits n (Some t) = IsInRange t (pos n)

abbrev ValueFits : Option (ℕ × Ty) → Type 0
ValueFits None = Unit {0}
ValueFits (Some v) = IsInRange v.1 (pos v.0)

type_if : (n : ℕ) (t : Ty) (o : Option Ty) (b : Bool) → holds n t ≡ b → TypeFits n o → TypeFits n (cond b (Some t) o)
type_if n t o true is rest = held_fits n t is
type_if n t o false is rest = rest

found_fits : (n : ℕ) (ts : List Ty) → TypeFits n (find (holds n) ts)
found_fits n [] = tt
found_fits n (t ∷ ts) = type_if n t (find (holds n) ts) (holds n t) refl (found_fits n ts)

typed_fits : (n : ℕ) (o : Option Ty) → TypeFits n o → ValueFits (option_map (λ t. (n, t)) o)
typed_fits n None fits = tt
typed_fits n (Some t) fits = fits

typed_has : (ts : List Ty) (n : ℕ) → Has ValueFits (typed_value ts n)
unfolding typed_value
typed_has ts n = has_if _ _ _ (has _ (typed_fits n (find (holds n) ts) (found_fits n ts))) (has None tt)

constant_has : (token : List ℕ) → Has ValueFits (number_of token)
unfolding number_of
constant_has token = typed_has _ _

constant_fits : (token : List ℕ) → ValueFits (number_of token)
constant_fits token = (constant_has token).is

-- ---- the numbers that names stand for

abbrev NumeralFits : Numeral → Type 0
NumeralFits n = IsInRange n.ty (pos n.value)

abbrev SomeFits : Option Numeral → Type 0
SomeFits None = Unit {0}
SomeFits (Some n) = NumeralFits n

abbrev DefinesFit : Defined → Type 0
DefinesFit [] = Unit {0}
DefinesFit (d ∷ ds) = NumeralFits d.1 × DefinesFit ds

some_if : (b : Bool) (n : Numeral) (o : Option Numeral) → NumeralFits n → SomeFits o → SomeFits (cond b (Some n) o)
some_if true n o here rest = here
some_if false n o here rest = rest

looked_up : (test : List ℕ → Bool) (ds : Defined) → DefinesFit ds → SomeFits (lookup test ds)
looked_up test [] fit = tt
looked_up test (d ∷ ds) fit = some_if (test d.0) d.1 (lookup test ds) fit.0 (looked_up test ds fit.1)

one_more_fits : (ds : Defined) (name : List ℕ) (n : Numeral) → DefinesFit ds → NumeralFits n → DefinesFit (ds ++ (name, n) ∷ [])
one_more_fits [] name n fit fits = (fits, tt)
one_more_fits (d ∷ ds) name n fit fits = (fit.0, one_more_fits ds name n fit.1 fits)

-- ---- directives

abbrev DirectiveNumberFits : Option Directive → Type 0
DirectiveNumberFits None = Unit {0}
DirectiveNumberFits (Some (includes len)) = Unit {0}
DirectiveNumberFits (Some (defines name at n len)) = NumeralFits n

defined_fits : (name : List ℕ) (at : ℕ) (spelling : List ℕ) (len : ℕ) (o : Option (ℕ × Ty)) → ValueFits o
    → DirectiveNumberFits (option_map (λ n. defines name at (record { spelling = spelling; value = n.0; ty = n.1 }) len) o)
defined_fits name at spelling len None fits = tt
defined_fits name at spelling len (Some v) fits = fits

define_has : (all : ℕ) (text : List ℕ) → Has DirectiveNumberFits (define_of all text)
unfolding define_of defines_of
define_has all text = has_if _ _ _ (has _ (defined_fits _ _ _ _ _ (constant_fits _))) (has None tt)

include_has : (all : ℕ) (text : List ℕ) → Has DirectiveNumberFits (include_of all text)
unfolding include_of
include_has all text = has_if _ _ _ (has (Some (includes _)) tt) (has None tt)

directive_has : (text : List ℕ) → Has DirectiveNumberFits (directive_of text)
unfolding directive_of
directive_has text = has_if _ _ _ (include_has _ _) (has_if _ _ _ (define_has _ _) (has None tt))

-- ---- pieces

abbrev TurnNumbersFit : Turn → Type 0
TurnNumbersFit (goes len first ds more) = DefinesFit ds × All NumberFits more
TurnNumbersFit (stops e) = Unit {0}

word_fits : (name : List ℕ) (o : Option Numeral) → SomeFits o → WordFits (name_or_number name o)
word_fits name None fits = tt
word_fits name (Some n) fits = fits

meaning_fits : (ds : Defined) (name : List ℕ) (o : Option Key) → DefinesFit ds → WordFits (meaning_by ds name o)
meaning_fits ds name None fit = word_fits name (number_for ds name) (looked_up _ ds fit)
meaning_fits ds name (Some k) fit = tt

one_more : (n : ℕ) (ds : Defined) (t : Token) → DefinesFit ds → NumberFits t → Has TurnNumbersFit (goes n false ds (t ∷ []))
one_more n ds t fit fits = has (goes n false ds (t ∷ [])) (fit, All-cons NumberFits t [] fits (All-nil NumberFits))

no_more : (n : ℕ) (first : Bool) (ds : Defined) → DefinesFit ds → Has TurnNumbersFit (goes n first ds [])
no_more n first ds fit = has (goes n first ds []) (fit, All-nil NumberFits)

stopped : (e : End) → Has TurnNumbersFit (stops e)
stopped e = has (stops e) tt

word_has : (bytes : List ℕ) (k n : ℕ) (ds : Defined) (name : List ℕ) → DefinesFit ds → Has TurnNumbersFit (gives bytes k ds (meaning_of ds name) n)
unfolding meaning_of
word_has bytes k n ds name fit = one_more n ds _ fit (meaning_fits ds name (key_of name) fit)

number_by_has : (bytes : List ℕ) (k n : ℕ) (ds : Defined) (o : Option (ℕ × Ty)) → DefinesFit ds → ValueFits o → Has TurnNumbersFit (number_by bytes k ds n o)
number_by_has bytes k n ds None fit fits = stopped _
number_by_has bytes k n ds (Some v) fit fits = one_more n ds _ fit fits

number_has : (bytes : List ℕ) (k : ℕ) (ds : Defined) (token : List ℕ) → DefinesFit ds → Has TurnNumbersFit (number_turn bytes k ds token)
unfolding number_turn
number_has bytes k ds token fit = has_if _ _ _ (number_by_has bytes k _ ds (number_of token) fit (constant_fits token)) (stopped _)

mark_has : (bytes : List ℕ) (k : ℕ) (ds : Defined) (o : Option Mark) → DefinesFit ds → Has TurnNumbersFit (mark_turn bytes k ds o)
mark_has bytes k ds None fit = stopped _
mark_has bytes k ds (Some m) fit = one_more _ ds _ fit tt

define_by_has : (ds : Defined) (name : List ℕ) (at : Span) (n : Numeral) (len : ℕ) (o : Option Numeral) → DefinesFit ds → NumeralFits n → Has TurnNumbersFit (define_by ds name at n len o)
define_by_has ds name at n len None fit fits = no_more len false _ (one_more_fits ds name n fit fits)
define_by_has ds name at n len (Some d) fit fits = has_if _ _ _ (no_more len false ds fit) (stopped _)

directive_by_has : (bytes : List ℕ) (k : ℕ) (ds : Defined) (o : Option Directive) → DefinesFit ds → DirectiveNumberFits o → Has TurnNumbersFit (directive_by bytes k ds o)
directive_by_has bytes k ds None fit fits = stopped _
directive_by_has bytes k ds (Some (includes len)) fit fits = no_more len false ds fit
directive_by_has bytes k ds (Some (defines name at n len)) fit fits = define_by_has ds name _ n len (number_for ds name) fit fits

directive_turn_has : (bytes : List ℕ) (k : ℕ) (first : Bool) (ds : Defined) (text : List ℕ) → DefinesFit ds → Has TurnNumbersFit (directive_turn bytes k first ds text)
unfolding directive_turn
directive_turn_has bytes k first ds text fit = has_if first _ _ (directive_by_has bytes k ds (directive_of text) fit (directive_has text).is) (stopped _)

turn_has : (bytes : List ℕ) (k : ℕ) (first : Bool) (ds : Defined) (text : List ℕ) → DefinesFit ds → Has TurnNumbersFit (turn bytes k first ds text)
unfolding turn
turn_has bytes k first ds [] fit = stopped _
turn_has bytes k first ds (b ∷ rest) fit =
    has_if (is_white b) _ _ (no_more 1 (first || b == 10) ds fit)
    (has_if (b == 35) _ _ (directive_turn_has bytes k first ds (b ∷ rest) fit)
    (has_if (is_letter b) _ _ (word_has bytes k (length (word_of (b ∷ rest))) ds (word_of (b ∷ rest)) fit)
    (has_if (is_ascii_digit b) _ _ (number_has bytes k ds (number_token (b ∷ rest)) fit)
    (mark_has bytes k ds (mark_of (b ∷ rest)) fit))))

-- ---- texts

pieces_fit : (bytes : List ℕ) (k : ℕ) (first : Bool) (ds : Defined) (text : List ℕ) (ts : List Token) (e : End) → DefinesFit ds → Lexed bytes k first ds text ts e → All NumberFits ts
pieces_fit bytes k first ds text ts e fit (stop l f d t end is) = All-nil NumberFits
pieces_fit bytes k first ds text ts e fit (piece l n f later d known t us vs end is more) =
    let here : DefinesFit known × All NumberFits us = subst TurnNumbersFit is (turn_has bytes k first ds text fit).is in
    All-append NumberFits us vs here.1 (pieces_fit bytes _ _ _ _ vs _ here.0 more)

tokens_fit : (bytes : List ℕ) (ts : List Token) → Tokens bytes ts → All NumberFits ts
tokens_fit bytes ts r = pieces_fit bytes 0 true [] r.text ts r.tokens_end tt r.lexed

-- the numbers of tokens that an answer gives
pub answer_fits : (bytes : List ℕ) (r : Result (List Token) LexRefusal) → Says bytes r → IfOk r (All NumberFits)
answer_fits bytes (Ok ts) says = tokens_fit bytes ts says
answer_fits bytes (Err e) says = tt
