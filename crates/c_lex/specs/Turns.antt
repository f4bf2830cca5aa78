-- What the parts of the lexer say, in the words of the tokens' definition.
use Rattle.std.specs.Prelude.{◌≡◌, ℕ, ◌+◌, ◌≤◌, ◌<◌, Bool, true, false, List, [], ◌∷◌, ◌++◌, length, drop, map, Option, Some, None}
use Rattle.el_base.specs.Words.{is_identifier}
use Rattle.c_ast.specs.Pieces as spec
use Rattle.c_ast.specs.Tokens as spec_of
use Rattle.c_ast.specs.declared.token.Token.{Token}
use Rattle.c_lex.specs.Cursors.{IsAt}
use Rattle.c_lex.specs.Refusals.{end_by}
use Rattle.c_lex.specs.declared.define.Numeral.{Numeral}
use Rattle.c_lex.specs.declared.define.Defines.{Defines}
use Rattle.c_lex.specs.declared.directive.Directive.{Directive}
use Rattle.c_lex.specs.declared.directive.Directive.TheVariants as directive
use Rattle.c_lex.specs.declared.lexer.Next.{Next}
use Rattle.c_lex.specs.declared.lexer.Next.TheVariants as next
use Rattle.c_lex.specs.declared.turn.Turn.{Turn}
use Rattle.c_lex.specs.declared.turn.Turn.TheVariants as turn

abbrev pub numeral_of : Numeral → spec.Numeral
numeral_of n = record { spelling = n.spelling.items; value = n.value; ty = n.ty }

abbrev pub entry_of : List ℕ × Numeral → List ℕ × spec.Numeral
entry_of e = (e.0, numeral_of e.1)

abbrev pub defines_of : Defines → spec_of.Defined
defines_of d = map entry_of d.numbers.entries

abbrev pub shown : Option Directive → Option spec.Directive
shown None = None
shown (Some (directive.Include len)) = Some (spec.includes len)
shown (Some (directive.Define name at spelling value ty len)) = Some (spec.defines name.now at (record { spelling = spelling.now; value = value; ty = ty }) len)

-- a directive ends in the text, and so does its name, an identifier
abbrev pub DirectiveFits : ℕ → Directive → Type 0
DirectiveFits all (directive.Include len) = (0 < len) × (len ≤ all)
DirectiveFits all (directive.Define name at spelling value ty len) = (0 < len) × (len ≤ all) × (at + length name.now ≤ all) × (is_identifier name.now ≡ true)

abbrev pub turn_of : List ℕ → ℕ → spec_of.Defined → Turn → spec_of.Turn
turn_of bytes k ds (turn.Skips len first) = spec_of.goes len first ds []
turn_of bytes k ds (turn.Gives len word) = spec_of.gives bytes k ds word len
turn_of bytes k ds (turn.Defines len name number) = spec_of.goes len false (ds ++ (name, numeral_of number) ∷ []) []
turn_of bytes k ds (turn.Breaks b) = spec_of.stops (end_by b)

-- a piece gives what a word means, wherever it stands
abbrev pub IsWordTurn : spec_of.Defined → List ℕ → Turn → Type 0
IsWordTurn ds word t = (bytes : List ℕ) (k : ℕ) → turn_of bytes k ds t ≡ spec_of.gives bytes k ds (spec_of.meaning_of ds word) (length word)

-- a piece goes on by one byte or more, and not past the text; a name that it defines is new
abbrev pub TurnFits : ℕ → spec_of.Defined → Turn → Type 0
TurnFits all ds (turn.Skips len first) = (0 < len) × (len ≤ all)
TurnFits all ds (turn.Gives len word) = (0 < len) × (len ≤ all)
TurnFits all ds (turn.Defines len name number) = (0 < len) × (len ≤ all) × (spec_of.number_for ds name ≡ None)
TurnFits all ds (turn.Breaks b) = Unit {0}

-- what the rest of a text gives goes on what was given before
abbrev pub LexedSoFar : List ℕ → List ℕ → ℕ → Bool → spec_of.Defined → List Token → Type 0
LexedSoFar bytes text k first ds done = (more : List Token) (f : spec_of.End) → spec_of.Lexed bytes k first ds (drop k text) more f → spec_of.Lexed bytes 0 true [] text (done ++ more) f

-- behind a piece at byte k a text goes on, or it ends by the rule that the piece breaks
abbrev pub IsTaken : List ℕ → List ℕ → ℕ → spec_of.Defined → List Token → Next → Type 0
IsTaken bytes text k ds ts (next.Piece p) = IsAt bytes p.cursor × (k < p.cursor.offset) × LexedSoFar bytes text p.cursor.offset p.first ds ts
IsTaken bytes text k ds ts (next.Broken b) = spec_of.Lexed bytes 0 true [] text ts (end_by b)
