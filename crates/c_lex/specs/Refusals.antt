-- What each answer of the lexer says of the bytes.
use Rattle.std.specs.Prelude.{◌≡◌, ◌≢◌, ◌⊎◌, ℕ, List, drop, codes, Option, Some, None, Result, Ok, Err}
use Rattle.el_base.specs.declared.span.Span.{Span}
use Rattle.c_ast.specs.Tokens.{Fault, bad_byte, open_comment, bad_number, wide_number, bad_directive, redefined, End, whole, broken, comment_end, Reads, Tokens, Refused}
use Rattle.c_ast.specs.declared.token.Token.{Token}
use Rattle.c_lex.specs.declared.refusal.Broken.{Broken}
use Rattle.c_lex.specs.declared.refusal.Rule.{Rule}
use Rattle.c_lex.specs.declared.refusal.Rule.TheVariants as rule
use Rattle.c_lex.specs.declared.refusal.LexRefusal.{LexRefusal}
use Rattle.c_lex.specs.declared.refusal.LexRefusal.TheVariants as refusal

-- the number by which a refusal is printed
abbrev pub refusal_number : LexRefusal → Option ℕ
refusal_number (refusal.BadByte s) = Some 1
refusal_number (refusal.OpenComment s) = Some 2
refusal_number (refusal.BadNumber s) = Some 3
refusal_number (refusal.WideNumber s) = Some 4
refusal_number (refusal.Directive s) = Some 5
refusal_number (refusal.Redefined s) = Some 6
refusal_number refusal.Memory = None

-- and the word
abbrev pub refusal_word : LexRefusal → List ℕ
refusal_word (refusal.BadByte s) = codes "BadByte"
refusal_word (refusal.OpenComment s) = codes "OpenComment"
refusal_word (refusal.BadNumber s) = codes "BadNumber"
refusal_word (refusal.WideNumber s) = codes "WideNumber"
refusal_word (refusal.Directive s) = codes "Directive"
refusal_word (refusal.Redefined s) = codes "Redefined"
refusal_word refusal.Memory = codes "Memory"

-- its place
abbrev pub refusal_span : LexRefusal → Option Span
refusal_span (refusal.BadByte s) = Some s
refusal_span (refusal.OpenComment s) = Some s
refusal_span (refusal.BadNumber s) = Some s
refusal_span (refusal.WideNumber s) = Some s
refusal_span (refusal.Directive s) = Some s
refusal_span (refusal.Redefined s) = Some s
refusal_span refusal.Memory = None

-- the refusal of a broken rule at its place
abbrev pub refusal_of : Fault → Span → LexRefusal
refusal_of bad_byte s = refusal.BadByte s
refusal_of open_comment s = refusal.OpenComment s
refusal_of bad_number s = refusal.BadNumber s
refusal_of wide_number s = refusal.WideNumber s
refusal_of bad_directive s = refusal.Directive s
refusal_of redefined s = refusal.Redefined s

-- what an answer says of the bytes; want of memory says nothing
abbrev pub Says : List ℕ → Result (List Token) LexRefusal → Type 0
Says bytes (Ok ts) = Tokens bytes ts
Says bytes (Err (refusal.BadByte s)) = Refused bytes bad_byte s
Says bytes (Err (refusal.OpenComment s)) = Refused bytes open_comment s
Says bytes (Err (refusal.BadNumber s)) = Refused bytes bad_number s
Says bytes (Err (refusal.WideNumber s)) = Refused bytes wide_number s
Says bytes (Err (refusal.Directive s)) = Refused bytes bad_directive s
Says bytes (Err (refusal.Redefined s)) = Refused bytes redefined s
Says bytes (Err refusal.Memory) = Unit {0}

-- no other answer but want of memory says what holds of the bytes
abbrev pub IsOnly : List ℕ → Result (List Token) LexRefusal → Type 0
IsOnly bytes r = (other : Result (List Token) LexRefusal) → other ≢ Err refusal.Memory → Says bytes other → (r ≡ other) ⊎ (r ≡ Err refusal.Memory)

-- the fault that breaks a rule
abbrev pub fault_of : Rule → Fault
fault_of rule.Byte = bad_byte
fault_of rule.Comment = open_comment
fault_of rule.Number = bad_number
fault_of rule.Width = wide_number
fault_of rule.Directive = bad_directive
fault_of rule.Redefinition = redefined

abbrev pub refusal_by : Broken → LexRefusal
refusal_by b = refusal_of (fault_of b.rule) b.at

-- how a text ends by a broken rule, where there is one
abbrev pub end_by : Broken → End
end_by b = broken (fault_of b.rule) b.at

abbrev pub end_of : Option Broken → End
end_of None = whole
end_of (Some b) = end_by b

-- how the comment of n bytes at byte k ends
abbrev pub end_at : List ℕ → ℕ → ℕ → End
end_at bytes k n = comment_end bytes k (drop k bytes) n

-- a text gives one list of tokens and ends in one way
abbrev pub IsReadInOneWay : List ℕ → Type 0
IsReadInOneWay bytes = (ts us : List Token) (e f : End) → Reads bytes ts e → Reads bytes us f → (ts ≡ us) × (e ≡ f)

-- the answer on a text that gives these tokens and ends so
abbrev pub answer_of : List Token → End → Result (List Token) LexRefusal
answer_of ts whole = Ok ts
answer_of ts (broken f s) = Err (refusal_of f s)
