-- The number, the word and the place by which refusals of tokens are printed.
use Rattle.std.specs.Prelude.{ℕ, List, Option, Some, None, codes}
use Rattle.el_base.specs.declared.span.Span.{Span}
use Rattle.c_parse.specs.declared.refusal.ParseRefusal.{ParseRefusal}
use Rattle.c_parse.specs.declared.refusal.ParseRefusal.TheVariants as refusal

-- want of memory has no number
abbrev pub refusal_number : ParseRefusal → Option ℕ
refusal_number (refusal.Unexpected at) = Some 10
refusal_number (refusal.EndOfText at) = Some 11
refusal_number (refusal.TooDeep at) = Some 12
refusal_number (refusal.TooLarge at n) = Some 13
refusal_number refusal.Memory = None

abbrev pub refusal_word : ParseRefusal → List ℕ
refusal_word (refusal.Unexpected at) = codes "Unexpected"
refusal_word (refusal.EndOfText at) = codes "EndOfText"
refusal_word (refusal.TooDeep at) = codes "TooDeep"
refusal_word (refusal.TooLarge at n) = codes "TooLarge"
refusal_word refusal.Memory = codes "Memory"

-- want of memory has no place
abbrev pub refusal_span : ParseRefusal → Option Span
refusal_span (refusal.Unexpected at) = Some at
refusal_span (refusal.EndOfText at) = Some at
refusal_span (refusal.TooDeep at) = Some at
refusal_span (refusal.TooLarge at n) = Some at
refusal_span refusal.Memory = None
