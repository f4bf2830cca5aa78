-- The number, the word and the place by which refusals of programs are printed.
use Rattle.std.specs.Prelude.{ℕ, List, Option, Some, None, codes}
use Rattle.el_base.specs.declared.span.Span.{Span}
use Rattle.c_inline.specs.declared.refusal.InlineRefusal.{InlineRefusal}
use Rattle.c_inline.specs.declared.refusal.InlineRefusal.TheVariants as refusal

-- want of memory has no number
abbrev pub refusal_number : InlineRefusal → Option ℕ
refusal_number (refusal.Grown at n) = Some 15
refusal_number refusal.Memory = None

abbrev pub refusal_word : InlineRefusal → List ℕ
refusal_word (refusal.Grown at n) = codes "Grown"
refusal_word refusal.Memory = codes "Memory"

-- want of memory has no place
abbrev pub refusal_span : InlineRefusal → Option Span
refusal_span (refusal.Grown at n) = Some at
refusal_span refusal.Memory = None
