-- The number, the word and the place by which refusals of kernels are printed, each by the table of the lexer, of the parser, of the type checker or of the maker of trees without calls.
use Rattle.std.specs.Prelude.{ℕ, List, Option, None, codes}
use Rattle.el_base.specs.declared.span.Span.{Span}
use Rattle.c_lex.specs.Refusals as lexer
use Rattle.c_lex.specs.declared.refusal.LexRefusal.{LexRefusal}
use Rattle.c_lex.specs.declared.refusal.LexRefusal.TheVariants as lex
use Rattle.c_parse.specs.Printed as parser
use Rattle.c_parse.specs.declared.refusal.ParseRefusal.{ParseRefusal}
use Rattle.c_parse.specs.declared.refusal.ParseRefusal.TheVariants as parse
use Rattle.c_types.specs.Refusals as checker
use Rattle.c_types.specs.declared.fault.TypeRefusal.{TypeRefusal}
use Rattle.c_types.specs.declared.fault.TypeRefusal.TheVariants as types
use Rattle.c_inline.specs.Printed as inliner
use Rattle.c_inline.specs.declared.refusal.InlineRefusal.{InlineRefusal}
use Rattle.c_inline.specs.declared.refusal.InlineRefusal.TheVariants as inline
use Rattle.kernel_front.specs.declared.refusal.KernelRefusal.{KernelRefusal}
use Rattle.kernel_front.specs.declared.refusal.KernelRefusal.TheVariants as refusal

-- want of memory has no number
abbrev pub refusal_number : KernelRefusal → Option ℕ
refusal_number (refusal.Lex e) = lexer.refusal_number e
refusal_number (refusal.Parse e) = parser.refusal_number e
refusal_number (refusal.Types e) = checker.number_of e
refusal_number (refusal.Inline e) = inliner.refusal_number e
refusal_number refusal.Memory = None

abbrev pub refusal_word : KernelRefusal → List ℕ
refusal_word (refusal.Lex e) = lexer.refusal_word e
refusal_word (refusal.Parse e) = parser.refusal_word e
refusal_word (refusal.Types e) = checker.word_of e
refusal_word (refusal.Inline e) = inliner.refusal_word e
refusal_word refusal.Memory = codes "Memory"

-- want of memory has no place
abbrev pub refusal_span : KernelRefusal → Option Span
refusal_span (refusal.Lex e) = lexer.refusal_span e
refusal_span (refusal.Parse e) = parser.refusal_span e
refusal_span (refusal.Types e) = checker.span_of e
refusal_span (refusal.Inline e) = inliner.refusal_span e
refusal_span refusal.Memory = None

-- ---- the refusal of a kernel whose text, tokens, program or tree without calls are refused so; want of memory is the same everywhere

abbrev pub of_lexer : LexRefusal → KernelRefusal
of_lexer lex.Memory = refusal.Memory
of_lexer (lex.BadByte s) = refusal.Lex (lex.BadByte s)
of_lexer (lex.OpenComment s) = refusal.Lex (lex.OpenComment s)
of_lexer (lex.BadNumber s) = refusal.Lex (lex.BadNumber s)
of_lexer (lex.WideNumber s) = refusal.Lex (lex.WideNumber s)
of_lexer (lex.Directive s) = refusal.Lex (lex.Directive s)
of_lexer (lex.Redefined s) = refusal.Lex (lex.Redefined s)

abbrev pub of_parser : ParseRefusal → KernelRefusal
of_parser parse.Memory = refusal.Memory
of_parser (parse.Unexpected s) = refusal.Parse (parse.Unexpected s)
of_parser (parse.EndOfText s) = refusal.Parse (parse.EndOfText s)
of_parser (parse.TooDeep s) = refusal.Parse (parse.TooDeep s)
of_parser (parse.TooLarge s n) = refusal.Parse (parse.TooLarge s n)

abbrev pub of_types : TypeRefusal → KernelRefusal
of_types types.Memory = refusal.Memory
of_types (types.Broken f) = refusal.Types (types.Broken f)

abbrev pub of_inliner : InlineRefusal → KernelRefusal
of_inliner inline.Memory = refusal.Memory
of_inliner (inline.Grown s n) = refusal.Inline (inline.Grown s n)
