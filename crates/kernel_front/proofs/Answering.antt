-- What the answer of each stage says of the bytes.
use Rattle.std.proofs.Common.{◌≡◌, ℕ, ◌≤◌, ◌-◌, ◌^◌, min, List, All, Result, Ok, Err, sym, ap, ◌∙◌, subst, arith}
use Rattle.std.specs.Prelude.{IsErrAnd}
use Rattle.el_base.specs.Limits.{max_nodes}
use Rattle.el_base.specs.declared.span.Span.{Span}
use Rattle.c_ast.specs.declared.token.Token.{Token}
use Rattle.c_ast.specs.declared.tree.Program.{Program}
use Rattle.c_ast.specs.declared.program.TypedProgram.{TypedProgram}
use Rattle.c_ast.specs.Tokens.{Tokens}
use Rattle.c_ast.specs.Constants.{NumberFits}
use Rattle.c_ast.specs.OfTexts.{IsProgramOfText}
use Rattle.c_ast.specs.Nodes.{typed_nodes}
use Rattle.c_ast.specs.ProgramTexts.{DerivesProgram}
use Rattle.c_lex.proofs.Fitting.{answer_fits}
use Rattle.c_meaning.specs.Lawful.{Lawful}
use Rattle.c_calls.specs.Counts.{InlinedHasNodes, inlined_nodes}
use Rattle.c_calls.specs.Inlined.{Inlined}
use Rattle.c_calls.specs.Lawful.{LawfulProgram}
use Rattle.c_calls.specs.Texts.{TypedIsLawful}
use Rattle.c_inline.specs.Refusals.{IsGrown}
use Rattle.c_inline.specs.declared.refusal.InlineRefusal.{InlineRefusal}
use Rattle.c_inline.specs.declared.refusal.InlineRefusal.TheVariants as inline
use Rattle.c_lex.specs.Refusals as lexer
use Rattle.c_lex.specs.declared.refusal.LexRefusal.{LexRefusal}
use Rattle.c_lex.specs.declared.refusal.LexRefusal.TheVariants as lex
use Rattle.c_parse.specs.ProgramRefusals as parser
use Rattle.c_parse.specs.declared.refusal.ParseRefusal.{ParseRefusal}
use Rattle.c_parse.specs.declared.refusal.ParseRefusal.TheVariants as parse
use Rattle.c_types.specs.declared.fault.TypeRefusal.{TypeRefusal}
use Rattle.c_types.specs.declared.fault.TypeRefusal.TheVariants as types
use Rattle.c_types.specs.Causes.{IsProgramCause}
use Rattle.kernel_front.specs.declared.reading.Kernel.{Kernel}
use Rattle.kernel_front.specs.declared.refusal.KernelRefusal.{KernelRefusal}
use Rattle.kernel_front.specs.Refusals.{of_lexer, of_parser, of_types, of_inliner}
use Rattle.kernel_front.specs.Answers.{end_of_text, SpellsWithin, SpellsTyped, IsKernel, Says}

pub lexer_says : (bytes : List ℕ) (e : LexRefusal) → lexer.Says bytes (Err e) → Says bytes (Err (of_lexer e))
lexer_says bytes lex.Memory h = tt
lexer_says bytes e h = record { told = λ e. absurd (cc); cause = h }

parser_says_of : (bytes : List ℕ) (tokens : List Token) (e : ParseRefusal) → Tokens bytes tokens → parser.SaysProgram tokens (end_of_text bytes) (Err e) → Says bytes (Err (of_parser e))
parser_says_of bytes tokens parse.Memory read h = tt
parser_says_of bytes tokens e read h = record { told = λ e. absurd (cc); tokens = tokens; read = read; cause = h }

-- what the parser says of these tokens, and of the place at which it is told that the text ends
said_of : (bytes : List ℕ) (tokens ts : List Token) (end : Span) (r : Result Program ParseRefusal) → ts ≡ tokens → end ≡ end_of_text bytes → parser.SaysProgram ts end r → parser.SaysProgram tokens (end_of_text bytes) r
said_of bytes tokens ts end r same is h = subst (λ z. parser.SaysProgram tokens z r) is (subst (λ us. parser.SaysProgram us end r) same h)

pub parser_says : (bytes : List ℕ) (tokens ts : List Token) (end : Span) (e : ParseRefusal) → Tokens bytes tokens → ts ≡ tokens → end ≡ end_of_text bytes → parser.SaysProgram ts end (Err e) → Says bytes (Err (of_parser e))
parser_says bytes tokens ts end e read same is h = parser_says_of bytes tokens e read (said_of bytes tokens ts end (Err e) same is h)

pub within : (bytes : List ℕ) (tokens ts : List Token) (end : Span) (p : Program) → Tokens bytes tokens → ts ≡ tokens → end ≡ end_of_text bytes → parser.SaysProgram ts end (Ok p)
    → SpellsWithin bytes p
within bytes tokens ts end p read same is h =
    let k : parser.SaysProgram tokens (end_of_text bytes) (Ok p) = said_of bytes tokens ts end (Ok p) same is h in
    record { tokens = tokens; read = read; derived = k.derived; shallow = k.shallow; small = k.small }

pub types_say : (bytes : List ℕ) (p : Program) (e : TypeRefusal) → SpellsWithin bytes p → IsProgramCause p e → Says bytes (Err (of_types e))
types_say bytes p types.Memory h k = tt
types_say bytes p (types.Broken f) h k = record { told = λ e. absurd (cc); program = p; within = h; cause = k }

pub inliner_says : (bytes : List ℕ) (typed : TypedProgram) (e : InlineRefusal) → SpellsTyped bytes typed → IsGrown typed e → Says bytes (Err (of_inliner e))
inliner_says bytes typed inline.Memory h k = tt
inliner_says bytes typed (inline.Grown s n) h k = record { told = λ e. absurd (cc); program = typed; spelled = h; cause = k }

-- ---- typed programs of texts

-- tokens whose numbers fit have programs of texts
abbrev pub OfTexts : Type 0
OfTexts = (tokens : List Token) (p : Program) → DerivesProgram tokens p → All NumberFits tokens → IsProgramOfText p

pub lawful_program : TypedIsLawful → OfTexts → (bytes : List ℕ) (typed : TypedProgram) → SpellsTyped bytes typed → LawfulProgram typed
lawful_program law of_texts bytes typed h =
    let w = h.within in
    law h.program typed h.typing (of_texts w.tokens h.program w.derived (answer_fits bytes (Ok w.tokens) w.read)) h.casts

-- few nodes are counted as they are
counted : (n m : ℕ) → n ≤ max_nodes → m ≡ min n (2 ^ 64 - 1) → m ≡ n
counted n m few is = grind arith

pub kernel_says : InlinedHasNodes → (bytes : List ℕ) (typed : TypedProgram) (k : Kernel) → SpellsTyped bytes typed → Inlined typed k.typed → Lawful k.typed → typed_nodes k.typed ≤ max_nodes
    → k.nodes ≡ min (inlined_nodes typed) (2 ^ 64 - 1) → IsKernel bytes k
kernel_says law bytes typed k h made lawful small nodes =
    let same : inlined_nodes typed ≡ typed_nodes k.typed = sym (law typed) ∙ sym (ap typed_nodes made) in
    let exact : k.nodes ≡ typed_nodes k.typed = counted (typed_nodes k.typed) k.nodes small (nodes ∙ ap (λ n. min n (2 ^ 64 - 1)) same) in
    record { program = typed; spelled = h; inlined = made; lawful = lawful; typed_nodes = exact; small = subst (λ n. n ≤ max_nodes) (sym exact) small }

-- an error that is converted says what the one that it is made of says
pub converted_says : (bytes : List ℕ) (r : Result Kernel KernelRefusal) (e : KernelRefusal) → IsErrAnd r (λ x. x ≡ e) → Says bytes (Err e) → Says bytes r
converted_says bytes (Ok k) e h says = absurd h
converted_says bytes (Err x) e h says = subst (λ y. Says bytes (Err y)) (sym h) says
