-- What each answer to the bytes of a kernel says of them.
use Rattle.std.specs.Prelude.{◌≡◌, ◌≢◌, ◌⊎◌, ℕ, ◌≤◌, List, length, Result, Ok, Err}
use Rattle.el_base.specs.Limits.{max_nodes}
use Rattle.el_base.specs.declared.span.Span.{Span}
use Rattle.c_ast.specs.declared.token.Token.{Token}
use Rattle.c_ast.specs.declared.tree.Program.{Program}
use Rattle.c_ast.specs.declared.program.TypedProgram.{TypedProgram}
use Rattle.c_ast.specs.Tokens.{Tokens, span_at}
use Rattle.c_ast.specs.ProgramTexts.{DerivesProgram, IsShallowProgram}
use Rattle.c_ast.specs.Nodes.{typed_nodes}
use Rattle.c_ast.specs.Programs.{program_nodes, TypingProgram}
use Rattle.c_ast.specs.ProgramCasts.{CastsProgram}
use Rattle.c_meaning.specs.Lawful.{Lawful}
use Rattle.c_calls.specs.Inlined.{Inlined}
use Rattle.c_inline.specs.Refusals.{IsGrown}
use Rattle.c_inline.specs.declared.refusal.InlineRefusal.{InlineRefusal}
use Rattle.c_inline.specs.declared.refusal.InlineRefusal.TheVariants as inline
use Rattle.c_lex.specs.Refusals as lexer
use Rattle.c_lex.specs.declared.refusal.LexRefusal.{LexRefusal}
use Rattle.c_lex.specs.declared.refusal.LexRefusal.TheVariants as lex
use Rattle.c_parse.specs.ProgramRefusals as parser
use Rattle.c_parse.specs.declared.refusal.ParseRefusal.{ParseRefusal}
use Rattle.c_parse.specs.declared.refusal.ParseRefusal.TheVariants as parse
use Rattle.c_types.specs.Causes.{IsProgramCause}
use Rattle.c_types.specs.declared.fault.TypeRefusal.{TypeRefusal}
use Rattle.c_types.specs.declared.fault.TypeRefusal.TheVariants as types
use Rattle.kernel_front.specs.declared.reading.Kernel.{Kernel}
use Rattle.kernel_front.specs.declared.refusal.KernelRefusal.{KernelRefusal}
use Rattle.kernel_front.specs.declared.refusal.KernelRefusal.TheVariants as refusal

-- the empty place after the last byte, with its line and column as those of every token
abbrev pub end_of_text : List ℕ → Span
end_of_text bytes = span_at bytes (length bytes) 0

-- the bytes spell a program, helpers and a kernel, within the limits on nesting and on nodes, which are those of the text
pub record SpellsWithin (bytes : List ℕ) (program : Program) : Type 0 where
  pub tokens : List Token
  pub read : Tokens bytes tokens
  pub derived : DerivesProgram tokens program
  pub shallow : IsShallowProgram tokens
  pub small : program_nodes program ≤ max_nodes

-- the bytes spell a program within the limits that keeps the typing rules, and this is its typed program
pub record SpellsTyped (bytes : List ℕ) (typed : TypedProgram) : Type 0 where
  pub program : Program
  pub within : SpellsWithin bytes program
  pub typing : TypingProgram program
  pub casts : CastsProgram program typed

-- the bytes spell a program that keeps the typing rules, and the kernel is the tree without calls that its typed program becomes, with the number of its nodes
pub record IsKernel (bytes : List ℕ) (kernel : Kernel) : Type 0 where
  pub program : TypedProgram
  pub spelled : SpellsTyped bytes program
  pub inlined : Inlined program kernel.typed
  pub lawful : Lawful kernel.typed
  pub typed_nodes : kernel.nodes ≡ typed_nodes kernel.typed
  pub small : kernel.nodes ≤ max_nodes

-- ---- refusals, none of which is want of memory

-- the bytes have no tokens
pub record IsLexed (bytes : List ℕ) (e : LexRefusal) : Type 0 where
  pub told : e ≢ lex.Memory
  pub cause : lexer.Says bytes (Err e)

-- the bytes have tokens, and these are refused; they end where the text does
pub record IsParsed (bytes : List ℕ) (e : ParseRefusal) : Type 0 where
  pub told : e ≢ parse.Memory
  pub tokens : List Token
  pub read : Tokens bytes tokens
  pub cause : parser.SaysProgram tokens (end_of_text bytes) (Err e)

-- the bytes spell a program within the limits, and it is refused
pub record IsTyped (bytes : List ℕ) (e : TypeRefusal) : Type 0 where
  pub told : e ≢ types.Memory
  pub program : Program
  pub within : SpellsWithin bytes program
  pub cause : IsProgramCause program e

-- the bytes spell a program that keeps the typing rules, and the tree without calls that it becomes is refused
pub record IsInlined (bytes : List ℕ) (e : InlineRefusal) : Type 0 where
  pub told : e ≢ inline.Memory
  pub program : TypedProgram
  pub spelled : SpellsTyped bytes program
  pub cause : IsGrown program e

-- ---- answers

-- what an answer says of the bytes; want of memory says nothing
abbrev pub Says : List ℕ → Result Kernel KernelRefusal → Type 0
Says bytes (Ok kernel) = IsKernel bytes kernel
Says bytes (Err (refusal.Lex e)) = IsLexed bytes e
Says bytes (Err (refusal.Parse e)) = IsParsed bytes e
Says bytes (Err (refusal.Types e)) = IsTyped bytes e
Says bytes (Err (refusal.Inline e)) = IsInlined bytes e
Says bytes (Err refusal.Memory) = Unit {0}

-- no other answer but want of memory says what holds of the bytes
abbrev pub IsOnly : List ℕ → Result Kernel KernelRefusal → Type 0
IsOnly bytes r = (other : Result Kernel KernelRefusal) → other ≢ Err refusal.Memory → Says bytes other → (r ≡ other) ⊎ (r ≡ Err refusal.Memory)

-- the same of any two answers: what holds of the bytes is said by one of them alone
abbrev pub HasOneAnswer : List ℕ → Type 0
HasOneAnswer bytes = (r : Result Kernel KernelRefusal) → Says bytes r → IsOnly bytes r
