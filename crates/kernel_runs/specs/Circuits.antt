-- The circuit of the kernel that bytes spell, and its text.
use Rattle.std.specs.Prelude.{Result, Ok, Err}
use Rattle.c_ast.specs.declared.typed.Typed.{Typed}
use Rattle.net_types.specs.declared.net.Net.{Net}
use Rattle.net_text.specs.Texts.{NetText}
use Rattle.net_text.specs.Refusals.{ReadsBack}
use Rattle.kernel_front.specs.declared.reading.Kernel.{Kernel}
use Rattle.kernel_front.specs.declared.refusal.KernelRefusal.{KernelRefusal}
use Rattle.kernel_front.specs.declared.refusal.KernelRefusal.TheVariants as front
use Rattle.kernel_front.specs.Answers.{IsKernel, IsLexed, IsParsed, IsTyped, IsInlined}
use Rattle.kernel_compile.specs.Compiling.{IsCircuit}
use Rattle.net_runs.specs.Given.{Bytes}
use Rattle.kernel_runs.specs.declared.options.CircuitOptions.{CircuitOptions}

-- the bytes are a kernel, and some net is its circuit, as it is asked for; of both that holds
pub record OfCircuit (bytes : Bytes) (o : CircuitOptions) (Holds : Typed → Net → Type 0) : Type 0 where
  pub kernel : Kernel
  pub read : IsKernel bytes kernel
  pub net : Net
  pub circuit : IsCircuit o.timing o.forward kernel.typed net
  pub holds : Holds kernel.typed net

-- the text is that of the net, and is read as this net alone
pub record IsPrinted (net : Net) (text : Bytes) : Type 0 where
  pub whole : NetText net text
  pub read : ReadsBack text net

-- the bytes are no kernel, as the refusal says
abbrev pub IsNoKernel : Bytes → KernelRefusal → Type 0
IsNoKernel bytes (front.Lex r) = IsLexed bytes r
IsNoKernel bytes (front.Parse r) = IsParsed bytes r
IsNoKernel bytes (front.Types r) = IsTyped bytes r
IsNoKernel bytes (front.Inline r) = IsInlined bytes r
IsNoKernel bytes front.Memory = ⊥

-- what a compilation answers for the bytes of a kernel; want of memory says nothing
abbrev pub Compiles : Bytes → CircuitOptions → Result Bytes KernelRefusal → Type 0
Compiles bytes o (Ok text) = OfCircuit bytes o (λ k net. IsPrinted net text)
Compiles bytes o (Err (front.Lex r)) = IsLexed bytes r
Compiles bytes o (Err (front.Parse r)) = IsParsed bytes r
Compiles bytes o (Err (front.Types r)) = IsTyped bytes r
Compiles bytes o (Err (front.Inline r)) = IsInlined bytes r
Compiles bytes o (Err front.Memory) = Unit {0}
