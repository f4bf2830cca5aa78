-- The laws of answers.
use Rattle.std.specs.Prelude.{◌≢◌, ◌≤◌, ◌*◌, ◌+◌, ℕ, ℤ, List, Option, Ok, Err}
use Rattle.c_ast.specs.declared.typed.Typed.{Typed}
use Rattle.c_ast.specs.Nodes.{typed_nodes}
use Rattle.c_meaning.specs.declared.profile.Profile.{Profile}
use Rattle.c_meaning.specs.Statements.{Ends}
use Rattle.c_meaning.specs.Stores.{Inputs as Numbers}
use Rattle.kernel_front.specs.declared.reading.Kernel.{Kernel}
use Rattle.kernel_front.specs.declared.refusal.KernelRefusal.{KernelRefusal}
use Rattle.kernel_front.specs.declared.refusal.KernelRefusal.TheVariants as front
use Rattle.kernel_front.specs.Answers.{IsKernel}
use Rattle.kernel_ref.specs.declared.options.InterpretOptions.{InterpretOptions}
use Rattle.kernel_ref.specs.Answers.{Interprets}
use Rattle.net_runs.specs.declared.options.RunOptions.{RunOptions}
use Rattle.net_runs.specs.Given.{Bytes}
use Rattle.kernel_runs.specs.declared.options.CircuitOptions.{CircuitOptions}
use Rattle.kernel_runs.specs.declared.refusal.GoRefusal.{GoRefusal}
use Rattle.kernel_runs.specs.declared.refusal.GoRefusal.TheVariants as refusal
use Rattle.kernel_runs.specs.Circuits.{Compiles}
use Rattle.kernel_runs.specs.Goes.{GivesNumbers, IsFront, Goes}

-- where the bytes spell a kernel, nothing but want of memory is refused
abbrev pub KernelsCompile : Type 0
KernelsCompile = (bytes : Bytes) (kernel : Kernel) (o : CircuitOptions) (r : KernelRefusal) → IsKernel bytes kernel → r ≢ front.Memory → Compiles bytes o (Err r) → ⊥

-- under some profile the kernel ends in some turns on numbers that the bytes give, and 256 firings for each of its nodes, once for each turn and once more, are
-- within the limit
pub record EndsInFirings (k : Typed) (inputs : Bytes) (limit : ℕ) : Type 0 where
  pub profile : Profile
  pub numbers : Numbers
  pub given : GivesNumbers k inputs numbers
  pub out : List (List ℤ)
  pub r : Option ℤ
  pub turns : ℕ
  pub ends : Ends k profile numbers out r turns
  pub within : 256 * typed_nodes k * (turns + 1) ≤ limit

-- the bytes spell such a kernel
pub record IsEnding (bytes inputs : Bytes) (limit : ℕ) : Type 0 where
  pub kernel : Kernel
  pub read : IsKernel bytes kernel
  pub ends : EndsInFirings kernel.typed inputs limit

-- then nothing but want of memory is refused
abbrev pub EndingKernelsRun : Type 0
EndingKernelsRun = (bytes inputs : Bytes) (c : CircuitOptions) (o : RunOptions) (r : GoRefusal) → IsEnding bytes inputs o.limit → r ≢ refusal.Memory
    → Goes bytes inputs c o (Err r) → ⊥

-- where the plain interpreter has results for the same bytes, under whichever profile, the text of the circuit's run begins with them
abbrev pub GoesAsInterpreted : Type 0
GoesAsInterpreted = (bytes inputs : Bytes) (kernel : Kernel) (c : CircuitOptions) (o : RunOptions) (i : InterpretOptions) (text told : Bytes) → IsKernel bytes kernel
    → (goes : Goes bytes inputs c o (Ok text)) (ends : Interprets kernel.typed inputs i (Ok told)) → IsFront ends.holds.results goes.holds.run_text
