-- The kernel and its inputs that two texts give, and why they give none.
use Rattle.std.specs.Prelude.{◌≢◌, ℕ, List, map, Result, Ok, Err}
use Rattle.net_types.specs.declared.firing.Inputs.{Inputs}
use Rattle.c_ast.specs.declared.typed.Typed.{Typed}
use Rattle.c_meaning.specs.Headers.{scalars_of, flat}
use Rattle.inputs_text.specs.declared.refusal.InputRefusal.{InputRefusal}
use Rattle.inputs_text.specs.declared.refusal.InputRefusal.TheVariants as input
use Rattle.inputs_text.specs.Refusals.{Says as SaysOf}
use Rattle.ref_interp.specs.Outcomes.{InputsFit}

abbrev pub Bytes : Type 0
Bytes = List ℕ

-- what an answer of the reader of inputs says of the bytes, for the header of a kernel
abbrev pub SaysInputs : Typed → Bytes → Result Inputs InputRefusal → Type 0
SaysInputs k bytes answer = SaysOf (scalars_of k.params) (map flat k.arrays) bytes answer

-- the bytes are a text of these inputs of the kernel
abbrev pub Gives : Typed → Bytes → Inputs → Type 0
Gives k bytes inputs = SaysInputs k bytes (Ok inputs)

-- the bytes give inputs for the kernel of which that holds
pub record On (k : Typed) (bytes : Bytes) (Holds : Inputs → Type 0) : Type 0 where
  pub inputs : Inputs
  pub given : Gives k bytes inputs
  pub fit : InputsFit k inputs
  pub holds : Holds inputs

-- the bytes are no text of inputs of the kernel, as the refusal says
pub record IsNoInputs (k : Typed) (bytes : Bytes) (r : InputRefusal) : Type 0 where
  pub cause : r ≢ input.Memory
  pub says : SaysInputs k bytes (Err r)
