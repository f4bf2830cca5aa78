-- What the compilation of a kernel and a run of its circuit on a text of inputs answer.
use Rattle.std.specs.Prelude.{◌≡◌, ◌≢◌, ◌≤◌, ◌*◌, ◌+◌, ◌++◌, ℕ, ℤ, List, length, map, codes, Option, Result, Ok, Err}
use Rattle.c_ast.specs.declared.typed.Typed.{Typed}
use Rattle.c_ast.specs.Nodes.{typed_nodes}
use Rattle.c_meaning.specs.declared.profile.Profile.{Profile}
use Rattle.c_meaning.specs.Headers.{flat}
use Rattle.c_meaning.specs.KernelPatterns.{array_patterns, result_pattern}
use Rattle.c_meaning.specs.Statements.{Ends}
use Rattle.c_meaning.specs.Stores.{Inputs as Numbers, AreFitting}
use Rattle.net_types.specs.declared.net.Net.{Net}
use Rattle.inputs_text.specs.Results.{ResultText}
use Rattle.kernel_compile.specs.Goods.{input_patterns}
use Rattle.kernel_ref.specs.Texts.{Gives}
use Rattle.net_runs.specs.declared.options.RunOptions.{RunOptions}
use Rattle.net_runs.specs.declared.refusal.RunRefusal.{RunRefusal}
use Rattle.net_runs.specs.declared.refusal.RunRefusal.TheVariants as run
use Rattle.net_runs.specs.Given.{Bytes}
use Rattle.net_runs.specs.Runs.{Runs}
use Rattle.kernel_runs.specs.declared.options.CircuitOptions.{CircuitOptions}
use Rattle.kernel_runs.specs.declared.refusal.GoRefusal.{GoRefusal}
use Rattle.kernel_runs.specs.declared.refusal.GoRefusal.TheVariants as refusal
use Rattle.kernel_runs.specs.Circuits.{OfCircuit, IsPrinted, IsNoKernel}

-- ---- the kernel's own results

-- the numbers are inputs of the kernel, and the bytes are a text of their patterns
pub record GivesNumbers (k : Typed) (bytes : Bytes) (z : Numbers) : Type 0 where
  pub fitting : AreFitting k.params k.arrays z
  pub given : Gives k bytes (input_patterns k z)

-- the text begins so
pub record IsFront (front text : Bytes) : Type 0 where
  pub rest : Bytes
  pub whole : text ≡ front ++ rest

-- the text begins with that of the patterns of these arrays and of this result of the kernel
pub record BeginsWithEnd (k : Typed) (out : List (List ℤ)) (r : Option ℤ) (text : Bytes) : Type 0 where
  pub results : Bytes
  pub shown : ResultText (map flat k.arrays) k.result (array_patterns k.arrays out) (result_pattern k.result r) results
  pub front : IsFront results text

-- Where under some profile the kernel ends in t turns on numbers that the bytes give, the text begins with its arrays and its result, and the firings that were
-- made are at most 256 for each of its nodes, once for each turn and once more.
pub record IsRight (k : Typed) (bytes text : Bytes) (made : ℕ) : Type 0 where
  pub results : (p : Profile) (z : Numbers) (out : List (List ℤ)) (r : Option ℤ) (t : ℕ) → GivesNumbers k bytes z → Ends k p z out r t → BeginsWithEnd k out r text
  pub few : (p : Profile) (z : Numbers) (out : List (List ℤ)) (r : Option ℤ) (t : ℕ) → GivesNumbers k bytes z → Ends k p z out r t → made ≤ 256 * typed_nodes k * (t + 1)

-- ---- answers

-- The text is that of the net, a line `%%`, and that of a run of the net on the inputs that the bytes give; and where the kernel ends on them, that is right.
pub record GoesTo (k : Typed) (net : Net) (bytes : Bytes) (o : RunOptions) (text : Bytes) : Type 0 where
  pub net_text : Bytes
  pub printed : IsPrinted net net_text
  pub run_text : Bytes
  pub runs : Runs net bytes o (Ok run_text)
  pub whole : text ≡ net_text ++ codes "%%\n" ++ run_text
  pub right : IsRight k bytes run_text (length runs.holds.firings)

-- A run of a kernel's circuit is refused so. The circuit is never stuck, so no answer tells that; and want of memory is told apart.
pub record IsNoRun (net : Net) (bytes : Bytes) (o : RunOptions) (r : RunRefusal) : Type 0 where
  pub moves : r ≢ run.Stuck
  pub cause : r ≢ run.Memory
  pub runs : Runs net bytes o (Err r)

-- what is answered for the bytes of a kernel and of its inputs; want of memory says nothing
abbrev pub Goes : Bytes → Bytes → CircuitOptions → RunOptions → Result Bytes GoRefusal → Type 0
Goes kernel inputs c o (Ok text) = OfCircuit kernel c (λ k net. GoesTo k net inputs o text)
Goes kernel inputs c o (Err (refusal.Kernel r)) = IsNoKernel kernel r
Goes kernel inputs c o (Err (refusal.Run r)) = OfCircuit kernel c (λ k net. IsNoRun net inputs o r)
Goes kernel inputs c o (Err refusal.Memory) = Unit {0}
