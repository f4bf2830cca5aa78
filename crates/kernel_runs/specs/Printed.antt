-- Replays and runs of the printed circuit of a kernel, and runs where the plain interpreter ends.
use Rattle.std.specs.Prelude.{◌≡◌, ◌≢◌, ◌⊎◌, ◌≤◌, ◌*◌, ◌+◌, ◌++◌, ◌∷◌, [], ℕ, ℤ, List, map, codes, Option, Ok, Err}
use Rattle.c_ast.specs.declared.typed.Typed.{Typed}
use Rattle.c_ast.specs.Nodes.{typed_nodes}
use Rattle.c_meaning.specs.declared.profile.Profile.{Profile}
use Rattle.c_meaning.specs.Headers.{flat}
use Rattle.c_meaning.specs.KernelPatterns.{array_patterns, result_pattern}
use Rattle.c_meaning.specs.Statements.{Ends}
use Rattle.c_meaning.specs.Stores.{Inputs as Numbers}
use Rattle.net_types.specs.declared.net.Net.{Net}
use Rattle.net_types.specs.declared.firing.Firing.{Firing}
use Rattle.net_text.specs.Refusals.{Says as SaysNet}
use Rattle.net_replay.specs.Schedules.{schedule_text}
use Rattle.inputs_text.specs.Results.{ResultText}
use Rattle.kernel_front.specs.declared.reading.Kernel.{Kernel}
use Rattle.kernel_front.specs.Answers.{IsKernel}
use Rattle.kernel_ref.specs.declared.options.InterpretOptions.{InterpretOptions}
use Rattle.kernel_ref.specs.Answers.{Interprets}
use Rattle.net_runs.specs.declared.options.RunOptions.{RunOptions}
use Rattle.net_runs.specs.Given.{Bytes}
use Rattle.net_runs.specs.Runs.{Runs}
use Rattle.net_runs.specs.Replays.{Replays}
use Rattle.kernel_runs.specs.declared.options.CircuitOptions.{CircuitOptions}
use Rattle.kernel_runs.specs.declared.refusal.GoRefusal.{GoRefusal}
use Rattle.kernel_runs.specs.declared.refusal.GoRefusal.TheVariants as refusal
use Rattle.kernel_runs.specs.Circuits.{Compiles}
use Rattle.kernel_runs.specs.Goes.{GivesNumbers, BeginsWithEnd, Goes}

-- the text names a firing that may come next
pub record NamesNext (text : Bytes) : Type 0 where
  pub next : Firing
  pub whole : text ≡ codes "next " ++ schedule_text (next ∷ [])

-- the text is that of the patterns of these arrays and of this result of the kernel
abbrev pub IsEndText : Typed → List (List ℤ) → Option ℤ → Bytes → Type 0
IsEndText k out r text = ResultText (map flat k.arrays) k.result (array_patterns k.arrays out) (result_pattern k.result r) text

-- the text of a kernel's circuit is read as a net: where a replay of it has a text, and the kernel ends on the inputs, that is the kernel's own end, or names a firing that
-- may come next
abbrev pub ReplaysAreRight : Type 0
ReplaysAreRight = (bytes net_text inputs schedule text : Bytes) (c : CircuitOptions) (kernel : Kernel) (net : Net) → IsKernel bytes kernel → Compiles bytes c (Ok net_text)
    → SaysNet net_text (Ok net) → Replays net inputs schedule (Ok text)
    → (p : Profile) (z : Numbers) (out : List (List ℤ)) (r : Option ℤ) (t : ℕ) → GivesNumbers kernel.typed inputs z → Ends kernel.typed p z out r t
    → IsEndText kernel.typed out r text ⊎ NamesNext text

-- and the text of a run of it begins with the kernel's own end
abbrev pub RunsAreRight : Type 0
RunsAreRight = (bytes net_text inputs text : Bytes) (c : CircuitOptions) (o : RunOptions) (kernel : Kernel) (net : Net) → IsKernel bytes kernel → Compiles bytes c (Ok net_text)
    → SaysNet net_text (Ok net) → Runs net inputs o (Ok text)
    → (p : Profile) (z : Numbers) (out : List (List ℤ)) (r : Option ℤ) (t : ℕ) → GivesNumbers kernel.typed inputs z → Ends kernel.typed p z out r t
    → BeginsWithEnd kernel.typed out r text

-- where the plain interpreter ends in some turns, under whichever profile, and 256 firings for each of the kernel's nodes, once for each turn and once more, are within
-- the limit, nothing but want of memory is refused
abbrev pub InterpretedKernelsGo : Type 0
InterpretedKernelsGo = (bytes inputs told : Bytes) (kernel : Kernel) (c : CircuitOptions) (o : RunOptions) (i : InterpretOptions) (r : GoRefusal) → IsKernel bytes kernel
    → (ends : Interprets kernel.typed inputs i (Ok told)) → 256 * typed_nodes kernel.typed * (ends.holds.turns + 1) ≤ o.limit → r ≢ refusal.Memory → Goes bytes inputs c o (Err r) → ⊥
