-- When a net is the circuit of a kernel.
use Rattle.std.specs.Prelude.{◌≡◌, ℕ, ◌+◌, ◌*◌, ◌≤◌, List, length, ℤ, Option}
use Rattle.c_ast.specs.declared.typed.Typed.{Typed}
use Rattle.c_ast.specs.Nodes.{typed_nodes}
use Rattle.c_meaning.specs.declared.profile.Profile.{Profile}
use Rattle.c_meaning.specs.Stores.{Inputs as Numbers, AreFitting, scalar_types}
use Rattle.c_meaning.specs.Statements.{Ends}
use Rattle.c_meaning.specs.Headers.{kernel_header}
use Rattle.c_meaning.specs.KernelPatterns.{scalar_patterns, array_patterns, result_pattern}
use Rattle.net_types.specs.declared.firing.Firing.{Firing}
use Rattle.net_types.specs.declared.firing.Inputs.{Inputs}
use Rattle.net_types.specs.declared.net.Net.{Net}
use Rattle.net_types.specs.Headers.{net_header}
use Rattle.net_types.specs.Inputs.{InputsFit}
use Rattle.net_check.specs.Checks.{IsChecked}
use Rattle.net_check.specs.Retimed.{Retimed}
use Rattle.net_core.specs.Fire.{State}
use Rattle.net_core.specs.Runs.{Run, AtRest, Long, HasExited, Exited, NoStrays}

-- the inputs of a net that are the patterns of a kernel's inputs
abbrev pub input_patterns : Typed → Numbers → Inputs
input_patterns k z = record { scalars = scalar_patterns (scalar_types k.params) z.scalars; arrays = array_patterns k.arrays z.arrays }

-- a state in which the net has exited with the pattern of the kernel's result, with the patterns of its arrays and without strays
pub record HoldsEnd (net : Net) (k : Typed) (out : List (List ℤ)) (r : Option ℤ) (s : State) : Type 0 where
  pub exited : Exited net (result_pattern k.result r) s
  pub arrays : s.arrays ≡ array_patterns k.arrays out
  pub clean : NoStrays s

-- where a kernel ends in t turns, a list of firings to rest that ends as it does, of no more than 256 firings for each of its nodes, once for each turn and once more
pub record RestsInTime (net : Net) (k : Typed) (z : Numbers) (out : List (List ℤ)) (r : Option ℤ) (t : ℕ) : Type 0 where
  pub firings : List Firing
  pub to : State
  pub run : Run net (input_patterns k z) firings to
  pub rests : AtRest net to
  pub few : length firings ≤ 256 * typed_nodes k * (t + 1)
  pub holds : HoldsEnd net k out r to

-- The runs of a net, in whatever order its units fire. On all inputs that fit, a run at rest has exited. Where the kernel ends under the profile on its inputs in
-- t turns, no run on their patterns is longer than 256 firings for each of its nodes, once for each turn and once more; and one at rest holds the kernel's end.
pub record Computes (net : Net) (k : Typed) (p : Profile) : Type 0 where
  pub exits : (i : Inputs) (fs : List Firing) (s : State) → InputsFit net i → Run net i fs s → AtRest net s → HasExited net s
  pub bounded : (z : Numbers) (out : List (List ℤ)) (r : Option ℤ) (t : ℕ) (fs : List Firing) (s : State) → AreFitting k.params k.arrays z → Ends k p z out r t
      → Run net (input_patterns k z) fs s → length fs ≤ 256 * typed_nodes k * (t + 1)
  pub right : (z : Numbers) (out : List (List ℤ)) (r : Option ℤ) (t : ℕ) (fs : List Firing) (s : State) → AreFitting k.params k.arrays z → Ends k p z out r t
      → Run net (input_patterns k z) fs s → AtRest net s → HoldsEnd net k out r s

-- a checked net with the kernel's header that computes the kernel, and so does each checked net that is equal but for slots and delays
pub record Good (net : Net) (k : Typed) (p : Profile) : Type 0 where
  pub checked : IsChecked net
  pub header : net_header net ≡ kernel_header k
  pub retimed : (net2 : Net) → Retimed net net2 → Computes net2 k p

-- ---- the inputs of kernels and of nets are the same

-- the patterns of inputs that fit a kernel fit a net with its header
abbrev pub PatternsFit : Type 0
PatternsFit = (net : Net) (k : Typed) (z : Numbers) → net_header net ≡ kernel_header k → AreFitting k.params k.arrays z → InputsFit net (input_patterns k z)

-- some inputs of the kernel fit it and have these patterns
pub record ArePatterns (k : Typed) (i : Inputs) : Type 0 where
  pub numbers : Numbers
  pub fitting : AreFitting k.params k.arrays numbers
  pub same : input_patterns k numbers ≡ i

-- so have all inputs that fit the net
abbrev pub InputsAreNumbers : Type 0
InputsAreNumbers = (net : Net) (k : Typed) (i : Inputs) → net_header net ≡ kernel_header k → InputsFit net i → ArePatterns k i

-- ---- what follows of a good net

-- it computes the kernel itself
abbrev pub GoodNetsCompute : Type 0
GoodNetsCompute = (net : Net) (k : Typed) (p : Profile) → Good net k p → Computes net k p

-- with other slots and delays with which it is checked it is good too
abbrev pub GoodWhenRetimed : Type 0
GoodWhenRetimed = (net net2 : Net) (k : Typed) (p : Profile) → Good net k p → Retimed net net2 → Good net2 k p

-- where the kernel ends in t turns, a limit of 256 firings for each node, once for each turn and once more is not passed
abbrev pub EndsInTime : Type 0
EndsInTime = (net : Net) (k : Typed) (p : Profile) (z : Numbers) (out : List (List ℤ)) (r : Option ℤ) (t limit : ℕ) → Good net k p → AreFitting k.params k.arrays z
    → Ends k p z out r t → 256 * typed_nodes k * (t + 1) ≤ limit → Long net (input_patterns k z) limit → ⊥
