-- What a run of a kernel on patterns comes to.
use Rattle.std.specs.Prelude.{◌≡◌, ℕ, ◌≤◌, List, [], ◌∷◌, map, Option, Some, None, ℤ}
use Rattle.std.specs.List.{AllZip}
use Rattle.el_base.specs.declared.ty.Ty.{Ty}
use Rattle.el_base.specs.declared.ty.Scalar.{Scalar}
use Rattle.el_base.specs.Numbers.{number}
use Rattle.net_types.specs.declared.firing.Inputs.{Inputs as Patterns}
use Rattle.net_types.specs.Inputs.{IsPatternOf, AreElementsOf}
use Rattle.c_ast.specs.declared.typed.Typed.{Typed}
use Rattle.c_meaning.specs.declared.profile.Profile.{Profile}
use Rattle.c_meaning.specs.Stores.{Inputs, scalar_types}
use Rattle.c_meaning.specs.Headers.{scalars_of, flat}
use Rattle.c_meaning.specs.KernelPatterns.{array_patterns, result_pattern}
use Rattle.c_meaning.specs.Runs.{out_of_turns}
use Rattle.c_meaning.specs.Statements.{kernel_run, first, Ends}
use Rattle.ref_interp.specs.declared.kernel.Outcome.{Outcome}
use Rattle.ref_interp.specs.declared.kernel.Outcome.TheVariants as outcome
use Rattle.ref_interp.specs.Cells.{array_numbers}

-- one pattern for each scalar parameter of a kernel, and the elements of each array, in the order of its header
pub record InputsFit (k : Typed) (i : Patterns) : Type 0 where
  pub scalars : AllZip (λ (s : Scalar) n. IsPatternOf s.ty n) (scalars_of k.params) i.scalars
  pub arrays : AllZip AreElementsOf (map flat k.arrays) i.arrays

-- the numbers that they stand for
abbrev pub scalar_numbers : List Ty → List ℕ → List ℤ
scalar_numbers [] ps = []
scalar_numbers (t ∷ ts) [] = []
scalar_numbers (t ∷ ts) (p ∷ ps) = number t p ∷ scalar_numbers ts ps

abbrev pub input_numbers : Typed → Patterns → Inputs
input_numbers k i = record { scalars = scalar_numbers (scalar_types k.params) i.scalars; arrays = array_numbers k.arrays i.arrays }

-- the kernel ends within n turns: with these patterns of its arrays and of its result, in so many turns
pub record EndsSo (k : Typed) (p : Profile) (i : Inputs) (n : ℕ) (arrays : List (List ℕ)) (value : Option ℕ) (turns : ℕ) : Type 0 where
  pub out : List (List ℤ)
  pub r : Option ℤ
  pub ends : Ends k p i out r turns
  pub within : turns ≤ n
  pub arrays_are : arrays ≡ array_patterns k.arrays out
  pub value_is : value ≡ result_pattern k.result r

-- what an outcome says of the kernel's run with n turns
abbrev pub Says : Typed → Profile → Inputs → ℕ → Outcome → Type 0
Says k p i n (outcome.Ends arrays value turns) = EndsSo k p i n arrays value turns
Says k p i n (outcome.Undefined span) = first k p i n ≡ Some span
Says k p i n outcome.OutOfTurns = (kernel_run k p i n).how ≡ out_of_turns

-- no other outcome says what holds of it
abbrev pub IsOnly : Typed → Profile → Inputs → ℕ → Outcome → Type 0
IsOnly k p i n o = (u : Outcome) → Says k p i n u → u ≡ o

-- ---- what ends has results of the kernel's header

-- a value is there exactly where the kernel has a result, and is a pattern of its type
abbrev pub IsResultOf : Option Ty → Option ℕ → Type 0
IsResultOf None None = Unit {0}
IsResultOf None (Some p) = ⊥
IsResultOf (Some t) None = ⊥
IsResultOf (Some t) (Some p) = IsPatternOf t p

pub record AreResultsOf (k : Typed) (arrays : List (List ℕ)) (value : Option ℕ) : Type 0 where
  pub each_array : AllZip AreElementsOf (map flat k.arrays) arrays
  pub result : IsResultOf k.result value

abbrev pub HasResults : Typed → Outcome → Type 0
HasResults k (outcome.Ends arrays value turns) = AreResultsOf k arrays value
HasResults k (outcome.Undefined span) = Unit {0}
HasResults k outcome.OutOfTurns = Unit {0}
