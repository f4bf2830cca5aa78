-- The text of the arrays and the result that a run ends with.
use Rattle.std.specs.Prelude.{◌≡◌, ℕ, List, [], ◌∷◌, ◌++◌, codes, Option, Some, None}
use Rattle.std.specs.Fmt.{signed_decimal}
use Rattle.std.specs.List.{AllZip, flat_map}
use Rattle.el_base.specs.declared.ty.Ty.{Ty}
use Rattle.el_base.specs.declared.ty.Array.{Array}
use Rattle.el_base.specs.Numbers.{number}
use Rattle.net_types.specs.Inputs.{IsPatternOf, AreElementsOf}

-- the number of a pattern in a type, in decimal, without leading zeros, and with a minus where it is negative
abbrev pub written : Ty → ℕ → List ℕ
written ty p = signed_decimal (number ty p)

-- numbers with a space (32) before each
abbrev pub spaced : Ty → List ℕ → List ℕ
spaced ty ps = flat_map (λ p. 32 ∷ written ty p) ps

-- a line `NAME = n n ..` with single spaces and a line feed (10)
abbrev pub numbers_line : List ℕ → Ty → List ℕ → List ℕ
numbers_line name ty ps = name ++ codes " =" ++ spaced ty ps ++ 10 ∷ []

-- a line for each array, in order
abbrev pub array_lines : List Array → List (List ℕ) → List ℕ
array_lines [] values = []
array_lines (a ∷ arrays) [] = []
array_lines (a ∷ arrays) (ps ∷ values) = numbers_line a.name a.ty ps ++ array_lines arrays values

-- the line of the result, where there is one
abbrev pub return_line : Option Ty → Option ℕ → List ℕ
return_line None value = []
return_line (Some ty) None = []
return_line (Some ty) (Some p) = numbers_line (codes "return") ty (p ∷ [])

-- a value is there exactly where there is a result, and is a pattern of its type
abbrev pub IsResult : Option Ty → Option ℕ → Type 0
IsResult None None = Unit {0}
IsResult None (Some p) = ⊥
IsResult (Some ty) None = ⊥
IsResult (Some ty) (Some p) = IsPatternOf ty p

-- values for each array and the result
pub record AreResults (arrays : List Array) (ret : Option Ty) (values : List (List ℕ)) (value : Option ℕ) : Type 0 where
  pub each_array : AllZip AreElementsOf arrays values
  pub result : IsResult ret value

-- bytes are the text of the arrays' values and the result
abbrev pub ResultText : List Array → Option Ty → List (List ℕ) → Option ℕ → List ℕ → Type 0
ResultText arrays ret values value bytes = bytes ≡ array_lines arrays values ++ return_line ret value
