-- The text of inputs for a header.
use Rattle.std.specs.Prelude.{◌≡◌, ◌≢◌, ℕ, ℤ, List, [], ◌∷◌, ◌++◌, map, Some}
use Rattle.std.specs.List.{AllPairs, AllZip}
use Rattle.std.specs.Str.Lines.{lines}
use Rattle.el_base.specs.declared.ty.Ty.{Ty}
use Rattle.el_base.specs.declared.ty.Array.{Array}
use Rattle.el_base.specs.declared.ty.Scalar.{Scalar}
use Rattle.el_base.specs.Numbers.{pattern}
use Rattle.net_types.specs.declared.firing.Inputs.{Inputs}
use Rattle.net_types.specs.Inputs.{IsPatternOf, AreElementsOf}
use Rattle.inputs_text.specs.Rules.{KeepRules, beside, entries, slots}

-- the names of a header, scalars first, differ
abbrev pub header_names : List Scalar → List Array → List (List ℕ)
header_names scalars arrays = map (λ (s : Scalar). s.name) scalars ++ map (λ (a : Array). a.name) arrays

abbrev pub AreNamed : List Scalar → List Array → Type 0
AreNamed scalars arrays = AllPairs (λ x y. x ≢ y) (header_names scalars arrays)

-- one pattern for each scalar of a header and the elements of each array, in order, and nothing else
pub record FitHeader (scalars : List Scalar) (arrays : List Array) (inputs : Inputs) : Type 0 where
  pub each_scalar : AllZip (λ (s : Scalar) n. IsPatternOf s.ty n) scalars inputs.scalars
  pub each_array : AllZip AreElementsOf arrays inputs.arrays

-- patterns are those, in a type, of the numbers that lines give for a name
pub record ArePatternsFor (ls : List (List ℕ)) (name : List ℕ) (ty : Ty) (patterns : List ℕ) : Type 0 where
  pub numbers : List ℤ
  pub given : beside (entries ls) name ≡ Some numbers
  pub are : patterns ≡ map (pattern ty) numbers

-- bytes are a text of inputs: its lines keep the rules, and the inputs have the patterns of the numbers for each name
pub record InputText (scalars : List Scalar) (arrays : List Array) (inputs : Inputs) (bytes : List ℕ) : Type 0 where
  pub rules : KeepRules (slots scalars arrays) (lines bytes)
  pub each_scalar : AllZip (λ (s : Scalar) p. ArePatternsFor (lines bytes) s.name s.ty (p ∷ [])) scalars inputs.scalars
  pub each_array : AllZip (λ (a : Array) ps. ArePatternsFor (lines bytes) a.name a.ty ps) arrays inputs.arrays

-- a text is that of one inputs of a header at most
abbrev pub IsOfOneInputs : Type 0
IsOfOneInputs = (scalars : List Scalar) (arrays : List Array) (a b : Inputs) (bytes : List ℕ) → InputText scalars arrays a bytes → InputText scalars arrays b bytes → a ≡ b
