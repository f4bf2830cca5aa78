-- Inputs that a net can be run on.
use Rattle.std.specs.Prelude.{◌≡◌, ℕ, ◌^◌, ◌<◌, List, length}
use Rattle.std.specs.List.{All, AllZip}
use Rattle.el_base.specs.declared.ty.Ty.{Ty}
use Rattle.el_base.specs.declared.ty.Array.{Array}
use Rattle.el_base.specs.declared.ty.Scalar.{Scalar}
use Rattle.el_base.specs.Widths.{ty_width}
use Rattle.net_types.specs.declared.net.Net.{Net}
use Rattle.net_types.specs.declared.firing.Inputs.{Inputs}

-- a number is a pattern of a type
abbrev pub IsPatternOf : Ty → ℕ → Type 0
IsPatternOf t n = n < 2 ^ ty_width t

-- elements of an array: as many as it has, each a pattern of its type
pub record AreElementsOf (array : Array) (elements : List ℕ) : Type 0 where
  pub len : length elements ≡ array.len
  pub patterns : All (IsPatternOf array.ty) elements

-- one pattern for each scalar of the header and the elements of each array, in order, and nothing else
pub record InputsFit (net : Net) (inputs : Inputs) : Type 0 where
  pub scalars : AllZip (λ (s : Scalar) n. IsPatternOf s.ty n) net.scalars inputs.scalars
  pub arrays : AllZip AreElementsOf net.arrays inputs.arrays
