-- Values that fit their widths, and inputs that fit a graph's header.
use Rattle.std.specs.Prelude.{ℕ, ◌<◌, ◌^◌, List, [], ◌∷◌, map, Option, Some, None, All}
use Rattle.el_base.specs.declared.ty.Array.{Array}
use Rattle.el_base.specs.Widths.{ty_width}
use Rattle.ir.specs.Shapes.{Shape}
use Rattle.ir.specs.Graphs.{Graph}

-- one for one, each value is below two to its width
abbrev pub FitWidths : List ℕ → List ℕ → Type 0
FitWidths [] [] = Unit {0}
FitWidths (w ∷ ws) (v ∷ vs) = (v < 2 ^ w) × FitWidths ws vs
FitWidths [] (v ∷ vs) = ⊥
FitWidths (w ∷ ws) [] = ⊥

-- where a value has a width it is below two to that; a store has none
abbrev pub FitsWidth : Option ℕ → ℕ → Type 0
FitsWidth None v = Unit {0}
FitsWidth (Some w) v = v < 2 ^ w

-- one for one, so for the values of a block
abbrev pub FitShape : Shape → List ℕ → Type 0
FitShape [] [] = Unit {0}
FitShape (w ∷ ws) (v ∷ vs) = FitsWidth w v × FitShape ws vs
FitShape [] (v ∷ vs) = ⊥
FitShape (w ∷ ws) [] = ⊥

-- array for array, each element is below two to the width of its array
abbrev pub FitArrays : List Array → List (List ℕ) → Type 0
FitArrays [] [] = Unit {0}
FitArrays (x ∷ xs) (es ∷ ess) = All (λ n. n < 2 ^ ty_width x.ty) es × FitArrays xs ess
FitArrays [] (es ∷ ess) = ⊥
FitArrays (x ∷ xs) [] = ⊥

-- a pattern of its width for each scalar, and elements that fit for each array
pub record FitHeader (g : Graph) (scalars : List ℕ) (arrays : List (List ℕ)) : Type 0 where
  pub each_scalar : FitWidths (map (λ s. ty_width s.ty) g.scalars) scalars
  pub each_array : FitArrays g.arrays arrays
