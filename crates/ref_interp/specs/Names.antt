-- The header of a kernel, for those who read its inputs: the names of its parameters, and how many elements an array has.
use Rattle.std.specs.Prelude.{◌≢◌, ℕ, ◌<◌, ◌≤◌, List, ◌++◌, map, All}
use Rattle.std.specs.List.{AllPairs}
use Rattle.el_base.specs.declared.ty.Scalar.{Scalar}
use Rattle.el_base.specs.declared.ty.Array.{Array}
use Rattle.el_base.specs.Limits.{max_elements}
use Rattle.c_ast.specs.declared.typed.ArrayOf.{ArrayOf}
use Rattle.c_ast.specs.declared.typed.Typed.{Typed}
use Rattle.c_meaning.specs.Stores.{elements}
use Rattle.c_meaning.specs.Headers.{scalars_of, flat}

-- the names of a header, scalars first
abbrev pub parameter_names : Typed → List (List ℕ)
parameter_names k = map (λ (s : Scalar). s.name) (scalars_of k.params) ++ map (λ (a : Array). a.name) (map flat k.arrays)

abbrev pub AreDifferent : List (List ℕ) → Type 0
AreDifferent names = AllPairs (λ x y. x ≢ y) names

-- an array has elements, and not too many
pub record IsSmallArray (x : ArrayOf) : Type 0 where
  pub some : All (λ d. 0 < d) x.dims
  pub few : elements x.dims ≤ max_elements
