-- The patterns of a kernel's inputs, arrays and result.
use Rattle.std.specs.Prelude.{ℕ, List, [], ◌∷◌, map, ℤ, Option, Some, None}
use Rattle.el_base.specs.declared.ty.Ty.{Ty}
use Rattle.el_base.specs.Numbers.{pattern}
use Rattle.c_ast.specs.declared.typed.ArrayOf.{ArrayOf}

-- of scalars, one for one: the pattern of each in its type
abbrev pub scalar_patterns : List Ty → List ℤ → List ℕ
scalar_patterns [] zs = []
scalar_patterns (t ∷ ts) [] = []
scalar_patterns (t ∷ ts) (z ∷ zs) = pattern t z ∷ scalar_patterns ts zs

-- of arrays in row-major order: the pattern of each element in its place
abbrev pub array_patterns : List ArrayOf → List (List ℤ) → List (List ℕ)
array_patterns [] zss = []
array_patterns (x ∷ xs) [] = []
array_patterns (x ∷ xs) (zs ∷ zss) = map (pattern x.ty) zs ∷ array_patterns xs zss

-- of a result, which is there exactly where the kernel has one
abbrev pub result_pattern : Option Ty → Option ℤ → Option ℕ
result_pattern (Some t) (Some x) = Some (pattern t x)
result_pattern (Some t) None = None
result_pattern None (Some x) = None
result_pattern None None = None
