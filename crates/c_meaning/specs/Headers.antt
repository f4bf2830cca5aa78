-- The header of a kernel and of a normal form: scalars and arrays in the order of the parameters, each array as one row of elements.
use Rattle.std.specs.Prelude.{ℕ, List, [], ◌∷◌, ◌++◌, map, Option}
use Rattle.el_base.specs.declared.ty.Ty.{Ty}
use Rattle.el_base.specs.declared.ty.Scalar.{Scalar}
use Rattle.el_base.specs.declared.ty.Array.{Array}
pub use Rattle.el_base.specs.Headers.{Header}
use Rattle.c_ast.specs.declared.tree.Param.{Param}
use Rattle.c_ast.specs.declared.typed.ArrayOf.{ArrayOf}
use Rattle.c_ast.specs.declared.typed.Typed.{Typed}
use Rattle.c_ast.specs.declared.normal.Normal.{Normal}
use Rattle.c_meaning.specs.Stores.{elements}

-- a parameter without dimensions is a scalar
abbrev pub scalar_of : List ℕ → Param → List Scalar
scalar_of [] p = record { name = p.name; ty = p.ty } ∷ []
scalar_of (d ∷ ds) p = []

abbrev pub scalars_of : List Param → List Scalar
scalars_of [] = []
scalars_of (p ∷ ps) = scalar_of p.dims p ++ scalars_of ps

abbrev pub flat : ArrayOf → Array
flat x = record { name = x.name; ty = x.ty; len = elements x.dims }

abbrev pub header_of : List ℕ → List Param → List ArrayOf → Option Ty → Header
header_of name params arrays result = record { name = name; scalars = scalars_of params; arrays = map flat arrays; result = result }

abbrev pub kernel_header : Typed → Header
kernel_header k = header_of k.name k.params k.arrays k.result

abbrev pub normal_header : Normal → Header
normal_header f = header_of f.name f.params f.arrays f.result
