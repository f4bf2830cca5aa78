-- How many scalars and arrays a kernel has.
use Rattle.std.proofs.Common.{◌≡◌, ℕ, ◌+◌, ◌≤◌, List, [], ◌∷◌, length, map, ap, refl, arith, length-append}
use Rattle.std.proofs.lemmas.List.Sums.{sum_by-cons}
use Rattle.std.proofs.lemmas.List.{length-map}
use Rattle.c_ast.specs.declared.tree.Param.{Param}
use Rattle.c_ast.specs.declared.typed.ArrayOf.{ArrayOf}
use Rattle.c_ast.specs.declared.typed.Typed.{Typed}
use Rattle.c_ast.specs.Casts.{Parameters, with_param, with_params, parameters}
use Rattle.c_ast.specs.Nodes.{param_nodes, params_nodes, typed_nodes}
use Rattle.c_meaning.specs.declared.profile.Profile.TheVariants.{Plain}
use Rattle.c_meaning.specs.Headers.{scalar_of, scalars_of, flat}
use Rattle.c_meaning.specs.Lawful.{Lawful}

one_param : (ds : List ℕ) (p : Param) (q : Parameters) → length (scalar_of ds p) + length (with_param p ds q).arrays ≡ 1 + length q.arrays
one_param [] p q = omega arith
one_param (d ∷ ds) p q = omega (arith, length-append q.arrays (record { name = p.name; ty = p.ty; dims = p.dims } ∷ []))

all_params : (ps : List Param) (q : Parameters) → length (scalars_of ps) + length (with_params ps q).arrays ≡ length ps + length q.arrays
all_params [] q = refl
all_params (p ∷ ps) q =
    omega (arith, length-append (scalar_of p.dims p) (scalars_of ps), one_param p.dims p q, all_params ps (with_param p p.dims q))

params_few : (ps : List Param) → length ps ≤ params_nodes ps
params_few [] = omega arith
params_few (p ∷ ps) = omega (arith, sum_by-cons param_nodes p ps, params_few ps)

-- scalars and arrays are parameters, so they are fewer than the nodes
pub header_few : (k : Typed) → Lawful k → 1 + length (scalars_of k.params) + length (map flat k.arrays) ≤ typed_nodes k
header_few k h =
    let a : length k.arrays ≡ length (parameters k.params).arrays = ap (λ (xs : List ArrayOf). length xs) (h.header Plain).arrays_are in
    omega (arith, length-map k.arrays flat, all_params k.params (record { scope = []; types = []; arrays = [] }), params_few k.params)
