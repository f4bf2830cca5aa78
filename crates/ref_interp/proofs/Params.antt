-- The parameters of a lawful kernel: their names differ, and arrays are small.
use Rattle.std.proofs.Common.{◌≤◌, List, [], ◌∷◌, arith}
use Rattle.std.specs.Prelude.{sum_by, All}
use Rattle.std.proofs.lemmas.List.Sums.{sum_by-cons}
use Rattle.std.proofs.lemmas.List.Elements.{All-head, All-tail, All-nil, All-cons}
use Rattle.el_base.specs.Limits.{max_elements}
use Rattle.c_ast.specs.declared.typed.ArrayOf.{ArrayOf}
use Rattle.c_ast.specs.declared.typed.Typed.{Typed}
use Rattle.c_meaning.specs.declared.profile.Profile.TheVariants.{Plain}
use Rattle.c_meaning.specs.Stores.{elements}
use Rattle.c_meaning.specs.Lawful.{Lawful}
use Rattle.c_meaning.proofs.ParameterLists.{HasSize, arrays_have_sizes}
use Rattle.ref_interp.specs.Names.{IsSmallArray}

few_each : (xs : List ArrayOf) → All HasSize xs → sum_by (λ a. elements a.dims) xs ≤ max_elements → All IsSmallArray xs
few_each [] h le = All-nil IsSmallArray
few_each (x ∷ xs) h le =
    let s = sum_by-cons (λ a. elements a.dims) x xs in
    All-cons IsSmallArray x xs (record { some = All-head HasSize x xs h; few = omega (arith, s) }) (few_each xs (All-tail HasSize x xs h) (omega (arith, s)))

pub small_arrays : (k : Typed) → Lawful k → All IsSmallArray k.arrays
small_arrays k law = few_each k.arrays (arrays_have_sizes k law) (law.header Plain).few_elements
