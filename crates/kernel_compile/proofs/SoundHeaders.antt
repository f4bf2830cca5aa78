-- The header of a lawful kernel is one that a circuit can have.
use Rattle.std.proofs.Common.{◌≡◌, ◌<◌, List, [], ◌∷◌, map, refl, arith}
use Rattle.std.specs.Prelude.{sum_by, All}
use Rattle.std.proofs.lemmas.List.Sums.{sum_by-cons}
use Rattle.std.proofs.lemmas.List.Elements.{All-cons, All-nil, All-head, All-tail}
use Rattle.el_base.specs.declared.ty.Array.{Array}
use Rattle.c_ast.specs.declared.typed.ArrayOf.{ArrayOf}
use Rattle.c_ast.specs.declared.typed.Typed.{Typed}
use Rattle.c_meaning.specs.declared.profile.Profile.TheVariants.{Plain}
use Rattle.c_meaning.specs.Headers.{flat, kernel_header}
use Rattle.c_meaning.specs.Lawful.{Lawful}
use Rattle.c_meaning.specs.Stores.{elements}
use Rattle.c_meaning.proofs.ParameterLists.{HasSize, arrays_have_sizes, names_differ, some_elements}
use Rattle.circuit_build.specs.Asks.{IsSound}

all_some : (xs : List ArrayOf) → All HasSize xs → All (λ (a : Array). 0 < a.len) (map flat xs)
all_some [] h = All-nil (λ (a : Array). 0 < a.len)
all_some (x ∷ xs) h =
    All-cons (λ (a : Array). 0 < a.len) (flat x) (map flat xs) (some_elements x.dims (All-head HasSize x xs h)) (all_some xs (All-tail HasSize x xs h))

sum_flat : (xs : List ArrayOf) → sum_by (λ (a : Array). a.len) (map flat xs) ≡ sum_by (λ (a : ArrayOf). elements a.dims) xs
sum_flat [] = refl
sum_flat (x ∷ xs) =
    omega (arith, sum_by-cons (λ (a : Array). a.len) (flat x) (map flat xs), sum_by-cons (λ (a : ArrayOf). elements a.dims) x xs, sum_flat xs)

pub headers_sound : (k : Typed) → Lawful k → IsSound (kernel_header k)
headers_sound k lawful =
    let few = (lawful.header Plain).few_elements in
    record {
      names = names_differ k lawful;
      arrays = record {
        some = all_some k.arrays (arrays_have_sizes k lawful);
        together = omega (arith, sum_flat k.arrays, few);
      };
    }
