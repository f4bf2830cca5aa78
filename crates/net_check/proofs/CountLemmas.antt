-- The arrays of a checked net can be numbered.
use Rattle.std.proofs.Common.{ℕ, suc, ◌<◌, ◌≤◌, List, [], ◌∷◌, length, arith, Fits, w32}
use Rattle.std.specs.List.{All, sum_by}
use Rattle.std.proofs.lemmas.List.Sums.{sum_by-cons}
use Rattle.el_base.specs.declared.ty.Array.{Array}
use Rattle.net_types.specs.declared.net.Net.{Net}
use Rattle.net_check.specs.Checks.{IsChecked}

-- things of which each is 1 and more are no more than their sum
sum_of_some : (arrays : List Array) → All (λ (a : Array). 0 < a.len) arrays → length arrays ≤ sum_by (λ (a : Array). a.len) arrays
sum_of_some [] h = omega arith
sum_of_some (a ∷ arrays) h =
    let some : 0 < a.len = h 0 a (omega arith) in
    let more : length arrays ≤ sum_by (λ (b : Array). b.len) arrays = sum_of_some arrays (λ k d l. h (suc k) d (omega arith)) in
    omega (arith, sum_by-cons (λ (b : Array). b.len) a arrays)

pub few_arrays : (net : Net) (a : ℕ) → IsChecked net → a < length net.arrays → Fits w32 a
few_arrays net a checked l =
    let s : length net.arrays ≤ sum_by (λ (b : Array). b.len) net.arrays = sum_of_some net.arrays checked.c8.header.arrays.some in
    omega (arith, s, checked.c8.header.arrays.together)
