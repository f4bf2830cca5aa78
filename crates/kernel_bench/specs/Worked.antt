-- The worked kernel: how it ends on the inputs that a number gives.
use Rattle.std.specs.Prelude.{◌≡◌, ℕ, List, [], ◌∷◌, length, map, pos, None}
use Rattle.std.specs.List.{sum}
use Rattle.c_meaning.specs.declared.profile.Profile.TheVariants.{Plain}
use Rattle.c_meaning.specs.Stores.{AreFitting}
use Rattle.c_meaning.specs.Statements.{Ends}
use Rattle.kernel_bench.specs.Histogram.{hist}
use Rattle.kernel_bench.specs.Drawn.{bench_places, bench_weights, bench_numbers}

-- The inputs fit the kernel, and it ends on them in 3076 turns: 3 for each of 1024 rounds, and 4 besides. The arrays x and w are then as they were, and the elements
-- of h have the sum 1 + 2 + .. + 1024.
pub record CountsTo (number : ℕ) : Type 0 where
  pub fitting : AreFitting hist.params hist.arrays (bench_numbers number)
  pub counts : List ℕ
  pub long : length counts ≡ 64
  pub ends : Ends hist Plain (bench_numbers number) (map pos (bench_places number) ∷ map pos bench_weights ∷ map pos counts ∷ []) None 3076
  pub total : sum counts ≡ 524800
