-- What the size of a graph bounds.
use Rattle.std.proofs.Common.{ℕ, ◌<◌, ◌≤◌, List, [], ◌∷◌, length, arith}
use Rattle.std.specs.Prelude.{sum_by, All}
use Rattle.std.specs.List.{AllByRecursion}
use Rattle.std.proofs.lemmas.List.Sums.{sum_by-cons}
use Rattle.std.proofs.lemmas.List.Elements.{All-from_recursion}
use Rattle.ir.specs.declared.graph.Block.{Block}
use Rattle.ir.specs.Graphs.{block_weight}

pub few_blocks : (bs : List Block) → length bs ≤ sum_by block_weight bs
few_blocks [] = omega arith
few_blocks (b ∷ bs) = omega (arith, sum_by-cons block_weight b bs, few_blocks bs)

few_steps : (n : ℕ) (bs : List Block) → sum_by block_weight bs < n → AllByRecursion (λ b. length b.steps < n) bs
few_steps n [] h = tt
few_steps n (b ∷ bs) h = (omega (arith, sum_by-cons block_weight b bs), few_steps n bs (omega (arith, sum_by-cons block_weight b bs)))

pub all_few : (n : ℕ) (bs : List Block) → sum_by block_weight bs < n → All (λ b. length b.steps < n) bs
all_few n bs h = All-from_recursion (λ b. length b.steps < n) bs (few_steps n bs h)
