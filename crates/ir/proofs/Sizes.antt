-- The weights of the blocks that are left.
use Rattle.std.proofs.Common.{◌≡◌, ℕ, ◌+◌, ◌<◌, List, length, get_or, drop, sym, ap, ◌∙◌}
use Rattle.std.specs.Prelude.{sum_by}
use Rattle.std.proofs.lemmas.List.Sums.{sum_by-drop_more}
use Rattle.ir.specs.declared.graph.Block.{Block}
use Rattle.ir.specs.Graphs.{block_weight}

pub size_more : (xs : List Block) (i : ℕ) (b : Block) → i < length xs → b ≡ get_or xs i b
    → sum_by block_weight (drop i xs) ≡ block_weight b + sum_by block_weight (drop (i + 1) xs)
size_more xs i b h e = sum_by-drop_more block_weight xs i b h ∙ ap (λ (x : Block). block_weight x + sum_by block_weight (drop (i + 1) xs)) (sym e)
