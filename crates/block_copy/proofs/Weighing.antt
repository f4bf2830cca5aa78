-- The weights of the blocks that are left, where another block stands in the place of one.
use Rattle.std.proofs.Common.{◌≡◌, ℕ, ◌+◌, ◌<◌, List, length, get_or, drop, sym, ◌∙◌, ap, arith}
use Rattle.std.specs.Prelude.{set, sum_by}
use Rattle.std.proofs.lemmas.List.{length-set}
use Rattle.std.proofs.lemmas.List.Sums.{sum_by-drop_more}
use Rattle.ir.specs.declared.graph.Block.{Block}
use Rattle.ir.specs.Graphs.{block_weight}

pub weighs_more : (xs : List Block) (at i : ℕ) (b x : Block) → i < length xs → x ≡ get_or (set xs at b) i x
    → sum_by block_weight (drop i (set xs at b)) ≡ block_weight x + sum_by block_weight (drop (i + 1) (set xs at b))
weighs_more xs at i b x lt e =
    sum_by-drop_more block_weight (set xs at b) i x (omega (arith, lt, length-set xs at b)) ∙ ap (λ (y : Block). block_weight y + sum_by block_weight (drop (i + 1) (set xs at b))) (sym e)
