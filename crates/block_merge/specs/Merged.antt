-- The merged graph of a graph: edges threaded, unreached blocks left out, rows joined, and what is then unreached left out.
use Rattle.std.specs.Prelude.{ℕ, List}
use Rattle.ir.specs.declared.graph.Block.{Block}
use Rattle.ir.specs.Graphs.{Graph}
use Rattle.block_merge.specs.Threaded.{threaded}
use Rattle.block_merge.specs.Joined.{all_joined}
use Rattle.block_merge.specs.Numbered.{reached}

-- so often edges are threaded: past 65,535 blocks in a row that only lead on
unfoldable pub rounds : ℕ
rounds = 16

abbrev pub merged_blocks : List Block → List Block
merged_blocks bs = reached (all_joined (reached (threaded rounds bs)))

abbrev pub with_blocks : Graph → List Block → Graph
with_blocks g bs = record g { blocks = bs }

abbrev pub merged : Graph → Graph
merged g = with_blocks g (merged_blocks g.blocks)
