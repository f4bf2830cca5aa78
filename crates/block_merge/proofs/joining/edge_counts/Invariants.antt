use Rattle.std.proofs.Common.{◌≡◌, drop}
use Rattle.block_merge.specs.Edges.{counted_all}
use Rattle.block_merge.proofs.joining.edge_counts.Given as goal

abbrev pub invariant-loop-block : goal.invariant-loop-block
invariant-loop-block l = counted_all l.counts.items (drop l.block-index l.blocks) ≡ counted_all l.initial.counts.items l.blocks
