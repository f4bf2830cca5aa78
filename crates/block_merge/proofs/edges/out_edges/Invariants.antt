use Rattle.block_merge.proofs.WithEdges.{AreAlong}
use Rattle.block_merge.proofs.edges.out_edges.Given as goal

abbrev pub invariant-loop-block : goal.invariant-loop-block
invariant-loop-block l = AreAlong l.blocks l.edges.items l.block-index
