use Rattle.std.proofs.Common.{◌≡◌, ◌++◌, drop}
use Rattle.block_merge.specs.OutEdges.{with_edges}
use Rattle.block_merge.proofs.edges.with_edges.Given as goal

abbrev pub invariant-loop-at : goal.invariant-loop-at
invariant-loop-at l = l.made ++ drop l.at (with_edges l.blocks l.edges) ≡ with_edges l.blocks l.edges
