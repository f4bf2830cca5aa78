use Rattle.std.proofs.Common.{◌≡◌, ◌-◌, length}
use Rattle.block_merge.specs.Threaded.{threaded}
use Rattle.block_merge.specs.Merged.{rounds}
use Rattle.block_merge.specs.OutEdges.{with_edges}
use Rattle.block_merge.proofs.threading.threaded_edges.Given as goal

abbrev pub invariant-loop-round : goal.invariant-loop-round
invariant-loop-round l = record {
  edges : length l.edges.items ≡ length l.blocks;
  further : length l.further.items ≡ length l.blocks;
  same : threaded (rounds - l.round) (with_edges l.blocks l.edges.items) ≡ threaded rounds l.blocks;
}
