use Rattle.std.proofs.Common.{◌≡◌, drop}
use Rattle.circuit_build.specs.Edges.{jumps_counted, edge_counts}
use Rattle.circuit_build.proofs.edges.edge_counts.Given as goal

abbrev pub invariant-loop-block : goal.invariant-loop-block
invariant-loop-block l = jumps_counted l.join (drop l.block-index l.blocks) l.table ≡ edge_counts l.blocks
