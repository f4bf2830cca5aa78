use Rattle.std.proofs.Common.{◌≡◌, ◌+◌, drop}
use Rattle.std.specs.Prelude.{sum_by}
use Rattle.ir.specs.Graphs.{block_weight}
use Rattle.ir.proofs.graph.Ir.has_size_within.Given as goal

abbrev pub invariant-loop-block : goal.invariant-loop-block
invariant-loop-block l = l.left + sum_by block_weight l.self.blocks ≡ l.limit + sum_by block_weight (drop l.block-index l.self.blocks)
