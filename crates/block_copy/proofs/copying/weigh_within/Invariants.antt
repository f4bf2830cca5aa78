use Rattle.std.proofs.Common.{◌≡◌, ◌+◌, drop}
use Rattle.std.specs.Prelude.{set, sum_by}
use Rattle.ir.specs.Graphs.{block_weight}
use Rattle.block_copy.proofs.copying.weigh_within.Given as goal

abbrev pub invariant-loop-place : goal.invariant-loop-place
invariant-loop-place l = l.left + sum_by block_weight (set l.blocks l.at l.block) ≡ l.limit + sum_by block_weight (drop l.place (set l.blocks l.at l.block))
