use Rattle.std.proofs.Common.{◌-◌}
use Rattle.block_merge.proofs.PartLemmas.{IsJoining}
use Rattle.block_merge.proofs.joining.row_joined.Given as goal

abbrev pub invariant-loop-joins : goal.invariant-loop-joins
invariant-loop-joins l = IsJoining l.fn.blocks l.counts l.at (l.count - l.joins) l.blocks
