use Rattle.std.proofs.Common.{◌-◌}
use Rattle.block_copy.proofs.Following.{IsGrowing}
use Rattle.block_copy.proofs.growing.grown.Given as goal

abbrev pub invariant-loop-count : goal.invariant-loop-count
invariant-loop-count l = IsGrowing l.blocks l.at l.limit l.fn.growth l.turns (l.turns - l.count) l.growth
