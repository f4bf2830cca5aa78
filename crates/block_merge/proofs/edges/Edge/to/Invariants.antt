use Rattle.std.proofs.Common.{◌≡◌, ◌++◌, drop}
use Rattle.block_merge.proofs.edges.Edge.to.Given as goal

abbrev pub invariant-loop-value : goal.invariant-loop-value
invariant-loop-value l = l.with ++ drop l.value-index l.values ≡ l.values
