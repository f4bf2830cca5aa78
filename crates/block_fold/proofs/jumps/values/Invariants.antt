use Rattle.std.proofs.Common.{◌≡◌, ◌++◌, drop, map}
use Rattle.block_fold.specs.Numbers.{renumbered}
use Rattle.block_fold.proofs.jumps.values.Given as goal

abbrev pub invariant-loop-value : goal.invariant-loop-value
invariant-loop-value l = l.all ++ map (renumbered l.args l.numbers) (drop l.value-index l.values) ≡ map (renumbered l.args l.numbers) l.values
