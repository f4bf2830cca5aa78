use Rattle.std.proofs.Common.{◌≡◌, ◌++◌, drop}
use Rattle.block_args.specs.Arguments.{zeros}
use Rattle.block_args.proofs.block.zeros.Given as goal

abbrev pub invariant-loop-width : goal.invariant-loop-width
invariant-loop-width l = l.steps ++ zeros (drop l.width-index l.widths) ≡ zeros l.widths
