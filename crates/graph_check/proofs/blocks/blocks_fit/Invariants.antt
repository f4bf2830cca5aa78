use Rattle.std.proofs.Common.{◌≡◌, drop}
use Rattle.graph_check.specs.Fits.{blocks_fit}
use Rattle.graph_check.proofs.blocks.blocks_fit.Given as goal

abbrev pub invariant-loop-block : goal.invariant-loop-block
invariant-loop-block l = blocks_fit l.arrays l.of l.blocks (drop l.block-index l.blocks) ≡ blocks_fit l.arrays l.of l.blocks l.blocks
