use Rattle.std.proofs.Common.{◌≡◌, drop}
use Rattle.graph_check.specs.Fits.{widths_fit}
use Rattle.graph_check.proofs.blocks.widths_fit.Given as goal

abbrev pub invariant-loop-width : goal.invariant-loop-width
invariant-loop-width l = widths_fit (drop l.width-index l.widths) ≡ widths_fit l.widths
