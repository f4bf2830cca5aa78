use Rattle.std.proofs.Common.{◌≡◌, drop}
use Rattle.graph_check.specs.Fits.{handed_fit}
use Rattle.graph_check.proofs.blocks.handed_fit.Given as goal

abbrev pub invariant-loop-at : goal.invariant-loop-at
invariant-loop-at l = handed_fit l.widths (drop l.at l.values) (drop l.at l.args) ≡ handed_fit l.widths l.values l.args
