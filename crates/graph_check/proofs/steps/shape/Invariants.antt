use Rattle.std.proofs.Common.{◌≡◌, map, Some, drop}
use Rattle.graph_check.specs.Fits.{shape_if}
use Rattle.graph_check.proofs.steps.shape.Given as goal

abbrev pub invariant-loop-step : goal.invariant-loop-step
invariant-loop-step l = shape_if l.arrays l.widths (drop l.step-index l.steps) ≡ shape_if l.arrays (map Some l.args) l.steps
