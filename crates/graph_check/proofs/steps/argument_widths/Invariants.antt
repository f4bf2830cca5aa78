use Rattle.std.proofs.Common.{◌≡◌, ◌++◌, map, Some, drop}
use Rattle.graph_check.proofs.steps.argument_widths.Given as goal

abbrev pub invariant-loop-width : goal.invariant-loop-width
invariant-loop-width l = l.widths ++ map Some (drop l.width-index l.args) ≡ map Some l.args
