use Rattle.std.proofs.Common.{◌≡◌, drop}
use Rattle.std.specs.List.{flat_map}
use Rattle.ir.specs.Renaming.{operands}
use Rattle.block_trim.specs.Code.{marked}
use Rattle.block_trim.proofs.marks.mark_steps.Given as goal

abbrev pub invariant-loop-step : goal.invariant-loop-step
invariant-loop-step l = marked l.marks (flat_map operands (drop l.step-index l.steps)) ≡ marked l.fn.marks (flat_map operands l.steps)
