use Rattle.std.proofs.Common.{ℕ, ◌<◌, get_or}
use Rattle.net_types.specs.Inputs.{IsPatternOf}
use Rattle.net_core.proofs.inputs.are_patterns.Given as goal

abbrev pub invariant-loop-value : goal.invariant-loop-value
invariant-loop-value l = (k : ℕ) → k < l.value-index → IsPatternOf l.ty (get_or l.values k 0)
