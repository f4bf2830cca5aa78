use Rattle.net_types.specs.Inputs.{AreElementsOf}
use Rattle.net_core.proofs.InputLemmas.{UpTo}
use Rattle.net_core.proofs.inputs.arrays_fit.Given as goal

abbrev pub invariant-loop-at : goal.invariant-loop-at
invariant-loop-at l = UpTo AreElementsOf l.at l.arrays l.values
