use Rattle.std.proofs.Common.{◌≡◌, take}
use Rattle.inputs_text.proofs.state_results.list_of.Given as goal

abbrev pub invariant-loop-element : goal.invariant-loop-element
invariant-loop-element l = l.list ≡ take l.element-index l.elements
