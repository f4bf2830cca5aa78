use Rattle.std.proofs.Common.{◌≡◌, ◌++◌, drop}
use Rattle.inputs_text.specs.Results.{array_lines}
use Rattle.inputs_text.proofs.results.put_arrays.Given as goal

abbrev pub invariant-loop-i : goal.invariant-loop-i
invariant-loop-i l = l.text.items ++ array_lines (drop l.i l.arrays) (drop l.i l.values) ≡ l.initial.text.items ++ array_lines l.arrays l.values
