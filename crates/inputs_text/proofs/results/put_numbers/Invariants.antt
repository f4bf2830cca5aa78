use Rattle.std.proofs.Common.{◌≡◌, ◌++◌, take}
use Rattle.inputs_text.specs.Results.{spaced}
use Rattle.inputs_text.proofs.results.put_numbers.Given as goal

abbrev pub invariant-loop-pattern : goal.invariant-loop-pattern
invariant-loop-pattern l = l.text.items ≡ l.initial.text.items ++ spaced l.ty (take l.pattern-index l.patterns)
