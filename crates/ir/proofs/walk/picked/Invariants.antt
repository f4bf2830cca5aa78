use Rattle.std.proofs.Common.{◌≡◌, ◌++◌, map, drop}
use Rattle.ir.specs.Steps.{value_at}
use Rattle.ir.proofs.walk.picked.Given as goal

abbrev pub invariant-loop-number : goal.invariant-loop-number
invariant-loop-number l = l.picked ++ map (value_at l.values) (drop l.number-index l.numbers) ≡ map (value_at l.values) l.numbers
