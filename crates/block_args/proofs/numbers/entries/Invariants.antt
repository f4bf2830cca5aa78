use Rattle.std.proofs.Common.{◌≡◌, ◌++◌, drop}
use Rattle.block_args.specs.Numbers.{entries}
use Rattle.block_args.proofs.numbers.entries.Given as goal

abbrev pub invariant-loop-variable : goal.invariant-loop-variable
invariant-loop-variable l = l.found ++ entries l.table l.past (drop l.variable-index l.variables) ≡ entries l.table l.past l.variables
