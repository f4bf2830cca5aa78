use Rattle.std.proofs.Common.{◌≡◌}
use Rattle.block_args.specs.Tables.{count_from}
use Rattle.block_args.proofs.block.all_variables.Given as goal

abbrev pub invariant-loop-variable : goal.invariant-loop-variable
invariant-loop-variable l = l.all ≡ count_from 0 l.variable
