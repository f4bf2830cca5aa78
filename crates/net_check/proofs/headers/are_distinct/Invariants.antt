use Rattle.std.proofs.Common.{take}
use Rattle.net_check.proofs.NameSets.{Knows}
use Rattle.net_check.proofs.headers.are_distinct.Given as goal

abbrev pub invariant-loop-name : goal.invariant-loop-name
invariant-loop-name l = Knows l.known (take l.name-index l.names)
