use Rattle.std.proofs.Common.{take}
use Rattle.net_check.proofs.MarkLemmas.{Marked}
use Rattle.net_check.proofs.marks.is_each_once.Given as goal

abbrev pub invariant-loop-number : goal.invariant-loop-number
invariant-loop-number l = Marked l.count l.marks.items (take l.number-index l.numbers)
