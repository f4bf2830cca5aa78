use Rattle.lsq_core.proofs.WaitLemmas.{NoWord}
use Rattle.lsq_core.proofs.marks.Marks.next_row_of_word.Given as goal

abbrev pub invariant-loop-row : goal.invariant-loop-row
invariant-loop-row l = NoWord l.self.bits l.from l.row
