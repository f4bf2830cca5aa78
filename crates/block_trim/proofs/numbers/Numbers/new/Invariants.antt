use Rattle.std.proofs.Common.{◌≡◌, ◌≤◌, ◌++◌, drop}
use Rattle.block_trim.specs.Code.{numbers_from, marks_after}
use Rattle.block_trim.proofs.numbers.Numbers.new.Given as goal

abbrev pub invariant-loop-is_used : goal.invariant-loop-is_used
invariant-loop-is_used l = record {
  few : l.kept ≤ l.is_used-index;
  numbers : l.of_reads.items ++ numbers_from l.kept (drop l.is_used-index l.marks) ≡ numbers_from 0 l.marks;
  after : marks_after l.kept (drop l.is_used-index l.marks) ≡ marks_after 0 l.marks;
}
