use Rattle.c_meaning.proofs.OperatorPatterns.{left_shifts_keep, right_shifts_keep}
use Rattle.c_meaning.proofs.laws.shifts_keep_patterns.Goals as goal

pub returns : goal.returns
returns c = record {
  left = left_shifts_keep c.patterns_are_those_of_their_numbers.ensures c.patterns_have_their_width.ensures c.shifts_are_exact.ensures.shl32 c.shifts_are_exact.ensures.shl64;
  right = right_shifts_keep c.shifts_are_exact.ensures.shrs32 c.shifts_are_exact.ensures.shru32 c.shifts_are_exact.ensures.shrs64 c.shifts_are_exact.ensures.shru64;
}
