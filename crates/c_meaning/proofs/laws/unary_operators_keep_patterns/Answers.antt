use Rattle.c_meaning.proofs.OperatorPatterns.{pluses_keep, negatives_keep, flips_keep, nots_keep}
use Rattle.c_meaning.proofs.laws.unary_operators_keep_patterns.Goals as goal

pub returns : goal.returns
returns c = record {
  plus = pluses_keep;
  minus = negatives_keep c.patterns_are_those_of_their_numbers.ensures c.patterns_have_their_width.ensures c.arithmetic_is_exact.ensures.neg32 c.arithmetic_is_exact.ensures.neg64;
  flip = flips_keep c.patterns_are_those_of_their_numbers.ensures c.patterns_have_their_width.ensures c.arithmetic_is_exact.ensures.not32 c.arithmetic_is_exact.ensures.not64;
  not = nots_keep c.comparisons_tell.ensures.zero32 c.comparisons_tell.ensures.zero64;
}
