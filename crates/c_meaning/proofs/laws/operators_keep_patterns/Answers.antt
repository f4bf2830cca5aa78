use Rattle.c_meaning.proofs.OperatorPatterns.{products_keep, quotients_keep, remainders_keep, sums_keep, differences_keep, less_keeps, greater_keeps, at_most_keeps, at_least_keeps, equal_keeps, unequal_keeps, conjunctions_keep, exclusions_keep, disjunctions_keep}
use Rattle.c_meaning.proofs.laws.operators_keep_patterns.Goals as goal

pub returns : goal.returns
returns c =
    let round = c.patterns_are_those_of_their_numbers.ensures in
    let width = c.patterns_have_their_width.ensures in
    record {
      products = products_keep round width c.arithmetic_is_exact.ensures.mul32 c.arithmetic_is_exact.ensures.mul64;
      quotients = quotients_keep c.divisions_are_exact.ensures.divs32 c.divisions_are_exact.ensures.divu32 c.divisions_are_exact.ensures.divs64 c.divisions_are_exact.ensures.divu64;
      remainders = remainders_keep c.divisions_are_exact.ensures.rems32 c.divisions_are_exact.ensures.remu32 c.divisions_are_exact.ensures.rems64 c.divisions_are_exact.ensures.remu64;
      sums = sums_keep round width c.arithmetic_is_exact.ensures.add32 c.arithmetic_is_exact.ensures.add64;
      differences = differences_keep round width c.arithmetic_is_exact.ensures.sub32 c.arithmetic_is_exact.ensures.sub64;
      less = less_keeps c.comparisons_tell.ensures.lts32 c.comparisons_tell.ensures.ltu32 c.comparisons_tell.ensures.lts64 c.comparisons_tell.ensures.ltu64;
      greater = greater_keeps c.comparisons_tell.ensures.lts32 c.comparisons_tell.ensures.ltu32 c.comparisons_tell.ensures.lts64 c.comparisons_tell.ensures.ltu64;
      at_most = at_most_keeps c.comparisons_tell.ensures.les32 c.comparisons_tell.ensures.leu32 c.comparisons_tell.ensures.les64 c.comparisons_tell.ensures.leu64;
      at_least = at_least_keeps c.comparisons_tell.ensures.les32 c.comparisons_tell.ensures.leu32 c.comparisons_tell.ensures.les64 c.comparisons_tell.ensures.leu64;
      equal = equal_keeps c.comparisons_tell.ensures.eq32 c.comparisons_tell.ensures.eq64;
      unequal = unequal_keeps c.comparisons_tell.ensures.ne32 c.comparisons_tell.ensures.ne64;
      conjunctions = conjunctions_keep round width c.results_are_patterns.ensures.two c.bits_are_joined.ensures.and32 c.bits_are_joined.ensures.and64;
      exclusions = exclusions_keep round width c.results_are_patterns.ensures.two c.bits_are_joined.ensures.xor32 c.bits_are_joined.ensures.xor64;
      disjunctions = disjunctions_keep round width c.results_are_patterns.ensures.two c.bits_are_joined.ensures.or32 c.bits_are_joined.ensures.or64;
    }
