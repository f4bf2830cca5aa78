use Rattle.ref_interp.proofs.Patterns.{OpLaws, joins, makes, converts}
use Rattle.ref_interp.proofs.laws.patterns_follow_numbers.Goals as goal
use Rattle.c_meaning.proofs.OperatorLaws.{plain_laws, unary_laws}

pub returns : goal.returns
returns c =
    let two = c.operators_keep_patterns.ensures in
    let one = c.unary_operators_keep_patterns.ensures in
    let laws : OpLaws = record {
      plain = plain_laws two.products two.quotients two.remainders two.sums two.differences two.less two.greater two.at_most two.at_least two.equal two.unequal two.conjunctions two.exclusions two.disjunctions;
      left_shifts = c.shifts_keep_patterns.ensures.left;
      right_shifts = c.shifts_keep_patterns.ensures.right;
      unary = unary_laws one.plus one.minus one.flip one.not;
      conversions = c.conversions_keep_patterns.ensures;
      values_fit = c.numbers_stay_in_range.ensures.values;
      width = c.patterns_have_their_width.ensures;
      round = c.patterns_are_those_of_their_numbers.ensures;
      numbers = c.numbers_are_those_of_their_patterns.ensures;
      in_range = c.patterns_stand_for_numbers_in_range.ensures;
    } in
    record {
      element_means = c.expressions_mean_their_parts.ensures.element;
      element_lawful = c.lawful_expressions_have_lawful_parts.ensures.element;
      joins = joins laws;
      makes = makes laws;
      converts = converts laws;
    }
