use Rattle.std.proofs.Common.{refl}
use Rattle.struct_cfg.proofs.Types.{OpLaws}
use Rattle.c_meaning.proofs.OperatorLaws.{plain_laws, unary_laws}
use Rattle.struct_cfg.proofs.Formed.{form_fits}
use Rattle.struct_cfg.proofs.Sized.{sizes_kept}
use Rattle.struct_cfg.proofs.Whole.{runs_follow, variables_follow}
use Rattle.struct_cfg.proofs.laws.graphs_follow_their_forms.Goals as goal

pub returns : goal.returns
returns c =
    let two = c.operators_keep_patterns.ensures in
    let one = c.unary_operators_keep_patterns.ensures in
    let laws : OpLaws = record {
      plain = plain_laws two.products two.quotients two.remainders two.sums two.differences two.less two.greater two.at_most two.at_least two.equal two.unequal two.conjunctions two.exclusions two.disjunctions;
      left_shifts = c.shifts_keep_patterns.ensures.left;
      right_shifts = c.shifts_keep_patterns.ensures.right;
      unary = unary_laws one.plus one.minus one.flip one.not;
      conversions = c.conversions_keep_patterns.ensures;
      values_fit = c.numbers_stay_in_range.ensures.values;
      width = c.patterns_have_their_width.ensures;
      round = c.patterns_are_those_of_their_numbers.ensures;
      numbers = c.numbers_are_those_of_their_patterns.ensures;
      mul64 = c.arithmetic_is_exact.ensures.mul64;
      add64 = c.arithmetic_is_exact.ensures.add64;
    } in
    record {
      fit = form_fits;
      header = λ f. refl;
      vars = λ f. refl;
      runs = λ f l. runs_follow laws c.numbers_stay_in_range.ensures.normal_opening f l c.costs_are_one.ensures;
      variables = λ f l. variables_follow laws c.numbers_stay_in_range.ensures.normal_opening f l;
      sizes = sizes_kept;
    }
