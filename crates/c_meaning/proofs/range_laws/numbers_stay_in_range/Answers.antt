use Rattle.c_meaning.proofs.RangeOperators.{PatternLaws, and_below, or_below, xor_below}
use Rattle.c_meaning.proofs.RangeValues.{values_fit}
use Rattle.c_meaning.proofs.RangeStores.{opening_fits, normal_opening_fits}
use Rattle.c_meaning.proofs.RangeRuns.{statements_fit, kernels_fit, results_fit, normal_statements_fit, normals_fit, normal_results_fit}
use Rattle.c_meaning.proofs.range_laws.numbers_stay_in_range.Goals as goal

pub returns : goal.returns
returns c =
    let below = c.results_are_patterns.ensures.two in
    let bits = c.bits_are_joined.ensures in
    let laws : PatternLaws = record {
      width = c.patterns_have_their_width.ensures;
      stands = c.patterns_stand_for_numbers_in_range.ensures;
      ands = and_below below bits.and32 bits.and64;
      ors = or_below below bits.or32 bits.or64;
      xors = xor_below below bits.xor32 bits.xor64;
    } in
    record {
      opening = opening_fits;
      values = values_fit laws;
      statements = statements_fit laws;
      kernels = kernels_fit laws;
      results = results_fit laws;
      normal_opening = normal_opening_fits;
      normal_statements = normal_statements_fit laws;
      normal_forms = normals_fit laws;
      normal_results = normal_results_fit laws;
    }
