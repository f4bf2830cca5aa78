use Rattle.kernel_compile.proofs.Inputs.{patterns_fit, inputs_are_numbers}
use Rattle.kernel_compile.proofs.laws.inputs_are_patterns.Goals as goal

pub returns : goal.returns
returns c = record {
  fit = patterns_fit c.patterns_have_their_width.ensures;
  numbers = inputs_are_numbers c.patterns_stand_for_numbers_in_range.ensures c.patterns_are_those_of_their_numbers.ensures;
}
