use Rattle.el_base.proofs.PatternLemmas.{pattern-number}
use Rattle.el_base.proofs.patterns.patterns_are_those_of_their_numbers.Goals as goal

pub returns : goal.returns
returns c = pattern-number
