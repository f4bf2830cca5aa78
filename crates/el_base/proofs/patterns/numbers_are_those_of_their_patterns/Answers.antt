use Rattle.el_base.proofs.PatternLemmas.{number-pattern}
use Rattle.el_base.proofs.patterns.numbers_are_those_of_their_patterns.Goals as goal

pub returns : goal.returns
returns c = number-pattern
