use Rattle.el_base.proofs.PatternLemmas.{IsInRange-number}
use Rattle.el_base.proofs.patterns.patterns_stand_for_numbers_in_range.Goals as goal

pub returns : goal.returns
returns c = IsInRange-number
