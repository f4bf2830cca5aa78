use Rattle.word_rules.proofs.Greatest.{bounds_below1, bounds_below2, bounds_below_by}
use Rattle.word_rules.proofs.bounds.bounds_are_patterns.Goals as goal

pub returns : goal.returns
returns c = record { one = bounds_below1; two = bounds_below2; by = bounds_below_by }
