use Rattle.word_rules.proofs.WorkedNumbers.{bounds}
use Rattle.word_rules.proofs.worked.bounds_are_worked.Goals as goal

pub returns : goal.returns
returns c = bounds
