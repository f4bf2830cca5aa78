use Rattle.word_rules.proofs.Greatest.{bounded1, bounded2, bounded_by}
use Rattle.word_rules.proofs.bounds.results_are_bounded.Goals as goal

pub returns : goal.returns
returns c = record { one = bounded1; two = bounded2; by = bounded_by }
