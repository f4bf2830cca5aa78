use Rattle.word_ops.proofs.Below.{below_width1, below_width2}
use Rattle.word_ops.proofs.laws.results_are_patterns.Goals as goal

pub returns : goal.returns
returns c = record {
  one = below_width1;
  two = below_width2;
}
