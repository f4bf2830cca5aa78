use Rattle.word_ops.proofs.ByOperation.{law1, law2}
use Rattle.word_ops.proofs.laws.operations_have_laws.Goals as goal

pub returns : goal.returns
returns c = record {
  one = law1;
  two = law2;
}
