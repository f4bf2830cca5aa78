use Rattle.word_ops.proofs.ByOperation.{on_residues1, on_residues2}
use Rattle.word_ops.proofs.laws.operands_are_reduced.Goals as goal

pub returns : goal.returns
returns c = record {
  one = on_residues1;
  two = on_residues2;
}
