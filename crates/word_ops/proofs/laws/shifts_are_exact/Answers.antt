use Rattle.word_ops.proofs.ByOperation as by
use Rattle.word_ops.proofs.laws.shifts_are_exact.Goals as goal

pub returns : goal.returns
returns c = record {
  shl32 = by.shl32;
  shl64 = by.shl64;
  shru32 = by.shru32;
  shru64 = by.shru64;
  shrs32 = by.shrs32;
  shrs64 = by.shrs64;
}
