use Rattle.word_ops.proofs.ByOperation as by
use Rattle.word_ops.proofs.laws.arithmetic_is_exact.Goals as goal

pub returns : goal.returns
returns c = record {
  add32 = by.add32;
  add64 = by.add64;
  sub32 = by.sub32;
  sub64 = by.sub64;
  mul32 = by.mul32;
  mul64 = by.mul64;
  neg32 = by.neg32;
  neg64 = by.neg64;
  not32 = by.not32;
  not64 = by.not64;
}
