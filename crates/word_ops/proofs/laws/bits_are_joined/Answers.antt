use Rattle.word_ops.proofs.ByOperation as by
use Rattle.word_ops.proofs.laws.bits_are_joined.Goals as goal

pub returns : goal.returns
returns c = record {
  flips32 = by.flips32;
  flips64 = by.flips64;
  and32 = by.and32;
  and64 = by.and64;
  or32 = by.or32;
  or64 = by.or64;
  xor32 = by.xor32;
  xor64 = by.xor64;
}
