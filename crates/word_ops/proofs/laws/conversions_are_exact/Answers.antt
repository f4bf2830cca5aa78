use Rattle.word_ops.proofs.ByOperation as by
use Rattle.word_ops.proofs.laws.conversions_are_exact.Goals as goal

pub returns : goal.returns
returns c = record {
  s8to16 = by.s8to16;
  s8to32 = by.s8to32;
  s8to64 = by.s8to64;
  s16to32 = by.s16to32;
  s16to64 = by.s16to64;
  s32to64 = by.s32to64;
  u8to16 = by.u8to16;
  u8to32 = by.u8to32;
  u8to64 = by.u8to64;
  u16to32 = by.u16to32;
  u16to64 = by.u16to64;
  u32to64 = by.u32to64;
  cut16to8 = by.cut16to8;
  cut32to8 = by.cut32to8;
  cut32to16 = by.cut32to16;
  cut64to8 = by.cut64to8;
  cut64to16 = by.cut64to16;
  cut64to32 = by.cut64to32;
}
