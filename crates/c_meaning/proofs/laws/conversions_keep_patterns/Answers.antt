use Rattle.c_meaning.proofs.OperatorPatterns.{conversions_keep}
use Rattle.c_meaning.proofs.laws.conversions_keep_patterns.Goals as goal

pub returns : goal.returns
returns c = conversions_keep c.patterns_are_those_of_their_numbers.ensures c.patterns_have_their_width.ensures (record {
  s8to16 = c.conversions_are_exact.ensures.s8to16;
  s8to32 = c.conversions_are_exact.ensures.s8to32;
  s8to64 = c.conversions_are_exact.ensures.s8to64;
  s16to32 = c.conversions_are_exact.ensures.s16to32;
  s16to64 = c.conversions_are_exact.ensures.s16to64;
  s32to64 = c.conversions_are_exact.ensures.s32to64;
  u8to16 = c.conversions_are_exact.ensures.u8to16;
  u8to32 = c.conversions_are_exact.ensures.u8to32;
  u8to64 = c.conversions_are_exact.ensures.u8to64;
  u16to32 = c.conversions_are_exact.ensures.u16to32;
  u16to64 = c.conversions_are_exact.ensures.u16to64;
  u32to64 = c.conversions_are_exact.ensures.u32to64;
  cut16to8 = c.conversions_are_exact.ensures.cut16to8;
  cut32to8 = c.conversions_are_exact.ensures.cut32to8;
  cut32to16 = c.conversions_are_exact.ensures.cut32to16;
  cut64to8 = c.conversions_are_exact.ensures.cut64to8;
  cut64to16 = c.conversions_are_exact.ensures.cut64to16;
  cut64to32 = c.conversions_are_exact.ensures.cut64to32;
})
