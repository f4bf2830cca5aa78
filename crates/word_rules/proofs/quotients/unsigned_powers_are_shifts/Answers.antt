use Rattle.word_rules.proofs.UnsignedPowers as by
use Rattle.word_rules.proofs.quotients.unsigned_powers_are_shifts.Goals as goal

pub returns : goal.returns
returns c = record { mul32 = by.mul32; mul64 = by.mul64; divu32 = by.divu32; divu64 = by.divu64; remu32 = by.remu32; remu64 = by.remu64 }
