use Rattle.word_ops.proofs.ByOperation as by
use Rattle.word_ops.proofs.laws.divisions_are_exact.Goals as goal

pub returns : goal.returns
returns c = record {
  divu32 = by.divu32;
  divu64 = by.divu64;
  remu32 = by.remu32;
  remu64 = by.remu64;
  divs32 = by.divs32;
  divs64 = by.divs64;
  rems32 = by.rems32;
  rems64 = by.rems64;
}
