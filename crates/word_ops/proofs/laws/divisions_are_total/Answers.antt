use Rattle.word_ops.proofs.ByOperation as by
use Rattle.word_ops.proofs.laws.divisions_are_total.Goals as goal

pub returns : goal.returns
returns c = record {
  divu32_zero = by.divu32_zero;
  divu64_zero = by.divu64_zero;
  remu32_zero = by.remu32_zero;
  remu64_zero = by.remu64_zero;
  divs32_zero = by.divs32_zero;
  divs64_zero = by.divs64_zero;
  rems32_zero = by.rems32_zero;
  rems64_zero = by.rems64_zero;
  divs32_least = by.divs32_least;
  divs64_least = by.divs64_least;
  rems32_least = by.rems32_least;
  rems64_least = by.rems64_least;
}
