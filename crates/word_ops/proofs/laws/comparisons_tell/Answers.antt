use Rattle.word_ops.proofs.ByOperation as by
use Rattle.word_ops.proofs.laws.comparisons_tell.Goals as goal

pub returns : goal.returns
returns c = record {
  zero32 = by.zero32;
  zero64 = by.zero64;
  eq32 = by.eq32;
  eq64 = by.eq64;
  ne32 = by.ne32;
  ne64 = by.ne64;
  ltu32 = by.ltu32;
  ltu64 = by.ltu64;
  leu32 = by.leu32;
  leu64 = by.leu64;
  lts32 = by.lts32;
  lts64 = by.lts64;
  les32 = by.les32;
  les64 = by.les64;
}
