use Rattle.word_rules.proofs.Signs as by
use Rattle.word_rules.proofs.quotients.remainders_are_differences.Goals as goal

pub returns : goal.returns
returns c = record { remu32 = by.left_remu32; remu64 = by.left_remu64; rems32 = by.left_rems32; rems64 = by.left_rems64 }
