use Rattle.word_rules.proofs.Signs as by
use Rattle.word_rules.proofs.quotients.divisions_without_sign_are_unsigned.Goals as goal

pub returns : goal.returns
returns c = record { divs32 = by.same_divs32; divs64 = by.same_divs64; rems32 = by.same_rems32; rems64 = by.same_rems64 }
