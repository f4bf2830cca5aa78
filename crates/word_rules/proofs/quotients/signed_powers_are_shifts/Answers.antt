use Rattle.word_rules.proofs.Powers as by
use Rattle.word_rules.proofs.quotients.signed_powers_are_shifts.Goals as goal

pub returns : goal.returns
returns c = record { divs32 = by.divs32; divs64 = by.divs64; rems32 = by.rems32; rems64 = by.rems64 }
