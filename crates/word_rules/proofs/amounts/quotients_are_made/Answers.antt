use Rattle.word_rules.proofs.LeastAmounts.{unsigned_quotients_are_made, wide_quotients_are_made, signed_quotients_are_made}
use Rattle.word_rules.proofs.amounts.quotients_are_made.Goals as goal

pub returns : goal.returns
returns c = record { unsigned = unsigned_quotients_are_made; wide = wide_quotients_are_made; signed = signed_quotients_are_made }
