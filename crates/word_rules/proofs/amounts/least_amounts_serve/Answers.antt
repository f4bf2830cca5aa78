use Rattle.word_rules.proofs.LeastAmounts.{unsigned_amounts_serve, signed_amounts_serve}
use Rattle.word_rules.proofs.amounts.least_amounts_serve.Goals as goal

pub returns : goal.returns
returns c = record { unsigned = unsigned_amounts_serve; signed = signed_amounts_serve }
