use Rattle.word_rules.proofs.Reciprocals.{signed_magic_exists, signed_factors_fit, factors_are_above}
use Rattle.word_rules.proofs.existence.signed_magic_exists.Goals as goal

pub returns : goal.returns
returns c = record { exists = signed_magic_exists; fits = signed_factors_fit; above = factors_are_above }
