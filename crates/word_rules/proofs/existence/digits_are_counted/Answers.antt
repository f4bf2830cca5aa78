use Rattle.word_rules.proofs.Digits.{digits_are_counted, powers_are_told}
use Rattle.word_rules.proofs.existence.digits_are_counted.Goals as goal

pub returns : goal.returns
returns c = record { leading = digits_are_counted; powers = powers_are_told }
