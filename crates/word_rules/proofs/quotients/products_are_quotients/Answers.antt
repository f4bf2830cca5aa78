use Rattle.word_rules.proofs.Numbers.{products_are_quotients, products_are_below_quotients}
use Rattle.word_rules.proofs.quotients.products_are_quotients.Goals as goal

pub returns : goal.returns
returns c = record { natural = products_are_quotients; negative = products_are_below_quotients }
