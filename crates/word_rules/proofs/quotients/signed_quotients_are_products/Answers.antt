use Rattle.word_rules.proofs.Products as by
use Rattle.word_rules.proofs.quotients.signed_quotients_are_products.Goals as goal

pub returns : goal.returns
returns c = by.divides_by_signed_product
