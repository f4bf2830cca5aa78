use Rattle.word_rules.proofs.Products as by
use Rattle.word_rules.proofs.quotients.unsigned_quotients_are_products.Goals as goal

pub returns : goal.returns
returns c = record { divu32 = by.divides_by_product32; divu64 = by.divides_by_product64; long = by.divides_by_long_product }
