use Rattle.block_rules.proofs.TopLaw.{top_law}
use Rattle.block_rules.proofs.laws.values_are_bounded.Goals as goal

pub returns : goal.returns
returns c = top_law
