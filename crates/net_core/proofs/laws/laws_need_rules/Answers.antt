use Rattle.net_core.proofs.UncheckedLemmas.{laws_need_rules}
use Rattle.net_core.proofs.laws.laws_need_rules.Goals as goal

pub returns : goal.returns
returns c = laws_need_rules
