use Rattle.net_check.proofs.LawLemmas.{one_refusal, not_refused}
use Rattle.net_check.proofs.laws.a_net_has_one_refusal.Goals as goal

pub returns-clause-one : goal.returns-clause-one
returns-clause-one c = one_refusal

pub returns-clause-none : goal.returns-clause-none
returns-clause-none c = not_refused
