use Rattle.net_check.proofs.LawLemmas.{check_all, keeps_all}
use Rattle.net_check.proofs.laws.all_rules_make_a_checked_net.Goals as goal

pub returns-clause-checked : goal.returns-clause-checked
returns-clause-checked c = check_all

pub returns-clause-kept : goal.returns-clause-kept
returns-clause-kept c = keeps_all
