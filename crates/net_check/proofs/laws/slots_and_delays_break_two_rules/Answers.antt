use Rattle.net_check.proofs.TimeLemmas.{times_break_two_rules, two_rules_check_again}
use Rattle.net_check.proofs.laws.slots_and_delays_break_two_rules.Goals as goal

pub returns-clause-other : goal.returns-clause-other
returns-clause-other c = times_break_two_rules

pub returns-clause-again : goal.returns-clause-again
returns-clause-again c = two_rules_check_again
