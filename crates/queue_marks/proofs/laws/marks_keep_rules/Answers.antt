use Rattle.queue_marks.proofs.MarkedRules.{rules_marked, untimed_marked, checked_marked}
use Rattle.queue_marks.proofs.laws.marks_keep_rules.Goals as goal

pub returns : goal.returns
returns c = record { rules = rules_marked; untimed = untimed_marked; checked = checked_marked c.all_rules_make_a_checked_net.ensures.checked c.all_rules_make_a_checked_net.ensures.kept }
