use Rattle.net_check.proofs.CycleLemmas.{keeps_by}
use Rattle.net_check.proofs.cycles.check_cycles.Goals as goal

pub returns-in-None : goal.returns-in-None
returns-in-None c = keeps_by c.args.net.now c.in_ok-u.field-0 c.in_default.ensures c.in_ok-u.ensures c.in-None.is
