use Rattle.net_check.proofs.JoinLemmas.{unjoined_none, unjoined_culprit}
use Rattle.net_check.proofs.places.check_places.Goals as goal

pub returns-in-None : goal.returns-in-None
returns-in-None c = unjoined_none c.args.net.now _ c.in_ok-first_unjoined.ensures c.in-None.is

pub returns-in-Some-2 : goal.returns-in-Some-2
returns-in-Some-2 c = unjoined_culprit c.args.net.now _ c.in-Some-2.unit c.in_default.ensures c.in_ok-first_unjoined.ensures c.in-Some-2.is
