use Rattle.net_text.proofs.Only.{one_net, one_old_net, other_version}
use Rattle.net_text.proofs.laws.one_net_per_text.Goals as goal

pub returns-clause-net : goal.returns-clause-net
returns-clause-net c = one_net

pub returns-clause-old_net : goal.returns-clause-old_net
returns-clause-old_net c = one_old_net

pub returns-clause-apart : goal.returns-clause-apart
returns-clause-apart c = other_version
