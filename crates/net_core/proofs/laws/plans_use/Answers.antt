use Rattle.net_core.proofs.PlanUses.{plans_use}
use Rattle.net_core.proofs.laws.plans_use.Goals as goal

pub returns : goal.returns
returns c = plans_use
