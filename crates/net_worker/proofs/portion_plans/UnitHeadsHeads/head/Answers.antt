use Rattle.net_worker.proofs.PortionMoves.{in_there}
use Rattle.net_worker.proofs.portion_plans.UnitHeadsHeads.head.Goals as goal

pub first_token-requires : goal.first_token-requires
first_token-requires c = in_there c.args.self.now.net.now c.args.self.now.portion.now c.args.self.now.unit c.args.place _ c.args.self.now.here c.into_at-chan.ensures
