use Rattle.net_core.proofs.StateLemmas.{plan_keeps, plan_shape}
use Rattle.net_core.proofs.state.State.plan_at.Goals as goal

pub plan_firing-requires-clause-keeps : goal.plan_firing-requires-clause-keeps
plan_firing-requires-clause-keeps c =
    plan_keeps c.args.net.now c.args.self.now c.args.firing.unit c.args.unit.now c.index-cell.result.now c.requires.of c.requires.within c.requires.unit c.index-cell.ensures

pub plan_firing-requires-clause-shape : goal.plan_firing-requires-clause-shape
plan_firing-requires-clause-shape c =
    plan_shape c.args.net.now c.args.self.now c.args.firing.unit c.args.unit.now c.index-cell.result.now c.used-array.result.now c.requires.of c.requires.within c.requires.unit c.index-cell.ensures c.used-array.ensures
