use Rattle.net_core.proofs.StateLemmas.{act_plan}
use Rattle.net_core.proofs.state.State.plan_act_at.Goals as goal

pub returns-clause-effect : goal.returns-clause-effect
returns-clause-effect c =
    act_plan c.args.net.now c.args.self.now c.args.firing c.args.kind.now c.index.result.now _ c.plan_act.result c.requires.of c.requires.within c.requires.kind c.index.ensures
    c.heads-heads.ensures c.plan_act.ensures.effect
