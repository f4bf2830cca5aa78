use Rattle.net_core.proofs.StateLemmas.{send_plan}
use Rattle.net_core.proofs.state.State.plan_send_at.Goals as goal

pub returns-in-Fork-clause-effect : goal.returns-in-Fork-clause-effect
returns-in-Fork-clause-effect c =
    send_plan c.args.net.now c.args.self.now c.args.unit c.args.outs c.args.out c.index.result.now _ _ c.plan_send.result c.requires.of c.requires.within c.requires.fork c.index.ensures c.in-Fork.is
    c.heads-heads.ensures c.plan_send.ensures.effect
