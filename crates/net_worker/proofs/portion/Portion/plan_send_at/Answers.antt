use Rattle.net_core.proofs.StateLemmas.{send_plan}
use Rattle.net_worker.proofs.PortionMoves.{cell_inside}
use Rattle.net_worker.proofs.portion.Portion.plan_send_at.Goals as goal

pub returns-in-Fork-clause-effect : goal.returns-in-Fork-clause-effect
returns-in-Fork-clause-effect c =
    send_plan c.args.net.now c.args.self.now.state c.args.unit c.args.outs c.args.out c.cell.result.now _ _ c.plan_send.result c.requires.of c.requires.within c.requires.fork
    (cell_inside c.args.net.now c.args.self.now.state c.args.unit c.cell.result.now c.requires.of c.requires.within c.cell.ensures) c.in-Fork.is
    c.heads-heads.ensures c.plan_send.ensures.effect
