use Rattle.lsq_core.proofs.RunLemmas.{next_raised}
use Rattle.lsq_core.proofs.lsq.LsqQueue.act.Goals as goal

pub returns-clause-next : goal.returns-clause-next
returns-clause-next c = rw c.make.ensures.queue (next_raised c.args.self.now c.args.act c.args.token _ c.requires.allowed (rw (← c.self.view_is) c.self.invariant.most))
