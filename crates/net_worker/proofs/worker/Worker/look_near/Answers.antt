use Rattle.net_worker.proofs.Glancing.{into_end}
use Rattle.net_worker.proofs.worker.Worker.look_near.Goals as goal

pub look_at-requires-clause-into : goal.look_at-requires-clause-into
look_at-requires-clause-into c = into_end c.args.tables.now c.args.self.now c.requires.made c.args.chan (c.has_near.ensures.end.0 c.if-has_near.true)
