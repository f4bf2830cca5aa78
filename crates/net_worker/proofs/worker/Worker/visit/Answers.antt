use Rattle.net_worker.proofs.Asking.{asked_self}
use Rattle.net_worker.proofs.Turns.{made_none}
use Rattle.net_worker.proofs.worker.Worker.visit.Goals as goal

pub returns-then-unit-units : goal.returns-then-unit-units
returns-then-unit-units c = made_none c.args.tables.now c.args.self.now c.args.self.now c.requires.made (asked_self c.args.self.now)
