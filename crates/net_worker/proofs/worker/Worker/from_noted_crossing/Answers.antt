use Rattle.net_worker.proofs.Asking.{asked_self}
use Rattle.net_worker.proofs.Turns.{made_none}
use Rattle.net_worker.proofs.worker.Worker.from_noted_crossing.Goals as goal

pub returns-in_default : goal.returns-in_default
returns-in_default c = made_none c.args.tables.now c.args.self.now c.args.self.now c.requires.own.made (asked_self c.args.self.now)
