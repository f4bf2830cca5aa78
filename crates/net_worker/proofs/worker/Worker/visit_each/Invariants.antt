use Rattle.net_worker.specs.Turns.{HasMade}
use Rattle.net_worker.proofs.worker.Worker.visit_each.Given as goal

abbrev pub invariant-acts : goal.invariant-acts
invariant-acts l = HasMade l.tables l.fired l.fn.self l.self
