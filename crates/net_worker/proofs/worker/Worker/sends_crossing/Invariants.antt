use Rattle.net_worker.specs.Turns.{HasMade}
use Rattle.net_worker.proofs.worker.Worker.sends_crossing.Given as goal

abbrev pub invariant-loop-out : goal.invariant-loop-out
invariant-loop-out l = HasMade l.tables l.made l.fn.self l.self
