use Rattle.cycle_engine.specs.private.Goings.{all_made}
use Rattle.cycle_engine.specs.private.Places.{HasRun}
use Rattle.cycle_engine.proofs.RunLemmas.{to_do}
use Rattle.cycle_engine.proofs.runs.run_cycles.Given as goal

abbrev pub invariant-cycles : goal.invariant-cycles
invariant-cycles l = HasRun l.net l.inputs (record { limit = l.limit; keep = l.keep }) l.engine l.cycle l.last l.going

abbrev pub decreases-cycles : goal.decreases-cycles
decreases-cycles l = to_do l.limit (all_made l.engine) l.cycle l.last l.going
