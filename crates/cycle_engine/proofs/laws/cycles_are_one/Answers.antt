use Rattle.cycle_engine.proofs.SameLemmas.{cycles_are_one, cycles_meet}
use Rattle.cycle_engine.proofs.laws.cycles_are_one.Goals as goal

pub returns-clause-states : goal.returns-clause-states
returns-clause-states c = cycles_meet

pub returns-clause-number : goal.returns-clause-number
returns-clause-number c = cycles_are_one
