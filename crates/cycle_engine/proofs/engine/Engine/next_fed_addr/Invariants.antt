use Rattle.std.proofs.Common.{◌-◌}
use Rattle.net_types.specs.declared.firing.Act.TheVariants.{Addr}
use Rattle.net_core.specs.States.{state_of}
use Rattle.cycle_engine.specs.private.Places.{IsNextNumber}
use Rattle.cycle_engine.proofs.engine.Engine.next_fed_addr.Given as goal

abbrev pub invariant-loop-at : goal.invariant-loop-at
invariant-loop-at l = IsNextNumber l.net (state_of l.self.state) l.unit (Addr 0) l.from l.at

abbrev pub decreases-loop-at : goal.decreases-loop-at
decreases-loop-at l = l.ports - l.at
