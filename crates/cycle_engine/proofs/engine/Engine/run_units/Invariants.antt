use Rattle.cycle_engine.specs.Cycles.{Dated}
use Rattle.cycle_engine.specs.private.Goings.{Past, IsReady, IsBegunIn, to_visit}
use Rattle.cycle_engine.proofs.engine.Engine.run_units.Given as goal

abbrev pub invariant-units : goal.invariant-units
invariant-units l = record {
  ready : IsReady l.net l.bounds l.self;
  begun : (past : Past) (start : Dated) → IsBegunIn l.net past l.bounds l.now start l.fn.self → IsBegunIn l.net past l.bounds l.now start l.self;
}

abbrev pub decreases-units : goal.decreases-units
decreases-units l = to_visit l.bounds l.self
