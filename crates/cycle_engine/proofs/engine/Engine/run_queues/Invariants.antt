use Rattle.cycle_engine.specs.Cycles.{Dated}
use Rattle.cycle_engine.specs.private.Goings.{Past, IsReady}
use Rattle.cycle_engine.specs.private.Places.{IsSettled, IsServed}
use Rattle.cycle_engine.proofs.engine.Engine.run_queues.Given as goal

abbrev pub invariant-loop : goal.invariant-loop
invariant-loop l = record {
  ready : IsReady l.net l.bounds l.self;
  served : (past : Past) (start : Dated) → IsSettled l.net past l.bounds l.now start l.fn.self → IsServed l.net past l.bounds l.now start l.self l.count l.counter;
}
