use Rattle.std.proofs.Common.{◌≡◌, ◌≤◌, ◌-◌}
use Rattle.net_types.specs.Order.{act_rank}
use Rattle.cycle_engine.specs.declared.marks.Marks.{Marks}
use Rattle.cycle_engine.specs.Cycles.{Dated}
use Rattle.cycle_engine.specs.private.Goings.{Past, IsReady, IsGrown}
use Rattle.cycle_engine.specs.private.Places.{IsTurn}
use Rattle.cycle_engine.proofs.engine.Engine.steps.Given as goal

abbrev pub invariant-loop-number : goal.invariant-loop-number
invariant-loop-number g l = record {
  ready : IsReady l.net l.bounds l.self;
  grown : IsGrown l.fn.self l.self;
  again : l.self.again ≡ l.fn.self.again;
  within : l.number ≤ l.count;
  tried : (past : Past) (start : Dated) (marks : Marks) → IsTurn l.net past l.bounds l.now start marks l.fn.self l.unit (act_rank l.act) 0 → IsTurn l.net past l.bounds l.now start marks l.self l.unit (act_rank l.act) l.number;
}

abbrev pub decreases-loop-number : goal.decreases-loop-number
decreases-loop-number g l = l.count - l.number
