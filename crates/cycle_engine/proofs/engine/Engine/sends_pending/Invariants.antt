use Rattle.std.proofs.Common.{◌≡◌, ◌≤◌, ◌-◌, true, false, get_or}
use Rattle.net_core.specs.States.{dates_of}
use Rattle.cycle_engine.specs.declared.marks.Marks.{Marks}
use Rattle.cycle_engine.specs.Cycles.{Dated}
use Rattle.cycle_engine.specs.private.Goings.{Past, IsReady, to_visit}
use Rattle.cycle_engine.specs.private.Places.{AreLeft, IsTurn}
use Rattle.cycle_engine.specs.private.Trials.{RipeAt}
use Rattle.cycle_engine.proofs.engine.Engine.sends_pending.Given as goal

abbrev pub invariant-loop-out : goal.invariant-loop-out
invariant-loop-out l = record {
  ready : IsReady l.net l.bounds l.self;
  less : to_visit l.bounds l.self ≤ to_visit l.bounds l.fn.self;
  base : l.base ≡ get_or l.self.used.base.items l.unit 0;
  ripe : RipeAt l.net l.now (dates_of l.self.state) l.pins.first;
  noted : get_or l.self.pending.noted.items l.unit false ≡ true;
  most : l.out ≤ l.outs;
  left : AreLeft l.self l.unit l.out;
  tried : (past : Past) (start : Dated) (marks : Marks) → IsTurn l.net past l.bounds l.now start marks l.fn.self l.unit 2 0 → IsTurn l.net past l.bounds l.now start marks l.self l.unit 2 l.out;
}

abbrev pub decreases-loop-out : goal.decreases-loop-out
decreases-loop-out l = l.outs - l.out
