use Rattle.std.proofs.Common.{◌≡◌, ◌+◌, get_or}
use Rattle.net_core.specs.States.{dates_of}
use Rattle.cycle_engine.specs.Cycles.{Dated}
use Rattle.cycle_engine.specs.private.Goings.{AreShut, IsReady, with_pending}
use Rattle.cycle_engine.specs.private.Trials.{IsBegun, RipeAt}
use Rattle.cycle_engine.proofs.PendingLemmas.{AreHeld}
use Rattle.cycle_engine.proofs.engine.Engine.note_pending.Given as goal

-- it is known of the outputs so far what holds them back where they are not pending
abbrev pub invariant-loop-out : goal.invariant-loop-out
invariant-loop-out l = record {
  ready : IsReady l.net l.fn.bounds l.self;
  rest : l.self ≡ with_pending l.fn.self l.self.pending;
  ripe : RipeAt l.net l.now (dates_of l.self.state) l.pins.first;
  base : l.first ≡ get_or l.self.used.base.items l.unit 0 + 1;
  shut : (start : Dated) → IsBegun l.net l.now start l.self → AreShut l.net start l.fn.self → AreShut l.net start l.self;
  held : (start : Dated) → IsBegun l.net l.now start l.self → AreHeld l.net start l.self l.self.pending l.unit l.out;
}
