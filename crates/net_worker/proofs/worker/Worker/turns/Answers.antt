use Rattle.std.proofs.Common.{◌≡◌, arith}
use Rattle.net_worker.proofs.Turning.{looked_again}
use Rattle.net_worker.proofs.worker.Worker.turns.Goals as goal

pub loop-preserved : goal.loop-preserved
loop-preserved c = record {
  made = c.turn-fired-in-loop.ensures.made;
  goes = λ z l. c.turn-fired-in-loop.ensures.later z (c.loop.invariant.goes z l);
  added = (let x : c.loop.fired ≡ 0 = omega arith in omega (arith, c.turn-fired-in-loop.ensures.added, c.loop.invariant.added));
  none = λ q. (let x : c.loop.fired ≡ 0 = omega arith in looked_again c.args.tables.now c.args.self.now c.loop.self c.turn-fired-in-loop.new.self (c.loop.invariant.none x) (c.turn-fired-in-loop.ensures.none q));
}
