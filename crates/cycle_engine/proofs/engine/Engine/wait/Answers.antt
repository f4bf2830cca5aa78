use Rattle.std.proofs.Common.{arith}
use Rattle.cycle_engine.proofs.TurnLemmas.{ready_again}
use Rattle.cycle_engine.proofs.UnitTurnLemmas.{go_used}
use Rattle.cycle_engine.proofs.engine.Engine.wait.Goals as goal

pub returns : goal.returns
returns c = record {
  ready = ready_again c.args.net.now c.args.bounds c.args.self.now c.push.new.self c.requires.ready;
  less = omega arith;
  tried = λ past start marks t. go_used c.args.net.now past c.args.bounds c.args.now start marks c.args.self.now c.args.unit c.push.new.self c.in_ok-push.ensures c.requires.used t;
}
