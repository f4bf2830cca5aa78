use Rattle.std.proofs.Common.{arith, refl}
use Rattle.net_worker.proofs.Givings.{takes_all}
use Rattle.net_worker.proofs.worker.Worker.has_takes.Goals as goal

pub returns : goal.returns
returns c = λ t m. (λ _. takes_all t c.args.self.now m (λ k l. c.loop-chan.invariant k (omega arith)), λ _. refl)
