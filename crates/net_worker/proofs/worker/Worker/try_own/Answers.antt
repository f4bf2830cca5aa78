use Rattle.std.proofs.Common.{arith}
use Rattle.net_worker.proofs.Tries.{own_of, own_other}
use Rattle.net_worker.proofs.worker.Worker.try_own.Goals as goal

pub returns-then-owner-self-clause-tried : goal.returns-then-owner-self-clause-tried
returns-then-owner-self-clause-tried c = own_other c.args.tables.now c.args.self.now c.args.unit (λ q. absurd (omega (arith, c.owner.ensures)))

pub returns-clause-tried : goal.returns-clause-tried
returns-clause-tried c = own_of c.args.tables.now c.args.self.now c.try_unit.new.self c.args.unit c.try_unit.result c.try_unit.ensures.tried
