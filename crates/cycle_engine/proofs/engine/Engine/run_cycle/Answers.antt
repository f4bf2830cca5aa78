use Rattle.std.proofs.Common.{nat_lt, ap}
use Rattle.cycle_engine.specs.private.Trials.{dated_of}
use Rattle.cycle_engine.proofs.RunLemmas.{cycled}
use Rattle.cycle_engine.proofs.engine.Engine.run_cycle.Goals as goal

pub returns-clause-cycled : goal.returns-clause-cycled
returns-clause-cycled c past done =
    let settled = c.in_ok-run_units.ensures.settled past (dated_of c.args.self.now) (c.in_ok-begin.ensures.going past done) in
    cycled c.args.net.now past c.args.bounds c.args.now (dated_of c.args.self.now) c.run_queues.new.self _ (ap (nat_lt 0) c.len.ensures) c.in_ok-run_queues.ensures.ready.engine
    (c.in_ok-run_queues.ensures.full past (dated_of c.args.self.now) settled)
