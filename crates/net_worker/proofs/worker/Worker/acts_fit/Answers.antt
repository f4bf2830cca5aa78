use Rattle.std.proofs.Common.{◌<◌, ◌^◌, ap, arith}
use Rattle.lsq_core.specs.Acts.{QueueState}
use Rattle.net_core.specs.States.{state_of}
use Rattle.net_worker.proofs.Fits.{queue_fits, plain_fits}
use Rattle.net_worker.proofs.worker.Worker.acts_fit.Goals as goal

pub returns-in_default : goal.returns-in_default
returns-in_default c = plain_fits c.args.tables.now.net.now (state_of c.args.self.now.portion.state) c.args.unit c.net.ensures.checked c.in_default.ensures

pub returns : goal.returns
returns c =
    let q = c.in-Some.queue.now in
    let s = c.requires.of.serials c.args.unit in
    let e = ap (λ (y : QueueState). y.next) c.in-Some.ensures.state in
    let few : q.queue.next < 2 ^ 63 = omega arith in
    queue_fits c.args.tables.now.net.now (state_of c.args.self.now.portion.state) c.args.unit c.in-Some.ensures.array q c.in-Some.ensures.shape c.in-Some.ensures.state c.len.ensures.order c.len.ensures.ports few c.net.ensures.checked
