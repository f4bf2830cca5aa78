use Rattle.std.proofs.Common.{refl}
use Rattle.cycle_engine.proofs.places.queue_of.Goals as goal

pub returns : goal.returns
returns c =
    let q = c.in_ok-queue.ensures in
    (record { array = q.array; view = c.in_ok-queue.queue.now; shape = q.shape; state = q.state; order = c.len.ensures.order; ports = c.len.ensures.ports }, refl)
