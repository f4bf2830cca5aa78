use Rattle.net_check.proofs.shapes.has_shape.Goals as goal

pub returns-in-Lsq : goal.returns-in-Lsq
returns-in-Lsq c = rw c.in-Lsq.is c.is_queue_shape.ensures
