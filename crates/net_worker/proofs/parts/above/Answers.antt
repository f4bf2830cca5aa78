use Rattle.std.proofs.Common.{◌∙◌, ap, max}
use Rattle.net_worker.proofs.Paying.{above_three}
use Rattle.net_worker.proofs.parts.above.Goals as goal

pub returns-in-Three-clause-greatest : goal.returns-in-Three-clause-greatest
returns-in-Three-clause-greatest c =
    rw c.in-Three.is
    (c.max-in-Three-3.ensures ∙ (ap (max c.args.clock) (c.max-in-Three-2.ensures ∙ ap (max c.stamp_at-first-in-Three.result) c.max-in-Three.ensures)
    ∙ above_three c.args.net.now c.args.takes.now.items c.stamp_at-first-in-Three.new.takes.items c.stamp_at-second-in-Three.new.takes.items c.args.unit c.in-Three.p c.in-Three.q c.in-Three.r
    c.into_place-in-Three.result c.into_place-in-Three-2.result c.into_place-in-Three-3.result c.args.clock c.stamp_at-first-in-Three.result c.stamp_at-second-in-Three.result c.stamp_at-third.result
    c.into_place-in-Three.ensures c.into_place-in-Three-2.ensures c.into_place-in-Three-3.ensures
    c.stamp_at-first-in-Three.ensures.asked c.stamp_at-second-in-Three.ensures.asked
    c.stamp_at-first-in-Three.ensures.stamp c.stamp_at-second-in-Three.ensures.stamp c.stamp_at-third.ensures.stamp))
