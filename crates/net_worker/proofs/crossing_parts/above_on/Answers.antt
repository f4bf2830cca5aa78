use Rattle.std.proofs.Common.{◌∙◌, ap, max}
use Rattle.net_worker.proofs.Moved.{above_three_on}
use Rattle.net_worker.proofs.crossing_parts.above_on.Goals as goal

pub returns-in-Three-clause-greatest : goal.returns-in-Three-clause-greatest
returns-in-Three-clause-greatest c =
    rw c.in-Three.is
    (c.max-in-Three-3.ensures ∙ (ap (max c.args.clock) (c.max-in-Three-2.ensures ∙ ap (max c.stamp_on-first-in-Three.result) c.max-in-Three.ensures)
    ∙ above_three_on c.args.takes.now.items c.stamp_on-first-in-Three.new.takes.items c.stamp_on-second-in-Three.new.takes.items c.in-Three.c c.in-Three.d c.in-Three.e
    c.stamp_on-first-in-Three.result c.stamp_on-second-in-Three.result c.stamp_on-third.result c.args.clock
    c.stamp_on-first-in-Three.ensures.asked c.stamp_on-second-in-Three.ensures.asked
    c.stamp_on-first-in-Three.ensures.stamp c.stamp_on-second-in-Three.ensures.stamp c.stamp_on-third.ensures.stamp))
