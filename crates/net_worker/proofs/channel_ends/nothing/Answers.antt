use Rattle.std.proofs.Common.{◌∙◌, None}
use Rattle.net_worker.proofs.Givings.{nothing_more}
use Rattle.net_worker.proofs.channel_ends.nothing.Goals as goal

pub loop-preserved : goal.loop-preserved
loop-preserved g c = c.in_ok-push.ensures.items ∙ nothing_more c.loop.counter None c.loop.places.items c.loop.invariant
