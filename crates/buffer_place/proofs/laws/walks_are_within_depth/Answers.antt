use Rattle.std.proofs.Common.{subst}
use Rattle.buffer_place.specs.Placing.{AreDepthDelays, AreDelays, WalksAreWithinDepth}
use Rattle.buffer_place.proofs.DepthLemmas.{walk_within}
use Rattle.buffer_place.proofs.laws.walks_are_within_depth.Goals as goal

within : WalksAreWithinDepth
within t depth old new h e p v u cs l =
    let d : AreDepthDelays t depth old new = subst (λ o. AreDelays t o old new) e p.delays in
    walk_within t depth d.level old new p.same d.delays d.levels (h.depth_some depth e) v u cs l

pub returns : goal.returns
returns c = within
