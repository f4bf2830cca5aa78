use Rattle.std.proofs.Common.{refl}
use Rattle.net_check.proofs.PeelLemmas.{still_waits, released_more}
use Rattle.net_check.proofs.cycles.release.Goals as goal

pub release_one-requires-clause-some : goal.release_one-requires-clause-some
release_one-requires-clause-some c =
    still_waits c.args.targets.now c.args.waits.now.items c.args.ready.now.items c.loop-target.waits.items c.loop-target.ready.items c.loop-target.target-index c.loop-target-test.true c.requires c.loop-target.invariant

pub loop-target-preserved : goal.loop-target-preserved
loop-target-preserved c =
    released_more c.args.targets.now c.args.waits.now.items c.args.ready.now.items c.loop-target.waits.items c.loop-target.ready.items _ _ c.loop-target.target-index _ c.loop-target-test.true refl c.requires c.loop-target.invariant
    c.in_ok-release_one.ensures.wait c.in_ok-release_one.ensures.ready
