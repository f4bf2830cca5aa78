use Rattle.std.proofs.Common.{refl}
use Rattle.std.proofs.lemmas.Bool.{false≢true}
use Rattle.net_types.specs.declared.firing.Act.TheVariants.{Go}
use Rattle.net_core.specs.States.{state_of}
use Rattle.net_replay.proofs.FollowLemmas.{follow_more, follow_fails}
use Rattle.net_replay.proofs.replayer.follow.Goals as goal

pub returns-then-not-try_fire-clause-leads : goal.returns-then-not-try_fire-clause-leads
returns-then-not-try_fire-clause-leads c =
    follow_fails c.args.net.now (state_of c.args.state.now) c.args.firings.now c.loop-index.index c.loop-index.state (record { unit = 0; act = Go })
    c.loop-index-test.true c.loop-index.invariant (λ e. false≢true (c.if-not-try_fire.ensures.fired.1 e))

pub loop-index-preserved : goal.loop-index-preserved
loop-index-preserved c =
    follow_more c.args.net.now (state_of c.args.state.now) c.args.firings.now c.loop-index.index c.loop-index.state c.try_fire.new.self (record { unit = 0; act = Go })
    c.loop-index-test.true c.loop-index.invariant (c.if-not-try_fire.ensures.fired.0 refl) c.if-not-try_fire.ensures.of c.if-not-try_fire.ensures.state
    c.if-not-try_fire.ensures.counts
