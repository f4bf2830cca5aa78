use Rattle.net_core.specs.States.{state_of}
use Rattle.net_replay.proofs.FollowLemmas.{IsFollowed}
use Rattle.net_replay.proofs.replayer.follow.Given as goal

abbrev pub invariant-loop-index : goal.invariant-loop-index
invariant-loop-index l = IsFollowed l.net (state_of l.fn.state) l.firings l.index l.state
