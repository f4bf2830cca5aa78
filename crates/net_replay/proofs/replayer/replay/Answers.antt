use Rattle.std.proofs.Common.{sym, subst}
use Rattle.net_core.specs.Fire.{State}
use Rattle.net_core.specs.States.{CountsWithin}
use Rattle.net_core.proofs.OpenLemmas.{opening_counts}
use Rattle.net_replay.proofs.replayer.replay.Goals as goal

pub follow-requires-clause-counts : goal.follow-requires-clause-counts
follow-requires-clause-counts c =
    let P : State → Type 0 = λ s. CountsWithin 0 s in
    subst P (sym c.in_ok-state.ensures.state) (opening_counts c.args.net.now c.args.inputs.now)
