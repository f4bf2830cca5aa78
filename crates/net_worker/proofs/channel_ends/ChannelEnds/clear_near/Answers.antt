use Rattle.std.proofs.Common.{◌∙◌, None, set, sym, ap, subst}
use Rattle.net_worker.specs.ChannelEnds.{StandsAt, IsNotAmong}
use Rattle.net_worker.proofs.EndPlaces.{nothing_cleared, set_at}
use Rattle.net_worker.proofs.channel_ends.ChannelEnds.clear_near.Goals as goal
use Rattle.net_worker.proofs.channel_ends.ChannelEnds.clear_near.Goals.{in-Some-1, in-None-1}

pub place_of-requires : goal.place_of-requires
place_of-requires g c = (c.self.inside.count, rw c.deref.ensures.value c.self.invariant.channels)

pub returns-in-Some-clause-items : goal.returns-in-Some-clause-items
returns-in-Some-clause-items g c =
    let s = c.self.inside in
    let here : StandsAt s.chans.items c.args.chan c.in-Some.at = subst (λ xs. StandsAt xs c.args.chan c.in-Some.at) c.deref.ensures.value c.in-Some.ensures.some in
    let laid = set_at s.count s.chans.items s.ends.items c.args.chan c.in-Some.at None c.self.invariant here ∙ ap (λ r. set r.items c.args.chan None) c.self.view_is in
    elim c.match-index_mut.branch [
      | in-Some-1 w ↦ ap (λ r. r.items) w.self-is ∙ laid
      | in-None-1 w ↦ ap (λ r. r.items) w.self-is ∙ laid
    ]

pub returns-in_default-clause-items : goal.returns-in_default-clause-items
returns-in_default-clause-items g c =
    let s = c.self.inside in
    let gone : IsNotAmong s.chans.items c.args.chan = subst (λ xs. IsNotAmong xs c.args.chan) c.deref.ensures.value c.in_default.ensures.none in
    rw (← c.self.view_is) (sym (nothing_cleared s.count s.chans.items s.ends.items c.args.chan gone))
