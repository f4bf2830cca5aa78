use Rattle.std.proofs.Common.{◌<◌, ◌∙◌, length, Some, set, sym, ap, subst}
use Rattle.std.specs.List.{Contains}
use Rattle.std.proofs.lemmas.List.{get_or_default}
use Rattle.net_worker.specs.ChannelEnds.{StandsAt, IsNotAmong}
use Rattle.net_worker.proofs.EndPlaces.{set_at, within_places}
use Rattle.net_worker.proofs.channel_ends.ChannelEnds.lay_near.Goals as goal
use Rattle.net_worker.proofs.channel_ends.ChannelEnds.lay_near.Goals.{in-Some-1, in-None-1}

pub place_of-requires : goal.place_of-requires
place_of-requires g c = (c.self.inside.count, rw c.deref.ensures.value c.self.invariant.channels)

pub returns-in-Some-clause-items : goal.returns-in-Some-clause-items
returns-in-Some-clause-items g c =
    let s = c.self.inside in
    let here : StandsAt s.chans.items c.args.chan c.in-Some.at = subst (λ xs. StandsAt xs c.args.chan c.in-Some.at) c.deref.ensures.value c.in-Some.ensures.some in
    let laid = set_at s.count s.chans.items s.ends.items c.args.chan c.in-Some.at (Some c.args.end) c.self.invariant here ∙ ap (λ r. set r.items c.args.chan (Some c.args.end)) c.self.view_is in
    elim c.match-index_mut.branch [
      | in-Some-1 w ↦ ap (λ r. r.items) w.self-is ∙ laid
      | in-None-1 w ↦ ap (λ r. r.items) w.self-is ∙ laid
    ]

pub returns-in-Some-clause-within : goal.returns-in-Some-clause-within
returns-in-Some-clause-within g c =
    let s = c.self.inside in
    let here : StandsAt s.chans.items c.args.chan c.in-Some.at = subst (λ xs. StandsAt xs c.args.chan c.in-Some.at) c.deref.ensures.value c.in-Some.ensures.some in
    subst (λ r. c.args.chan < length r.items) c.self.view_is (within_places s.count s.chans.items s.ends.items c.args.chan c.in-Some.at c.self.invariant here)

pub returns-in_default-clause-within : goal.returns-in_default-clause-within
returns-in_default-clause-within g c =
    let cs = c.self.inside.chans.items in
    let gone : IsNotAmong cs c.args.chan = subst (λ xs. IsNotAmong xs c.args.chan) c.deref.ensures.value c.in_default.ensures.none in
    let among : Contains cs c.args.chan = subst (λ r. Contains r.chans c.args.chan) (sym c.self.view_is) c.requires in
    absurd (gone among.0 among.1 (get_or_default cs among.0 0 c.args.chan among.1 ∙ among.2))

pub returns-in_default-clause-items : goal.returns-in_default-clause-items
returns-in_default-clause-items g c =
    let cs = c.self.inside.chans.items in
    let gone : IsNotAmong cs c.args.chan = subst (λ xs. IsNotAmong xs c.args.chan) c.deref.ensures.value c.in_default.ensures.none in
    let among : Contains cs c.args.chan = subst (λ r. Contains r.chans c.args.chan) (sym c.self.view_is) c.requires in
    absurd (gone among.0 among.1 (get_or_default cs among.0 0 c.args.chan among.1 ∙ among.2))
