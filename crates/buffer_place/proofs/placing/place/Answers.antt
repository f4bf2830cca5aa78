use Rattle.std.proofs.Common.{length, sym, subst}
use Rattle.net_check.specs.Sizes.{KeepsC3}
use Rattle.net_check.specs.Cycles.{KeepsC4}
use Rattle.buffer_place.specs.Placing.{AreMostSlots, IsPlaced}
use Rattle.buffer_place.proofs.PlaceLemmas.{placed, sized, delayed}
use Rattle.buffer_place.proofs.placing.place.Goals as goal

pub returns-clause-placed : goal.returns-clause-placed
returns-clause-placed c =
    let net = c.args.net.now in
    let m = subst (λ cs. AreMostSlots c.args.timing.slots (length cs) c.most_slots-slots.result) c.as_slice.ensures c.most_slots-slots.ensures.most in
    let ends = c.channels_end_at_units.ensures net c.requires.wired in
    subst (λ cs. IsPlaced c.args.timing net (record net { chans = cs })) (sym c.in_ok-chans.ensures) (placed c.args.timing net c.most_slots-slots.result _ c.in_ok-cuts.ensures.cuts ends m)

pub returns-clause-sized : goal.returns-clause-sized
returns-clause-sized c =
    let net = c.args.net.now in
    let m = subst (λ cs. AreMostSlots c.args.timing.slots (length cs) c.most_slots-slots.result) c.as_slice.ensures c.most_slots-slots.ensures.most in
    let ends = c.channels_end_at_units.ensures net c.requires.wired in
    subst (λ cs. KeepsC3 (record net { chans = cs })) (sym c.in_ok-chans.ensures) (sized c.args.timing net c.most_slots-slots.result _ c.in_ok-cuts.ensures.cuts ends c.requires.timing c.most_slots-slots.ensures.some m)

pub returns-clause-delayed : goal.returns-clause-delayed
returns-clause-delayed c =
    let net = c.args.net.now in
    let ends = c.channels_end_at_units.ensures net c.requires.wired in
    subst (λ cs. KeepsC4 (record net { chans = cs })) (sym c.in_ok-chans.ensures) (delayed c.args.timing net c.most_slots-slots.result _ c.in_ok-cuts.ensures.cuts ends c.requires.timing)
