use Rattle.std.proofs.Common.{get_or, length, refl, subst, sym, ◌<◌, ◌^◌, ◌∙◌}
use Rattle.net_worker.specs.Places.{owns_unit, unit_place}
use Rattle.net_worker.proofs.PlaceLemmas.{count_room, counts_more, owner_few, values_more}
use Rattle.net_worker.proofs.places.unit_places.Goals as goal

pub next_place-requires-clause-room : goal.next_place-requires-clause-room
next_place-requires-clause-room c =
    count_room (owns_unit c.args.owners.now) c.loop-owner.owner-index (length c.args.owners.now) c.loop-owner.counts.items (get_or c.args.owners.now c.loop-owner.owner-index 0) c.loop-owner.invariant.counts
    c.loop-owner-test.true (subst (λ n. n < 2 ^ 32) (sym c.requires.owned) c.net.ensures.checked.numbered.units)

pub loop-owner-preserved : goal.loop-owner-preserved
loop-owner-preserved c = record {
  counts = counts_more (owns_unit c.args.owners.now) c.loop-owner.owner-index c.loop-owner.counts.items c.next_place.new.counts.items _ c.loop-owner.invariant.counts c.next_place.ensures.counts (λ j. refl);
  placed = values_more (unit_place c.args.owners.now) c.loop-owner.owner-index c.next_place.result c.loop-owner.places.items c.push.new.self.items c.in_ok-push.ensures.items
      (c.next_place.ensures.place ∙ c.loop-owner.invariant.counts.each (get_or c.args.owners.now c.loop-owner.owner-index 0) (owner_few c.args.owners.now c.loop-owner.owner-index c.requires.few c.loop-owner-test.true))
      c.loop-owner.invariant.placed;
}
