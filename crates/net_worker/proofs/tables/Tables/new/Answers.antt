use Rattle.std.proofs.Common.{◌≡◌, ◌<◌, ◌∙◌, All, length, sym, ap, subst}
use Rattle.el_base.specs.Limits.{max_workers}
use Rattle.net_core.specs.Runs.{opening}
use Rattle.net_core.specs.States.{IsOf, state_of}
use Rattle.net_worker.specs.Crossing.{AreMarked, ArePlaced}
use Rattle.net_worker.specs.Places.{ArePlacesOf}
use Rattle.net_worker.specs.Spans.{AreWithin}
use Rattle.net_worker.proofs.tables.Tables.new.Goals as goal

pub invariant_of-result : goal.invariant_of-result
invariant_of-result c = record {
  owned = ap length c.in_ok-owners.ensures ∙ c.requires.owned;
  few = subst (All (λ o. o < max_workers)) (sym c.in_ok-owners.ensures) c.requires.few;
  marked = subst (λ o. AreMarked c.args.net.now.chans o c.in_ok-crossing.crossing.items) (sym c.in_ok-owners.ensures) c.in_ok-crossing.ensures;
  placed = subst (λ o. ArePlaced c.args.net.now.chans o c.in_ok-end_places.end_places.items) (sym c.in_ok-owners.ensures) c.in_ok-end_places.ensures;
  lie = subst (λ o. AreWithin o c.in_ok-spans.spans.items) (sym c.in_ok-owners.ensures) c.in_ok-spans.ensures;
  base_of = subst (IsOf c.args.net.now) (sym c.in_ok-base.ensures.ok) c.in_ok-opening.ensures.of;
  base_opens = subst (λ i. state_of c.in_ok-base.base.value ≡ opening c.args.net.now i) (sym c.in_ok-inputs.ensures) (ap state_of c.in_ok-base.ensures.ok ∙ c.in_ok-opening.ensures.state);
  stand = subst (λ o. ArePlacesOf c.args.net.now o c.in_ok-places.places.value) (sym c.in_ok-owners.ensures)
      (subst (ArePlacesOf c.args.net.now c.args.owners.now) (sym c.in_ok-places.ensures.ok) c.in_ok-found.ensures);
}
