use Rattle.std.proofs.Common.{◌≡◌, ◌+◌, ◌<◌, ◌∙◌, List, [], ap, set, subst, sym, refl, length, arith}
use Rattle.net_types.specs.declared.firing.Firing.{Firing}
use Rattle.net_core.specs.States.{state_of}
use Rattle.cycle_engine.specs.declared.engine.Engine.{Engine}
use Rattle.cycle_engine.specs.private.Marking.{Holds, HasUnit, cell, cells_of}
use Rattle.cycle_engine.specs.private.Goings.{all_made, AllPlain}
use Rattle.cycle_engine.proofs.StartLemmas.{none_listed, begun_ready, begun_going}
use Rattle.cycle_engine.proofs.MarkLemmas.{source_as, target_as, or_as}
use Rattle.cycle_engine.proofs.NoteLemmas.{cells_kept, cleared_long}
use Rattle.cycle_engine.proofs.NextLemmas.{begun_followed, begun_watching, stirred_marked, begun_coming}
use Rattle.cycle_engine.proofs.PendingLemmas.{shut_begun}
use Rattle.cycle_engine.proofs.engine.Engine.begin.Goals as goal

-- the engine as the cycle begins
abbrev begun : goal.After-clear-4 → Engine
begun c = record {
  state = c.args.self.now.state;
  begun = c.settle.new.begun;
  fired = c.clear-4.new.self;
  used = c.args.self.now.used;
  made = c.args.self.now.made + c.len.result;
  log = c.args.self.now.log;
  marks = c.mark_targets.new.self;
  notes = c.clear-3.new.self;
  feeds = c.args.self.now.feeds;
  freed = c.clear-2.new.self;
  pending = c.add_freed.new.self;
  again = c.clear.new.self;
  control = c.args.self.now.control;
  fed = c.args.self.now.fed;
}

pub returns-clause-ready : goal.returns-clause-ready
returns-clause-ready c =
    let net = c.args.net.now in
    let made : c.args.self.now.made + c.len.result ≡ all_made c.args.self.now = omega (arith, c.len.ensures) in
    begun_ready c.args.net.now c.args.bounds c.args.self.now (begun c) c.requires
    (record { state = c.requires.engine.state; dated = c.requires.engine.dated })
    refl made c.clear-4.ensures refl (c.clear-2.ensures.long ∙ c.requires.chans) c.in_ok-settle.ensures.long
    (c.in_ok-mark_targets.ensures.kept.long ∙ (c.in_ok-mark_sources.ensures.kept.long ∙ (c.in_ok-settle.ensures.kept.long ∙ c.requires.marked)))
    (c.in_ok-mark_targets.ensures.kept.listed net (c.in_ok-mark_sources.ensures.kept.listed net (c.in_ok-settle.ensures.kept.listed net c.requires.listed)))
    (cells_kept net c.args.self.now.notes c.clear-3.new.self (cleared_long c.args.self.now.notes c.clear-3.new.self _ c.clear-3.ensures) c.requires.cells) refl refl c.add_freed.ensures.opened refl

pub returns-clause-going : goal.returns-clause-going
returns-clause-going c past done =
    let made : c.args.self.now.made + c.len.result ≡ all_made c.args.self.now = omega (arith, c.len.ensures) in
    let P : List Firing → Type 0 = AllPlain c.args.net.now in
    let k1 = c.in_ok-settle.ensures.kept in
    let k2 = c.in_ok-mark_sources.ensures.kept in
    let k3 = c.in_ok-mark_targets.ensures.kept in
    record {
      going = begun_going c.args.net.now past c.args.bounds c.args.now c.args.self.now (begun c) done
          (record {
            chans = begun_followed c.args.net.now c.args.now c.args.self.now (begun c) refl (c.clear-2.ensures.none done.listed) done.coming;
            queues = λ u l. c.in_ok-settle.ensures.noted u l (or_as (Holds u) (sym c.as_slice.ensures) (done.entries u l));
          })
          refl c.clear-4.ensures made refl (none_listed c.clear-2.new.self (c.clear-2.ensures.none done.listed))
          (begun_coming c.args.net.now c.args.now c.args.self.now (begun c) c.requires.cells refl (c.clear-3.ensures ∙ ap (λ n. set (cells_of c.args.self.now.notes) n []) c.place-place.ensures.place) done.coming) done.control
          (shut_begun c.args.net.now c.args.self.now (begun c) c.net.ensures.checked c.requires.places c.requires.pending refl refl c.add_freed.ensures.opened
          (λ d h. c.add_freed.ensures.freed d (subst (Holds d) (sym c.as_slice-freed.ensures.value) h)) done.shut);
      plain = subst P (sym c.clear-4.ensures) tt;
      watching = begun_watching c.args.net.now past c.args.bounds c.args.now 0 c.args.self.now (begun c) c.net.ensures.checked c.requires done refl
          (stirred_marked c.args.net.now c.args.now c.args.self.now c.settle.new.marks c.mark_sources.new.self c.mark_targets.new.self (length c.args.self.now.marks.marked.items) (sym c.requires.marked)
          k1.kept k2.kept k3.kept (λ u h f l. c.in_ok-settle.ensures.marked u (subst (Holds u) (sym c.as_slice.ensures) h) f l)
          (λ d h. source_as c.args.net.now (state_of c.args.self.now.state) _ _ c.mark_sources.new.self d k1.long (c.in_ok-mark_sources.ensures.marked d (subst (Holds d) (sym c.as_slice-freed.ensures.value) h)))
          (λ d h f. target_as c.args.net.now _ _ c.mark_targets.new.self d (k2.long ∙ k1.long) (c.in_ok-mark_targets.ensures.marked d (subst (Holds d) (sym (c.at-ripening.ensures ∙ ap (cell c.args.self.now.notes) c.place-place.ensures.place)) h) f)));
      kept = λ g h k. (let z = subst (HasUnit g.unit) c.clear-4.ensures h in let w : z.at < 0 = z.within in absurd (omega arith));
    }
