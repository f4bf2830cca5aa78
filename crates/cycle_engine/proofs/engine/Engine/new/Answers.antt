use Rattle.std.proofs.Common.{◌≡◌, ◌∙◌, arith, ℕ, Bool, false, List, replicate, length, ap, subst, refl}
use Rattle.std.proofs.lemmas.List.{length-replicate}
use Rattle.net_types.specs.declared.net.Chan.{Chan}
use Rattle.net_types.specs.declared.net.Net.{Net}
use Rattle.net_types.specs.declared.net.Unit.{Unit as Kind}
use Rattle.cycle_engine.specs.declared.engine.Engine.{Engine}
use Rattle.cycle_engine.specs.private.Fed.{AreMarksOf}
use Rattle.cycle_engine.proofs.StartLemmas.{opened_as, opened_ready, opened_done}
use Rattle.cycle_engine.proofs.engine.Engine.new.Goals as goal

-- the engine that is made
abbrev opened : goal.After-new-10 → Engine
opened c = record {
  state = c.in_ok-state.state;
  begun = c.in_ok-begun.begun;
  fired = c.new-9.result;
  used = c.in_ok-used.used;
  made = 0;
  log = c.in_ok-log.log;
  marks = c.in_ok-marks.marks;
  notes = c.in_ok-notes.notes;
  feeds = c.in_ok-feeds.feeds;
  freed = c.in_ok-freed.freed;
  pending = c.in_ok-pending.pending;
  again = c.new-10.result;
  control = 0;
  fed = c.in_ok-fed.fed;
}

pub returns-clause-ready : goal.returns-clause-ready
returns-clause-ready c =
    let chans : c.as_slice-chans.result.now ≡ c.args.net.now.chans = c.as_slice-chans.ensures ∙ ap (λ (n : Net). n.chans) c.net.ensures.net in
    let units : c.as_slice-units.result.now ≡ c.args.net.now.units = c.as_slice-units.ensures ∙ ap (λ (n : Net). n.units) c.net-2.ensures.net in
    opened_ready c.args.net.now c.args.inputs.now c.args.bounds (opened c) c.in_ok-state.ensures.of
    (opened_as c.args.net.now c.args.inputs.now (opened c) c.in_ok-state.ensures.state c.in_ok-state.ensures.dates)
    c.requires.few refl c.new-9.ensures c.in_ok-state.ensures.counts (c.in_ok-log.ensures.room ∙ c.log_room.ensures)
    (ap (λ (xs : List Bool). length xs) c.in_ok-freed.ensures.marked ∙ (length-replicate _ _ ∙ ap (λ (xs : List Chan). length xs) chans))
    (ap (λ (xs : List ℕ). length xs) c.in_ok-begun.ensures ∙ (length-replicate _ _ ∙ ap (λ (xs : List Kind). length xs) units))
    c.in_ok-marks.ensures.long c.in_ok-marks.ensures.listed c.in_ok-notes.ensures c.in_ok-used.ensures.numbered c.in_ok-used.ensures.none c.in_ok-feeds.ensures
    (record {
      units = ap (λ (xs : List Bool). length xs) c.in_ok-pending.ensures.none ∙ (length-replicate _ _ ∙ ap (λ (xs : List Kind). length xs) units);
      room = (let a = c.in_ok-pending.ensures.room in let b = c.count.ensures in omega (arith, a, b));
      small = (let a = c.in_ok-pending.ensures.small in let b = c.count.ensures in omega (arith, a, b));
    })
    (let M : ℕ → Type 0 = λ n. AreMarksOf c.args.net.now n c.in_ok-fed.fed in let k = c.in_ok-used.used.last.ok.0 in let e : c.len.result ≡ length c.in_ok-used.used.last.items = omega (arith, k, c.len.ensures) in subst M e c.in_ok-fed.ensures)

pub returns-clause-done : goal.returns-clause-done
returns-clause-done c =
    let chans : c.as_slice-chans.result.now ≡ c.args.net.now.chans = c.as_slice-chans.ensures ∙ ap (λ (n : Net). n.chans) c.net.ensures.net in
    let units : c.as_slice-units.result.now ≡ c.args.net.now.units = c.as_slice-units.ensures ∙ ap (λ (n : Net). n.units) c.net-2.ensures.net in
    opened_done c.args.net.now c.args.inputs.now c.args.bounds (opened c)
    (opened_as c.args.net.now c.args.inputs.now (opened c) c.in_ok-state.ensures.state c.in_ok-state.ensures.dates)
    refl c.new-9.ensures c.in_ok-log.ensures.items c.net.ensures.checked
    (c.in_ok-freed.ensures.marked ∙ ap (λ (xs : List Chan). replicate (length xs) false) chans) (c.in_ok-begun.ensures ∙ ap (λ (xs : List Kind). replicate (length xs) 0) units)
    c.in_ok-marks.ensures.all (c.in_ok-pending.ensures.none ∙ ap (λ (xs : List Kind). replicate (length xs) false) units)
