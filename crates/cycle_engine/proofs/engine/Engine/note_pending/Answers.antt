use Rattle.std.proofs.Common.{◌≡◌, ◌∙◌, ◌+◌, ◌<◌, ℕ, not, Bool, true, false, inr, length, refl, sym, ap, subst, arith}
use Rattle.std.proofs.lemmas.List.{get_or_default}
use Rattle.lsq_core.specs.Bits.{IsSet}
use Rattle.net_core.specs.States.{state_of}
use Rattle.cycle_engine.specs.declared.engine.Engine.{Engine}
use Rattle.cycle_engine.specs.Cycles.{Dated}
use Rattle.cycle_engine.specs.private.Goings.{AreShut, with_pending, to_visit}
use Rattle.cycle_engine.specs.private.Marking.{Holds}
use Rattle.cycle_engine.specs.private.Pending.{IsHeldBack, out_number}
use Rattle.cycle_engine.specs.private.Places.{IsTurn}
use Rattle.cycle_engine.specs.private.Trials.{IsBegun}
use Rattle.cycle_engine.proofs.MarkLemmas.{holds_last}
use Rattle.cycle_engine.proofs.PendingLemmas.{begun_pending, going_pending, held_more, out_room, places_more, places_noted, ready_pending, shut_more, shut_noted, turn_pending, walk_room}
use Rattle.cycle_engine.proofs.SendLemmas.{fork_out, out_listed}
use Rattle.cycle_engine.proofs.TurnLemmas.{pushed_holds, ready_again, turn_again}
use Rattle.cycle_engine.proofs.engine.Engine.note_pending.Goals as goal

pub overflow_add-first : goal.overflow_add-first
overflow_add-first c =
    let w = walk_room c.args.net.now (length c.args.self.now.used.last.items) c.args.unit c.args.outs c.args.self.now.used.base.items c.args.self.now.pending c.requires.ready.places c.requires.ready.pending c.requires.within c.requires.fork c.requires.some in
    let a = w.1 in
    let b = c.base-first.ensures in
    omega arith

pub loop-out-init : goal.loop-out-init
loop-out-init c = record {
  ready = c.requires.ready;
  rest = refl;
  ripe = c.requires.ripe;
  base = ap (λ n. n + 1) c.base-first.ensures;
  shut = λ start b s. s;
  held = λ start b j l s. absurd (omega arith);
}

-- each output has a channel, and the list tells it
pub bounds-chans-out : goal.bounds-chans-out
bounds-chans-out c =
    let within = fork_out c.args.net.now c.args.unit c.args.outs c.loop-out.out c.net.ensures.checked c.requires.within c.requires.fork c.loop-out-test.true in
    out_listed c.outs_of-chans.result.now (length c.args.net.now.chans) c.loop-out.out (let e = c.outs_of-chans.ensures c.loop-out.out in omega (arith, within, e))

pub is_shut-shut-requires-clause-engine : goal.is_shut-shut-requires-clause-engine
is_shut-shut-requires-clause-engine c = c.loop-out.invariant.ready.engine

pub is_shut-shut-requires-clause-long : goal.is_shut-shut-requires-clause-long
is_shut-shut-requires-clause-long c = c.loop-out.invariant.ready.chans

pub is_shut-shut-requires-clause-ripe : goal.is_shut-shut-requires-clause-ripe
is_shut-shut-requires-clause-ripe c = c.loop-out.invariant.ripe

pub is_shut-shut-requires-clause-there : goal.is_shut-shut-requires-clause-there
is_shut-shut-requires-clause-there c =
    let within = fork_out c.args.net.now c.args.unit c.args.outs c.loop-out.out c.net.ensures.checked c.requires.within c.requires.fork c.loop-out-test.true in
    let e = c.outs_of-chans.ensures c.loop-out.out in
    get_or_default c.outs_of-chans.result.now c.loop-out.out 0 (length c.args.net.now.chans) (out_listed c.outs_of-chans.result.now (length c.args.net.now.chans) c.loop-out.out (omega (arith, within, e))) ∙ e

pub is_shut-shut-requires-clause-chan : goal.is_shut-shut-requires-clause-chan
is_shut-shut-requires-clause-chan c =
    let within = fork_out c.args.net.now c.args.unit c.args.outs c.loop-out.out c.net.ensures.checked c.requires.within c.requires.fork c.loop-out-test.true in
    let e = c.outs_of-chans.ensures c.loop-out.out in
    let same = get_or_default c.outs_of-chans.result.now c.loop-out.out 0 (length c.args.net.now.chans) (out_listed c.outs_of-chans.result.now (length c.args.net.now.chans) c.loop-out.out (omega (arith, within, e))) ∙ e in
    let P : ℕ → Type 0 = λ d. d < length c.args.net.now.chans in
    subst P (sym same) within

pub overflow_add-first-in-loop-out : goal.overflow_add-first-in-loop-out
overflow_add-first-in-loop-out c =
    let ready = c.loop-out.invariant.ready in
    let w = out_room c.args.net.now (length c.loop-out.self.used.last.items) c.args.unit c.args.outs c.loop-out.out c.loop-out.self.used.base.items c.loop-out.self.pending ready.places ready.pending c.requires.within c.requires.fork c.loop-out-test.true in
    let a = w.1 in
    let b = c.loop-out.invariant.base in
    let f = c.from.ensures in
    omega arith

pub set-requires : goal.set-requires
set-requires c =
    let ready = c.loop-out.invariant.ready in
    let w = out_room c.args.net.now (length c.loop-out.self.used.last.items) c.args.unit c.args.outs c.loop-out.out c.loop-out.self.used.base.items c.loop-out.self.pending ready.places ready.pending c.requires.within c.requires.fork c.loop-out-test.true in
    let a = w.0 in
    let b = c.loop-out.invariant.base in
    let f = c.from.ensures in
    omega arith

pub loop-out-preserved : goal.loop-out-preserved
loop-out-preserved c = record {
  ready = ready_pending c.args.net.now c.args.bounds c.loop-out.self c.set.new.self c.loop-out.invariant.ready
      (places_more c.args.net.now c.loop-out.self c.args.unit c.args.outs c.loop-out.out c.set.new.self (not c.is_shut-shut.result) c.requires.within c.requires.fork c.loop-out-test.true c.loop-out.invariant.ready.places number c.set.ensures.noted c.loop-out.invariant.ready.pending);
  rest = ap (λ (x : Engine). with_pending x c.set.new.self) c.loop-out.invariant.rest;
  ripe = c.loop-out.invariant.ripe;
  base = c.loop-out.invariant.base;
  shut = λ start g s.
      shut_more c.args.net.now c.loop-out.self c.args.unit c.args.outs c.loop-out.out c.set.new.self (not c.is_shut-shut.result) c.requires.within c.requires.fork c.loop-out-test.true c.loop-out.invariant.ready.places number c.set.ensures.noted
      start (held start (back start g)) (c.loop-out.invariant.shut start (back start g) s);
  held = λ start g. held_more c.args.net.now start c.loop-out.self c.loop-out.self.pending c.set.new.self c.args.unit c.loop-out.out (not c.is_shut-shut.result) number (held start (back start g)) (c.loop-out.invariant.held start (back start g));
}
  where
    number : IsSet (out_number c.loop-out.self.used.base.items c.args.unit c.loop-out.out) (not c.is_shut-shut.result) c.loop-out.self.pending.outs c.set.new.self.outs
    number =
        let S : ℕ → Type 0 = λ n. IsSet n (not c.is_shut-shut.result) c.loop-out.self.pending.outs c.set.new.self.outs in
        let same : c.base-first.result + 1 + c.from.result ≡ out_number c.loop-out.self.used.base.items c.args.unit c.loop-out.out = (let b = c.loop-out.invariant.base in let f = c.from.ensures in omega arith) in
        subst S same c.set.ensures.outs

    back : (start : Dated) → IsBegun c.args.net.now c.args.now start (with_pending c.loop-out.self c.set.new.self) → IsBegun c.args.net.now c.args.now start c.loop-out.self
    back start g = begun_pending c.args.net.now c.args.now start (with_pending c.loop-out.self c.set.new.self) c.loop-out.self.pending g

    is_true : (b : Bool) → not b ≡ false → b ≡ true
    is_true true e = refl
    is_true false e = cc

    held : (start : Dated) → IsBegun c.args.net.now c.args.now start c.loop-out.self → not c.is_shut-shut.result ≡ false → IsHeldBack c.args.net.now start.state (state_of c.loop-out.self.state) c.args.unit c.loop-out.out
    held start g z = c.is_shut-shut.ensures (is_true c.is_shut-shut.result z) start g

pub note-requires : goal.note-requires
note-requires c = (let l = c.loop-out.invariant.ready.pending.units in let w = c.requires.within in omega arith)

pub returns : goal.returns
returns c = record {
  ready = ready_again c.args.net.now c.args.bounds (with_pending c.loop-out.self c.note.new.self) c.push.new.self
      (ready_pending c.args.net.now c.args.bounds c.loop-out.self c.note.new.self c.loop-out.invariant.ready
      (places_noted c.args.net.now (length c.loop-out.self.used.last.items) c.args.unit c.loop-out.self.pending c.note.new.self c.note.ensures.noted c.note.ensures.outs c.loop-out.invariant.ready.pending));
  less = (let e : to_visit c.args.bounds c.loop-out.self ≡ to_visit c.args.bounds c.args.self.now = ap (to_visit c.args.bounds) c.loop-out.invariant.rest in omega arith);
  tried = λ past start marks t.
      (let e = c.loop-out.self in
      let p = c.note.new.self in
      let same : with_pending e p ≡ with_pending c.args.self.now p = ap (λ (x : Engine). with_pending x p) c.loop-out.invariant.rest in
      let B : Engine → Type 0 = IsBegun c.args.net.now c.args.now start in
      let began : B e = subst B (sym c.loop-out.invariant.rest) (begun_pending c.args.net.now c.args.now start c.args.self.now e.pending t.going.began) in
      let A : Engine → Type 0 = AreShut c.args.net.now start in
      let shut : A (with_pending c.args.self.now p) =
      subst A same (shut_noted c.args.net.now start e p c.args.unit c.args.outs c.loop-out.out c.requires.fork (let z = c.loop-out-test.false in omega arith) c.note.ensures.noted c.note.ensures.outs
      (c.loop-out.invariant.held start began) (c.loop-out.invariant.shut start began t.going.shut)) in
      let T : Engine → Type 0 = λ x. IsTurn c.args.net.now past c.args.bounds c.args.now start marks x c.args.unit 3 0 in
      let turn : T (with_pending e p) =
      subst T (sym same) (turn_pending c.args.net.now past c.args.bounds c.args.now start marks c.args.self.now p c.args.unit 3 0 (going_pending c.args.net.now past c.args.bounds c.args.now start c.args.self.now p t.going shut) t) in
      record {
        turn = turn_again c.args.net.now past c.args.bounds c.args.now start marks (with_pending e p) c.push.new.self c.args.unit 3 0 (λ v h. subst (Holds v) (sym c.in_ok-push.ensures) (pushed_holds e.again.items c.args.unit v h)) turn;
        own = λ a h k. inr (subst (Holds c.args.unit) (sym c.in_ok-push.ensures) (holds_last e.again.items c.args.unit));
      });
}
