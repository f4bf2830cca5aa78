use Rattle.std.proofs.Common.{◌≡◌, ◌∙◌, ℕ, ◌+◌, Bool, true, false, length, refl, sym, ap, subst, arith}
use Rattle.net_check.specs.declared.pins.Pins.{Pins}
use Rattle.net_core.specs.States.{state_of, dates_of}
use Rattle.net_core.specs.Uses.{is_fork}
use Rattle.net_types.specs.declared.firing.Act.TheVariants.{Send}
use Rattle.net_types.specs.Nets.{into, firing}
use Rattle.cycle_engine.specs.declared.engine.Engine.{Engine}
use Rattle.cycle_engine.specs.private.Goings.{IsReady, with_pending}
use Rattle.cycle_engine.specs.private.Marking.{Holds, IsFullMarked}
use Rattle.cycle_engine.specs.private.Stacks.{Stacked}
use Rattle.cycle_engine.specs.private.Places.{HasSentOrTold, IsSent}
use Rattle.cycle_engine.specs.private.Trials.{RipeAt}
use Rattle.cycle_engine.proofs.SendLemmas.{ripe_still, send_follows, send_left, send_used, send_put, send_took, send_number, told_used, told_unused, told_sent, none_of, took_none}
use Rattle.cycle_engine.proofs.PendingLemmas.{begun_pending, planned_pending, ready_opened, told_pending, turn_opened}
use Rattle.cycle_engine.proofs.TurnLemmas.{pushed_holds, ready_marks, exit_broken}
use Rattle.cycle_engine.proofs.engine.Engine.send.Goals.{then-takes-2+in_ok-rouse_fork, else-takes-2, then-takes, else-takes}
use Rattle.cycle_engine.proofs.engine.Engine.send.Goals as goal

pub overflow_add-at : goal.overflow_add-at
overflow_add-at c =
    let z = send_number c.args.net.now c.args.self.now.used.base.items (length c.args.self.now.used.last.items) c.args.unit c.args.outs c.args.out c.requires.within c.requires.fork c.requires.out c.requires.ready.places in
    let y = c.requires.base in
    let k = c.args.self.now.used.last.ok.0 in
    let n = c.args.self.now.used.last.small in
    omega arith

pub overflow_add-at-2 : goal.overflow_add-at-2
overflow_add-at-2 c =
    let z = send_number c.args.net.now c.args.self.now.used.base.items (length c.args.self.now.used.last.items) c.args.unit c.args.outs c.args.out c.requires.within c.requires.fork c.requires.out c.requires.ready.places in
    let y = c.requires.base in
    let k = c.args.self.now.used.last.ok.0 in
    let n = c.args.self.now.used.last.small in
    let f = c.from.ensures in
    omega arith

pub returns-then-is_used-clause-told : goal.returns-then-is_used-clause-told
returns-then-is_used-clause-told c z first h = told_used c.args.net.now first c.args.self.now c.push.new.self c.args.unit c.args.out c.in_ok-push.ensures h

pub returns-then-is_used-clause-tried : goal.returns-then-is_used-clause-tried
returns-then-is_used-clause-tried c past start marks t =
    send_used c.args.net.now past c.args.bounds c.args.now start marks c.args.self.now c.args.unit c.args.out t c.push.new.self c.in_ok-push.ensures (c.if-is_used.ensures.used refl)

pub returns-in_default-clause-told : goal.returns-in_default-clause-told
returns-in_default-clause-told c z first h = told_unused c.args.net.now first c.args.self.now c.args.unit c.args.out (c.if-is_used.ensures.unused refl) h

pub returns-in_default-clause-tried : goal.returns-in_default-clause-tried
returns-in_default-clause-tried c past start marks t =
    send_left c.args.net.now past c.args.bounds c.args.now start marks c.args.self.now c.args.unit c.args.out t (λ un m. c.in_default.ensures.may start t.going.began m)

pub returns-then-is_used-clause-again : goal.returns-then-is_used-clause-again
returns-then-is_used-clause-again c h = subst (Holds c.args.unit) (sym c.in_ok-push.ensures) (pushed_holds c.args.self.now.again.items c.args.unit c.args.unit h)

-- the firing is made where the pending outputs may have been forgotten
pub forget_taken-requires : goal.forget_taken-requires
forget_taken-requires c = let l = c.requires.ready.pending.units in let w = c.requires.within in omega arith

pub fire-requires-clause-ready : goal.fire-requires-clause-ready
fire-requires-clause-ready c = ready_opened c.args.net.now c.args.bounds c.args.self.now c.forget_taken.new.pending c.forget_taken.ensures.opened c.requires.ready

pub fire-requires-clause-planned : goal.fire-requires-clause-planned
fire-requires-clause-planned c = planned_pending c.args.net.now c.args.self.now c.forget_taken.new.pending (firing c.args.unit (Send c.args.out)) c.in-Some.planned c.in-Some.ensures.planned

pub fire-requires-clause-may : goal.fire-requires-clause-may
fire-requires-clause-may c start b = c.in-Some.ensures.may start (begun_pending c.args.net.now c.args.now start (with_pending c.args.self.now c.forget_taken.new.pending) c.args.self.now.pending b)

pub returns-in_err-fire-clause-tried : goal.returns-in_err-fire-clause-tried
returns-in_err-fire-clause-tried c past start marks t =
    let q = with_pending c.args.self.now c.forget_taken.new.pending in
    let u = turn_opened c.args.net.now past c.args.bounds c.args.now start marks c.args.self.now c.forget_taken.new.pending c.args.unit 2 c.args.out c.forget_taken.ensures.opened t in
    exit_broken _ _ c.from_residual-in_err-fire.result c.in_err-fire.field-0.0 c.from_residual-in_err-fire.ensures.1
    (c.in_err-fire.ensures.tried past start u.going (send_follows c.args.net.now past c.args.bounds c.args.now start marks q c.args.unit c.args.out u))

-- a send that took nothing left the engine as the firing did
pub returns-clause-ready : goal.returns-clause-ready
returns-clause-ready c = elim c.if-takes-2.branch [
  | then-takes-2+in_ok-rouse_fork w ↦
      let ready = c.in_ok-fire.ensures.ready in
      let kept = w.in_ok-rouse_fork.ensures.kept in
      let P : Engine → Type 0 = IsReady c.args.net.now c.args.bounds in
      subst P (sym (w.self-is ∙ w.in_ok-rouse_fork.ensures.rest)) (ready_marks c.args.net.now c.args.bounds c.fire.new.self w.rouse_fork.new.self.marks ready (kept.long ∙ ready.marked) (kept.listed c.args.net.now ready.listed))
  | else-takes-2 w ↦ let P : Engine → Type 0 = IsReady c.args.net.now c.args.bounds in subst P (sym w.self-is) c.in_ok-fire.ensures.ready
]

pub returns-clause-kept : goal.returns-clause-kept
returns-clause-kept c z = elim c.if-takes-2.branch [
  | then-takes-2+in_ok-rouse_fork w ↦ absurd (w.if-takes-2.ensures.0 refl (none_of c.takes-3.result _ z c.takes-3.ensures))
  | else-takes-2 w ↦
      let R : Engine → Type 0 = λ e. RipeAt c.args.net.now c.args.now (dates_of e.state) c.args.pins.first in
      subst R (sym w.self-is) (ripe_still c.args.net.now c.args.now (with_pending c.args.self.now c.forget_taken.new.pending) c.fire.new.self c.args.unit c.args.out c.args.pins.first c.in-Some.planned
      (ready_opened c.args.net.now c.args.bounds c.args.self.now c.forget_taken.new.pending c.forget_taken.ensures.opened c.requires.ready).engine
      (planned_pending c.args.net.now c.args.self.now c.forget_taken.new.pending (firing c.args.unit (Send c.args.out)) c.in-Some.planned c.in-Some.ensures.planned)
      (none_of c.takes-3.result _ z c.takes-3.ensures) c.in_ok-fire.ensures.after c.requires.ripe)
]

pub returns-clause-told : goal.returns-clause-told
returns-clause-told c z first h = elim c.if-takes-2.branch [
  | then-takes-2+in_ok-rouse_fork w ↦ absurd (w.if-takes-2.ensures.0 refl (none_of c.takes-3.result _ z c.takes-3.ensures))
  | else-takes-2 w ↦
      let P : Engine → Type 0 = λ e. HasSentOrTold c.args.net.now first e c.args.unit (c.args.out + 1) in
      subst P (sym w.self-is) (told_sent c.args.net.now first (with_pending c.args.self.now c.forget_taken.new.pending) c.fire.new.self (firing c.args.unit (Send c.args.out)) c.args.unit c.args.out c.in_ok-fire.ensures.fired
      (told_pending c.args.net.now first c.args.self.now c.forget_taken.new.pending c.args.unit c.args.out h))
]

pub returns-clause-pending : goal.returns-clause-pending
returns-clause-pending c z = elim c.if-takes-2.branch [
  | then-takes-2+in_ok-rouse_fork w ↦ absurd (w.if-takes-2.ensures.0 refl (none_of c.takes-3.result _ z c.takes-3.ensures))
  | else-takes-2 w ↦ ap (λ (e : Engine). e.pending) w.self-is ∙ (c.in_ok-fire.ensures.pending ∙ c.forget_taken.ensures.same (none_of c.takes-3.result _ z c.takes-3.ensures))
]

pub returns-clause-again : goal.returns-clause-again
returns-clause-again c h = elim c.if-takes-2.branch [
  | then-takes-2+in_ok-rouse_fork w ↦ let P : Stacked ℕ → Type 0 = λ x. Holds c.args.unit x.items in subst P (sym (ap (λ (e : Engine). e.again) (w.self-is ∙ w.in_ok-rouse_fork.ensures.rest) ∙ c.in_ok-fire.ensures.again)) h
  | else-takes-2 w ↦ let P : Stacked ℕ → Type 0 = λ x. Holds c.args.unit x.items in subst P (sym (ap (λ (e : Engine). e.again) w.self-is ∙ c.in_ok-fire.ensures.again)) h
]

pub returns-clause-tried : goal.returns-clause-tried
returns-clause-tried c past start marks old =
    let q = with_pending c.args.self.now c.forget_taken.new.pending in
    let t = turn_opened c.args.net.now past c.args.bounds c.args.now start marks c.args.self.now c.forget_taken.new.pending c.args.unit 2 c.args.out c.forget_taken.ensures.opened old in
    let ready = ready_opened c.args.net.now c.args.bounds c.args.self.now c.forget_taken.new.pending c.forget_taken.ensures.opened c.requires.ready in
    let planned = planned_pending c.args.net.now c.args.self.now c.forget_taken.new.pending (firing c.args.unit (Send c.args.out)) c.in-Some.planned c.in-Some.ensures.planned in
    let made = c.in_ok-fire.ensures.tried past start t.going (send_follows c.args.net.now past c.args.bounds c.args.now start marks q c.args.unit c.args.out t) in
    let fork = ap is_fork c.requires.fork.shape in
    let S : Engine → Bool → Type 0 = λ e. IsSent c.args.net.now past c.args.bounds c.args.now start marks e c.args.unit c.args.out in
    elim c.if-takes-2.branch [
      | then-takes-2+in_ok-rouse_fork w ↦
          let some = w.if-takes-2.ensures.0 refl in
          let first : c.args.pins.first ≡ into c.args.unit 0 c.args.net.now.chans = ap (λ (q : Pins). q.first) c.requires.pins in
          let F : ℕ → Type 0 = IsFullMarked c.args.net.now (state_of c.args.self.now.state) (length c.fire.new.self.marks.marked.items) w.rouse_fork.new.self.marks in
          let full : F c.args.pins.first = elim c.if-takes.branch [
            | then-takes v ↦ λ l. w.in_ok-rouse_fork.ensures.merge (v.full-is ∙ v.is_full-full.ensures.1 l)
            | else-takes v ↦ absurd (some (none_of c.takes.result _ v.if-takes.false c.takes.ensures))
          ] in
          let ended = send_took c.args.net.now past c.args.bounds c.args.now start marks q c.args.unit c.args.out t c.fire.new.self made c.in-Some.planned planned c.net.ensures.checked ready fork
          c.in_ok-fire.ensures.again c.in_ok-fire.ensures.marks w.rouse_fork.new.self.marks w.in_ok-rouse_fork.ensures.kept c.requires.within w.in_ok-rouse_fork.ensures.own (subst F first full) in
          let Q : Engine → Type 0 = λ e. S e true in
          subst (S c.if-takes-2.self) (sym (c.takes-3.ensures.1 some)) (subst Q (sym (w.self-is ∙ w.in_ok-rouse_fork.ensures.rest)) ended)
      | else-takes-2 w ↦
          let none = none_of c.takes-2.result _ w.if-takes-2.false c.takes-2.ensures in
          let left = send_put c.args.net.now past c.args.bounds c.args.now start marks q c.args.unit c.args.out t c.fire.new.self made c.in-Some.planned planned c.net.ensures.checked ready fork
          c.in_ok-fire.ensures.again c.in_ok-fire.ensures.marks none in
          let Q : Engine → Type 0 = λ e. S e false in
          subst (S c.if-takes-2.self) (sym (took_none c.takes-3.result _ none c.takes-3.ensures)) (subst Q (sym w.self-is) left)
    ]
