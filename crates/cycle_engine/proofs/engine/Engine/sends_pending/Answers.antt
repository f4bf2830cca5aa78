use Rattle.std.proofs.Common.{◌≡◌, ◌∙◌, ◌+◌, ◌<◌, ◌≤◌, ℕ, Bool, true, false, length, get_or, sym, ap, subst, arith, rules}
use Rattle.std.proofs.lemmas.List.{get_or_default}
use Rattle.cycle_engine.specs.declared.broken.Broken.TheVariants as broken
use Rattle.cycle_engine.specs.declared.pending.Pending.{Pending}
use Rattle.cycle_engine.specs.private.Pending.{IsShut}
use Rattle.cycle_engine.specs.private.Places.{AreLeft, IsSent}
use Rattle.cycle_engine.proofs.PendingLemmas.{left_ended, left_kept, left_next, next_shut, shut_passed, walk_room}
use Rattle.cycle_engine.proofs.SendLemmas.{fork_out, out_listed}
use Rattle.cycle_engine.proofs.TurnLemmas.{exit_broken}
use Rattle.cycle_engine.proofs.engine.Engine.sends_pending.Goals as goal

pub overflow_add-base : goal.overflow_add-base
overflow_add-base c =
    let w = walk_room c.args.net.now (length c.args.self.now.used.last.items) c.args.unit c.args.outs c.args.self.now.used.base.items c.args.self.now.pending c.requires.ready.places c.requires.ready.pending c.requires.within c.requires.fork c.requires.some in
    let a = w.1 in
    let b = c.base-base.ensures in
    omega arith

pub next-out-requires-clause-within : goal.next-out-requires-clause-within
next-out-requires-clause-within c =
    let w = walk_room c.args.net.now (length c.args.self.now.used.last.items) c.args.unit c.args.outs c.args.self.now.used.base.items c.args.self.now.pending c.requires.ready.places c.requires.ready.pending c.requires.within c.requires.fork c.requires.some in
    let a = w.0 in
    let b = c.base-base.ensures in
    omega arith

pub next-out-requires-clause-small : goal.next-out-requires-clause-small
next-out-requires-clause-small c =
    let w = walk_room c.args.net.now (length c.args.self.now.used.last.items) c.args.unit c.args.outs c.args.self.now.used.base.items c.args.self.now.pending c.requires.ready.places c.requires.ready.pending c.requires.within c.requires.fork c.requires.some in
    let a = w.1 in
    let b = c.base-base.ensures in
    omega arith

pub loop-out-init : goal.loop-out-init
loop-out-init c = record {
  ready = c.requires.ready;
  less = omega arith;
  base = c.base-base.ensures;
  ripe = c.requires.ripe;
  noted = c.requires.noted;
  most = c.next-out.ensures.at_most;
  left = left_next c.args.self.now c.args.unit 0 c.next-out.result shut (λ j l. absurd (omega arith));
  tried = λ past start marks t. shut_passed c.args.net.now past c.args.bounds c.args.now start marks c.args.self.now c.args.unit c.args.outs c.requires.within c.requires.fork 0 c.next-out.result shut t;
}
  where
    shut : (j : ℕ) → 0 ≤ j → j < c.next-out.result → IsShut c.args.self.now.pending c.args.self.now.used.base.items c.args.unit j
    shut = next_shut c.args.self.now.pending c.args.self.now.used.base.items c.args.unit (c.base-base.result + 1) 0 c.args.outs c.next-out.result (ap (λ n. n + 1) c.base-base.ensures) c.requires.noted c.next-out.ensures

-- each output has a channel, and the list tells it
pub bounds-chans-out : goal.bounds-chans-out
bounds-chans-out c =
    let within = fork_out c.args.net.now c.args.unit c.args.outs c.loop-out.out c.net.ensures.checked c.requires.within c.requires.fork c.loop-out-test.true in
    out_listed c.outs_of-chans.result.now (length c.args.net.now.chans) c.loop-out.out (let e = c.outs_of-chans.ensures c.loop-out.out in omega (arith, within, e))

pub send-requires-clause-there : goal.send-requires-clause-there
send-requires-clause-there c =
    let within = fork_out c.args.net.now c.args.unit c.args.outs c.loop-out.out c.net.ensures.checked c.requires.within c.requires.fork c.loop-out-test.true in
    let e = c.outs_of-chans.ensures c.loop-out.out in
    get_or_default c.outs_of-chans.result.now c.loop-out.out 0 (length c.args.net.now.chans) (out_listed c.outs_of-chans.result.now (length c.args.net.now.chans) c.loop-out.out (omega (arith, within, e))) ∙ e

pub leave-requires-clause-there : goal.leave-requires-clause-there
leave-requires-clause-there c =
    let within = fork_out c.args.net.now c.args.unit c.args.outs c.loop-out.out c.net.ensures.checked c.requires.within c.requires.fork c.loop-out-test.true in
    let e = c.outs_of-chans.ensures c.loop-out.out in
    get_or_default c.outs_of-chans.result.now c.loop-out.out 0 (length c.args.net.now.chans) (out_listed c.outs_of-chans.result.now (length c.args.net.now.chans) c.loop-out.out (omega (arith, within, e))) ∙ e

pub leave-requires-clause-chan : goal.leave-requires-clause-chan
leave-requires-clause-chan c =
    let within = fork_out c.args.net.now c.args.unit c.args.outs c.loop-out.out c.net.ensures.checked c.requires.within c.requires.fork c.loop-out-test.true in
    let e = c.outs_of-chans.ensures c.loop-out.out in
    let same = get_or_default c.outs_of-chans.result.now c.loop-out.out 0 (length c.args.net.now.chans) (out_listed c.outs_of-chans.result.now (length c.args.net.now.chans) c.loop-out.out (omega (arith, within, e))) ∙ e in
    let P : ℕ → Type 0 = λ d. d < length c.args.net.now.chans in
    subst P (sym same) within

pub returns-in_err-send : goal.returns-in_err-send
returns-in_err-send c = record {
  ready = search rules;
  less = search rules;
  tried = λ past start marks t. exit_broken _ _ c.from_residual.result c.in_err-send.field-0.0 c.from_residual.ensures.1 (c.in_err-send.ensures.tried past start marks (c.loop-out.invariant.tried past start marks t));
}

pub returns-then-branch : goal.returns-then-branch
returns-then-branch c = record {
  ready = c.in_ok-send.ensures.ready;
  less = (let a = c.loop-out.invariant.less in let b = c.in_ok-send.ensures.less in omega arith);
  tried = λ past start marks t.
      (let S : Bool → Type 0 = IsSent c.args.net.now past c.args.bounds c.args.now start marks c.send.new.self c.args.unit c.loop-out.out in
      subst S c.if-branch.true (c.in_ok-send.ensures.tried past start marks (c.loop-out.invariant.tried past start marks t)));
}

pub returns-in_err-leave : goal.returns-in_err-leave
returns-in_err-leave c = record {
  ready = search rules;
  less = search rules;
  tried = λ past start marks t. exit_broken _ _ c.from_residual-in_err-leave.result broken.Memory c.from_residual-in_err-leave.ensures.1 tt;
}

pub overflow_add-base-in-loop-out : goal.overflow_add-base-in-loop-out
overflow_add-base-in-loop-out c =
    let w = walk_room c.args.net.now (length c.args.self.now.used.last.items) c.args.unit c.args.outs c.args.self.now.used.base.items c.args.self.now.pending c.requires.ready.places c.requires.ready.pending c.requires.within c.requires.fork c.requires.some in
    let a = w.1 in
    let b = c.base-base.ensures in
    omega arith

pub next-out-requires-in-loop-out-clause-within : goal.next-out-requires-in-loop-out-clause-within
next-out-requires-in-loop-out-clause-within c =
    let ready = c.in_ok-leave.ensures.ready in
    let w = walk_room c.args.net.now (length c.leave.new.self.used.last.items) c.args.unit c.args.outs c.leave.new.self.used.base.items c.leave.new.self.pending ready.places ready.pending c.requires.within c.requires.fork c.requires.some in
    let a = w.0 in
    let b : c.base-base.result ≡ get_or c.leave.new.self.used.base.items c.args.unit 0 = c.loop-out.invariant.base ∙ ap (λ v. get_or v.items c.args.unit 0) (sym (c.in_ok-leave.ensures.base ∙ c.in_ok-send.ensures.base)) in
    omega arith

pub next-out-requires-in-loop-out-clause-small : goal.next-out-requires-in-loop-out-clause-small
next-out-requires-in-loop-out-clause-small c =
    let w = walk_room c.args.net.now (length c.args.self.now.used.last.items) c.args.unit c.args.outs c.args.self.now.used.base.items c.args.self.now.pending c.requires.ready.places c.requires.ready.pending c.requires.within c.requires.fork c.requires.some in
    let a = w.1 in
    let b = c.base-base.ensures in
    omega arith

pub loop-out-preserved : goal.loop-out-preserved
loop-out-preserved c = record {
  ready = c.in_ok-leave.ensures.ready;
  less = (let a = c.loop-out.invariant.less in let b = c.in_ok-send.ensures.less in let d = c.in_ok-leave.ensures.less in omega arith);
  base = base;
  ripe = c.in_ok-leave.ensures.ripe;
  noted = noted;
  most = c.next-out-in-loop-out.ensures.at_most;
  left = left_next c.leave.new.self c.args.unit (c.loop-out.out + 1) c.next-out-in-loop-out.result shut (c.in_ok-leave.ensures.left left);
  tried = λ past start marks t.
      (let S : Bool → Type 0 = IsSent c.args.net.now past c.args.bounds c.args.now start marks c.send.new.self c.args.unit c.loop-out.out in
      shut_passed c.args.net.now past c.args.bounds c.args.now start marks c.leave.new.self c.args.unit c.args.outs c.requires.within c.requires.fork (c.loop-out.out + 1) c.next-out-in-loop-out.result shut
      (c.in_ok-leave.ensures.tried past start marks (c.loop-out.out + 1) (subst S c.if-branch.false (c.in_ok-send.ensures.tried past start marks (c.loop-out.invariant.tried past start marks t)))));
}
  where
    base : c.base-base.result ≡ get_or c.leave.new.self.used.base.items c.args.unit 0
    base = c.loop-out.invariant.base ∙ ap (λ v. get_or v.items c.args.unit 0) (sym (c.in_ok-leave.ensures.base ∙ c.in_ok-send.ensures.base))

    noted : get_or c.leave.new.self.pending.noted.items c.args.unit false ≡ true
    noted = ap (λ v. get_or v.items c.args.unit false) c.in_ok-leave.ensures.noted ∙ (ap (λ (p : Pending). get_or p.noted.items c.args.unit false) (c.in_ok-send.ensures.pending c.if-branch.false) ∙ c.loop-out.invariant.noted)

    left : AreLeft c.send.new.self c.args.unit c.loop-out.out
    left = left_kept c.loop-out.self c.send.new.self c.args.unit c.loop-out.out (c.in_ok-send.ensures.pending c.if-branch.false) c.in_ok-send.ensures.base c.in_ok-send.ensures.again c.loop-out.invariant.left

    shut : (j : ℕ) → c.loop-out.out + 1 ≤ j → j < c.next-out-in-loop-out.result → IsShut c.leave.new.self.pending c.leave.new.self.used.base.items c.args.unit j
    shut = next_shut c.leave.new.self.pending c.leave.new.self.used.base.items c.args.unit (c.base-base.result + 1) (c.loop-out.out + 1) c.args.outs c.next-out-in-loop-out.result (ap (λ n. n + 1) base) noted c.next-out-in-loop-out.ensures

pub returns : goal.returns
returns c = record {
  ready = c.loop-out.invariant.ready;
  less = c.loop-out.invariant.less;
  tried = λ past start marks t. left_ended c.args.net.now past c.args.bounds c.args.now start marks c.loop-out.self c.args.unit c.args.outs c.requires.within c.requires.fork c.loop-out.out (let z = c.loop-out-test.false in omega arith)
      c.loop-out.invariant.left (c.loop-out.invariant.tried past start marks t);
}
