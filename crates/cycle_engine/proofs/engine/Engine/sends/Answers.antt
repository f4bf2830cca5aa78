use Rattle.std.proofs.Common.{◌∙◌, ◌≤◌, Bool, inr, length, get_or, sym, ap, subst, arith, rules}
use Rattle.std.proofs.lemmas.Bool.{false≢true}
use Rattle.std.proofs.lemmas.List.{get_or_default}
use Rattle.net_check.specs.declared.pins.Pins.{Pins}
use Rattle.net_core.specs.States.{dates_of}
use Rattle.net_core.specs.Uses.{is_fork}
use Rattle.net_types.specs.Nets.{kind_of}
use Rattle.cycle_engine.specs.private.Places.{IsSent, outputs_in}
use Rattle.cycle_engine.specs.private.Trials.{RipeAt}
use Rattle.cycle_engine.proofs.SendLemmas.{fork_out, out_listed, unripe_ended, sends_done, sends_again, sent_told}
use Rattle.cycle_engine.specs.private.Goings.{to_visit}
use Rattle.cycle_engine.proofs.PendingLemmas.{ok_as}
use Rattle.cycle_engine.proofs.TurnLemmas.{exit_broken, ready_again}
use Rattle.cycle_engine.proofs.engine.Engine.sends.Goals as goal

pub returns-then-not-has_ripe_head : goal.returns-then-not-has_ripe_head
returns-then-not-has_ripe_head c =
    let R : Pins → Type 0 = λ q. RipeAt c.args.net.now c.args.now (dates_of c.args.self.now.state) q.first in
    record {
      ready = c.requires.ready;
      less = omega arith;
      tried = λ past start marks t. unripe_ended c.args.net.now past c.args.bounds c.args.now start marks c.args.self.now c.args.unit (ap is_fork c.requires.fork.shape)
          (λ r. false≢true (sym c.if-not-has_ripe_head.true ∙ c.has_ripe_head.ensures.1 (subst R (sym c.requires.pins) r))) t;
    }

-- each output has a channel, and the list tells it
pub bounds-chans-out : goal.bounds-chans-out
bounds-chans-out c =
    let within = fork_out c.args.net.now c.args.unit c.args.outs c.loop-out.out c.net.ensures.checked c.requires.within c.requires.fork c.loop-out-test.true in
    out_listed c.outs_of-chans.result.now (length c.args.net.now.chans) c.loop-out.out (let e = c.outs_of-chans.ensures c.loop-out.out in omega (arith, within, e))

pub send-requires-clause-there : goal.send-requires-clause-there
send-requires-clause-there c =
    let within = fork_out c.args.net.now c.args.unit c.args.outs c.loop-out.out c.net.ensures.checked c.requires.within c.requires.fork c.loop-out-test.true in
    let e = c.outs_of-chans.ensures c.loop-out.out in
    get_or_default c.outs_of-chans.result.now c.loop-out.out 0 (length c.args.net.now.chans) (out_listed c.outs_of-chans.result.now (length c.args.net.now.chans) c.loop-out.out (omega (arith, within, e))) ∙ e

pub returns-in_err-send : goal.returns-in_err-send
returns-in_err-send c = record {
  ready = search rules;
  less = search rules;
  tried = λ past start marks t. exit_broken _ _ c.from_residual.result c.in_err-send.field-0.0 c.from_residual.ensures.1 (c.in_err-send.ensures.tried past start marks (c.loop-out.invariant.tried past start marks t));
}

pub returns-then-branch : goal.returns-then-branch
returns-then-branch c = record {
  ready = c.in_ok-send.ensures.ready;
  less = (let a = c.loop-out.invariant.less in let b = c.in_ok-send.ensures.less in omega arith);
  tried = λ past start marks t.
      (let S : Bool → Type 0 = IsSent c.args.net.now past c.args.bounds c.args.now start marks c.send.new.self c.args.unit c.loop-out.out in
      subst S c.if-branch.true (c.in_ok-send.ensures.tried past start marks (c.loop-out.invariant.tried past start marks t)));
}

pub loop-out-preserved : goal.loop-out-preserved
loop-out-preserved c = record {
  ready = c.in_ok-send.ensures.ready;
  less = (let a = c.loop-out.invariant.less in let b = c.in_ok-send.ensures.less in omega arith);
  base = c.loop-out.invariant.base ∙ ap (λ v. get_or v.items c.args.unit 0) (sym c.in_ok-send.ensures.base);
  ripe = c.in_ok-send.ensures.kept c.if-branch.false;
  told = c.in_ok-send.ensures.told c.if-branch.false c.args.self.now c.loop-out.invariant.told;
  tried = λ past start marks t.
      (let S : Bool → Type 0 = IsSent c.args.net.now past c.args.bounds c.args.now start marks c.send.new.self c.args.unit c.loop-out.out in
      subst S c.if-branch.false (c.in_ok-send.ensures.tried past start marks (c.loop-out.invariant.tried past start marks t)));
}

pub returns-in_ok-push : goal.returns-in_ok-push
returns-in_ok-push c =
    let most : outputs_in (kind_of c.args.net.now c.args.unit) ≤ c.loop-out.out = (let e = ap outputs_in c.requires.fork.shape in omega (arith, c.loop-out-test.false)) in
    record {
      ready = ready_again c.args.net.now c.args.bounds c.loop-out.self c.push.new.self c.loop-out.invariant.ready;
      less = c.loop-out.invariant.less;
      tried = λ past start marks t. sends_again c.args.net.now past c.args.bounds c.args.now start marks c.loop-out.self c.args.unit (ap is_fork c.requires.fork.shape) c.loop-out.out c.push.new.self most c.in_ok-push.ensures
          (c.loop-out.invariant.tried past start marks t);
    }

pub returns-else-len-before : goal.returns-else-len-before
returns-else-len-before c =
    let most : outputs_in (kind_of c.args.net.now c.args.unit) ≤ c.loop-out.out = (let e = ap outputs_in c.requires.fork.shape in omega (arith, c.loop-out-test.false)) in
    let all : c.args.outs ≤ c.loop-out.out = omega (arith, c.loop-out-test.false) in
    let few : length c.loop-out.self.fired.items ≤ length c.args.self.now.fired.items = (let a = c.len-before.ensures in let b = c.len.ensures in omega (arith, c.if-len-before.false)) in
    record {
      ready = c.loop-out.invariant.ready;
      less = c.loop-out.invariant.less;
      tried = λ past start marks t.
          (let left = c.loop-out.invariant.tried past start marks t in
          record {
            turn = sends_done c.args.net.now past c.args.bounds c.args.now start marks c.loop-out.self c.args.unit (ap is_fork c.requires.fork.shape) c.loop-out.out most left;
            own = λ a h k. inr (sent_told c.args.net.now past c.args.bounds c.args.now start c.args.self.now c.loop-out.self c.args.unit c.args.outs c.loop-out.out c.requires.within c.requires.fork left.going all c.loop-out.invariant.told few h);
          });
    }

pub returns-then-is_slow : goal.returns-then-is_slow
returns-then-is_slow c =
    let most : outputs_in (kind_of c.args.net.now c.args.unit) ≤ c.loop-out.out = (let e = ap outputs_in c.requires.fork.shape in omega (arith, c.loop-out-test.false)) in
    record {
      ready = c.note_pending.ensures.ready;
      less = ok_as c.note_pending.result (to_visit c.args.bounds c.note_pending.new.self ≤ to_visit c.args.bounds c.loop-out.self) (to_visit c.args.bounds c.note_pending.new.self ≤ to_visit c.args.bounds c.args.self.now)
          (λ l. let a = c.loop-out.invariant.less in omega arith) c.note_pending.ensures.less;
      tried = λ past start marks t. c.note_pending.ensures.tried past start marks
          (sends_done c.args.net.now past c.args.bounds c.args.now start marks c.loop-out.self c.args.unit (ap is_fork c.requires.fork.shape) c.loop-out.out most (c.loop-out.invariant.tried past start marks t));
    }
