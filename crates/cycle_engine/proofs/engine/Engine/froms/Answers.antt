use Rattle.std.proofs.Common.{rules, arith, ◌≡◌, ◌∙◌, None, sym}
use Rattle.std.proofs.lemmas.Bool.{false≢true}
use Rattle.cycle_engine.proofs.FromLemmas.{none_ended, unripe_from, headless_ended, from_again}
use Rattle.cycle_engine.proofs.TurnLemmas.{ready_again}
use Rattle.cycle_engine.proofs.engine.Engine.froms.Goals as goal

pub returns-in_default : goal.returns-in_default
returns-in_default c = record {
  ready = c.requires.ready;
  less = omega arith;
  tried = λ past start marks t. none_ended c.args.net.now past c.args.bounds c.args.now start c.args.self.now c.args.unit c.args.ins c.requires.kind c.net.ensures.checked t.going marks c.in_default.ensures t;
}

pub returns-then-not-has_ripe_head : goal.returns-then-not-has_ripe_head
returns-then-not-has_ripe_head c = record {
  ready = c.requires.ready;
  less = omega arith;
  tried = λ past start marks t. unripe_from c.args.net.now past c.args.bounds c.args.now start c.args.self.now c.args.unit c.args.ins c.requires.kind c.net.ensures.checked t.going marks
      (λ r. false≢true (sym c.if-not-has_ripe_head.true ∙ c.has_ripe_head.ensures.1 r)) t;
}

pub returns-then-is_none : goal.returns-then-is_none
returns-then-is_none c =
    let e : c.head.result ≡ None = search rules in
    record {
      ready = c.in_ok-fires_from.ensures.ready;
      less = c.in_ok-fires_from.ensures.less;
      tried = λ past start marks t.
          (let done = c.in_ok-fires_from.ensures.tried past start marks t in
          headless_ended c.args.net.now past c.args.bounds c.args.now start c.fires_from.new.self c.args.unit c.args.ins c.requires.kind c.net.ensures.checked done.going marks (sym c.head.ensures ∙ e) done);
    }

pub returns : goal.returns
returns c = record {
  ready = ready_again c.args.net.now c.args.bounds c.fires_from.new.self c.push.new.self c.in_ok-fires_from.ensures.ready;
  less = c.in_ok-fires_from.ensures.less;
  tried = λ past start marks t.
      from_again c.args.net.now past c.args.bounds c.args.now start marks c.fires_from.new.self c.push.new.self c.args.unit c.in_ok-push.ensures (c.in_ok-fires_from.ensures.tried past start marks t);
}
