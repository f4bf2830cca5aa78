use Rattle.std.proofs.Common.{◌≡◌, ◌∙◌, ℕ, rules, false, Option, Some, None, refl, sym, subst, arith}
use Rattle.std.specs.Option.{is_some}
use Rattle.net_types.specs.declared.firing.Act.TheVariants.{Go}
use Rattle.net_types.specs.Nets.{firing, kind_of}
use Rattle.net_check.specs.declared.pins.Pins.{Pins}
use Rattle.net_core.specs.Fire.{first, tokens_at}
use Rattle.net_core.specs.States.{state_of}
use Rattle.cycle_engine.proofs.GoLemmas.{go_next, goes_plain}
use Rattle.cycle_engine.proofs.TurnLemmas.{ready_again, turn_follows, exit_broken}
use Rattle.cycle_engine.proofs.UnitTurnLemmas.{go_passed, go_again, go_starved, go_on, straight_made}
use Rattle.cycle_engine.proofs.engine.Engine.go.Goals as goal

-- it may not be made
pub returns-in_default : goal.returns-in_default
returns-in_default c = record {
  ready = c.requires.ready;
  less = omega arith;
  tried = λ past start marks t. go_passed c.args.net.now past c.args.bounds c.args.now start marks c.args.self.now c.args.unit c.requires.goes c.requires.unused (c.in_default.ensures.may start t.going.began) t;
}

pub returns-in_err-fire : goal.returns-in_err-fire
returns-in_err-fire c = record {
  ready = search rules;
  less = search rules;
  tried = λ past start marks t. exit_broken _ _ c.from_residual.result c.in_err-fire.field-0.0 c.from_residual.ensures.1
      (c.in_err-fire.ensures.tried past start t.going
      (turn_follows c.args.net.now past c.args.bounds c.args.now start marks c.args.self.now (firing c.args.unit Go) 0 0 t (go_next c.args.net.now (state_of c.args.self.now.state) c.args.unit)));
}

-- the unit may have another token
pub returns-in_ok-push : goal.returns-in_ok-push
returns-in_ok-push c =
    let next = go_next c.args.net.now (state_of c.args.self.now.state) c.args.unit in
    let plain = goes_plain (kind_of c.args.net.now c.args.unit) c.requires.goes in
    let few = c.in_ok-fire.ensures.more in
    let list = c.in_ok-fire.ensures.list in
    let within = c.in_ok-fire.ensures.ready.within in
    record {
      ready = ready_again c.args.net.now c.args.bounds c.fire.new.self c.push.new.self c.in_ok-fire.ensures.ready;
      less = omega arith;
      tried = λ past start marks t. go_again c.args.net.now past c.args.bounds c.args.now start marks c.args.self.now c.fire.new.self c.args.unit c.push.new.self c.in_ok-push.ensures
          (go_on c.args.net.now past c.args.bounds c.args.now start marks c.args.self.now c.fire.new.self c.args.unit
          (straight_made c.args.net.now past c.args.bounds c.args.now start marks c.args.self.now (firing c.args.unit Go) 0 0 t next c.fire.new.self
          (c.in_ok-fire.ensures.tried past start t.going (turn_follows c.args.net.now past c.args.bounds c.args.now start marks c.args.self.now (firing c.args.unit Go) 0 0 t next))
          c.in-Some.planned c.in-Some.ensures.planned c.net.ensures.checked c.requires.ready plain.0 c.in_ok-fire.ensures.again plain.1 c.in_ok-fire.ensures.marks));
    }

-- it has none, and asks for one
pub returns-else-is_some : goal.returns-else-is_some
returns-else-is_some c =
    let next = go_next c.args.net.now (state_of c.args.self.now.state) c.args.unit in
    let plain = goes_plain (kind_of c.args.net.now c.args.unit) c.requires.goes in
    let few = c.in_ok-fire.ensures.more in
    let list = c.in_ok-fire.ensures.list in
    let within = c.in_ok-fire.ensures.ready.within in
    let none = is_none c.head.result (sym c.is_some.ensures ∙ c.if-is_some.false) in
    let H : Pins → Type 0 = λ q. first (tokens_at (state_of c.fire.new.self.state) q.first) ≡ None in
    record {
      ready = c.in_ok-fire.ensures.ready;
      less = omega arith;
      tried = λ past start marks t. go_starved c.args.net.now past c.args.bounds c.args.now start marks c.args.self.now c.fire.new.self c.args.unit
          (c.requires.asks c.if-not-asks.false, subst H c.requires.pins (sym c.head.ensures ∙ none))
          (go_on c.args.net.now past c.args.bounds c.args.now start marks c.args.self.now c.fire.new.self c.args.unit
          (straight_made c.args.net.now past c.args.bounds c.args.now start marks c.args.self.now (firing c.args.unit Go) 0 0 t next c.fire.new.self
          (c.in_ok-fire.ensures.tried past start t.going (turn_follows c.args.net.now past c.args.bounds c.args.now start marks c.args.self.now (firing c.args.unit Go) 0 0 t next))
          c.in-Some.planned c.in-Some.ensures.planned c.net.ensures.checked c.requires.ready plain.0 c.in_ok-fire.ensures.again plain.1 c.in_ok-fire.ensures.marks));
    }
  where
    is_none : (o : Option ℕ) → is_some o ≡ false → o ≡ None
    is_none None e = refl
    is_none (Some v) e = cc
