use Rattle.cycle_engine.proofs.FromLemmas.{from_follows, from_passed, from_made}
use Rattle.cycle_engine.proofs.TurnLemmas.{exit_broken}
use Rattle.cycle_engine.proofs.UsedLemmas.{from_place, place_within}
use Rattle.net_types.specs.declared.firing.Act.TheVariants.{From}
use Rattle.net_types.specs.Nets.{firing}
use Rattle.std.proofs.Common.{length, refl}
use Rattle.cycle_engine.proofs.engine.Engine.fires_from.Goals as goal

pub number-at-requires : goal.number-at-requires
number-at-requires c =
    place_within c.args.net.now c.args.self.now.used.base.items (length c.args.self.now.used.last.items) (firing c.args.unit (From c.args.input)) c.requires.ready.places
    (from_place c.args.net.now c.args.unit c.args.ins c.args.input c.requires.within c.requires.kind c.requires.input)

pub returns-then-is_used-clause-tried : goal.returns-then-is_used-clause-tried
returns-then-is_used-clause-tried c past start marks t =
    from_passed c.args.net.now past c.args.bounds c.args.now start c.args.self.now c.args.unit c.args.ins c.requires.kind c.net.ensures.checked t.going marks c.args.input c.requires.into (λ un m. c.if-is_used.ensures.used refl un) t

pub returns-in_default-clause-tried : goal.returns-in_default-clause-tried
returns-in_default-clause-tried c past start marks t =
    from_passed c.args.net.now past c.args.bounds c.args.now start c.args.self.now c.args.unit c.args.ins c.requires.kind c.net.ensures.checked t.going marks c.args.input c.requires.into
    (λ un m. c.in_default.ensures.may start t.going.began m) t

pub returns-in_err-fire-clause-tried : goal.returns-in_err-fire-clause-tried
returns-in_err-fire-clause-tried c past start marks t =
    exit_broken _ _ c.from_residual.result c.in_err-fire.field-0.0 c.from_residual.ensures.1
    (c.in_err-fire.ensures.tried past start t.going
    (from_follows c.args.net.now past c.args.bounds c.args.now start c.args.self.now c.args.unit c.args.ins c.requires.kind c.net.ensures.checked t.going marks c.args.input c.requires.into t))

pub returns-clause-tried : goal.returns-clause-tried
returns-clause-tried c past start marks t =
    let made = c.in_ok-fire.ensures.tried past start t.going
    (from_follows c.args.net.now past c.args.bounds c.args.now start c.args.self.now c.args.unit c.args.ins c.requires.kind c.net.ensures.checked t.going marks c.args.input c.requires.into t) in
    from_made c.args.net.now past c.args.bounds c.args.now start c.args.self.now c.args.unit c.args.ins c.requires.kind c.net.ensures.checked t.going marks c.args.input c.requires.into c.fire.new.self made c.in-Some.planned
    c.in-Some.ensures.planned c.requires.ready c.in_ok-fire.ensures.again c.in_ok-fire.ensures.marks c.requires.within t
