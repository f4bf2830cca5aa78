use Rattle.std.proofs.Common.{◌<◌, Option, IsSomeAnd, subst, arith}
use Rattle.net_core.specs.Fire.{Effect, enabled, has_room}
use Rattle.net_core.specs.States.{state_of}
use Rattle.net_replay.proofs.WayLemmas.{way_one}
use Rattle.net_replay.proofs.visits.try_act.Goals as goal

pub returns-clause-made : goal.returns-clause-made
returns-clause-made c =
    let l : c.args.made < c.args.bounds.limit = omega (arith, c.requires.may.within) in
    let P : Option Effect → Type 0 = λ o. IsSomeAnd o (λ e. has_room c.args.net.now (state_of c.args.state.now) c.args.firing.unit e.put) in
    let on : enabled c.args.net.now (state_of c.args.state.now) c.args.firing = subst P c.in-Some.ensures.effect (c.has_room.ensures.0 c.if-not-has_room.false) in
    way_one c.args.net.now (state_of c.args.state.now) (state_of c.make.new.self) c.args.bounds.limit c.args.bounds.keep c.args.made c.args.firing c.args.log.now c.note.new.log
    c.requires.may l on c.make.ensures.state c.make.ensures.counts c.note.ensures
