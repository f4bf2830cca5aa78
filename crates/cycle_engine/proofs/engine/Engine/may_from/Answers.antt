use Rattle.std.proofs.Common.{refl}
use Rattle.std.proofs.lemmas.Bool.{false≢true}
use Rattle.net_types.specs.declared.firing.Act.TheVariants.{From}
use Rattle.net_types.specs.Nets.{firing}
use Rattle.cycle_engine.proofs.FromLemmas.{from_moves}
use Rattle.cycle_engine.proofs.UsedLemmas.{may_of, may_parts}
use Rattle.cycle_engine.proofs.engine.Engine.may_from.Goals as goal

pub allows-requires-clause-moves : goal.allows-requires-clause-moves
allows-requires-clause-moves c =
    from_moves c.args.net.now c.args.self.now.state c.args.unit c.args.ins c.args.input c.args.self.now.control c.in_ok-plan.plan c.args.pins c.moves_from.result c.requires.kind c.requires.into c.requires.pins c.in_ok-plan.ensures.effect
    c.moves_from.ensures

pub returns-then-allows-clause-planned : goal.returns-then-allows-clause-planned
returns-then-allows-clause-planned c = record {
  effect = c.in_ok-plan.ensures.effect;
  moves = from_moves c.args.net.now c.args.self.now.state c.args.unit c.args.ins c.args.input c.args.self.now.control c.in_ok-plan.plan c.args.pins c.moves_from.result c.requires.kind c.requires.into c.requires.pins
      c.in_ok-plan.ensures.effect c.moves_from.ensures;
  apart = c.in_ok-plan.ensures.apart;
  admits = c.in_ok-plan.ensures.admits;
  room = (c.if-allows.ensures.0 refl).room;
}

pub returns-then-allows-clause-may : goal.returns-then-allows-clause-may
returns-then-allows-clause-may c start b =
    may_of c.args.net.now c.args.now c.args.self.now start (firing c.args.unit (From c.args.input)) c.in_ok-plan.plan c.in_ok-plan.ensures.effect (c.if-allows.ensures.0 refl) b

pub returns-else-allows-clause-may : goal.returns-else-allows-clause-may
returns-else-allows-clause-may c start b m =
    false≢true (c.if-allows.ensures.1 (may_parts c.args.net.now c.args.now c.args.self.now start (firing c.args.unit (From c.args.input)) c.in_ok-plan.plan c.in_ok-plan.ensures.effect b m))
