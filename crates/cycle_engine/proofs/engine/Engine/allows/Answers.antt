use Rattle.cycle_engine.proofs.MakeLemmas.{moves_within}
use Rattle.cycle_engine.proofs.engine.Engine.allows.Goals as goal

pub are_ripe-requires-clause-within : goal.are_ripe-requires-clause-within
are_ripe-requires-clause-within c = moves_within c.args.net.now c.args.self.now c.args.firing c.args.planned.now.plan c.args.planned.now.moves c.requires.moves c.requires.engine c.requires.effect
