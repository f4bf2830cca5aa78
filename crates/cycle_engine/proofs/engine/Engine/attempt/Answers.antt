use Rattle.std.proofs.Common.{refl}
use Rattle.cycle_engine.proofs.UsedLemmas.{place_within}
use Rattle.cycle_engine.proofs.engine.Engine.attempt.Goals as goal

pub returns-in_default-clause-tried : goal.returns-in_default-clause-tried
returns-in_default-clause-tried c past start going follow = record { same = refl; refused = λ un m. c.in_default.ensures.may start going.began m }

pub number-at-requires : goal.number-at-requires
number-at-requires c = place_within c.args.net.now c.args.self.now.used.base.items _ c.args.firing c.requires.ready.places c.requires.place
