use Rattle.std.proofs.Common.{◌∙◌, ap, min}
use Rattle.net_core.specs.States.{state_of}
use Rattle.cycle_engine.proofs.PlaceLemmas.{number_none, number_least}
use Rattle.cycle_engine.proofs.engine.Engine.next_number.Goals as goal

pub returns-in-None-clause-next : goal.returns-in-None-clause-next
returns-in-None-clause-next c on = number_none c.args.net.now (state_of c.args.self.now.state) c.args.unit c.args.kind c.args.from c.args.count (c.in-None.ensures on) c.requires.within

pub returns-in-Some-clause-next : goal.returns-in-Some-clause-next
returns-in-Some-clause-next c on =
    number_least c.args.net.now (state_of c.args.self.now.state) c.args.unit c.args.kind c.args.from c.in-Some.number c.args.count c.min.result (c.in-Some.ensures on) c.requires.within (c.min.ensures ∙ ap (λ n. min n c.args.count) c.max.ensures)
