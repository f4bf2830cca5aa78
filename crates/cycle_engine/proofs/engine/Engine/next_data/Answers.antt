use Rattle.std.proofs.Common.{arith}
use Rattle.net_types.specs.declared.firing.Act.TheVariants.{Data}
use Rattle.net_core.specs.States.{state_of}
use Rattle.cycle_engine.proofs.PlaceLemmas.{no_ports}
use Rattle.cycle_engine.proofs.engine.Engine.next_data.Goals as goal

pub returns-in_default : goal.returns-in_default
returns-in_default c = no_ports c.args.net.now (state_of c.args.self.now.state) c.args.unit (Data 0) c.args.from c.in_default.ensures (omega arith)
