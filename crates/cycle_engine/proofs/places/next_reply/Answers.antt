use Rattle.std.proofs.Common.{arith}
use Rattle.net_types.specs.declared.firing.Act.TheVariants.{Reply}
use Rattle.net_core.specs.States.{state_of}
use Rattle.cycle_engine.proofs.PlaceLemmas.{no_ports, told_reply}
use Rattle.cycle_engine.proofs.places.next_reply.Goals as goal

pub returns-in_default : goal.returns-in_default
returns-in_default c = no_ports c.args.net.now (state_of c.args.state.now) c.args.unit (Reply 0) c.args.from c.in_default.ensures (omega arith)

pub returns : goal.returns
returns c = told_reply c.args.net.now (state_of c.args.state.now) c.args.unit c.in-Some.queue.now c.in-Some.ensures c.args.from c.next_reply.result c.next_reply.ensures
