use Rattle.std.proofs.Common.{arith}
use Rattle.net_core.proofs.StateLemmas.{raised_in, raised_past}
use Rattle.net_core.proofs.steps.raise.Goals as goal

pub returns-then-at-len : goal.returns-then-at-len
returns-then-at-len c = raised_in c.args.strays.now.items c.args.array c.index_mut.result.now (search (arith, c.args.strays.now.ok.0)) c.index_mut.ensures.value

pub returns-else-at-len : goal.returns-else-at-len
returns-else-at-len c = raised_past c.args.strays.now.items c.args.array (search (arith, c.args.strays.now.ok.0))
