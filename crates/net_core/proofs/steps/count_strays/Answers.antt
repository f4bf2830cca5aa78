use Rattle.std.proofs.Common.{sym}
use Rattle.net_types.specs.Nets.{kind_of, uses}
use Rattle.net_core.proofs.StateLemmas.{counted_none}
use Rattle.net_core.proofs.steps.count_strays.Goals as goal

pub returns-else-stray : goal.returns-else-stray
returns-else-stray c = rw c.if-stray.false (sym (counted_none (uses (kind_of c.args.net.now c.args.unit)) c.args.strays.now.items))
