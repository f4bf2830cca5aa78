use Rattle.std.proofs.Common.{sym, arith}
use Rattle.net_check.proofs.WidthLemmas.{fork-among, fork-past}
use Rattle.net_check.proofs.widths.fork_out.Goals as goal

pub returns-then-place-count : goal.returns-then-place-count
returns-then-place-count c = λ net. sym (fork-among net c.args.width c.args.count c.args.place (omega arith))

pub returns : goal.returns
returns c = λ net. sym (fork-past net c.args.width c.args.count c.args.place (omega arith))
