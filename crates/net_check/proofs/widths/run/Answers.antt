use Rattle.std.proofs.Common.{sym, arith}
use Rattle.net_check.proofs.WidthLemmas.{before-spots, past-spots, among-spots}
use Rattle.net_check.proofs.widths.run.Goals as goal

pub returns-then-place-first : goal.returns-then-place-first
returns-then-place-first c = λ b. sym (before-spots c.args.first c.args.width b c.args.count c.args.place (omega arith))

pub returns-then-place-first-2 : goal.returns-then-place-first-2
returns-then-place-first-2 c = λ b. sym (among-spots c.args.first c.args.width b c.args.count c.args.place (omega arith) (omega arith))

pub returns : goal.returns
returns c = λ b. sym (past-spots c.args.first c.args.width b c.args.count c.args.place (omega arith))
