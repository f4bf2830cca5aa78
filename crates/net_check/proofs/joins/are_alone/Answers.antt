use Rattle.net_check.proofs.AloneLemmas.{all_first}
use Rattle.net_check.proofs.joins.are_alone.Goals as goal

pub returns : goal.returns
returns c t = all_first c.args.side c.args.chans.now c.loop-c.c c.loop-c-test.false c.loop-c.invariant
