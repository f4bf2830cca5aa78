use Rattle.net_check.proofs.MatchLemmas.{no_source, target_decides}
use Rattle.net_check.proofs.matches.is_of_width.Goals as goal

pub returns-then-not-is_some_of : goal.returns-then-not-is_some_of
returns-then-not-is_some_of c = no_source c.args.net.now c.args.chan c.out_width_at.result c.is_some_of.result c.out_width_at.ensures c.is_some_of.ensures c.if-not-is_some_of.true

pub returns : goal.returns
returns c = target_decides c.args.net.now c.args.chan c.out_width_at.result c.in_width_at.result c.is_some_of.result c.is_some_of-2.result c.out_width_at.ensures c.is_some_of.ensures c.if-not-is_some_of.false c.in_width_at.ensures c.is_some_of-2.ensures
