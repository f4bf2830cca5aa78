use Rattle.lsq_core.proofs.BehindLemmas.{behind_fails}
use Rattle.lsq_core.proofs.indexed.Indexed.executes_after.Goals as goal

pub returns-then-is_behind : goal.returns-then-is_behind
returns-then-is_behind c = behind_fails c.args.self.now.queue c.args.entry.now c.args.other.now c.is_behind.result c.is_behind.ensures c.if-is_behind.true c.requires
