use Rattle.std.proofs.Common.{arith}
use Rattle.lsq_core.proofs.PortLemmas.{seen_more, seen_all}
use Rattle.lsq_core.proofs.indexed.Indexed.next_by_entries.Goals as goal

pub loop-at-preserved : goal.loop-at-preserved
loop-at-preserved c =
    seen_more c.args.act c.args.self.now.queue.items c.args.from c.loop-at.at c.at-entry.result c.loop-at.found c.nearer-found.result c.at-entry.ensures.value c.nearer-found.ensures c.loop-at.invariant

pub returns : goal.returns
returns c = seen_all c.args.act c.args.self.now.queue.items c.args.from c.loop-at.at c.loop-at.found (let e = c.len-at-end.ensures.len in omega (arith, c.loop-at-test.false)) c.loop-at.invariant
