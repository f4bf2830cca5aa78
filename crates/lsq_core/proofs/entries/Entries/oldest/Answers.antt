use Rattle.std.proofs.Common.{arith}
use Rattle.lsq_core.specs.Acts.{executes}
use Rattle.lsq_core.proofs.PlaceLemmas.{none_more, oldest_found, oldest_none}
use Rattle.lsq_core.proofs.entries.Entries.oldest.Goals as goal

pub returns-then-executes : goal.returns-then-executes
returns-then-executes c =
    oldest_found c.args.self.now.queue.forward c.args.self.now.queue.next c.args.self.now.queue.items c.loop-at.at c.at-entry.result c.executes.result c.loop-at.invariant (omega arith) c.at-entry.ensures c.executes.ensures c.if-executes.true

pub loop-at-preserved : goal.loop-at-preserved
loop-at-preserved c =
    none_more (executes c.args.self.now.queue.forward c.args.self.now.queue.items) c.args.self.now.queue.items c.loop-at.at c.at-entry.result c.executes.result c.loop-at.invariant c.at-entry.ensures c.executes.ensures c.if-executes.false

pub returns : goal.returns
returns c = oldest_none c.args.self.now.queue.forward c.args.self.now.queue.next c.args.self.now.queue.items (λ k l. c.loop-at.invariant k (omega arith))
