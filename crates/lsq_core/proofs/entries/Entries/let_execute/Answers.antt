use Rattle.std.proofs.Common.{sym, arith}
use Rattle.lsq_core.specs.Acts.{lets}
use Rattle.lsq_core.proofs.PlaceLemmas.{all_pass, fails_here, let_more}
use Rattle.lsq_core.proofs.entries.Entries.let_execute.Goals as goal

pub returns-then-not-lets : goal.returns-then-not-lets
returns-then-not-lets c =
    fails_here (lets c.args.store.now) c.args.self.now.queue.items c.loop-at.at c.at.result c.lets.result (omega arith) c.at.ensures c.lets.ensures c.if-not-lets.true

pub loop-at-preserved : goal.loop-at-preserved
loop-at-preserved c =
    let_more (lets c.args.store.now) c.args.self.now.queue.items c.loop-at.at c.at.result c.lets.result c.loop-at.invariant c.at.ensures c.lets.ensures c.if-not-lets.false

pub returns : goal.returns
returns c = sym (all_pass (lets c.args.store.now) c.args.self.now.queue.items (λ k l. c.loop-at.invariant k (omega arith)))
