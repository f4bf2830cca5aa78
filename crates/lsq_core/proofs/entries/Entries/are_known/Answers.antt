use Rattle.std.proofs.Common.{sym, arith}
use Rattle.lsq_core.specs.Acts.{known}
use Rattle.lsq_core.proofs.PlaceLemmas.{all_pass, fails_here, let_more}
use Rattle.lsq_core.proofs.entries.Entries.are_known.Goals as goal

pub returns-then-not-is_known_to : goal.returns-then-not-is_known_to
returns-then-not-is_known_to c =
    fails_here (known c.args.load.now) c.args.self.now.queue.items c.loop-at.at c.at.result c.is_known_to.result (omega arith) c.at.ensures c.is_known_to.ensures c.if-not-is_known_to.true

pub loop-at-preserved : goal.loop-at-preserved
loop-at-preserved c =
    let_more (known c.args.load.now) c.args.self.now.queue.items c.loop-at.at c.at.result c.is_known_to.result c.loop-at.invariant c.at.ensures c.is_known_to.ensures c.if-not-is_known_to.false

pub returns : goal.returns
returns c = sym (all_pass (known c.args.load.now) c.args.self.now.queue.items (λ k l. c.loop-at.invariant k (omega arith)))
