use Rattle.std.proofs.Common.{arith}
use Rattle.lsq_core.specs.Acts.{waiting}
use Rattle.lsq_core.proofs.PlaceLemmas.{last_found, none_last}
use Rattle.lsq_core.proofs.entries.Entries.source.Goals as goal

pub returns-then-waits_before : goal.returns-then-waits_before
returns-then-waits_before c =
    let n = c.len-len.ensures.len in
    let t = c.loop-past-test.true in
    last_found (waiting c.args.load.now) c.args.self.now.queue.items _ c.at-entry.result c.waits_before.result (omega arith) c.at-entry.ensures c.waits_before.ensures c.if-waits_before.true
    (λ k m l. c.loop-past.invariant k (omega arith) l)

pub returns : goal.returns
returns c = none_last (waiting c.args.load.now) c.args.self.now.queue.items (λ k m l. c.loop-past.invariant k (omega arith) l)
