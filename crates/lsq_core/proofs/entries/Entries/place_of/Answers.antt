use Rattle.std.proofs.Common.{arith}
use Rattle.lsq_core.specs.Wants.{wanted}
use Rattle.lsq_core.proofs.PlaceLemmas.{found_here, none_more}
use Rattle.lsq_core.proofs.entries.Entries.place_of.Goals as goal

pub returns-then-meets : goal.returns-then-meets
returns-then-meets c =
    found_here (wanted c.args.want) c.args.self.now.queue.items c.loop-at.at c.at.result c.meets.result c.loop-at.invariant (omega arith) c.at.ensures c.meets.ensures c.if-meets.true

pub loop-at-preserved : goal.loop-at-preserved
loop-at-preserved c =
    none_more (wanted c.args.want) c.args.self.now.queue.items c.loop-at.at c.at.result c.meets.result c.loop-at.invariant c.at.ensures c.meets.ensures c.if-meets.false
