use Rattle.std.proofs.Common.{rules}
use Rattle.cycle_engine.proofs.FeedLemmas.{firsts_more}
use Rattle.cycle_engine.proofs.feeds.firsts.Goals as goal

pub loop-at-preserved : goal.loop-at-preserved
loop-at-preserved c = record {
  long = search rules;
  told = rw c.in_ok-push.ensures.items (firsts_more c.args.net.now c.loop-at.firsts.items c.asked.result c.loop-at.at c.loop-at.invariant.long c.asked.ensures c.loop-at.invariant.told);
}
