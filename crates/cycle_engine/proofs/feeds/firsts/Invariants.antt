use Rattle.std.proofs.Common.{◌≡◌, length}
use Rattle.cycle_engine.proofs.FeedLemmas.{FirstsAreTold}
use Rattle.cycle_engine.proofs.feeds.firsts.Given as goal

abbrev pub invariant-loop-at : goal.invariant-loop-at
invariant-loop-at l = record {
  long : length l.firsts.items ≡ l.at;
  told : FirstsAreTold l.net l.firsts.items l.at;
}
