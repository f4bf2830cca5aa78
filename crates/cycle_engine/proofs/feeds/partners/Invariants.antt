use Rattle.std.proofs.Common.{◌≡◌, length}
use Rattle.cycle_engine.proofs.FeedLemmas.{PartnersAreTold}
use Rattle.cycle_engine.proofs.feeds.partners.Given as goal

abbrev pub invariant-loop-chan : goal.invariant-loop-chan
invariant-loop-chan l = record {
  long : length l.partners.items ≡ l.chan-index;
  told : PartnersAreTold l.net l.partners.items l.chan-index;
}
