use Rattle.std.proofs.Common.{◌≡◌, length}
use Rattle.cycle_engine.proofs.FedLemmas.{LeadsAreTold}
use Rattle.cycle_engine.proofs.fed.leads.Given as goal

abbrev pub invariant-loop-at : goal.invariant-loop-at
invariant-loop-at l = record {
  long : length l.leads.items ≡ l.at;
  told : LeadsAreTold l.net l.leads.items l.at;
}
