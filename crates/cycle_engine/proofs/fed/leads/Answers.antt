use Rattle.std.proofs.Common.{rules, ◌≡◌, sym, length, arith}
use Rattle.cycle_engine.proofs.FedLemmas.{leads_more}
use Rattle.cycle_engine.proofs.fed.leads.Goals as goal

pub loop-at-preserved : goal.loop-at-preserved
loop-at-preserved c = record {
  long = search rules;
  told = rw c.in_ok-push.ensures.items (leads_more c.args.net.now c.loop-at.leads.items c.lead_of.result c.loop-at.at c.loop-at.invariant.long c.lead_of.ensures c.loop-at.invariant.told);
}

pub returns : goal.returns
returns c =
    let long : length c.loop-at.leads.items ≡ length c.args.net.now.chans = search rules in
    let at = sym c.loop-at.invariant.long in
    record { long = long; each = λ d l. c.loop-at.invariant.told d (omega (arith, long, at)) }
