use Rattle.net_check.proofs.PeelLemmas.{first_decided}
use Rattle.net_check.proofs.cycles.first_endless.Goals as goal

pub returns : goal.returns
returns c = first_decided c.args.net.now c.in_ok-peeled.peeled.items c.as_slice.result.now c.first_unset.result c.requires c.in_ok-peeled.ensures c.as_slice.ensures.value c.first_unset.ensures
