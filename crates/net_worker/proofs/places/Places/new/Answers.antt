use Rattle.net_worker.proofs.PlaceLemmas.{places_of}
use Rattle.net_worker.proofs.places.Places.new.Goals as goal

pub returns : goal.returns
returns c = places_of c.args.net.now c.args.owners.now _ c.in_ok-units.ensures c.in_ok-outs.ensures.outs c.in_ok-outs.ensures.ins
