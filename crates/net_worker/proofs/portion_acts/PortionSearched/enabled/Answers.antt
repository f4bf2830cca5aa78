use Rattle.net_worker.proofs.PortionMoves.{out_there}
use Rattle.net_worker.proofs.portion_acts.PortionSearched.enabled.Goals as goal

pub has_room_on-requires-clause-here : goal.has_room_on-requires-clause-here
has_room_on-requires-clause-here c = out_there c.args.net.now c.args.self.now c.args.firing.unit c.in-Some-put.put.place c.out_of_place.result c.requires.shown c.out_of_place.ensures
