use Rattle.buffer_place.proofs.OneLemmas.{placements_one}
use Rattle.buffer_place.proofs.laws.a_net_is_placed_in_one_way.Goals as goal

pub returns : goal.returns
returns c = placements_one
