use Rattle.block_pass.proofs.Weights.{light_visits}
use Rattle.block_pass.proofs.laws.visits_are_light.Goals as goal

pub returns : goal.returns
returns c = light_visits
