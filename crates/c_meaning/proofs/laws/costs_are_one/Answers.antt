use Rattle.c_meaning.proofs.CountGrowth.{costs_one}
use Rattle.c_meaning.proofs.laws.costs_are_one.Goals as goal

pub returns : goal.returns
returns c = costs_one
