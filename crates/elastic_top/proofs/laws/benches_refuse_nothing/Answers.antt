use Rattle.elastic_top.proofs.SoundLemmas.{benches}
use Rattle.elastic_top.proofs.laws.benches_refuse_nothing.Goals as goal

pub returns : goal.returns
returns c = benches
