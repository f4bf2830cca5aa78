use Rattle.elastic_top.proofs.SoundLemmas.{goes}
use Rattle.elastic_top.proofs.laws.ending_kernels_go.Goals as goal

pub returns : goal.returns
returns c = goes c.ending_kernels_run.ensures
