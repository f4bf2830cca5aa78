use Rattle.elastic_top.proofs.SoundLemmas.{compiled}
use Rattle.elastic_top.proofs.laws.kernels_are_compiled.Goals as goal

pub returns : goal.returns
returns c = compiled c.kernels_compile.ensures
