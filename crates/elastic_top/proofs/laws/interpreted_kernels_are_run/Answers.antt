use Rattle.elastic_top.proofs.PrintedLemmas.{interpreted_run}
use Rattle.elastic_top.proofs.laws.interpreted_kernels_are_run.Goals as goal

pub returns : goal.returns
returns c = interpreted_run c.interpreted_kernels_go.ensures
