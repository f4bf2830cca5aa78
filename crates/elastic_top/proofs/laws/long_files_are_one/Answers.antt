use Rattle.elastic_top.proofs.ContinuedLemmas.{long_files_are_one}
use Rattle.elastic_top.proofs.laws.long_files_are_one.Goals as goal

pub returns : goal.returns
returns c = long_files_are_one
