use Rattle.c_meaning.proofs.ReadLemmas.{agreeing, writing, unsetting, listed}
use Rattle.c_meaning.proofs.read_laws.expressions_read_their_variables.Goals as goal

pub returns : goal.returns
returns c = record { agreeing = agreeing; writing = writing; unsetting = unsetting; listed = listed }
