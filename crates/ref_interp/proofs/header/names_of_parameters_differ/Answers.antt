use Rattle.c_meaning.proofs.ParameterLists.{names_differ}
use Rattle.ref_interp.proofs.header.names_of_parameters_differ.Goals as goal

pub returns : goal.returns
returns c = names_differ
