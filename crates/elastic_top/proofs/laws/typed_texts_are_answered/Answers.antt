use Rattle.elastic_top.proofs.PrintedLemmas.{typed_compiled, typed_go}
use Rattle.elastic_top.proofs.laws.typed_texts_are_answered.Goals as goal

pub returns-clause-compile : goal.returns-clause-compile
returns-clause-compile c = typed_compiled c.kernels_are_compiled.ensures c.texts_that_type_are_kernels.ensures c.programs_are_typed_in_one_way.ensures.at_least_one

pub returns-clause-go : goal.returns-clause-go
returns-clause-go c = typed_go c.ending_kernels_go.ensures c.texts_that_type_are_kernels.ensures
