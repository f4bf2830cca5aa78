use Rattle.kernel_bench.proofs.Reading.{kernel_is}
use Rattle.kernel_bench.proofs.laws.kernel_is_read.Goals as goal

pub returns : goal.returns
returns c = kernel_is c.typed_trees_have_as_many_nodes.ensures c.texts_that_type_are_kernels.ensures
