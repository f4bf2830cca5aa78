use Rattle.std.proofs.Common.{arith}
use Rattle.std.proofs.lemmas.Slice.Zip.{AllZip-long}
use Rattle.net_types.specs.Inputs.{AreElementsOf}
use Rattle.inputs_text.proofs.results.print_results_of.Goals as goal

pub put_arrays-requires : goal.put_arrays-requires
put_arrays-requires c = omega (arith, AllZip-long AreElementsOf c.args.arrays.now c.args.values.now c.requires.each_array)
