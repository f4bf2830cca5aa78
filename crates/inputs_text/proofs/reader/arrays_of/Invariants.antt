use Rattle.std.proofs.Common.{take}
use Rattle.inputs_text.specs.Readings.{ArraysFound}
use Rattle.inputs_text.proofs.reader.arrays_of.Given as goal

abbrev pub invariant-loop-array : goal.invariant-loop-array
invariant-loop-array l = ArraysFound (take l.array-index l.arrays) l.found.entries l.elements
