use Rattle.std.proofs.Common.{take}
use Rattle.inputs_text.specs.Readings.{ScalarsFound}
use Rattle.inputs_text.proofs.reader.scalars_of.Given as goal

abbrev pub invariant-loop-scalar : goal.invariant-loop-scalar
invariant-loop-scalar l = ScalarsFound (take l.scalar-index l.scalars) l.found.entries l.patterns
