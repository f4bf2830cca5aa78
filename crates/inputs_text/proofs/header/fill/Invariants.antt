use Rattle.std.proofs.Common.{◌≡◌, ◌++◌, map, take}
use Rattle.inputs_text.specs.Rules.{array_slot, scalar_slot}
use Rattle.inputs_text.proofs.header.fill.Given as goal

abbrev pub invariant-loop-scalar : goal.invariant-loop-scalar
invariant-loop-scalar l = l.asked.entries ≡ map scalar_slot (take l.scalar-index l.scalars)

abbrev pub invariant-loop-array : goal.invariant-loop-array
invariant-loop-array l = l.asked.entries ≡ map scalar_slot l.fn.scalars ++ map array_slot (take l.array-index l.arrays)
