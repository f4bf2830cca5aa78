use Rattle.std.proofs.Common.{◌≡◌, take}
use Rattle.net_types.proofs.copies.copy_units.Given as goal

abbrev pub invariant-loop-unit : goal.invariant-loop-unit
invariant-loop-unit l = l.copies ≡ take l.unit-index l.units
