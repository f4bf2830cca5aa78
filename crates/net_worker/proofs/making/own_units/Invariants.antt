use Rattle.std.proofs.Common.{◌≡◌}
use Rattle.net_worker.specs.Places.{owns_unit, numbers_where}
use Rattle.net_worker.proofs.making.own_units.Given as goal

abbrev pub invariant-loop-at : goal.invariant-loop-at
invariant-loop-at l = l.units.items ≡ numbers_where (owns_unit l.tables.owners l.number) l.at
