use Rattle.std.proofs.Common.{◌≡◌, drop}
use Rattle.block_args.specs.Numbers.{with_places}
use Rattle.block_args.proofs.numbers.places.Given as goal

abbrev pub invariant-loop-variable : goal.invariant-loop-variable
invariant-loop-variable l = record {
  counted : l.place ≡ l.variable-index;
  placed : with_places l.table.items l.place (drop l.variable-index l.held) ≡ with_places l.initial.table.items 0 l.held;
}
