use Rattle.std.proofs.Common.{◌≡◌, drop, length}
use Rattle.block_merge.specs.Orders.{placed}
use Rattle.block_merge.proofs.numbering.places.Given as goal

abbrev pub invariant-loop-number : goal.invariant-loop-number
invariant-loop-number l = record {
  counted : l.place ≡ l.number-index;
  long : length l.table.items ≡ l.count;
  rest : placed l.table.items l.place (drop l.number-index l.found) ≡ placed l.initial.table.items 0 l.found;
}
