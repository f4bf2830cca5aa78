use Rattle.std.proofs.Common.{◌≡◌, length}
use Rattle.cycle_engine.specs.private.Lists.{HasNone, lists_of}
use Rattle.cycle_engine.proofs.cells.empty_lists.Given as goal

abbrev pub invariant-loop : goal.invariant-loop
invariant-loop l = record {
  long : length l.lists.items ≡ l.counter;
  none : HasNone (lists_of l.lists.items);
}
