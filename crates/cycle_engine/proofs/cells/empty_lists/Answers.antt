use Rattle.std.proofs.Common.{sym, subst, List, rules}
use Rattle.cycle_engine.specs.private.Lists.{HasNone, lists_of}
use Rattle.cycle_engine.specs.private.Stacks.{Stacked}
use Rattle.cycle_engine.proofs.CellLemmas.{none_more}
use Rattle.std.proofs.Common.{ℕ}
use Rattle.cycle_engine.proofs.cells.empty_lists.Goals as goal

pub loop-preserved : goal.loop-preserved
loop-preserved c = record {
  long = search rules;
  none =
      (let P : List (Stacked ℕ) → Type 0 = λ xs. HasNone (lists_of xs) in
      subst P (sym c.in_ok-push.ensures.items) (none_more c.loop.lists.items c.new.result c.new.ensures c.loop.invariant.none));
}
