use Rattle.std.proofs.Common.{◌≡◌, ℕ, ◌<◌, get_or, length}
use Rattle.net_core.specs.declared.cell.Cell.TheVariants.{Plain}
use Rattle.net_worker.specs.Portions.{IsFirstCell}
use Rattle.net_worker.proofs.portion.cells_of.Given as goal

abbrev pub invariant-loop-unit : goal.invariant-loop-unit
invariant-loop-unit l = record {
  long : length l.cells.items ≡ l.unit-index;
  each : (i : ℕ) → i < l.unit-index → IsFirstCell l.net l.inputs (get_or l.units i 0) (get_or l.cells.items i Plain);
}
