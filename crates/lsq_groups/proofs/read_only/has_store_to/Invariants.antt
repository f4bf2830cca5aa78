use Rattle.std.proofs.Common.{◌≡◌, take}
use Rattle.std.specs.Prelude.{false}
use Rattle.std.specs.List.{list_any}
use Rattle.lsq_groups.specs.Stores.{is_store_to}
use Rattle.lsq_groups.proofs.read_only.has_store_to.Given as goal

abbrev pub invariant-loop-step : goal.invariant-loop-step
invariant-loop-step l = list_any (is_store_to l.array) (take l.step-index l.block.steps) ≡ false
