use Rattle.std.proofs.Common.{◌≡◌, take}
use Rattle.std.specs.Prelude.{false}
use Rattle.lsq_groups.specs.Stores.{is_stored_to}
use Rattle.lsq_groups.proofs.read_only.is_stored_to.Given as goal

abbrev pub invariant-loop-block : goal.invariant-loop-block
invariant-loop-block l = is_stored_to l.array (take l.block-index l.blocks) ≡ false
