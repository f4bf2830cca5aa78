use Rattle.std.proofs.Common.{◌≡◌, drop}
use Rattle.block_prune.specs.Code.{marked}
use Rattle.block_prune.proofs.live.need_all.Given as goal

abbrev pub invariant-loop-value : goal.invariant-loop-value
invariant-loop-value l = marked l.needed.items (drop l.value-index l.values) ≡ marked l.initial.needed.items l.values
