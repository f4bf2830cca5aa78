use Rattle.std.proofs.Common.{◌≡◌, drop}
use Rattle.block_args.specs.Walks.{marked}
use Rattle.block_args.proofs.walk.marks.Given as goal

abbrev pub invariant-loop-block : goal.invariant-loop-block
invariant-loop-block l = marked l.marks.items (drop l.block-index l.blocks) ≡ marked l.initial.marks.items l.blocks
