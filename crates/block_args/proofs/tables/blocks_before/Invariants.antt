use Rattle.std.proofs.Common.{◌≡◌, drop, replicate, [], length}
use Rattle.block_args.specs.Walks.{target_blocks, with_blocks}
use Rattle.block_args.proofs.tables.blocks_before.Given as goal

abbrev pub invariant-loop-block : goal.invariant-loop-block
invariant-loop-block l = record {
  counted : l.number ≡ l.block-index;
  put : with_blocks target_blocks l.table l.number (drop l.block-index l.blocks) ≡ with_blocks target_blocks (replicate (length l.blocks) []) 0 l.blocks;
}
