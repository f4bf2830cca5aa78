use Rattle.std.proofs.Common.{◌≡◌, drop, replicate, []}
use Rattle.block_args.specs.Walks.{read_vars, with_blocks}
use Rattle.block_args.proofs.tables.readers.Given as goal

abbrev pub invariant-loop-block : goal.invariant-loop-block
invariant-loop-block l = record {
  counted : l.number ≡ l.block-index;
  put : with_blocks read_vars l.table l.number (drop l.block-index l.blocks) ≡ with_blocks read_vars (replicate l.count []) 0 l.blocks;
}
