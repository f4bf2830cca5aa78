use Rattle.std.proofs.Common.{◌≡◌, ◌++◌, drop, length}
use Rattle.block_args.specs.Arguments.{new_blocks}
use Rattle.block_args.proofs.graph.new_blocks.Given as goal

abbrev pub invariant-loop-block : goal.invariant-loop-block
invariant-loop-block l = record {
  counted : l.number ≡ l.block-index;
  made : l.made ++ new_blocks (length l.cfg.scalars) l.cfg.vars l.table l.number (drop l.block-index l.blocks) ≡ new_blocks (length l.cfg.scalars) l.cfg.vars l.table 0 l.blocks;
}
