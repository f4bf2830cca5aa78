use Rattle.std.proofs.Common.{◌≡◌, ◌++◌, drop, map, length}
use Rattle.block_trim.specs.Trimming.{trimmed_block}
use Rattle.block_trim.proofs.trimming.trim.Given as goal

abbrev pub invariant-loop-block : goal.invariant-loop-block
invariant-loop-block l = record {
  long : length l.places.items ≡ length l.fn.cfg.vars;
  done : l.blocks ++ map trimmed_block (drop l.block-index l.block-items) ≡ map trimmed_block l.block-items;
}
