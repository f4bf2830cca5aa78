use Rattle.std.proofs.Common.{◌≡◌, ◌++◌, drop}
use Rattle.ir.specs.Accesses.{block_accesses}
use Rattle.lsq_groups.proofs.accesses.add_block.Given as goal

abbrev pub invariant-loop-is_read_only : goal.invariant-loop-is_read_only
invariant-loop-is_read_only l = record {
  counted : l.array ≡ l.is_read_only-index;
  added : l.found ++ block_accesses l.block l.steps l.array (drop l.is_read_only-index l.read_only) ≡ l.fn.found ++ block_accesses l.block l.steps 0 l.read_only;
}
