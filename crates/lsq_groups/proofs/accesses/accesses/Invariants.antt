use Rattle.std.proofs.Common.{◌≡◌, ◌++◌, drop}
use Rattle.ir.specs.Accesses.{accesses_from}
use Rattle.lsq_groups.proofs.accesses.accesses.Given as goal

abbrev pub invariant-loop-block : goal.invariant-loop-block
invariant-loop-block l = record {
  counted : l.number ≡ l.block-index;
  added : l.found ++ accesses_from l.read_only l.number (drop l.block-index l.blocks) ≡ accesses_from l.read_only 0 l.blocks;
}
