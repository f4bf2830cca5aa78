use Rattle.std.proofs.Common.{◌≡◌, drop}
use Rattle.circuit_build.specs.Blocks.{allocations, after_block}
use Rattle.circuit_build.proofs.draft.Draft.allocate_all.Given as goal

abbrev pub invariant-loop-access : goal.invariant-loop-access
invariant-loop-access l = record {
  used : l.used ≡ l.access-index;
  draft : allocations l.block (drop l.access-index l.accesses) l.self ≡ allocations l.block l.accesses l.initial.self;
  rest : after_block l.block (drop l.access-index l.accesses) ≡ after_block l.block l.accesses;
}
