-- A worked block, and what pruning makes of it.
use Rattle.std.specs.Prelude.{◌≡◌, [], ◌∷◌, Some}
use Rattle.el_base.specs.declared.operation.Op2.TheVariants.{Add32}
use Rattle.ir.specs.declared.instr.Instr.TheVariants.{Const, Two, Load, Store}
use Rattle.ir.specs.declared.graph.Block.{Block}
use Rattle.ir.specs.declared.graph.Jump.TheVariants.{Return}
use Rattle.block_prune.specs.Pruned.{pruned}

-- The store of 2 is overwritten by that of 1, and nothing else needs 2; 5 is dead; the load of 4 stays though it is not used; and the store of 1
-- stays, since a load is between it and the last.
abbrev pub sample_block : Block
sample_block = record {
  args = 64 ∷ 32 ∷ [];
  steps = Two Add32 1 1 ∷ Store 0 0 2 ∷ Load 1 0 ∷ Const 32 7 ∷ Store 0 0 1 ∷ Load 0 0 ∷ Store 0 0 7 ∷ [];
  jump = Return (Some 7);
}

abbrev pub sample_pruned : Block
sample_pruned = record { args = 64 ∷ 32 ∷ []; steps = Load 1 0 ∷ Store 0 0 1 ∷ Load 0 0 ∷ Store 0 0 4 ∷ []; jump = Return (Some 4) }

abbrev pub SampleIsPruned : Type 0
SampleIsPruned = pruned sample_block ≡ sample_pruned
