-- A worked graph with two blocks, and what trimming makes of it.
use Rattle.std.specs.Prelude.{◌≡◌, ℕ, List, [], ◌∷◌, Some}
use Rattle.el_base.specs.declared.ty.Ty.TheVariants.{U32}
use Rattle.el_base.specs.declared.operation.Op2.TheVariants.{Add32}
use Rattle.ir.specs.declared.instr.Instr.TheVariants as instr
use Rattle.ir.specs.declared.cfg.CfgBlock.{CfgBlock}
use Rattle.ir.specs.declared.cfg.CfgJump.TheVariants.{Two, Return}
use Rattle.ir.specs.declared.cfg.Write.{Write}
use Rattle.ir.specs.Variables.{VarGraph}
use Rattle.block_trim.specs.Trimming.{trimmed}

abbrev pub write_of : ℕ → ℕ → Write
write_of v a = record { var = v; value = a }

-- all three variables are read, and the second is written twice, at last with its double
abbrev pub first_block : CfgBlock
first_block = record {
  reads = 0 ∷ 1 ∷ 2 ∷ [];
  steps = instr.Two Add32 1 1 ∷ [];
  writes = write_of 0 0 ∷ write_of 1 0 ∷ write_of 1 3 ∷ write_of 2 2 ∷ [];
  jump = Two 1 1 1;
}

abbrev pub first_trimmed : CfgBlock
first_trimmed = record { reads = 1 ∷ []; steps = instr.Two Add32 0 0 ∷ []; writes = write_of 1 1 ∷ []; jump = Two 0 1 1 }

-- the second variable gets the third, and is returned as it was
abbrev pub last_block : CfgBlock
last_block = record { reads = 0 ∷ 2 ∷ 1 ∷ []; steps = []; writes = write_of 2 1 ∷ write_of 1 1 ∷ []; jump = Return (Some 2) }

abbrev pub last_trimmed : CfgBlock
last_trimmed = record { reads = 2 ∷ 1 ∷ []; steps = []; writes = write_of 1 0 ∷ []; jump = Return (Some 1) }

abbrev pub sample_of : List ℕ → List CfgBlock → VarGraph
sample_of name blocks = record { name = name; scalars = []; arrays = []; result = Some U32; vars = 32 ∷ 32 ∷ 32 ∷ []; blocks = blocks }

abbrev pub SamplesAreTrimmed : Type 0
SamplesAreTrimmed = (name : List ℕ) → trimmed (sample_of name (first_block ∷ last_block ∷ [])) ≡ sample_of name (first_trimmed ∷ last_trimmed ∷ [])
