-- A worked graph: the sum of two numbers where the first is less, else the first; the side that adds leads by an arm.
use Rattle.std.specs.Prelude.{◌≡◌, ℕ, List, [], ◌∷◌, Some}
use Rattle.el_base.specs.declared.ty.Ty.TheVariants.{U32}
use Rattle.el_base.specs.declared.operation.Op2.TheVariants.{Add32, Ltu32}
use Rattle.ir.specs.declared.instr.Instr.TheVariants.{Two, Select}
use Rattle.ir.specs.declared.graph.Block.{Block}
use Rattle.ir.specs.declared.graph.Jump.TheVariants as jump
use Rattle.ir.specs.declared.graph.To.{To}
use Rattle.ir.specs.Graphs.{Graph}
use Rattle.block_select.specs.Selected.{selected}

abbrev pub edge_of : ℕ → List ℕ → To
edge_of n values = record { block = n; with = values }

-- the value 2 decides
abbrev pub first_block : Block
first_block = record { args = 32 ∷ 32 ∷ []; steps = Two Ltu32 0 1 ∷ []; jump = jump.Two 2 (edge_of 1 (0 ∷ 1 ∷ [])) (edge_of 2 (0 ∷ 1 ∷ 0 ∷ [])) }

abbrev pub arm_block : Block
arm_block = record { args = 32 ∷ 32 ∷ []; steps = Two Add32 0 1 ∷ []; jump = jump.Go (edge_of 2 (2 ∷ 1 ∷ 2 ∷ [])) }

abbrev pub last_block : Block
last_block = record { args = 32 ∷ 32 ∷ 32 ∷ []; steps = []; jump = jump.Return (Some 0) }

-- the first and the third argument of the last block are one choice, and the second is the same on both sides
abbrev pub first_selected : Block
first_selected = record { args = 32 ∷ 32 ∷ []; steps = Two Ltu32 0 1 ∷ Two Add32 0 1 ∷ Select 32 2 3 0 ∷ []; jump = jump.Go (edge_of 2 (4 ∷ 1 ∷ 4 ∷ [])) }

abbrev pub sample_of : List ℕ → List Block → Graph
sample_of name blocks = record { name = name; scalars = []; arrays = []; result = Some U32; blocks = blocks }

-- the new block weighs 9
pub record SampleIsSelected (name : List ℕ) : Type 0 where
  pub light : selected 9 (sample_of name (first_block ∷ arm_block ∷ last_block ∷ [])) ≡ sample_of name (first_selected ∷ arm_block ∷ last_block ∷ [])
  pub heavy : selected 8 (sample_of name (first_block ∷ arm_block ∷ last_block ∷ [])) ≡ sample_of name (first_block ∷ arm_block ∷ last_block ∷ [])

abbrev pub SamplesAreSelected : Type 0
SamplesAreSelected = (name : List ℕ) → SampleIsSelected name
