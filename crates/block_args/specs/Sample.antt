-- A worked graph over variables: it adds 1 to as many elements as a scalar says, one after the other, and returns their
-- number. Variable 0 is the scalar, variable 1 counts, and variable 2 is written and never read.
use Rattle.std.specs.Prelude.{ℕ, List, [], ◌∷◌, Some}
use Rattle.el_base.specs.declared.ty.Ty.TheVariants.{U32}
use Rattle.el_base.specs.declared.operation.Op1.TheVariants.{U32to64}
use Rattle.el_base.specs.declared.operation.Op2.TheVariants.{Add32, Ltu32}
use Rattle.ir.specs.declared.instr.Instr.{Instr}
use Rattle.ir.specs.declared.instr.Instr.TheVariants.{Const, One, Two, Load, Store}
use Rattle.ir.specs.declared.cfg.CfgBlock.{CfgBlock}
use Rattle.ir.specs.declared.cfg.CfgJump.TheVariants as jump
use Rattle.ir.specs.Variables.{VarGraph}

abbrev pub entry_block : CfgBlock
entry_block = record { reads = []; steps = Const 32 0 ∷ []; writes = record { var = 1; value = 0 } ∷ []; jump = jump.Go 1 }

abbrev pub head_block : CfgBlock
head_block = record { reads = 1 ∷ 0 ∷ []; steps = Two Ltu32 0 1 ∷ []; writes = []; jump = jump.Two 2 2 3 }

abbrev pub body_steps : List Instr
body_steps = One U32to64 0 ∷ Load 0 1 ∷ Const 32 1 ∷ Two Add32 2 3 ∷ Store 0 1 4 ∷ Two Add32 0 3 ∷ []

abbrev pub body_block : CfgBlock
body_block = record { reads = 1 ∷ []; steps = body_steps; writes = record { var = 2; value = 4 } ∷ record { var = 1; value = 6 } ∷ []; jump = jump.Go 1 }

abbrev pub end_block : CfgBlock
end_block = record { reads = 1 ∷ []; steps = []; writes = []; jump = jump.Return (Some 0) }

-- the names are those of the graph, of its scalar and of its array
abbrev pub sample_cfg : List ℕ → List ℕ → List ℕ → VarGraph
sample_cfg name n a =
    record {
      name = name;
      scalars = record { name = n; ty = U32 } ∷ [];
      arrays = record { name = a; ty = U32; len = 2 } ∷ [];
      result = Some U32;
      vars = 32 ∷ 32 ∷ 32 ∷ [];
      blocks = entry_block ∷ head_block ∷ body_block ∷ end_block ∷ [];
    }
