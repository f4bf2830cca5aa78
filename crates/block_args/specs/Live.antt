-- Which variables are live at a block: some walk along the jumps comes to a read of the variable before any write of it.
use Rattle.std.specs.Prelude.{◌≡◌, ℕ, List, [], ◌∷◌, Some, slice_get}
use Rattle.std.specs.List.{Contains}
use Rattle.ir.specs.declared.cfg.CfgBlock.{CfgBlock}
use Rattle.ir.specs.declared.cfg.CfgJump.{CfgJump}
use Rattle.ir.specs.declared.cfg.CfgJump.TheVariants.{Go, Two, Return}
use Rattle.ir.specs.declared.cfg.Write.{Write}
use Rattle.ir.specs.Variables.{VarGraph}

-- the blocks that a jump names
abbrev pub targets : CfgJump → List ℕ
targets (Go b) = b ∷ []
targets (Two c yes_part no_part) = yes_part ∷ no_part ∷ []
targets (Return v) = []

-- some write is to the variable
pub record IsWritten (xs : List Write) (v : ℕ) : Type 0 where
  pub place : ℕ
  pub value : ℕ
  pub is_write : slice_get xs place ≡ Some (record { var = v; value = value })

-- a walk of blocks from b on goes along the jumps; its last block reads the variable, and none before it writes it. In a
-- block the reads come before the writes
pub data Live (g : VarGraph) : ℕ → ℕ → Type 0 where
  read_here : (b v : ℕ) (x : CfgBlock) → slice_get g.blocks b ≡ Some x → Contains x.reads v → Live g b v
  read_later : (b c v : ℕ) (x : CfgBlock) → slice_get g.blocks b ≡ Some x → Contains (targets x.jump) c → (IsWritten x.writes v → ⊥) → Live g c v → Live g b v
