-- Graphs over variables: when one is well formed, and what its visits make.
use Rattle.std.specs.Prelude.{◌≡◌, ℕ, ◌-◌, ◌<◌, ◌++◌, List, [], ◌∷◌, map, length, get_or, set, slice_get, replicate, take, Option, Some, None, All}
use Rattle.el_base.specs.declared.ty.Ty.{Ty}
use Rattle.el_base.specs.declared.ty.Array.{Array}
use Rattle.el_base.specs.declared.ty.Scalar.{Scalar}
use Rattle.el_base.specs.Widths.{ty_width}
use Rattle.ir.specs.declared.cfg.CfgBlock.{CfgBlock}
use Rattle.ir.specs.declared.cfg.CfgJump.{CfgJump}
use Rattle.ir.specs.declared.cfg.CfgJump.TheVariants.{Go, Two, Return}
use Rattle.ir.specs.declared.cfg.Write.{Write}
use Rattle.ir.specs.Steps.{value_at, through, beginning}
use Rattle.ir.specs.Visits.{Visit, Onward, onto, leaves, Passage}
use Rattle.ir.specs.Shapes.{IsWidth, Shape, IsOfWidth, StepsFit, shape_after}
use Rattle.ir.specs.Graphs.{IsReturn, side, result_of}

pub record VarGraph : Type 0 where
  pub name : List ℕ
  pub scalars : List Scalar
  pub arrays : List Array
  pub result : Option Ty
  pub vars : List ℕ
  pub blocks : List CfgBlock

-- ---- well formed

abbrev pub IsTo : List CfgBlock → ℕ → Type 0
IsTo blocks b = (0 < b) × (b < length blocks)

abbrev pub IsVarJump : VarGraph → Shape → CfgJump → Type 0
IsVarJump g ws (Go b) = IsTo g.blocks b
IsVarJump g ws (Two c yes_part no_part) = IsOfWidth ws c 32 × IsTo g.blocks yes_part × IsTo g.blocks no_part
IsVarJump g ws (Return v) = IsReturn g.result ws v

-- what is read_values has the width of its variable
abbrev pub read_shape : VarGraph → CfgBlock → Shape
read_shape g b = map (slice_get g.vars) b.reads

abbrev pub IsWrite : VarGraph → Shape → Write → Type 0
IsWrite g ws x = (w : ℕ) × (slice_get g.vars x.var ≡ Some w) × IsOfWidth ws x.value w

pub record IsVarBlock (g : VarGraph) (b : CfgBlock) : Type 0 where
  pub reads : All (λ v. v < length g.vars) b.reads
  pub steps : StepsFit g.arrays (read_shape g b) b.steps
  pub writes : All (IsWrite g (shape_after g.arrays (read_shape g b) b.steps)) b.writes
  pub jump : IsVarJump g (shape_after g.arrays (read_shape g b) b.steps) b.jump

-- there is a block 0, and the first variables are the scalars
pub record IsVarGraph (g : VarGraph) : Type 0 where
  pub vars : All IsWidth g.vars
  pub scalars : take (length g.scalars) g.vars ≡ map (λ s. ty_width s.ty) g.scalars
  pub some : 0 < length g.blocks
  pub blocks : All (IsVarBlock g) g.blocks

-- ---- visits: a block is given all variables

abbrev pub written : List ℕ → List Write → List ℕ → List ℕ
written vs [] vars = vars
written vs (x ∷ xs) vars = written vs xs (set vars x.var (value_at vs x.value))

abbrev pub var_onward : CfgJump → List ℕ → List ℕ → Onward
var_onward (Go b) vs vars = onto b vars
var_onward (Two c yes_part no_part) vs vars = side (value_at vs c) (onto yes_part vars) (onto no_part vars)
var_onward (Return v) vs vars = leaves (result_of vs v)

abbrev pub no_var_block : CfgBlock
no_var_block = record { reads = []; steps = []; writes = []; jump = Return None }

abbrev pub var_block_at : VarGraph → ℕ → CfgBlock
var_block_at g b = get_or g.blocks b no_var_block

abbrev pub read_values : List ℕ → CfgBlock → List ℕ
read_values vars b = map (value_at vars) b.reads

abbrev pub var_passage : VarGraph → Visit → Passage
var_passage g v =
    let b = var_block_at g v.block in
    let w = through b.steps (beginning (read_values v.given b) v.arrays) in
    record { values = w.values; arrays = w.arrays; strays = w.strays; onward = var_onward b.jump w.values (written w.values b.writes v.given) }

-- the first visit: each variable that is no scalar begins at 0
abbrev pub var_first_visit : VarGraph → List ℕ → List (List ℕ) → Visit
var_first_visit g scalars arrays = record { block = 0; given = scalars ++ replicate (length g.vars - length scalars) 0; arrays = arrays }

-- how many steps a visit makes; reads and writes are none
abbrev pub steps_made : VarGraph → Visit → ℕ
steps_made g v = length (var_block_at g v.block).steps
