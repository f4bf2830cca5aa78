-- Block graphs over arguments: when one is well formed, and what its visits make.
use Rattle.std.specs.Prelude.{◌≡◌, ℕ, zero, suc, ◌+◌, ◌<◌, List, [], ◌∷◌, map, length, get_or, slice_get, sum_by, Option, Some, None, All}
use Rattle.el_base.specs.declared.ty.Ty.{Ty}
use Rattle.el_base.specs.declared.ty.Array.{Array}
use Rattle.el_base.specs.declared.ty.Scalar.{Scalar}
use Rattle.el_base.specs.Widths.{ty_width}
use Rattle.ir.specs.declared.graph.Block.{Block}
use Rattle.ir.specs.declared.graph.Jump.{Jump}
use Rattle.ir.specs.declared.graph.Jump.TheVariants.{Go, Two, Return}
use Rattle.ir.specs.declared.graph.To.{To}
use Rattle.ir.specs.Steps.{value_at, through, beginning}
use Rattle.ir.specs.Visits.{Visit, Onward, onto, leaves, Passage}
use Rattle.ir.specs.Shapes.{IsWidth, Shape, IsOfWidth, StepsFit, shape_after}

pub record Graph : Type 0 where
  pub name : List ℕ
  pub scalars : List Scalar
  pub arrays : List Array
  pub result : Option Ty
  pub blocks : List Block

-- ---- well formed

-- each argument gets one value of its width
abbrev pub AreHanded : Shape → List ℕ → List ℕ → Type 0
AreHanded ws [] [] = Unit {0}
AreHanded ws (v ∷ vs) (w ∷ args) = IsOfWidth ws v w × AreHanded ws vs args
AreHanded ws [] (w ∷ args) = ⊥
AreHanded ws (v ∷ vs) [] = ⊥

-- a target exists and is not block 0
pub record IsTarget (blocks : List Block) (ws : Shape) (to : To) : Type 0 where
  pub block : Block
  pub exists : slice_get blocks to.block ≡ Some block
  pub no_entry : 0 < to.block
  pub handed : AreHanded ws to.with block.args

abbrev pub IsReturn : Option Ty → Shape → Option ℕ → Type 0
IsReturn None ws None = Unit {0}
IsReturn (Some t) ws (Some v) = IsOfWidth ws v (ty_width t)
IsReturn None ws (Some v) = ⊥
IsReturn (Some t) ws None = ⊥

abbrev pub IsJump : Graph → Shape → Jump → Type 0
IsJump g ws (Go to) = IsTarget g.blocks ws to
IsJump g ws (Two c yes_part no_part) = IsOfWidth ws c 32 × IsTarget g.blocks ws yes_part × IsTarget g.blocks ws no_part
IsJump g ws (Return v) = IsReturn g.result ws v

abbrev pub shape_of : Graph → Block → Shape
shape_of g b = shape_after g.arrays (map Some b.args) b.steps

pub record IsBlock (g : Graph) (b : Block) : Type 0 where
  pub args : All IsWidth b.args
  pub steps : StepsFit g.arrays (map Some b.args) b.steps
  pub jump : IsJump g (shape_of g b) b.jump

-- block 0 exists, and its arguments are the scalars
pub record IsGraph (g : Graph) : Type 0 where
  pub blocks : All (IsBlock g) g.blocks
  pub entry : Block
  pub first : slice_get g.blocks 0 ≡ Some entry
  pub scalars : entry.args ≡ map (λ s. ty_width s.ty) g.scalars

-- ---- visits

abbrev pub handed : List ℕ → To → Onward
handed vs to = onto to.block (map (value_at vs) to.with)

abbrev pub side : ℕ → Onward → Onward → Onward
side zero a b = b
side (suc c) a b = a

abbrev pub result_of : List ℕ → Option ℕ → Option ℕ
result_of vs None = None
result_of vs (Some v) = Some (value_at vs v)

abbrev pub onward_of : Jump → List ℕ → Onward
onward_of (Go to) vs = handed vs to
onward_of (Two c yes_part no_part) vs = side (value_at vs c) (handed vs yes_part) (handed vs no_part)
onward_of (Return v) vs = leaves (result_of vs v)

-- past the blocks: a block that returns nothing
abbrev pub no_block : Block
no_block = record { args = []; steps = []; jump = Return None }

abbrev pub block_at : Graph → ℕ → Block
block_at g b = get_or g.blocks b no_block

abbrev pub passage : Graph → Visit → Passage
passage g v =
    let b = block_at g v.block in
    let w = through b.steps (beginning v.given v.arrays) in
    record { values = w.values; arrays = w.arrays; strays = w.strays; onward = onward_of b.jump w.values }

-- the first visit on the patterns of scalars and arrays
abbrev pub first_visit : List ℕ → List (List ℕ) → Visit
first_visit scalars arrays = record { block = 0; given = scalars; arrays = arrays }

-- ---- weights

-- the values handed on by a jump, those of both targets counted
abbrev pub handed_on : Jump → ℕ
handed_on (Go to) = length to.with
handed_on (Two c yes_part no_part) = length yes_part.with + length no_part.with
handed_on (Return v) = 0

abbrev pub block_weight : Block → ℕ
block_weight b = 1 + length b.args + length b.steps + handed_on b.jump

abbrev pub weight : Graph → Visit → ℕ
weight g v = block_weight (block_at g v.block)

-- the size of a graph: each block once
abbrev pub size : Graph → ℕ
size g = sum_by block_weight g.blocks
