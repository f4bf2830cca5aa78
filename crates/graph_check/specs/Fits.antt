-- Private: only contracts of private functions cite it. Whether the parts of a graph fit, as tests that say yes or no.
use Rattle.std.specs.Prelude.{ℕ, ◌^◌, ◌==◌, nat_lt, ◌&&◌, cond, Bool, true, false, List, [], ◌∷◌, ◌++◌, map, slice_get, Option, Some, None}
use Rattle.el_base.specs.declared.ty.Ty.{Ty}
use Rattle.el_base.specs.declared.ty.Array.{Array}
use Rattle.el_base.specs.Widths.{ty_width, op1_in, op2_in}
use Rattle.net_types.specs.Rules.{is_width}
use Rattle.ir.specs.declared.graph.Block.{Block}
use Rattle.ir.specs.declared.graph.Jump.{Jump}
use Rattle.ir.specs.declared.graph.Jump.TheVariants.{Go, Two, Return}
use Rattle.ir.specs.declared.graph.To.{To}
use Rattle.ir.specs.declared.instr.Instr.{Instr}
use Rattle.ir.specs.declared.instr.Instr.TheVariants as step
use Rattle.ir.specs.Shapes.{Shape, element_width, step_width}
use Rattle.ir.specs.Graphs.{Graph}

-- ---- values and steps

abbrev pub width_is : ℕ → Option (Option ℕ) → Bool
width_is w None = false
width_is w (Some None) = false
width_is w (Some (Some x)) = x == w

abbrev pub has_width : Shape → ℕ → ℕ → Bool
has_width ws v w = width_is w (slice_get ws v)

abbrev pub load_fits : Option ℕ → Shape → ℕ → Bool
load_fits None ws p = false
load_fits (Some w) ws p = has_width ws p 64

abbrev pub store_fits : Option ℕ → Shape → ℕ → ℕ → Bool
store_fits None ws p v = false
store_fits (Some w) ws p v = has_width ws p 64 && has_width ws v w

abbrev pub step_fits : List Array → Shape → Instr → Bool
step_fits arrays ws (step.Const w n) = is_width w && nat_lt n (2 ^ w)
step_fits arrays ws (step.One op a) = has_width ws a (op1_in op)
step_fits arrays ws (step.Two op a b) = has_width ws a (op2_in op) && has_width ws b (op2_in op)
step_fits arrays ws (step.Select w c a b) = is_width w && (has_width ws c 32 && (has_width ws a w && has_width ws b w))
step_fits arrays ws (step.Load a p) = load_fits (element_width (slice_get arrays a)) ws p
step_fits arrays ws (step.Store a p v) = store_fits (element_width (slice_get arrays a)) ws p v

-- the widths after the steps, where each fits
abbrev pub shape_if : List Array → Shape → List Instr → Option Shape
shape_if arrays ws [] = Some ws
shape_if arrays ws (i ∷ is) = cond (step_fits arrays ws i) (shape_if arrays (ws ++ step_width arrays i ∷ []) is) None

-- ---- jumps

abbrev pub handed_fit : Shape → List ℕ → List ℕ → Bool
handed_fit ws [] [] = true
handed_fit ws (v ∷ vs) (w ∷ args) = has_width ws v w && handed_fit ws vs args
handed_fit ws [] (w ∷ args) = false
handed_fit ws (v ∷ vs) [] = false

abbrev pub takes : Option Block → Shape → List ℕ → Bool
takes None ws vs = false
takes (Some b) ws vs = handed_fit ws vs b.args

abbrev pub target_fits : List Block → Shape → To → Bool
target_fits blocks ws to = nat_lt 0 to.block && takes (slice_get blocks to.block) ws to.with

abbrev pub return_fits : Option Ty → Shape → Option ℕ → Bool
return_fits None ws None = true
return_fits (Some t) ws (Some v) = has_width ws v (ty_width t)
return_fits None ws (Some v) = false
return_fits (Some t) ws None = false

abbrev pub jump_fits : Option Ty → List Block → Shape → Jump → Bool
jump_fits result blocks ws (Go to) = target_fits blocks ws to
jump_fits result blocks ws (Two c yes_part no_part) = has_width ws c 32 && (target_fits blocks ws yes_part && target_fits blocks ws no_part)
jump_fits result blocks ws (Return v) = return_fits result ws v

-- ---- blocks

abbrev pub widths_fit : List ℕ → Bool
widths_fit [] = true
widths_fit (w ∷ ws) = cond (is_width w) (widths_fit ws) false

abbrev pub ends_well : Option Ty → List Block → Option Shape → Jump → Bool
ends_well result blocks None j = false
ends_well result blocks (Some ws) j = jump_fits result blocks ws j

abbrev pub block_fits : List Array → Option Ty → List Block → Block → Bool
block_fits arrays result blocks b = widths_fit b.args && ends_well result blocks (shape_if arrays (map Some b.args) b.steps) b.jump

abbrev pub blocks_fit : List Array → Option Ty → List Block → List Block → Bool
blocks_fit arrays result blocks [] = true
blocks_fit arrays result blocks (b ∷ bs) = cond (block_fits arrays result blocks b) (blocks_fit arrays result blocks bs) false

-- ---- the entry

abbrev pub same_numbers : List ℕ → List ℕ → Bool
same_numbers [] [] = true
same_numbers (x ∷ xs) (y ∷ ys) = (x == y) && same_numbers xs ys
same_numbers [] (y ∷ ys) = false
same_numbers (x ∷ xs) [] = false

abbrev pub enters : Option Block → List ℕ → Bool
enters None ws = false
enters (Some b) ws = same_numbers b.args ws

abbrev pub graph_fits : Graph → Bool
graph_fits g = enters (slice_get g.blocks 0) (map (λ s. ty_width s.ty) g.scalars) && blocks_fit g.arrays g.result g.blocks g.blocks
