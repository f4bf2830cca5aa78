-- Which operands fit a step: each names an earlier value of its block that has the width that is needed there.
use Rattle.std.specs.Prelude.{◌≡◌, ℕ, ◌^◌, ◌<◌, ◌⊎◌, List, [], ◌∷◌, ◌++◌, slice_get, Option, Some, None}
use Rattle.el_base.specs.declared.ty.Array.{Array}
use Rattle.el_base.specs.Widths.{ty_width, op1_in, op1_out, op2_in, op2_out}
use Rattle.ir.specs.declared.instr.Instr.{Instr}
use Rattle.ir.specs.declared.instr.Instr.TheVariants.{Const, One, Two, Select, Load, Store}

abbrev pub IsWidth : ℕ → Type 0
IsWidth w = (w ≡ 8) ⊎ (w ≡ 16) ⊎ (w ≡ 32) ⊎ (w ≡ 64)

-- the width of each value so far; a store has none
abbrev pub Shape : Type 0
Shape = List (Option ℕ)

abbrev pub IsOfWidth : Shape → ℕ → ℕ → Type 0
IsOfWidth ws v w = slice_get ws v ≡ Some (Some w)

abbrev pub IsArray : List Array → ℕ → ℕ → Type 0
IsArray arrays a w = (x : Array) × (slice_get arrays a ≡ Some x) × (ty_width x.ty ≡ w)

-- the width of a step's value, where it has one
abbrev pub element_width : Option Array → Option ℕ
element_width None = None
element_width (Some x) = Some (ty_width x.ty)

abbrev pub step_width : List Array → Instr → Option ℕ
step_width arrays (Const w n) = Some w
step_width arrays (One op a) = Some (op1_out op)
step_width arrays (Two op a b) = Some (op2_out op)
step_width arrays (Select w c a b) = Some w
step_width arrays (Load a p) = element_width (slice_get arrays a)
step_width arrays (Store a p v) = None

abbrev pub StepFits : List Array → Shape → Instr → Type 0
StepFits arrays ws (Const w n) = IsWidth w × (n < 2 ^ w)
StepFits arrays ws (One op a) = IsOfWidth ws a (op1_in op)
StepFits arrays ws (Two op a b) = IsOfWidth ws a (op2_in op) × IsOfWidth ws b (op2_in op)
StepFits arrays ws (Select w c a b) = IsWidth w × IsOfWidth ws c 32 × IsOfWidth ws a w × IsOfWidth ws b w
StepFits arrays ws (Load a p) = (w : ℕ) × IsArray arrays a w × IsOfWidth ws p 64
StepFits arrays ws (Store a p v) = (w : ℕ) × IsArray arrays a w × IsOfWidth ws p 64 × IsOfWidth ws v w

abbrev pub StepsFit : List Array → Shape → List Instr → Type 0
StepsFit arrays ws [] = Unit {0}
StepsFit arrays ws (i ∷ is) = StepFits arrays ws i × StepsFit arrays (ws ++ step_width arrays i ∷ []) is

-- the widths after the steps
abbrev pub shape_after : List Array → Shape → List Instr → Shape
shape_after arrays ws [] = ws
shape_after arrays ws (i ∷ is) = shape_after arrays (ws ++ step_width arrays i ∷ []) is
