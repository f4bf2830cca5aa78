-- What is known of the values of a block that is being made: each is what its step says.
use Rattle.std.specs.Prelude.{◌≡◌, ℕ, ◌+◌, List, [], length, slice_get, Some}
use Rattle.el_base.specs.declared.ty.Array.{Array}
use Rattle.ir.specs.declared.instr.Instr.{Instr}
use Rattle.ir.specs.declared.instr.Instr.TheVariants.{Const, One, Two, Select, Load, Store}
use Rattle.ir.specs.Shapes.{Shape, StepFits, step_width}
use Rattle.ir.specs.Steps.{value_at, step_value}
use Rattle.block_pass.specs.Fitting.{FitShape}

-- a step that neither reads nor writes an array
abbrev pub IsPure : Instr → Type 0
IsPure (Const w n) = Unit {0}
IsPure (One op a) = Unit {0}
IsPure (Two op a b) = Unit {0}
IsPure (Select w c a b) = Unit {0}
IsPure (Load a p) = ⊥
IsPure (Store a p v) = ⊥

-- the value of a pure step, for which arrays do not matter
abbrev pub pure_value : Instr → List ℕ → ℕ
pure_value i vs = step_value i vs []

-- The values vs, of the shape ws, of a block with n arguments behind these steps: as many as arguments and steps, each below two to its
-- width; each step fits the shape and has its width there; and the value of each pure step is what the step gives.
pub record AreValues (arrays : List Array) (n : ℕ) (steps : List Instr) (ws : Shape) (vs : List ℕ) : Type 0 where
  pub long : length ws ≡ n + length steps
  pub fit : FitShape ws vs
  pub fits : (k : ℕ) (i : Instr) → slice_get steps k ≡ Some i → StepFits arrays ws i
  pub widths : (k : ℕ) (i : Instr) → slice_get steps k ≡ Some i → slice_get ws (n + k) ≡ Some (step_width arrays i)
  pub each : (k : ℕ) (i : Instr) → slice_get steps k ≡ Some i → IsPure i → value_at vs (n + k) ≡ pure_value i vs
