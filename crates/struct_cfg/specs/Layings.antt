-- Steps that are laid one after another in a block, each for a value that later steps name.
use Rattle.std.specs.Prelude.{ℕ, ◌+◌, List, [], ◌∷◌, ◌++◌, length, Option, Some, None}
use Rattle.el_base.specs.declared.ty.Ty.{Ty}
use Rattle.el_base.specs.declared.operation.Op1.{Op1}
use Rattle.ir.specs.declared.instr.Instr.{Instr}
use Rattle.ir.specs.declared.instr.Instr.TheVariants.{One}

-- the steps that are laid for a value, and its number
pub record Laid : Type 0 where
  pub steps : List Instr
  pub value : ℕ

-- what is laid where n is the number of the next value
abbrev pub Laying : Type 0
Laying = ℕ → Laid

-- a value that is there takes no step
abbrev pub no_step : ℕ → Laying
no_step v n = record { steps = []; value = v }

abbrev pub one_step : Instr → Laying
one_step i n = record { steps = i ∷ []; value = n }

-- one laying, and then another that may name its value
unfoldable pub after : Laying → (ℕ → Laying) → Laying
after a f n =
    let x = a n in
    let y = f x.value (n + length x.steps) in
    record { steps = x.steps ++ y.steps; value = y.value }

-- an operation on a value, if there is one
abbrev pub applied : Option Op1 → ℕ → Laying
applied None v = no_step v
applied (Some op) v = one_step (One op v)

-- what is laid for a part of an expression, of a type
pub record Piece : Type 0 where
  pub ty : Ty
  pub laying : Laying
