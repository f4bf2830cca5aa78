-- New numbers of values that a u32 holds.
use Rattle.std.specs.Prelude.{ℕ, ◌+◌, ◌-◌, List, length, Some, None, All}
use Rattle.el_base.specs.Limits.{IsNumbered}
use Rattle.ir.specs.declared.instr.Instr.{Instr}
use Rattle.ir.specs.declared.graph.Jump.{Jump}
use Rattle.ir.specs.declared.graph.Jump.TheVariants.{Go, Two, Return}
use Rattle.ir.specs.Renaming.{operands}
use Rattle.block_merge.specs.declared.moving.Numbers.{Numbers}
use Rattle.block_merge.specs.Renamed.{moved_to}

abbrev pub new_number : Numbers → ℕ → ℕ
new_number ns a = moved_to ns.args ns.steps a

abbrev pub IsMovable : Numbers → ℕ → Type 0
IsMovable ns a = IsNumbered (ns.steps + (a - length ns.args))

abbrev pub AreMovable : Numbers → List ℕ → Type 0
AreMovable ns xs = All (IsMovable ns) xs

abbrev pub StepsAreMovable : Numbers → List Instr → Type 0
StepsAreMovable ns is = All (λ i. AreMovable ns (operands i)) is

-- and so the values that a jump names
abbrev pub JumpIsMovable : Numbers → Jump → Type 0
JumpIsMovable ns (Go to) = AreMovable ns to.with
JumpIsMovable ns (Two c yes_part no_part) = IsMovable ns c × AreMovable ns yes_part.with × AreMovable ns no_part.with
JumpIsMovable ns (Return None) = Unit {0}
JumpIsMovable ns (Return (Some v)) = IsMovable ns v
