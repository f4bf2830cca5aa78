-- What the steps of a block with n arguments say of a value.
use Rattle.std.specs.Prelude.{ℕ, ◌-◌, nat_lt, if◌then◌else◌, Bool, false, List, slice_get, Option, Some, None}
use Rattle.ir.specs.declared.instr.Instr.{Instr}
use Rattle.ir.specs.declared.instr.Instr.TheVariants.{Const, One, Two, Select, Load, Store}
use Rattle.block_rules.specs.Kinds.{kind_of, is_zero, is_comparison}

-- the step that makes it; an argument has none
abbrev pub step_at : ℕ → List Instr → ℕ → Option Instr
step_at n steps v = if nat_lt v n then None else slice_get steps (v - n)

abbrev pub constant_of : Option Instr → Option ℕ
constant_of None = None
constant_of (Some (Const w c)) = Some c
constant_of (Some (One op a)) = None
constant_of (Some (Two op a b)) = None
constant_of (Some (Select w c a b)) = None
constant_of (Some (Load a p)) = None
constant_of (Some (Store a p v)) = None

-- the constant that it is, if it is one
unfoldable pub const_at : ℕ → List Instr → ℕ → Option ℕ
const_at n steps v = constant_of (step_at n steps v)

-- a comparison or a test for 0
abbrev pub tests : Option Instr → Bool
tests None = false
tests (Some (Const w c)) = false
tests (Some (One op a)) = is_zero op
tests (Some (Two op a b)) = is_comparison (kind_of op)
tests (Some (Select w c a b)) = false
tests (Some (Load a p)) = false
tests (Some (Store a p v)) = false

-- whether it is 0 or 1 since it is a test's value
unfoldable pub is_test : ℕ → List Instr → ℕ → Bool
is_test n steps v = tests (step_at n steps v)
