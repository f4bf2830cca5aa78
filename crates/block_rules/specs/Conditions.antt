-- A condition without tests around it that only turn it or leave it as it is.
use Rattle.std.specs.Prelude.{ℕ, zero, suc, ◌==◌, ◌&&◌, if◌then◌else◌, not, Bool, true, false, List, Option, Some, None}
use Rattle.el_base.specs.Widths.{op1_in, op2_in}
use Rattle.ir.specs.declared.instr.Instr.{Instr}
use Rattle.ir.specs.declared.instr.Instr.TheVariants.{Const, One, Two, Select, Load, Store}
use Rattle.block_rules.specs.declared.rewriting.Condition.{Condition}
use Rattle.block_rules.specs.Kinds.{kind_of, is_zero, is_unequal}
use Rattle.block_rules.specs.Reading.{step_at, const_at}

abbrev pub is_constant : ℕ → Option ℕ → Bool
is_constant c None = false
is_constant c (Some x) = x == c

-- the operand of a test for 0 of 32 bits, turned, and that of a test of 32 bits for a difference from 0
abbrev pub inside : ℕ → List Instr → Option Instr → Option Condition
inside n steps None = None
inside n steps (Some (Const w c)) = None
inside n steps (Some (One op a)) = if is_zero op && op1_in op == 32 then Some (record { value = a; turned = true }) else None
inside n steps (Some (Two op a b)) = if (is_unequal (kind_of op) && op2_in op == 32) && is_constant 0 (const_at n steps b) then Some (record { value = a; turned = false }) else None
inside n steps (Some (Select w c a b)) = None
inside n steps (Some (Load a p)) = None
inside n steps (Some (Store a p v)) = None

-- a condition that is the other, within one that is turned or not
abbrev pub within : Condition → Option Condition → Condition
within d None = d
within d (Some e) = record { value = e.value; turned = if e.turned then not d.turned else d.turned }

unfoldable pub peeled : ℕ → List Instr → Condition → Condition
peeled n steps d = within d (inside n steps (step_at n steps d.value))

-- without k tests around it
unfoldable pub peeled_times : ℕ → ℕ → List Instr → Condition → Condition
peeled_times zero n steps d = d
peeled_times (suc k) n steps d = peeled_times k n steps (peeled n steps d)

-- without the first eight tests around it
unfoldable pub stripped : ℕ → List Instr → ℕ → Condition
stripped n steps c = peeled_times 8 n steps (record { value = c; turned = false })
