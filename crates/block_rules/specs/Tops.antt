-- The greatest value that a value can have, by the steps that make it.
use Rattle.std.specs.Prelude.{ℕ, zero, suc, ◌-◌, ◌^◌, ◌==◌, min, max, if◌then◌else◌, List, Option, Some, None}
use Rattle.el_base.specs.declared.operation.Op2.{Op2}
use Rattle.el_base.specs.Widths.{op1_in, op2_in}
use Rattle.word_rules.specs.Bounds.{greatest1, greatest2, greatest_by}
use Rattle.ir.specs.declared.instr.Instr.{Instr}
use Rattle.ir.specs.declared.instr.Instr.TheVariants.{Const, One, Two, Select, Load, Store}
use Rattle.block_rules.specs.Reading.{step_at, const_at}

-- the greatest pattern of any width
abbrev pub any_top : ℕ
any_top = 2 ^ 64 - 1

-- no more than the greatest pattern of 8, 16, 32 or 64 bits
unfoldable pub narrowed : ℕ → ℕ → ℕ
narrowed w x = if w == 8 then min x (2 ^ 8 - 1) else (if w == 16 then min x (2 ^ 16 - 1) else (if w == 32 then min x (2 ^ 32 - 1) else min x (2 ^ 64 - 1)))

-- of a result, where the operands are at most x and y, of which the second may be a constant
unfoldable pub top_of_two : Op2 → Option ℕ → ℕ → ℕ → ℕ
top_of_two op None x y = greatest2 op x y
top_of_two op (Some c) x y = if c == 0 then greatest2 op x y else greatest_by op x c

-- of the value of a step, where f gives that of an operand
abbrev pub top_of : (ℕ → ℕ) → ℕ → List Instr → Option Instr → ℕ
top_of f n steps None = any_top
top_of f n steps (Some (Const w c)) = c
top_of f n steps (Some (One op a)) = greatest1 op (narrowed (op1_in op) (f a))
top_of f n steps (Some (Two op a b)) = top_of_two op (const_at n steps b) (narrowed (op2_in op) (f a)) (narrowed (op2_in op) (f b))
top_of f n steps (Some (Select w c a b)) = max (f a) (f b)
top_of f n steps (Some (Load a p)) = any_top
top_of f n steps (Some (Store a p v)) = any_top

-- by k steps before it
unfoldable pub top_within : ℕ → ℕ → List Instr → ℕ → ℕ
top_within zero n steps v = any_top
top_within (suc k) n steps v = top_of (λ x. top_within k n steps x) n steps (step_at n steps v)
