-- What is known of arrays while a block with n arguments is made: values that stand at addresses.
use Rattle.std.specs.Prelude.{ℕ, ◌==◌, ◌&&◌, ◌||◌, not, Bool, true, false, if◌then◌else◌, List, [], ◌∷◌, Option, Some, None}
use Rattle.el_base.specs.declared.operation.Op2.{Op2}
use Rattle.el_base.specs.declared.operation.Op2.TheVariants.{Add64}
use Rattle.el_base.specs.contracts.operation.Op2PartialEq.TheImpl as equality
use Rattle.ir.specs.declared.instr.Instr.{Instr}
use Rattle.ir.specs.declared.instr.Instr.TheVariants.{Const, One, Two, Select, Load, Store}
use Rattle.block_fold.specs.declared.known.Known.{Known}
use Rattle.block_fold.specs.declared.known.Sum.{Sum}
use Rattle.block_rules.specs.Reading.{step_at, const_at}

-- the value that is known to stand at an address of an array
abbrev pub known_value : List Known → ℕ → ℕ → Option ℕ
known_value [] a p = None
known_value (k ∷ ks) a p = if (k.array == a) && (k.addr == p) then Some k.value else known_value ks a p

-- a value alone
abbrev pub alone : ℕ → Sum
alone v = record { base = Some v; constant = 0 }

abbrev pub sum_with : ℕ → ℕ → Option ℕ → Sum
sum_with v x None = alone v
sum_with v x (Some c) = record { base = Some x; constant = c }

-- is the operation the sum of 64 bits
abbrev pub is_sum : Op2 → Bool
is_sum op = equality.ghosts.eq op Add64

-- value v of this step
abbrev pub sum_of_step : ℕ → List Instr → ℕ → Option Instr → Sum
sum_of_step n steps v None = alone v
sum_of_step n steps v (Some (Const w c)) = record { base = None; constant = c }
sum_of_step n steps v (Some (One op x)) = alone v
sum_of_step n steps v (Some (Two op x y)) = if is_sum op then sum_with v x (const_at n steps y) else alone v
sum_of_step n steps v (Some (Select w c x y)) = alone v
sum_of_step n steps v (Some (Load a p)) = alone v
sum_of_step n steps v (Some (Store a p x)) = alone v

abbrev pub sum_at : ℕ → List Instr → ℕ → Sum
sum_at n steps v = sum_of_step n steps v (step_at n steps v)

abbrev pub same_base : Option ℕ → Option ℕ → Bool
same_base None None = true
same_base (Some x) (Some y) = x == y
same_base None (Some y) = false
same_base (Some x) None = false

-- are two addresses surely not equal: the same base with different constants
abbrev pub differ : ℕ → List Instr → ℕ → ℕ → Bool
differ n steps p q =
    let s = sum_at n steps p in let t = sum_at n steps q in same_base s.base t.base && not (s.constant == t.constant)

-- does it stay known over a store at address p of array a
abbrev pub stays_known : ℕ → List Instr → ℕ → ℕ → Known → Bool
stays_known n steps a p k = not (k.array == a) || differ n steps k.addr p
