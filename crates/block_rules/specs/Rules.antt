-- Which value or which steps a pure step becomes, in a block with n arguments behind these steps.
use Rattle.std.specs.Prelude.{ℕ, ◌+◌, ◌-◌, ◌^◌, nat_lt, ◌&&◌, if◌then◌else◌, List, length, Option, Some, None}
use Rattle.el_base.specs.declared.operation.Op2.{Op2}
use Rattle.ir.specs.declared.instr.Instr.{Instr}
use Rattle.ir.specs.declared.instr.Instr.TheVariants.{Const, One, Two, Select, Load, Store}
use Rattle.block_rules.specs.declared.change.Change.{Change}
use Rattle.block_rules.specs.declared.change.Change.TheVariants.{Stays, Is, Becomes, BecomesTwo}
use Rattle.block_rules.specs.declared.rewriting.Rewriting.{Rewriting}
use Rattle.block_rules.specs.declared.rewriting.Rewriting.TheVariants.{Kept}
use Rattle.el_base.specs.Widths.{op2_in}
use Rattle.block_rules.specs.Kinds.{bits, word_of, kind_of, is_division}
use Rattle.block_rules.specs.Tops.{narrowed, top_within}
use Rattle.block_rules.specs.Divisions.{divided}
use Rattle.block_rules.specs.Reading.{const_at, is_test}
use Rattle.block_rules.specs.Changes.{rewriting_of}
use Rattle.block_rules.specs.OneRules.{one_change}
use Rattle.block_rules.specs.TwoRules.{by_constants}
use Rattle.block_rules.specs.SelectRules.{select_change}
pub use Rattle.block_rules.specs.Conditions.{stripped}

unfoldable pub two_change : ℕ → List Instr → Op2 → ℕ → ℕ → Change
two_change n steps op a b = by_constants op (n + length steps) a b (const_at n steps a) (const_at n steps b) (is_test n steps a)

unfoldable pub changed : ℕ → List Instr → Instr → Change
changed n steps (Const w c) = Stays
changed n steps (One op a) = one_change n steps op a
changed n steps (Two op a b) = two_change n steps op a b
changed n steps (Select w c a b) = select_change n steps w c a b
changed n steps (Load a p) = Stays
changed n steps (Store a p v) = Stays

-- ---- where no rule above applies, a division by a constant

-- the divisor is at least 2, its sign bit is not set, and the steps can be numbered
unfoldable pub divided_by : ℕ → List Instr → Op2 → ℕ → ℕ → ℕ → Rewriting
divided_by n steps op a b d =
    let k = kind_of op in
    let w = word_of (op2_in op) in
    let m = n + length steps in
    if ((is_division k && nat_lt 1 d) && nat_lt d (2 ^ (bits w - 1))) && nat_lt m (2 ^ 32 - 16)
    then divided k w (record { next = m; left = a; right = b; divisor = d; top = narrowed (bits w) (top_within 8 n steps a) }) else Kept

abbrev pub by_divisor : ℕ → List Instr → Op2 → ℕ → ℕ → Option ℕ → Rewriting
by_divisor n steps op a b None = Kept
by_divisor n steps op a b (Some d) = divided_by n steps op a b d

unfoldable pub division_of : ℕ → List Instr → Instr → Rewriting
division_of n steps (Const w c) = Kept
division_of n steps (One op a) = Kept
division_of n steps (Two op a b) = by_divisor n steps op a b (const_at n steps b)
division_of n steps (Select w c a b) = Kept
division_of n steps (Load a p) = Kept
division_of n steps (Store a p v) = Kept

abbrev pub or_else : Change → Rewriting → Rewriting
or_else Stays r = r
or_else (Is v) r = rewriting_of (Is v)
or_else (Becomes i) r = rewriting_of (Becomes i)
or_else (BecomesTwo i j) r = rewriting_of (BecomesTwo i j)

unfoldable pub rewritten : ℕ → List Instr → Instr → Rewriting
rewritten n steps i = or_else (changed n steps i) (division_of n steps i)
