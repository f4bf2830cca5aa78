-- A jump on values under new numbers, with its condition stripped; one that is decided, or that leads to the same on both sides, has none.
use Rattle.std.specs.Prelude.{ℕ, zero, suc, ◌==◌, ◌&&◌, Bool, if◌then◌else◌, List, option_map, Option, Some, None}
use Rattle.std.specs.Cmp.Lexicographic.{pointwise}
use Rattle.ir.specs.declared.instr.Instr.{Instr}
use Rattle.ir.specs.declared.graph.Jump.{Jump}
use Rattle.ir.specs.declared.graph.Jump.TheVariants.{Go, Two, Return}
use Rattle.ir.specs.declared.graph.To.{To}
use Rattle.block_merge.specs.Renamed.{renamed_to}
use Rattle.block_rules.specs.declared.rewriting.Condition.{Condition}
use Rattle.block_rules.specs.Rules.{stripped}
use Rattle.block_rules.specs.Reading.{const_at}

abbrev pub same_target : To → To → Bool
same_target s t = (s.block == t.block) && pointwise ◌==◌ s.with t.with

-- on a condition that may be this constant
abbrev pub decided : ℕ → To → To → Option ℕ → Jump
decided c yes_part no_part (Some zero) = Go no_part
decided c yes_part no_part (Some (suc x)) = Go yes_part
decided c yes_part no_part None = if same_target yes_part no_part then Go yes_part else Two c yes_part no_part

abbrev pub decided_by : ℕ → List Instr → Condition → To → To → Jump
decided_by n steps d yes_part no_part =
    let c = const_at n steps d.value in
    if d.turned then decided d.value no_part yes_part c else decided d.value yes_part no_part c

-- in a block with n arguments and these steps, where f gives the new numbers
abbrev pub folded_jump : ℕ → List Instr → (ℕ → ℕ) → Jump → Jump
folded_jump n steps f (Go to) = Go (renamed_to f to)
folded_jump n steps f (Two c yes_part no_part) = decided_by n steps (stripped n steps (f c)) (renamed_to f yes_part) (renamed_to f no_part)
folded_jump n steps f (Return v) = Return (option_map f v)
