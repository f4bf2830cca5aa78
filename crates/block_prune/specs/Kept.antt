-- A block of which the marked steps stay, under new numbers; its arguments stay.
use Rattle.std.specs.Prelude.{ℕ, zero, suc, ◌+◌, ◌-◌, nat_lt, if◌then◌else◌, Bool, List, [], ◌∷◌, map, length}
use Rattle.ir.specs.declared.instr.Instr.{Instr}
use Rattle.ir.specs.declared.graph.Block.{Block}
use Rattle.ir.specs.Renaming.{renamed}
use Rattle.block_merge.specs.Renamed.{renamed_jump}

-- the marked steps, in order
abbrev pub kept_steps : List Bool → List Instr → List Instr
kept_steps [] is = []
kept_steps (m ∷ ms) [] = []
kept_steps (m ∷ ms) (i ∷ is) = if m then (i ∷ kept_steps ms is) else kept_steps ms is

-- how many of the first k marks are set
abbrev pub kept_before : List Bool → ℕ → ℕ
kept_before [] k = 0
kept_before (m ∷ ms) zero = 0
kept_before (m ∷ ms) (suc k) = (if m then 1 else 0) + kept_before ms k

-- the new number of a value behind n arguments: an argument stays, and a step's value stands behind those of the marked steps before it
abbrev pub new_number : List Bool → ℕ → ℕ → ℕ
new_number ms n a = if nat_lt a n then a else (n + kept_before ms (a - n))

abbrev pub kept_block : List Bool → Block → Block
kept_block ms b = record {
  args = b.args;
  steps = map (renamed (new_number ms (length b.args))) (kept_steps ms b.steps);
  jump = renamed_jump (new_number ms (length b.args)) b.jump;
}
