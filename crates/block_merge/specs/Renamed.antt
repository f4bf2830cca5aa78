-- Steps and jumps of a block whose arguments become the values that another block hands on for them.
use Rattle.std.specs.Prelude.{ℕ, ◌+◌, ◌-◌, List, map, length, get_or, nat_lt, if◌then◌else◌, option_map}
use Rattle.ir.specs.declared.graph.Block.{Block}
use Rattle.ir.specs.declared.graph.Jump.{Jump}
use Rattle.ir.specs.declared.graph.Jump.TheVariants.{Go, Two, Return}
use Rattle.ir.specs.declared.graph.To.{To}
use Rattle.ir.specs.Graphs.{no_block}

-- the block of that number; past the blocks, one that returns nothing
abbrev pub block_of : List Block → ℕ → Block
block_of bs n = get_or bs n no_block

-- the new number of a value: an argument is the value that is handed on for it, and the values of steps stand from m on
abbrev pub moved_to : List ℕ → ℕ → ℕ → ℕ
moved_to with m a = if nat_lt a (length with) then get_or with a 0 else m + (a - length with)

abbrev pub renamed_to : (ℕ → ℕ) → To → To
renamed_to f to = record { block = to.block; with = map f to.with }

abbrev pub renamed_jump : (ℕ → ℕ) → Jump → Jump
renamed_jump f (Go to) = Go (renamed_to f to)
renamed_jump f (Two c yes_part no_part) = Two (f c) (renamed_to f yes_part) (renamed_to f no_part)
renamed_jump f (Return v) = Return (option_map f v)
