-- The block that reads only the variables that it uses and writes only those that it changes.
use Rattle.std.specs.Prelude.{ℕ, zero, suc, ◌+◌, ◌-◌, ◌==◌, not, nat_lt, if◌then◌else◌, Bool, false, List, [], ◌∷◌, ◌++◌, map, filter, length, slice_get, Option, Some, None, option_map}
use Rattle.std.specs.List.{list_any, flat_map}
use Rattle.ir.specs.declared.instr.Instr.{Instr}
use Rattle.ir.specs.declared.cfg.CfgBlock.{CfgBlock}
use Rattle.ir.specs.declared.cfg.CfgJump.{CfgJump}
use Rattle.ir.specs.declared.cfg.CfgJump.TheVariants.{Go, Two, Return}
use Rattle.ir.specs.declared.cfg.Write.{Write}
use Rattle.ir.specs.Variables.{VarGraph}
use Rattle.ir.specs.Renaming.{renamed, operands}

-- ---- the writes that are kept

-- is some write to the variable
abbrev pub is_written_by : List Write → ℕ → Bool
is_written_by xs v = list_any (λ x. x.var == v) xs

-- of the writes to one variable the last one counts
abbrev pub last_writes : List Write → List Write
last_writes [] = []
last_writes (x ∷ xs) = if is_written_by xs x.var then last_writes xs else (x ∷ last_writes xs)

abbrev pub is_variable : ℕ → Option ℕ → Bool
is_variable v None = false
is_variable v (Some r) = r == v

-- does the write give its variable what the block reads of it
abbrev pub is_unchanged : List ℕ → Write → Bool
is_unchanged reads x = is_variable x.var (slice_get reads x.value)

-- each variable that is written last with anything but what the block reads of it
abbrev pub kept_writes : List ℕ → List Write → List Write
kept_writes reads xs = filter (λ x. not (is_unchanged reads x)) (last_writes xs)

-- ---- the reads that are kept

-- the values that a jump uses
abbrev pub jump_operands : CfgJump → List ℕ
jump_operands (Go b) = []
jump_operands (Two c yes_part no_part) = c ∷ []
jump_operands (Return None) = []
jump_operands (Return (Some v)) = v ∷ []

-- the values that steps, writes and a jump use
abbrev pub uses : List Instr → List Write → CfgJump → List ℕ
uses steps writes jump = flat_map operands steps ++ (map (λ x. x.value) writes ++ jump_operands jump)

abbrev pub is_used : List ℕ → ℕ → Bool
is_used used a = list_any (λ b. b == a) used

-- of the reads, which are numbered from i on, those that are used
abbrev pub kept_reads : List ℕ → ℕ → List ℕ → List ℕ
kept_reads used i [] = []
kept_reads used i (r ∷ rs) = if is_used used i then (r ∷ kept_reads used (suc i) rs) else kept_reads used (suc i) rs

-- ---- their new numbers

-- how many of n numbers from i on are used
abbrev pub used_among : List ℕ → ℕ → ℕ → ℕ
used_among used i zero = 0
used_among used i (suc n) = (if is_used used i then 1 else 0) + used_among used (suc i) n

-- the new number of a value, where n values are reads: a read stands behind the kept reads before it, a step's value behind all kept reads
abbrev pub number_among : List ℕ → ℕ → ℕ → ℕ
number_among used n a = if nat_lt a n then used_among used 0 a else (used_among used 0 n + (a - n))

abbrev pub renamed_write : (ℕ → ℕ) → Write → Write
renamed_write f x = record { var = x.var; value = f x.value }

abbrev pub renamed_jump : (ℕ → ℕ) → CfgJump → CfgJump
renamed_jump f (Go b) = Go b
renamed_jump f (Two c yes_part no_part) = Two (f c) yes_part no_part
renamed_jump f (Return v) = Return (option_map f v)

-- ---- blocks and graphs

-- the values that a block uses, its kept writes alone counted
abbrev pub block_uses : CfgBlock → List ℕ
block_uses b = uses b.steps (kept_writes b.reads b.writes) b.jump

abbrev pub trimmed_number : CfgBlock → ℕ → ℕ
trimmed_number b = number_among (block_uses b) (length b.reads)

abbrev pub trimmed_block : CfgBlock → CfgBlock
trimmed_block b = record {
  reads = kept_reads (block_uses b) 0 b.reads;
  steps = map (renamed (trimmed_number b)) b.steps;
  writes = map (renamed_write (trimmed_number b)) (kept_writes b.reads b.writes);
  jump = renamed_jump (trimmed_number b) b.jump;
}

-- the graph with each block trimmed
abbrev pub trimmed : VarGraph → VarGraph
trimmed g = record { name = g.name; scalars = g.scalars; arrays = g.arrays; result = g.result; vars = g.vars; blocks = map trimmed_block g.blocks }
