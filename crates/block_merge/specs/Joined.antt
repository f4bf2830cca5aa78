-- Blocks in a row as one: a block takes in the block that it leads to, where no other edge leads there.
use Rattle.std.specs.Prelude.{ℕ, zero, suc, ◌+◌, ◌==◌, ◌&&◌, not, cond, List, [], ◌++◌, map, length, set, sum_by, Option, Some, None}
use Rattle.std.specs.Option.{option_map_or}
use Rattle.ir.specs.declared.graph.Block.{Block}
use Rattle.ir.specs.declared.graph.Jump.{Jump}
use Rattle.ir.specs.declared.graph.Jump.TheVariants.{Go, Two, Return}
use Rattle.ir.specs.declared.graph.To.{To}
use Rattle.ir.specs.Renaming.{renamed}
use Rattle.block_merge.specs.Renamed.{block_of, moved_to, renamed_jump}

-- the number of the first value of the second block's steps
abbrev pub values_of : Block → ℕ
values_of b = length b.args + length b.steps

-- block b and behind it block c, whose arguments are what b hands on
abbrev pub joined : Block → List ℕ → Block → Block
joined b with c =
    let f = moved_to with (values_of b) in record { args = b.args; steps = b.steps ++ map (renamed f) c.steps; jump = renamed_jump f c.jump }

-- what stays in the place of a block that was taken in: no edge but its own leads to it
abbrev pub idle : ℕ → Block
idle n = record { args = []; steps = []; jump = Go (record { block = n; with = [] }) }

abbrev pub joined_at : List Block → ℕ → To → List Block
joined_at bs k to = set (set bs k (joined (block_of bs k) to.with (block_of bs to.block))) to.block (idle to.block)

-- how many edges lead to block c
abbrev pub edge_to : ℕ → To → ℕ
edge_to c t = cond (t.block == c) 1 0

abbrev pub edges_of : ℕ → Jump → ℕ
edges_of c (Go t) = edge_to c t
edges_of c (Two v yes_part no_part) = edge_to c yes_part + edge_to c no_part
edges_of c (Return v) = 0

abbrev pub edges_to : List Block → ℕ → ℕ
edges_to bs c = sum_by (λ b. edges_of c b.jump) bs

-- the next block of the row in which block k stands: it leads there without a condition, and no other edge does
abbrev pub row_of_jump : List Block → ℕ → Jump → Option To
row_of_jump bs k (Go to) = cond (not (to.block == k) && (edges_to bs to.block == 1)) (Some to) None
row_of_jump bs k (Two c yes_part no_part) = None
row_of_jump bs k (Return v) = None

abbrev pub next_in_row : List Block → ℕ → Option To
next_in_row bs k = row_of_jump bs k (block_of bs k).jump

-- block k with at most n of the blocks in a row behind it
abbrev pub row_joined : ℕ → List Block → ℕ → List Block
row_joined zero bs k = bs
row_joined (suc n) bs k = option_map_or (λ to. row_joined n (joined_at bs k to) k) (next_in_row bs k) bs

-- so each of m blocks from block k on, one after the other
abbrev pub rows_joined : ℕ → List Block → ℕ → List Block
rows_joined zero bs k = bs
rows_joined (suc m) bs k = rows_joined m (row_joined (length bs) bs k) (suc k)

abbrev pub all_joined : List Block → List Block
all_joined bs = rows_joined (length bs) bs 0
