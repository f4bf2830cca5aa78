-- Copied joins: where a block leads on to blocks whose conditions are constants then, copies of them follow it.
use Rattle.std.specs.Prelude.{ℕ, zero, suc, ◌+◌, ◌&&◌, not, nat_le, Bool, false, cond, List, length, set, sum_by, Option, Some, None}
use Rattle.ir.specs.declared.graph.Block.{Block}
use Rattle.ir.specs.declared.graph.Jump.{Jump}
use Rattle.ir.specs.declared.graph.Jump.TheVariants.{Go, Two, Return}
use Rattle.ir.specs.Accesses.{accesses_in}
use Rattle.ir.specs.Graphs.{Graph, block_weight}
use Rattle.block_merge.specs.Renamed.{block_of}
use Rattle.block_merge.specs.Merged.{with_blocks}
use Rattle.block_copy.specs.declared.growing.Row.{Row}
use Rattle.block_copy.specs.Nonconstants.{nonconstants_in}
use Rattle.block_copy.specs.Growing.{best_row}
use Rattle.block_copy.specs.Searches.{leads_to}

-- does the row of block k end inside a loop that it entered: it leads to a block that it took in, without block k
abbrev pub ends_inside : List Block → ℕ → List ℕ → Jump → Bool
ends_inside bs k taken (Go to) = leads_to bs taken k to.block
ends_inside bs k taken (Two c yes_part no_part) = false
ends_inside bs k taken (Return v) = false

-- is block b small enough in the place of block k: of all blocks, of their accesses, and of their steps that are no constants
abbrev pub is_small : ℕ → List Block → ℕ → Block → Bool
is_small most bs k b =
    nat_le (nonconstants_in b.steps) (nonconstants_in (block_of bs k).steps + 96)
    && nat_le (block_weight b) most
    && nat_le (accesses_in b.steps) 1024
    && nat_le (sum_by block_weight (set bs k b)) 8000000

abbrev pub is_taken : ℕ → List Block → ℕ → Row → Bool
is_taken most bs k r = is_small most bs k r.block && not (ends_inside bs k r.taken r.block.jump)

abbrev pub with_row : ℕ → List Block → ℕ → Option Row → List Block
with_row most bs k None = bs
with_row most bs k (Some r) = cond (is_taken most bs k r) (set bs k r.block) bs

abbrev pub copied_by : ℕ → List Block → ℕ → Jump → List Block
copied_by most bs k (Go to) = with_row most bs k (best_row bs k)
copied_by most bs k (Two c yes_part no_part) = bs
copied_by most bs k (Return v) = bs

-- block k with the best part of its row, where that is taken
abbrev pub copied_at : ℕ → List Block → ℕ → List Block
copied_at most bs k = copied_by most bs k (block_of bs k).jump

-- so each of n blocks from block k on, one after the other
abbrev pub copied_blocks : ℕ → ℕ → List Block → ℕ → List Block
copied_blocks most zero bs k = bs
copied_blocks most (suc n) bs k = copied_blocks most n (copied_at most bs k) (suc k)

abbrev pub copied : ℕ → Graph → Graph
copied most g = with_blocks g (copied_blocks most (length g.blocks) g.blocks 0)
