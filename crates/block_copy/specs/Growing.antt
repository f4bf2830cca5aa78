-- The row of a block: copies of the blocks to which it leads, folded behind it one after the other, as long as conditions are decided.
use Rattle.std.specs.Prelude.{ℕ, zero, suc, ◌+◌, ◌-◌, ◌==◌, ◌&&◌, ◌||◌, nat_le, Bool, true, false, cond, List, [], ◌∷◌, ◌++◌, length, Option, Some, None, is_some}
use Rattle.ir.specs.declared.graph.Block.{Block}
use Rattle.ir.specs.declared.graph.Jump.{Jump}
use Rattle.ir.specs.declared.graph.Jump.TheVariants.{Go, Two, Return}
use Rattle.ir.specs.Graphs.{block_weight}
use Rattle.block_merge.specs.Renamed.{block_of}
use Rattle.block_merge.specs.Joined.{joined}
use Rattle.block_merge.specs.Parts.{given_on}
use Rattle.block_fold.specs.Folded.{folded_block}
use Rattle.block_copy.specs.declared.growing.Row.{Row}
use Rattle.block_copy.specs.declared.growing.Growth.{Growth}
use Rattle.block_copy.specs.declared.growing.Turn.{Turn}
use Rattle.block_copy.specs.declared.growing.Turn.TheVariants.{Ends, Goes}
use Rattle.block_copy.specs.Nonconstants.{nonconstants_in}

-- ---- jumps

abbrev pub has_condition : Jump → Bool
has_condition (Go to) = false
has_condition (Two c yes_part no_part) = true
has_condition (Return v) = false

abbrev pub is_return : Jump → Bool
is_return (Go to) = false
is_return (Two c yes_part no_part) = false
is_return (Return v) = true

-- the block other than k to which a jump leads without a condition
abbrev pub next_of : ℕ → Jump → Option ℕ
next_of k (Go to) = cond (to.block == k) None (Some to.block)
next_of k (Two c yes_part no_part) = None
next_of k (Return v) = None

-- ---- one copy more

-- a block folded with a copy of block c behind it
unfoldable pub folded_behind : Block → Block → Block
folded_behind b c = folded_block (joined b (given_on b.jump) c)

-- the row with a copy of block n behind it
abbrev pub row_behind : List Block → Row → ℕ → Row
row_behind bs r n = record { block = folded_behind r.block (block_of bs n); taken = r.taken ++ n ∷ [] }

-- can the row take in block c: what is looked at has not been too much, there are not too many steps that are no constants, the values can
-- be numbered, and something was decided, or this is the first copy
abbrev pub can_take_in : ℕ → Growth → Block → Bool
can_take_in limit s c =
    nat_le (block_weight c) s.unseen
    && nat_le (nonconstants_in s.row.block.steps) limit
    && nat_le (block_weight s.row.block + block_weight c) 8000000
    && (is_some s.best || (length s.row.taken == 0))

-- the best part of the row, where it took in block c: all, where a condition was decided, or where it returns behind one that was
abbrev pub best_with : Option Row → Block → Row → Option Row
best_with best c r = cond (has_condition c.jump || (is_return r.block.jump && is_some best)) (Some r) best

-- the row ends before block c where its condition is not decided
abbrev pub turn_with : Growth → Block → Row → Turn
turn_with s c r =
    cond (has_condition c.jump && has_condition r.block.jump) (Ends s.best)
    (Goes (record { row = r; best = best_with s.best c r; unseen = s.unseen - block_weight c }))

abbrev pub turn_to : List Block → ℕ → Growth → Option ℕ → Turn
turn_to bs limit s None = Ends s.best
turn_to bs limit s (Some n) = let c = block_of bs n in cond (can_take_in limit s c) (turn_with s c (row_behind bs s.row n)) (Ends None)

abbrev pub turn_of : List Block → ℕ → ℕ → Growth → Turn
turn_of bs k limit s = turn_to bs limit s (next_of k s.row.block.jump)

-- ---- the row

abbrev pub after_turn : (Growth → Option Row) → Turn → Option Row
after_turn f (Ends best) = best
after_turn f (Goes s) = f s

-- the best part of the row of block k, after at most n copies more
abbrev pub grown : ℕ → List Block → ℕ → ℕ → Growth → Option Row
grown zero bs k limit s = None
grown (suc n) bs k limit s = after_turn (grown n bs k limit) (turn_of bs k limit s)

-- so much may the blocks weigh together that are looked at; each weighs at least 1, so that there are no more turns than one more
abbrev pub max_seen : ℕ
max_seen = 4096

unfoldable pub max_turns : ℕ
max_turns = 4097

unfoldable pub first_growth : Block → Growth
first_growth b = record { row = record { block = folded_block b; taken = [] }; best = None; unseen = max_seen }

-- the unfinished row has at most so many more steps that are no constants than the block
abbrev pub max_unfinished : ℕ
max_unfinished = 192

abbrev pub best_row : List Block → ℕ → Option Row
best_row bs k = let b = block_of bs k in grown max_turns bs k (nonconstants_in b.steps + max_unfinished) (first_growth b)
