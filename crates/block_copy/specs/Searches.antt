-- Whether a block leads to some others, as far as a search of a few blocks finds.
use Rattle.std.specs.Prelude.{ℕ, zero, suc, ◌==◌, ◌&&◌, ◌||◌, not, nat_lt, Bool, false, cond, List, [], ◌∷◌, ◌++◌, length, reverse}
use Rattle.ir.specs.declared.graph.Block.{Block}
use Rattle.block_merge.specs.Renamed.{block_of}
use Rattle.block_merge.specs.Found.{is_in, targets}
use Rattle.block_copy.specs.declared.searching.Near.{Near}

-- the blocks seen, in order, and those of them from which the search has still to go on, the last seen first
pub record Search : Type 0 where
  pub seen : List ℕ
  pub left : List ℕ

-- a search sees at most so many blocks
abbrev pub max_near : ℕ
max_near = 16

-- is block b one that a search round block k sees now
abbrev pub is_new : ℕ → List ℕ → ℕ → Bool
is_new k seen b = not (is_in seen b) && not (b == k) && nat_lt (length seen) max_near

abbrev pub seen_more : ℕ → Search → ℕ → Search
seen_more k s b = cond (is_new k s.seen b) (record { seen = s.seen ++ b ∷ []; left = b ∷ s.left }) s

abbrev pub all_seen : ℕ → Search → List ℕ → Search
all_seen k s [] = s
all_seen k s (b ∷ bs) = all_seen k (seen_more k s b) bs

-- from the first block that is left
abbrev pub from_next : (Search → Bool) → List Block → List ℕ → ℕ → List ℕ → List ℕ → Bool
from_next f bs wanted k seen [] = false
from_next f bs wanted k seen (b ∷ left) = is_in wanted b || f (all_seen k (record { seen = seen; left = left }) (targets (block_of bs b).jump))

-- whether one of the next n blocks is a wanted one
abbrev pub finds : ℕ → List Block → List ℕ → ℕ → Search → Bool
finds zero bs wanted k s = false
finds (suc n) bs wanted k s = from_next (finds n bs wanted k) bs wanted k s.seen s.left

-- each block is left once
unfoldable pub max_looks : ℕ
max_looks = 16

-- whether block b is a wanted one or leads to one, round block k
abbrev pub leads_to : List Block → List ℕ → ℕ → ℕ → Bool
leads_to bs wanted k b = finds max_looks bs wanted k (record { seen = b ∷ []; left = b ∷ [] })

-- the search that is held so: what is left stands with the last seen last
abbrev pub search_of : Near → Search
search_of n = record { seen = n.seen.items; left = reverse n.left.items }
