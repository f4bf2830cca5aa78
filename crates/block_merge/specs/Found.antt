-- The blocks that a walk finds, in the order in which it finds them: breadth first from block 0, and then from each block that stores to
-- an array to which no block stores that is found so far, so that an array keeps a store if it had one.
use Rattle.std.specs.Prelude.{ℕ, zero, suc, ◌==◌, not, Bool, cond, List, [], ◌∷◌, ◌++◌, length, slice_get, Option, Some, None}
use Rattle.std.specs.List.{list_any, flat_map}
use Rattle.ir.specs.declared.instr.Instr.{Instr}
use Rattle.ir.specs.declared.instr.Instr.TheVariants as step
use Rattle.ir.specs.declared.graph.Block.{Block}
use Rattle.ir.specs.declared.graph.Jump.{Jump}
use Rattle.ir.specs.declared.graph.Jump.TheVariants.{Go, Two, Return}
use Rattle.block_merge.specs.Renamed.{block_of}

abbrev pub is_in : List ℕ → ℕ → Bool
is_in xs x = list_any (λ y. y == x) xs

-- ---- one walk

-- the blocks to which a jump leads
abbrev pub targets : Jump → List ℕ
targets (Go t) = t.block ∷ []
targets (Two c yes_part no_part) = yes_part.block ∷ no_part.block ∷ []
targets (Return v) = []

-- the list with a block more that is not in it yet, and with several
abbrev pub noted : List ℕ → ℕ → List ℕ
noted found b = cond (is_in found b) found (found ++ b ∷ [])

abbrev pub noted_all : List ℕ → List ℕ → List ℕ
noted_all found [] = found
noted_all found (b ∷ bs) = noted_all (noted found b) bs

abbrev pub targets_at : List Block → Option ℕ → List ℕ
targets_at bs None = []
targets_at bs (Some b) = targets (block_of bs b).jump

-- the list with the targets of its n blocks from a place on, those counted that come to it meanwhile
abbrev pub walked : List Block → ℕ → ℕ → List ℕ → List ℕ
walked bs zero at found = found
walked bs (suc n) at found = walked bs n (suc at) (noted_all found (targets_at bs (slice_get found at)))

-- ---- where walks start

-- the array to which a step stores
abbrev pub stored_by : Instr → List ℕ
stored_by (step.Const w n) = []
stored_by (step.One op x) = []
stored_by (step.Two op x y) = []
stored_by (step.Select w c x y) = []
stored_by (step.Load a p) = []
stored_by (step.Store a p v) = a ∷ []

abbrev pub stored_in : Block → List ℕ
stored_in b = flat_map stored_by b.steps

-- the arrays to which blocks of these numbers store
abbrev pub stored_of : List Block → List ℕ → List ℕ
stored_of bs found = flat_map (λ n. stored_in (block_of bs n)) found

abbrev pub stores_anew : List Block → List ℕ → ℕ → Bool
stores_anew bs found b = list_any (λ a. not (is_in (stored_of bs found) a)) (stored_in (block_of bs b))

abbrev pub from_start : List Block → List ℕ → ℕ → List ℕ
from_start bs found b = cond (stores_anew bs found b) (walked bs (length bs) (length found) (found ++ b ∷ [])) found

-- so for each of n blocks from block b on
abbrev pub from_starts : List Block → ℕ → ℕ → List ℕ → List ℕ
from_starts bs zero b found = found
from_starts bs (suc n) b found = from_starts bs n (suc b) (from_start bs found b)

abbrev pub found_blocks : List Block → List ℕ
found_blocks bs = from_starts bs (length bs) 0 (walked bs (length bs) 0 (0 ∷ []))
