-- Private: only contracts of private functions cite it. The blocks found so far, with marks of what is found.
use Rattle.std.specs.Prelude.{◌≡◌, ◌<◌, ℕ, suc, Bool, true, false, not, List, [], ◌∷◌, length, get_or, set, Option, Some, None, All}
use Rattle.std.specs.List.{list_any}
use Rattle.ir.specs.declared.instr.Instr.{Instr}
use Rattle.ir.specs.declared.graph.Block.{Block}
use Rattle.block_merge.specs.declared.walking.Order.{Order}
use Rattle.block_merge.specs.Found.{is_in, targets, stored_by, stored_in, stored_of}

abbrev pub option_list : Option ℕ → List ℕ
option_list None = []
option_list (Some a) = a ∷ []

-- the marks with those at some places set
abbrev pub marked_at : List Bool → List ℕ → List Bool
marked_at ms [] = ms
marked_at ms (a ∷ xs) = marked_at (set ms a true) xs

abbrev pub marked_all : List Bool → List Instr → List Bool
marked_all ms [] = ms
marked_all ms (i ∷ is) = marked_all (marked_at ms (stored_by i)) is

-- does a step store to an array that is not marked
abbrev pub stores_unmarked : List Bool → List Instr → Bool
stores_unmarked ms is = list_any (λ i. list_any (λ a. not (get_or ms a false)) (stored_by i)) is

-- the marks are those of the blocks that are found and of the arrays to which they store
pub record IsOrder (bs : List Block) (o : Order) : Type 0 where
  pub long : length o.seen.items ≡ length bs
  pub seen : (n : ℕ) → n < length bs → get_or o.seen.items n false ≡ is_in o.found.items n
  pub stored : (a : ℕ) → a < length o.stored.items → get_or o.stored.items a false ≡ is_in (stored_of bs o.found.items) a

-- these blocks are found now
pub record Notes (bs : List Block) (old new : Order) (found : List ℕ) : Type 0 where
  pub order : IsOrder bs new
  pub is : new.found.items ≡ found
  pub arrays : length new.stored.items ≡ length old.stored.items

-- a jump leads to blocks that there are, and so do all
abbrev pub IsWithin : List Block → List ℕ → Type 0
IsWithin bs ts = All (λ t. t < length bs) ts

abbrev pub AllWithin : List Block → Type 0
AllWithin bs = All (λ b. IsWithin bs (targets b.jump)) bs

-- all stores are to the first arrays, so many
abbrev pub StoresWithin : ℕ → List Block → Type 0
StoresWithin n bs = All (λ b. All (λ a. a < n) (stored_in b)) bs

-- the table with the place of each item of a list, counted from i, at the item
abbrev pub placed : List ℕ → ℕ → List ℕ → List ℕ
placed table i [] = table
placed table i (n ∷ ns) = placed (set table n i) (suc i) ns
