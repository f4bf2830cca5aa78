-- Tables of variables by blocks: what each block holds when it begins.
use Rattle.std.specs.Prelude.{◌≡◌, ◌<◌, ◌⊎◌, ℕ, zero, suc, List, [], ◌∷◌, Some, length, get_or, slice_get, All}
use Rattle.std.specs.List.{Contains, AllByRecursion}
use Rattle.ir.specs.declared.cfg.CfgBlock.{CfgBlock}
use Rattle.ir.specs.Variables.{VarGraph}
use Rattle.block_args.specs.Live.{targets, IsWritten, Live}

-- the numbers from i on, n of them
abbrev pub count_from : ℕ → ℕ → List ℕ
count_from i zero = []
count_from i (suc n) = i ∷ count_from (suc i) n

abbrev pub listed_at : List (List ℕ) → ℕ → List ℕ
listed_at table b = get_or table b []

-- block 0 holds all variables, v of them: the scalars as its arguments, and a 0 for each other; another block those of the table
abbrev pub held_at : ℕ → List (List ℕ) → ℕ → List ℕ
held_at v table zero = count_from 0 v
held_at v table (suc b) = listed_at table (suc b)

abbrev pub AreAscending : List ℕ → Type 0
AreAscending [] = Unit {0}
AreAscending (x ∷ xs) = AllByRecursion (λ y. x < y) xs × AreAscending xs

-- what a block reads it holds, and what a block holds was held or written by each block that jumps to it
pub record Serves (g : VarGraph) (table : List (List ℕ)) : Type 0 where
  pub reads : (b : ℕ) (x : CfgBlock) → slice_get g.blocks b ≡ Some x → All (Contains (held_at (length g.vars) table b)) x.reads
  pub handed : (b c v : ℕ) (x : CfgBlock) → slice_get g.blocks b ≡ Some x → Contains (targets x.jump) c → Contains (listed_at table c) v
      → IsWritten x.writes v ⊎ Contains (held_at (length g.vars) table b) v
  pub ascending : (b : ℕ) → AreAscending (listed_at table b)
  pub below : (b : ℕ) → All (λ v. v < length g.vars) (listed_at table b)

-- each block is listed with exactly the variables that are live at it, in order
pub record ListsLive (g : VarGraph) (table : List (List ℕ)) : Type 0 where
  pub many : length table ≡ length g.blocks
  pub ascending : (b : ℕ) → AreAscending (listed_at table b)
  pub live : (b v : ℕ) → Contains (listed_at table b) v → Live g b v
  pub all : (b v : ℕ) → Live g b v → Contains (listed_at table b) v
