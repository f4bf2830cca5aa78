-- Private: only contracts of private functions cite it. What the search for live variables makes on its way.
use Rattle.std.specs.Prelude.{◌≡◌, ◌<◌, ℕ, suc, Bool, true, false, cond, replicate, List, [], ◌∷◌, ◌++◌, length, get_or}
use Rattle.std.specs.List.{Contains}
use Rattle.std.specs.declared.vec.Vec.{Vec}
use Rattle.std.specs.declared.alloc.Global.{Global}
use Rattle.ir.specs.declared.graph.Block.{Block}
use Rattle.ir.specs.Variables.{VarGraph}
use Rattle.block_args.specs.declared.live.Index.{Index}
use Rattle.block_args.specs.Live.{Live}
use Rattle.block_args.specs.Tables.{listed_at, AreAscending, ListsLive}
use Rattle.block_args.specs.Arguments.{new_blocks}
use Rattle.block_args.specs.Walks.{read_vars, written_vars, target_blocks, with_blocks}

pub record IsIndexOf (g : VarGraph) (index : Index) : Type 0 where
  pub readers : index.readers ≡ with_blocks read_vars (replicate (length g.vars) []) 0 g.blocks
  pub writers : index.writers ≡ with_blocks written_vars (replicate (length g.vars) []) 0 g.blocks
  pub before : index.before ≡ with_blocks target_blocks (replicate (length g.blocks) []) 0 g.blocks

-- the marks are those of the blocks that the variable is live at
pub record AreLiveAt (g : VarGraph) (v : ℕ) (marks : List Bool) : Type 0 where
  pub many : length marks ≡ length g.blocks
  pub live : (b : ℕ) → get_or marks b false ≡ true → Live g b v
  pub all : (b : ℕ) → Live g b v → get_or marks b false ≡ true

-- the marks of the variables from v on, each as above
abbrev pub AreLiveFrom : VarGraph → ℕ → List (Vec Bool Global) → Type 0
AreLiveFrom g v [] = Unit {0}
AreLiveFrom g v (m ∷ ms) = AreLiveAt g v m.items × AreLiveFrom g (suc v) ms

-- a list with those of the variables from v on whose marks have the block b
abbrev pub with_found : List (Vec Bool Global) → ℕ → ℕ → List ℕ → List ℕ
with_found [] v b xs = xs
with_found (m ∷ ms) v b xs = with_found ms (suc v) b (cond (get_or m.items b false) (xs ++ v ∷ []) xs)

-- the variables from v on, each at the blocks that its marks have
pub record ArePushed (found : List (Vec Bool Global)) (v : ℕ) (table after : List (List ℕ)) : Type 0 where
  pub many : length after ≡ length table
  pub each : (b : ℕ) → b < length table → listed_at after b ≡ with_found found v b (listed_at table b)

-- the table lists the live ones of the first n variables
pub record ListsBelow (g : VarGraph) (n : ℕ) (table : List (List ℕ)) : Type 0 where
  pub many : length table ≡ length g.blocks
  pub ascending : (b : ℕ) → AreAscending (listed_at table b)
  pub live : (b v : ℕ) → Contains (listed_at table b) v → (v < n) × Live g b v
  pub all : (b v : ℕ) → v < n → Live g b v → Contains (listed_at table b) v

-- the blocks that get the variables of a table that lists the live ones
pub record AreLiveBlocks (g : VarGraph) (blocks : List Block) : Type 0 where
  pub table : List (List ℕ)
  pub lists : ListsLive g table
  pub are : blocks ≡ new_blocks (length g.scalars) g.vars table 0 g.blocks
