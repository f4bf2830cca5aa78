-- The accesses of a graph by blocks and arrays: which arrays are only read, and which steps access the others.
use Rattle.std.specs.Prelude.{◌≡◌, ◌+◌, ℕ, suc, ◌==◌, Bool, true, false, cond, slice_get, Some, List, [], ◌∷◌, ◌++◌, length}
use Rattle.ir.specs.declared.instr.Instr.{Instr}
use Rattle.ir.specs.declared.instr.Instr.TheVariants.{Const, One, Two, Select, Load, Store}
use Rattle.ir.specs.declared.groups.Groups.{Groups}
use Rattle.ir.specs.declared.groups.Access.{Access}
use Rattle.ir.specs.declared.graph.Block.{Block}
use Rattle.ir.specs.Graphs.{Graph}

-- some step of some block stores to the array
pub record IsStoredTo (g : Graph) (a : ℕ) : Type 0 where
  pub number : ℕ
  pub block : Block
  pub is_block : slice_get g.blocks number ≡ Some block
  pub place : ℕ
  pub addr : ℕ
  pub value : ℕ
  pub is_step : slice_get block.steps place ≡ Some (Store a addr value)

-- 1 for a step that is a load or a store
abbrev pub is_access : Instr → ℕ
is_access (Const w n) = 0
is_access (One op x) = 0
is_access (Two op x y) = 0
is_access (Select w c x y) = 0
is_access (Load a p) = 1
is_access (Store a p v) = 1

-- how many of the steps are loads and stores
abbrev pub accesses_in : List Instr → ℕ
accesses_in [] = 0
accesses_in (i ∷ is) = is_access i + accesses_in is

-- is the step a load or a store of the array
abbrev pub is_on : ℕ → Instr → Bool
is_on a (Const w n) = false
is_on a (One op x) = false
is_on a (Two op x y) = false
is_on a (Select w c x y) = false
is_on a (Load b p) = b == a
is_on a (Store b p v) = b == a

-- the places, counted from i, of the steps that are on the array, in order
abbrev pub places_from : ℕ → ℕ → List Instr → List ℕ
places_from a i [] = []
places_from a i (s ∷ ss) = cond (is_on a s) (i ∷ places_from a (suc i) ss) (places_from a (suc i) ss)

-- one access for the places, where there are some
abbrev pub access_if : ℕ → ℕ → List ℕ → List Access
access_if b a [] = []
access_if b a (x ∷ xs) = record { block = b; array = a; steps = x ∷ xs } ∷ []

-- of an array that is only read there is no access
abbrev pub array_accesses : Bool → ℕ → ℕ → List Instr → List Access
array_accesses true b a steps = []
array_accesses false b a steps = access_if b a (places_from a 0 steps)

-- of a block: its accesses to the arrays from a on, in order
abbrev pub block_accesses : ℕ → List Instr → ℕ → List Bool → List Access
block_accesses b steps a [] = []
block_accesses b steps a (r ∷ rs) = array_accesses r b a steps ++ block_accesses b steps (suc a) rs

-- of the blocks numbered from b on, in order
abbrev pub accesses_from : List Bool → ℕ → List Block → List Access
accesses_from rs b [] = []
accesses_from rs b (x ∷ xs) = block_accesses b x.steps 0 rs ++ accesses_from rs (suc b) xs

-- an array is only read exactly where no step stores to it, and of each block and each other array that the block
-- accesses there is one access with all its places, in order, and no other
pub record GroupsShare (g : Graph) (gs : Groups) : Type 0 where
  pub as_many : length gs.read_only ≡ length g.arrays
  pub read_only : (a : ℕ) → slice_get gs.read_only a ≡ Some true → ¬ (IsStoredTo g a)
  pub stored_to : (a : ℕ) → slice_get gs.read_only a ≡ Some false → IsStoredTo g a
  pub accesses : gs.of ≡ accesses_from gs.read_only 0 g.blocks
