-- Which steps store to an array, as tests.
use Rattle.std.specs.Prelude.{◌≡◌, ◌<◌, ℕ, ◌==◌, Bool, false, not, List, length, slice_get, Some}
use Rattle.std.specs.List.{list_any}
use Rattle.ir.specs.declared.instr.Instr.{Instr}
use Rattle.ir.specs.declared.instr.Instr.TheVariants.{Const, One, Two, Select, Load, Store}
use Rattle.ir.specs.declared.graph.Block.{Block}

abbrev pub is_store_to : ℕ → Instr → Bool
is_store_to a (Const w n) = false
is_store_to a (One op x) = false
is_store_to a (Two op x y) = false
is_store_to a (Select w c x y) = false
is_store_to a (Load b p) = false
is_store_to a (Store b p v) = b == a

abbrev pub has_store_to : ℕ → Block → Bool
has_store_to a b = list_any (is_store_to a) b.steps

abbrev pub is_stored_to : ℕ → List Block → Bool
is_stored_to a bs = list_any (has_store_to a) bs

-- of the first n arrays those that no step stores to
pub record TellsReadOnly (bs : List Block) (n : ℕ) (rs : List Bool) : Type 0 where
  pub many : length rs ≡ n
  pub each : (a : ℕ) → a < n → slice_get rs a ≡ Some (not (is_stored_to a bs))
