-- The block without its overwritten stores: a later store is to the same array at the same address value, and no load of the array is between.
use Rattle.std.specs.Prelude.{ℕ, ◌==◌, ◌&&◌, ◌||◌, not, if◌then◌else◌, Bool, false, List, [], ◌∷◌}
use Rattle.ir.specs.declared.instr.Instr.{Instr}
use Rattle.ir.specs.declared.instr.Instr.TheVariants.{Const, One, Two, Select, Load, Store}
use Rattle.ir.specs.declared.graph.Block.{Block}
use Rattle.block_prune.specs.Kept.{kept_block}

-- do these steps store to array a at the value p, before any load of the array
abbrev pub is_stored_again : ℕ → ℕ → List Instr → Bool
is_stored_again a p [] = false
is_stored_again a p (Const w n ∷ is) = is_stored_again a p is
is_stored_again a p (One op x ∷ is) = is_stored_again a p is
is_stored_again a p (Two op x y ∷ is) = is_stored_again a p is
is_stored_again a p (Select w c x y ∷ is) = is_stored_again a p is
is_stored_again a p (Load b q ∷ is) = if b == a then false else is_stored_again a p is
is_stored_again a p (Store b q v ∷ is) = ((b == a) && (q == p)) || is_stored_again a p is

-- is the step a store that the steps behind it overwrite
abbrev pub is_overwritten : Instr → List Instr → Bool
is_overwritten (Const w n) is = false
is_overwritten (One op x) is = false
is_overwritten (Two op x y) is = false
is_overwritten (Select w c x y) is = false
is_overwritten (Load a p) is = false
is_overwritten (Store a p v) is = is_stored_again a p is

-- a mark for each step that is not overwritten
abbrev pub lasting_marks : List Instr → List Bool
lasting_marks [] = []
lasting_marks (i ∷ is) = not (is_overwritten i is) ∷ lasting_marks is

abbrev pub without_overwritten : Block → Block
without_overwritten b = kept_block (lasting_marks b.steps) b
