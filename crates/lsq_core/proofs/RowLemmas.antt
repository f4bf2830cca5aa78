-- The worked lists of acts.
use Rattle.std.proofs.Common.{Bool, [], ◌∷◌, refl}
use Rattle.lsq_core.specs.Rows.{RowsHold, IsRow, small, load_first}

pub rows_hold : RowsHold
rows_hold = record {
  in_order = λ f. by f;
  waits = λ f. refl;
  without_mark = refl;
  with_mark = record { allowed = refl; array = refl; puts = refl; strays = refl };
  past = record { allowed = refl; array = refl; puts = refl; strays = refl };
}
  where
    by : (f : Bool) → IsRow (small f) load_first (10 ∷ 11 ∷ 12 ∷ 13 ∷ 14 ∷ 9 ∷ 16 ∷ 17 ∷ []) (0 ∷ 13 ∷ 0 ∷ []) 0
    by f = record { allowed = refl; array = refl; puts = refl; strays = refl }
