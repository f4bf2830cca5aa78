-- Private: only contracts of this crate cite it. The width of the place of a number.
use Rattle.std.specs.Prelude.{ℕ, ◌==◌, cond, Option, Some, None, List, [], ◌∷◌}
use Rattle.net_types.specs.Tables.{Spot}

-- the width of the first place of this number in a row of the table; each number stands in a row once
abbrev pub width_in : List Spot → ℕ → Option ℕ
width_in [] p = None
width_in (s ∷ ss) p = cond (s.place == p) (Some s.width) (width_in ss p)
