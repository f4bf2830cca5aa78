-- Private: only contracts of this crate cite it. Bits of forks as the code keeps them.
use Rattle.std.specs.Prelude.{ℕ, suc, Bool, true, false, not, cond, List, [], ◌∷◌}

-- how many are not set
abbrev pub count_false : List Bool → ℕ
count_false [] = 0
count_false (true ∷ bs) = count_false bs
count_false (false ∷ bs) = suc (count_false bs)

abbrev pub is_marked : Bool → Bool → Bool
is_marked mark b = cond mark b (not b)
