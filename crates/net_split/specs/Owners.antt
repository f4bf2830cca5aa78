-- Which worker owns which unit.
use Rattle.std.specs.Prelude.{◌≡◌, ℕ, ◌*◌, ◌/◌, List, map}
use Rattle.std.specs.List.{range_with_len}

-- of n units the unit u, over w workers
abbrev pub owner : ℕ → ℕ → ℕ → ℕ
owner n w u = u * w / n

-- the owners of all n units, in order
abbrev pub owners_of : ℕ → ℕ → List ℕ
owners_of n w = map (owner n w) (range_with_len 0 n)
