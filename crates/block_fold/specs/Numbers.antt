-- New numbers of values.
use Rattle.std.specs.Prelude.{ℕ, ◌-◌, nat_lt, if◌then◌else◌, List, get_or}

-- the new number of a value: each of the first m stays, and behind them the j-th has the j-th of these numbers
abbrev pub renumbered : ℕ → List ℕ → ℕ → ℕ
renumbered m numbers a = if nat_lt a m then a else get_or numbers (a - m) 0
