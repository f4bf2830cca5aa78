-- The inputs that a number gives: places are drawn by a linear congruential generator modulo 2^64, whose first state is the number.
use Rattle.std.specs.Prelude.{ℕ, zero, suc, ◌+◌, ◌*◌, ◌/◌, ◌%◌, ◌^◌, List, [], ◌∷◌, map, replicate, pos}
use Rattle.std.specs.List.{range_with_len}
use Rattle.net_types.specs.declared.firing.Inputs.{Inputs}
use Rattle.c_meaning.specs.Stores.{Inputs as Numbers}

abbrev pub next_state : ℕ → ℕ
next_state s = (s * 6364136223846793005 + 1442695040888963407) % 2 ^ 64

-- the state after so many steps
unfoldable pub state_after : ℕ → ℕ → ℕ
state_after number zero = number
state_after number (suc k) = next_state (state_after number k)

-- the elements of x: of each of the next 1024 states the six highest of its 64 bits
unfoldable pub bench_places : ℕ → List ℕ
bench_places number = map (λ k. state_after number k / 2 ^ 58) (range_with_len 1 1024)

-- the elements of w: 1, 2 and so on up to 1024
unfoldable pub bench_weights : List ℕ
bench_weights = range_with_len 1 1024

-- the elements of h
unfoldable pub bench_zeros : List ℕ
bench_zeros = replicate 64 0

-- n is 1024, and the arrays are x, w and h
abbrev pub bench_numbers : ℕ → Numbers
bench_numbers number = record {
  scalars = pos 1024 ∷ [];
  arrays = map pos (bench_places number) ∷ map pos bench_weights ∷ map pos bench_zeros ∷ [];
}

-- their patterns, which are the same numbers
abbrev pub bench_inputs : ℕ → Inputs
bench_inputs number = record { scalars = 1024 ∷ []; arrays = bench_places number ∷ bench_weights ∷ bench_zeros ∷ [] }
