-- Private: only contracts of this crate cite it. Lists in which each number below a bound stands once.
use Rattle.std.specs.Prelude.{◌≡◌, ℕ, ◌<◌, ◌==◌, List, count_by}
use Rattle.std.specs.List.{All}

-- how often the number stands in the list
abbrev pub times : List ℕ → ℕ → ℕ
times ns p = count_by (λ n. n == p) ns

-- the numbers are those below n, each once
pub record IsEachOnce (n : ℕ) (ns : List ℕ) : Type 0 where
  pub named : All (λ p. p < n) ns
  pub each : (p : ℕ) → p < n → times ns p ≡ 1
