use Rattle.std.proofs.Common.{◌≡◌, ℕ, ◌<◌, ◌≤◌, [], get_or}
use Rattle.cycle_engine.proofs.cells.Cells.next_of_few.Given as goal

-- the lists so far are empty
abbrev pub invariant-loop-place : goal.invariant-loop-place
invariant-loop-place l = record {
  on : l.from ≤ l.place;
  before : (k : ℕ) → l.from ≤ k → k < l.place → get_or l.self k [] ≡ [];
}
