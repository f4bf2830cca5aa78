use Rattle.std.proofs.Common.{◌≡◌, ℕ, ◌<◌}
use Rattle.net_core.specs.States.{state_of, strays_at}
use Rattle.net_replay.proofs.judging.first_stray.Given as goal

abbrev pub invariant-loop-at : goal.invariant-loop-at
invariant-loop-at l = (a : ℕ) → a < l.at → strays_at (state_of l.state) a ≡ 0
