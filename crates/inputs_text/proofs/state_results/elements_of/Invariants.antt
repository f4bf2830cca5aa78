use Rattle.std.proofs.Common.{◌≡◌, ◌<◌, ℕ, [], length, get_or}
use Rattle.net_core.specs.States.{elements_at, state_of}
use Rattle.inputs_text.proofs.state_results.elements_of.Given as goal

abbrev pub invariant-loop-at : goal.invariant-loop-at
invariant-loop-at l = record {
  count : length l.values ≡ l.at;
  each : (a : ℕ) → a < l.at → get_or l.values a [] ≡ elements_at (state_of l.state) a;
}
