use Rattle.std.proofs.Common.{ℕ, ◌<◌, ◌≤◌}
use Rattle.net_core.specs.States.{state_of}
use Rattle.net_core.specs.Finds.{IsQuiet}
use Rattle.net_core.specs.private.Searches.{act_from}
use Rattle.net_core.proofs.state.State.find_from.Given as goal

abbrev pub invariant-loop-at : goal.invariant-loop-at
invariant-loop-at l = record {
  from : l.place.unit ≤ l.at;
  quiet : (v : ℕ) → l.place.unit ≤ v → v < l.at → IsQuiet l.net (state_of l.self) v (act_from l.place v);
}
