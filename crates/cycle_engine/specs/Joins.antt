-- Lists of cycles as runs.
use Rattle.std.specs.Prelude.{◌≡◌, ℕ, List, length}
use Rattle.net_types.specs.declared.net.Net.{Net}
use Rattle.net_types.specs.declared.firing.Firing.{Firing}
use Rattle.net_types.specs.declared.firing.Inputs.{Inputs}
use Rattle.net_core.specs.Runs.{Run, Long}
use Rattle.cycle_engine.specs.Cycles.{Dated, dated_opening, Cycles}
use Rattle.cycle_engine.specs.Bounds.{firing_count}
use Rattle.cycle_engine.specs.Cuts.{joined, IsCut}

-- the firings of the cycles, one cycle after another, are a run to that state, and are as many as the cycles have together
pub record AreRun (net : Net) (inputs : Inputs) (cycles : List (List Firing)) (to : Dated) : Type 0 where
  pub run : Run net inputs (joined cycles) to.state
  pub count : length (joined cycles) ≡ firing_count cycles

-- so it is where the cycles lead from the opening state to that state
abbrev pub CyclesAreRuns : Type 0
CyclesAreRuns = (net : Net) (inputs : Inputs) (cycles : List (List Firing)) (to : Dated) → Cycles net 0 (dated_opening net inputs) cycles to
    → AreRun net inputs cycles to

-- where a limit cuts cycles off there are runs of more firings
abbrev pub CutsAreLong : Type 0
CutsAreLong = (net : Net) (inputs : Inputs) (limit : ℕ) → IsCut net inputs limit → Long net inputs limit
