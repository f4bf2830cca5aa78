-- How many cycles a run takes.
use Rattle.std.specs.Prelude.{◌≡◌, ◌≢◌, ℕ, ◌+◌, ◌*◌, ◌≤◌, List, [], ◌∷◌, length}
use Rattle.net_types.specs.declared.net.Net.{Net}
use Rattle.net_types.specs.declared.firing.Firing.{Firing}
use Rattle.net_types.specs.declared.firing.Inputs.{Inputs}
use Rattle.net_types.specs.Nets.{chan_at}
use Rattle.net_check.specs.Checks.{IsChecked}
use Rattle.net_core.specs.Runs.{AtRest}
use Rattle.cycle_engine.specs.Cycles.{Dated, Cycle, Cycles, dated_opening}

-- how many firings the cycles have together
abbrev pub firing_count : List (List Firing) → ℕ
firing_count [] = 0
firing_count (fs ∷ fss) = length fs + firing_count fss

-- the last cycle has a firing
abbrev pub EndsFiring : List (List Firing) → Type 0
EndsFiring [] = Unit {0}
EndsFiring (fs ∷ []) = fs ≢ []
EndsFiring (fs ∷ gs ∷ fss) = EndsFiring (gs ∷ fss)

-- cycles that end with a firing are at most the firings, each times one more than the greatest delay
abbrev pub CyclesBound : Type 0
CyclesBound = (net : Net) (inputs : Inputs) (fss : List (List Firing)) (t : Dated) (most : ℕ)
    → ((d : ℕ) → (chan_at net d).delay ≤ most) → Cycles net 0 (dated_opening net inputs) fss t → EndsFiring fss → length fss ≤ firing_count fss * (most + 1)

-- two cycles from one state to which cycles of a checked net lead are as many firings, and lead to one state
abbrev pub CyclesMeet : Type 0
CyclesMeet = (net : Net) (inputs : Inputs) (fss : List (List Firing)) (s : Dated) (fs gs : List Firing) (t u : Dated) → IsChecked net
    → Cycles net 0 (dated_opening net inputs) fss s → Cycle net (length fss) s fs t → Cycle net (length fss) s gs u
    → (length fs ≡ length gs) × (t ≡ u)

-- two lists of cycles of a checked net from the opening state to rest that end with a firing are as many cycles
abbrev pub CyclesAreOne : Type 0
CyclesAreOne = (net : Net) (inputs : Inputs) (fss gss : List (List Firing)) (t u : Dated) → IsChecked net
    → Cycles net 0 (dated_opening net inputs) fss t → Cycles net 0 (dated_opening net inputs) gss u
    → AtRest net t.state → AtRest net u.state → EndsFiring fss → EndsFiring gss → length fss ≡ length gss
