-- What a run by cycles answers.
use Rattle.std.specs.Prelude.{◌≡◌, ℕ, ◌+◌, ◌*◌, ◌≤◌, Bool, cond, List, [], length}
use Rattle.net_types.specs.declared.net.Net.{Net}
use Rattle.net_types.specs.declared.firing.Firing.{Firing}
use Rattle.net_types.specs.declared.firing.Inputs.{Inputs}
use Rattle.net_types.specs.Nets.{chan_at}
use Rattle.net_core.specs.Runs.{AtRest}
use Rattle.net_core.specs.States.{IsOf, state_of}
use Rattle.net_replay.specs.declared.fault.RunFault.{RunFault}
use Rattle.net_replay.specs.declared.fault.RunFault.TheVariants as fault
use Rattle.cycle_engine.specs.declared.runs.Timed.{Timed}
use Rattle.cycle_engine.specs.Cycles.{Dated, dated_opening, Cycles}
use Rattle.cycle_engine.specs.Bounds.{firing_count, EndsFiring}
use Rattle.cycle_engine.specs.Cuts.{joined, IsCut}

-- cycles from the opening state, the last of which has a firing, lead to a state at rest
pub record IsTimed (net : Net) (inputs : Inputs) (limit : ℕ) (keep : Bool) (t : Timed) : Type 0 where
  pub cycles : List (List Firing)
  pub to : Dated
  pub runs : Cycles net 0 (dated_opening net inputs) cycles to
  pub ends : EndsFiring cycles
  -- the state is that of the net to which they lead, and no firing is enabled
  pub of : IsOf net t.state
  pub state : state_of t.state ≡ to.state
  pub rest : AtRest net (state_of t.state)
  -- so many firings, which the limit allows, and so many cycles
  pub firings : t.firings ≡ firing_count cycles
  pub within : t.firings ≤ limit
  pub number : t.cycles ≡ length cycles
  -- the firings of all cycles, one cycle after another, where they are kept
  pub log : t.log.items ≡ cond keep (joined cycles) []

-- the cycles are at most the firings, each times one more than the greatest delay
abbrev pub HasFewCycles : Net → Timed → Type 0
HasFewCycles net t = (most : ℕ) → ((d : ℕ) → (chan_at net d).delay ≤ most) → t.cycles ≤ t.firings * (most + 1)

-- a limit is answered where as many firings are made in cycles, of which the last may be cut off, and one is enabled
abbrev pub IsTimingFault : Net → Inputs → ℕ → RunFault → Type 0
IsTimingFault net inputs limit (fault.Limit n) = (n ≡ limit) × IsCut net inputs limit
IsTimingFault net inputs limit fault.Stuck = ⊥
IsTimingFault net inputs limit (fault.Stray a) = ⊥
IsTimingFault net inputs limit fault.Memory = Unit {0}
