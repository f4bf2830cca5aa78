-- Where a given list of firings leads.
use Rattle.std.specs.Prelude.{◌≡◌, ℕ, List, ◌∷◌, ◌++◌, length}
use Rattle.net_types.specs.declared.net.Net.{Net}
use Rattle.net_types.specs.declared.firing.Firing.{Firing}
use Rattle.net_types.specs.declared.firing.Inputs.{Inputs}
use Rattle.net_core.specs.Fire.{State, enabled}
use Rattle.net_core.specs.Runs.{opening, Leads, Run, AtRest}
use Rattle.net_core.specs.Finds.{IsLeastFiring}
use Rattle.net_core.specs.States.{IsOf, state_of}
use Rattle.net_replay.specs.declared.outcome.Replay.{Replay}
use Rattle.net_replay.specs.declared.outcome.Replay.TheVariants as replays
use Rattle.net_replay.specs.declared.fault.ReplayFault.{ReplayFault}
use Rattle.net_replay.specs.declared.fault.ReplayFault.TheVariants as fault

-- the firings before that number, from 0, are enabled in turn, and in the state after them the next one is not
pub record FailsAt (net : Net) (s : State) (firings : List Firing) (number : ℕ) : Type 0 where
  pub before : List Firing
  pub next : Firing
  pub more : List Firing
  pub whole : firings ≡ before ++ next ∷ more
  pub counted : number ≡ length before
  pub to : State
  pub leads : Leads net s before to
  pub held : enabled net to next → ⊥

-- the firings are a run to a state at rest
pub record RestsIn (net : Net) (inputs : Inputs) (firings : List Firing) (to : State) : Type 0 where
  pub run : Run net inputs firings to
  pub rest : AtRest net to

-- the firings are a run to a state in which that is the least enabled firing
pub record GoesOnBy (net : Net) (inputs : Inputs) (firings : List Firing) (to : State) (next : Firing) : Type 0 where
  pub run : Run net inputs firings to
  pub least : IsLeastFiring net to next

-- what an answer says of the firings
abbrev pub IsReplay : Net → Inputs → List Firing → Replay → Type 0
IsReplay net inputs firings (replays.AtRest state) = IsOf net state × RestsIn net inputs firings (state_of state)
IsReplay net inputs firings (replays.Goes state next) = IsOf net state × GoesOnBy net inputs firings (state_of state) next

-- and a fault; want of memory says nothing
abbrev pub IsReplayFault : Net → Inputs → List Firing → ReplayFault → Type 0
IsReplayFault net inputs firings (fault.NotEnabled number) = FailsAt net (opening net inputs) firings number
IsReplayFault net inputs firings fault.Memory = Unit {0}
