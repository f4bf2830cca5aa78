-- What the replay of a schedule answers.
use Rattle.std.specs.Prelude.{◌≡◌, ℕ, ◌++◌, ◌∷◌, [], ◌⊎◌, List, codes, Result, Ok, Err}
use Rattle.net_types.specs.declared.net.Net.{Net}
use Rattle.net_types.specs.declared.firing.Firing.{Firing}
use Rattle.net_types.specs.declared.firing.Inputs.{Inputs}
use Rattle.net_core.specs.Fire.{State}
use Rattle.net_core.specs.Runs.{HasExited, opening}
use Rattle.net_replay.specs.Readings.{Says as SaysFirings}
use Rattle.net_replay.specs.Replays.{FailsAt, GoesOnBy}
use Rattle.net_replay.specs.Schedules.{schedule_text}
use Rattle.net_runs.specs.declared.refusal.RunRefusal.{RunRefusal}
use Rattle.net_runs.specs.declared.refusal.RunRefusal.TheVariants as refusal
use Rattle.net_runs.specs.Given.{Bytes, On, IsNoInputs, IsNoSchedule}
use Rattle.net_runs.specs.Results.{AreResultsOf, IsStrayIn}
use Rattle.net_runs.specs.Runs.{IsOneRest}

-- the firings are a run to the one state at rest, of which that holds
pub record RestsSo (net : Net) (inputs : Inputs) (firings : List Firing) (Holds : State → Type 0) : Type 0 where
  pub state : State
  pub one : IsOneRest net inputs firings state
  pub holds : Holds state

-- the firings are a run to a state that is not at rest; the text names the least firing that is enabled in it
pub record GoesOnWith (net : Net) (inputs : Inputs) (firings : List Firing) (text : Bytes) : Type 0 where
  pub state : State
  pub next : Firing
  pub goes : GoesOnBy net inputs firings state next
  pub whole : text ≡ codes "next " ++ schedule_text (next ∷ [])

-- the text of a replay of these firings
abbrev pub ReplaysTo : Net → List Firing → Bytes → Inputs → Type 0
ReplaysTo net firings text inputs = RestsSo net inputs firings (λ s. AreResultsOf net s text) ⊎ GoesOnWith net inputs firings text

abbrev pub SticksAfter : Net → List Firing → Inputs → Type 0
SticksAfter net firings inputs = RestsSo net inputs firings (λ s. HasExited net s → ⊥)

abbrev pub StraysAfter : Net → List Firing → ℕ → Bytes → Inputs → Type 0
StraysAfter net firings array name inputs = RestsSo net inputs firings (λ s. IsStrayIn net s array name)

-- why a replay of these firings has no text, or want of memory
abbrev pub IsReplayFault : Net → Inputs → List Firing → RunRefusal → Type 0
IsReplayFault net inputs firings (refusal.Inputs r) = ⊥
IsReplayFault net inputs firings (refusal.Schedule r) = ⊥
IsReplayFault net inputs firings (refusal.NotEnabled i) = FailsAt net (opening net inputs) firings i
IsReplayFault net inputs firings (refusal.Limit n) = ⊥
IsReplayFault net inputs firings refusal.Stuck = SticksAfter net firings inputs
IsReplayFault net inputs firings (refusal.Stray array name) = StraysAfter net firings array name inputs
IsReplayFault net inputs firings refusal.Memory = Unit {0}

-- the bytes are the schedule of firings, of which, with the inputs, that holds
pub record By (net : Net) (bytes schedule : Bytes) (Holds : List Firing → Inputs → Type 0) : Type 0 where
  pub firings : List Firing
  pub given : SaysFirings schedule (Ok firings)
  pub on : On net bytes (Holds firings)

-- what a replay answers for the bytes of an inputs text and of a schedule; want of memory says nothing
abbrev pub Replays : Net → Bytes → Bytes → Result Bytes RunRefusal → Type 0
Replays net bytes schedule (Ok text) = By net bytes schedule (λ firings. ReplaysTo net firings text)
Replays net bytes schedule (Err (refusal.Inputs r)) = IsNoInputs net bytes r
Replays net bytes schedule (Err (refusal.Schedule r)) = On net bytes (λ inputs. IsNoSchedule schedule r)
Replays net bytes schedule (Err (refusal.NotEnabled i)) = By net bytes schedule (λ firings inputs. FailsAt net (opening net inputs) firings i)
Replays net bytes schedule (Err (refusal.Limit n)) = ⊥
Replays net bytes schedule (Err refusal.Stuck) = By net bytes schedule (SticksAfter net)
Replays net bytes schedule (Err (refusal.Stray array name)) = By net bytes schedule (λ firings. StraysAfter net firings array name)
Replays net bytes schedule (Err refusal.Memory) = Unit {0}
