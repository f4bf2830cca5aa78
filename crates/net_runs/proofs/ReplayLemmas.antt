-- From where firings lead to what a replay answers.
use Rattle.std.proofs.Common.{◌≡◌, ◌+◌, ◌≤◌, ◌<◌, ◌^◌, List, [], ◌∷◌, ◌++◌, length, ap, arith, length-append}
use Rattle.std.specs.Prelude.{Ok, Err}
use Rattle.net_types.specs.declared.net.Net.{Net}
use Rattle.net_types.specs.declared.firing.Firing.{Firing}
use Rattle.net_types.specs.declared.firing.Inputs.{Inputs}
use Rattle.net_types.specs.Inputs.{InputsFit}
use Rattle.net_core.specs.Fire.{State}
use Rattle.net_replay.specs.Readings.{Says as SaysFirings}
use Rattle.net_replay.specs.Schedules.{firing_text, schedule_text}
use Rattle.net_runs.specs.declared.refusal.RunRefusal.{RunRefusal}
use Rattle.net_runs.specs.declared.refusal.RunRefusal.TheVariants as refusal
use Rattle.net_runs.specs.Given.{Bytes, Gives, IsInputsFault, IsScheduleFault}
use Rattle.net_runs.specs.Results.{IsRestFault}
use Rattle.net_runs.specs.Runs.{IsOneRest}
use Rattle.net_runs.specs.Replays.{IsReplayFault, Replays}

-- a schedule has no more firings than bytes
few_lines : (firings : List Firing) → length firings ≤ length (schedule_text firings)
few_lines [] = omega arith
few_lines (f ∷ firings) =
    let rest : length firings ≤ length (schedule_text firings) = few_lines firings in
    let whole : length (schedule_text (f ∷ firings)) ≡ length (firing_text f ++ 10 ∷ []) + length (schedule_text firings) = length-append (firing_text f ++ 10 ∷ []) (schedule_text firings) in
    let line : length (firing_text f ++ 10 ∷ []) ≡ length (firing_text f) + 1 = length-append (firing_text f) (10 ∷ []) in
    omega (arith, rest, whole, line)

pub few_firings : (bytes : Bytes) (firings : List Firing) → length bytes < 2 ^ 32 → SaysFirings bytes (Ok firings) → length firings ≤ 2 ^ 32
few_firings bytes firings short says = omega (arith, few_lines firings, ap length says.1)

-- the refusals of a state at rest
pub rest_refused : (net : Net) (inputs : Inputs) (firings : List Firing) (s : State) → IsOneRest net inputs firings s → (r : RunRefusal) → IsRestFault net s r
    → IsReplayFault net inputs firings r
rest_refused net inputs firings s one (refusal.Inputs r) is = absurd is
rest_refused net inputs firings s one (refusal.Schedule r) is = absurd is
rest_refused net inputs firings s one (refusal.NotEnabled i) is = absurd is
rest_refused net inputs firings s one (refusal.Limit n) is = absurd is
rest_refused net inputs firings s one refusal.Stuck is = record { state = s; one = one; holds = is }
rest_refused net inputs firings s one (refusal.Stray array name) is = record { state = s; one = one; holds = is }
rest_refused net inputs firings s one refusal.Memory is = tt

module _ (net : Net) (bytes schedule : Bytes) where
  pub inputs_refused : (r : RunRefusal) → IsInputsFault net bytes r → Replays net bytes schedule (Err r)
  inputs_refused (refusal.Inputs r) is = is
  inputs_refused (refusal.Schedule r) is = absurd is
  inputs_refused (refusal.NotEnabled i) is = absurd is
  inputs_refused (refusal.Limit n) is = absurd is
  inputs_refused refusal.Stuck is = absurd is
  inputs_refused (refusal.Stray array name) is = absurd is
  inputs_refused refusal.Memory is = tt

  pub schedule_refused : (inputs : Inputs) → Gives net bytes inputs → InputsFit net inputs → (r : RunRefusal) → IsScheduleFault schedule r → Replays net bytes schedule (Err r)
  schedule_refused inputs given fit (refusal.Inputs r) is = absurd is
  schedule_refused inputs given fit (refusal.Schedule r) is = record { inputs = inputs; given = given; fit = fit; holds = is }
  schedule_refused inputs given fit (refusal.NotEnabled i) is = absurd is
  schedule_refused inputs given fit (refusal.Limit n) is = absurd is
  schedule_refused inputs given fit refusal.Stuck is = absurd is
  schedule_refused inputs given fit (refusal.Stray array name) is = absurd is
  schedule_refused inputs given fit refusal.Memory is = tt

  pub replay_refused : (inputs : Inputs) (firings : List Firing) → Gives net bytes inputs → InputsFit net inputs → SaysFirings schedule (Ok firings)
      → (r : RunRefusal) → IsReplayFault net inputs firings r → Replays net bytes schedule (Err r)
  replay_refused inputs firings given fit says (refusal.Inputs r) is = absurd is
  replay_refused inputs firings given fit says (refusal.Schedule r) is = absurd is
  replay_refused inputs firings given fit says (refusal.NotEnabled i) is = record { firings = firings; given = says; on = record { inputs = inputs; given = given; fit = fit; holds = is } }
  replay_refused inputs firings given fit says (refusal.Limit n) is = absurd is
  replay_refused inputs firings given fit says refusal.Stuck is = record { firings = firings; given = says; on = record { inputs = inputs; given = given; fit = fit; holds = is } }
  replay_refused inputs firings given fit says (refusal.Stray array name) is = record { firings = firings; given = says; on = record { inputs = inputs; given = given; fit = fit; holds = is } }
  replay_refused inputs firings given fit says refusal.Memory is = tt
