-- The inputs and the firings that texts give, and why they give none.
use Rattle.std.specs.Prelude.{◌≢◌, ℕ, List, Ok, Err}
use Rattle.net_types.specs.declared.net.Net.{Net}
use Rattle.net_types.specs.declared.firing.Inputs.{Inputs}
use Rattle.net_types.specs.Inputs.{InputsFit}
use Rattle.inputs_text.specs.declared.refusal.InputRefusal.{InputRefusal}
use Rattle.inputs_text.specs.declared.refusal.InputRefusal.TheVariants as input
use Rattle.inputs_text.specs.Refusals.{Says as SaysInputs}
use Rattle.net_replay.specs.declared.schedule_refusal.ScheduleRefusal.{ScheduleRefusal}
use Rattle.net_replay.specs.declared.schedule_refusal.ScheduleRefusal.TheVariants as schedule
use Rattle.net_replay.specs.Readings.{Says as SaysFirings}
use Rattle.net_runs.specs.declared.refusal.RunRefusal.{RunRefusal}
use Rattle.net_runs.specs.declared.refusal.RunRefusal.TheVariants as refusal

abbrev pub Bytes : Type 0
Bytes = List ℕ

-- the bytes are a text of these inputs of the net
abbrev pub Gives : Net → Bytes → Inputs → Type 0
Gives net bytes inputs = SaysInputs net.scalars net.arrays bytes (Ok inputs)

-- the bytes give inputs for the net of which that holds
pub record On (net : Net) (bytes : Bytes) (Holds : Inputs → Type 0) : Type 0 where
  pub inputs : Inputs
  pub given : Gives net bytes inputs
  pub fit : InputsFit net inputs
  pub holds : Holds inputs

-- the bytes are no text of inputs of the net, as the refusal says
pub record IsNoInputs (net : Net) (bytes : Bytes) (r : InputRefusal) : Type 0 where
  pub cause : r ≢ input.Memory
  pub says : SaysInputs net.scalars net.arrays bytes (Err r)

-- the bytes are no schedule, as the refusal says
pub record IsNoSchedule (bytes : Bytes) (r : ScheduleRefusal) : Type 0 where
  pub cause : r ≢ schedule.Memory
  pub says : SaysFirings bytes (Err r)

-- a refusal of inputs, or want of memory
abbrev pub IsInputsFault : Net → Bytes → RunRefusal → Type 0
IsInputsFault net bytes (refusal.Inputs r) = IsNoInputs net bytes r
IsInputsFault net bytes (refusal.Schedule r) = ⊥
IsInputsFault net bytes (refusal.NotEnabled i) = ⊥
IsInputsFault net bytes (refusal.Limit n) = ⊥
IsInputsFault net bytes refusal.Stuck = ⊥
IsInputsFault net bytes (refusal.Stray array name) = ⊥
IsInputsFault net bytes refusal.Memory = Unit {0}

-- a refusal of a schedule, or want of memory
abbrev pub IsScheduleFault : Bytes → RunRefusal → Type 0
IsScheduleFault bytes (refusal.Inputs r) = ⊥
IsScheduleFault bytes (refusal.Schedule r) = IsNoSchedule bytes r
IsScheduleFault bytes (refusal.NotEnabled i) = ⊥
IsScheduleFault bytes (refusal.Limit n) = ⊥
IsScheduleFault bytes refusal.Stuck = ⊥
IsScheduleFault bytes (refusal.Stray array name) = ⊥
IsScheduleFault bytes refusal.Memory = Unit {0}
