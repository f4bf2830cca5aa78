-- What a threaded run reports.
use Rattle.std.specs.Prelude.{◌≡◌, ◌⊎◌, ℕ, ◌+◌, ◌<◌, ◌≤◌, Bool, true, cond, List, [], ◌++◌, length, slice_index_or}
use Rattle.std.specs.List.{All}
use Rattle.net_types.specs.declared.net.Net.{Net}
use Rattle.net_types.specs.declared.firing.Firing.{Firing}
use Rattle.net_types.specs.declared.firing.Inputs.{Inputs}
use Rattle.net_core.specs.Fire.{State}
use Rattle.net_core.specs.Runs.{Run, Leads, AtRest, Long}
use Rattle.net_split.specs.Owners.{owners_of}
use Rattle.net_replay.specs.declared.fault.RunFault.{RunFault}
use Rattle.net_replay.specs.declared.fault.RunFault.TheVariants as fault
use Rattle.net_replay.specs.Judgements.{IsFault, IsSound}
use Rattle.net_worker.specs.declared.tables.Tables.{Tables}
use Rattle.net_worker.specs.declared.worker.Worker.{Worker}
use Rattle.net_worker.specs.Merged.{IsRested}
use Rattle.net_worker.specs.Views.{net_of, inputs_of, unit_owners, owner_in, number_of, log_share, is_closed}
use Rattle.net_worker.specs.Workers.{IsFull, HasLoggedExit}
use Rattle.worker_run.specs.Crews.{merged_of, share_of}

-- a crew of so many workers, with owners in even shares, and the limit shared out
pub record IsCrewOf (net : Net) (inputs : Inputs) (count limit : ℕ) (t : Tables) (ws : List Worker) : Type 0 where
  pub net_is : net_of t ≡ net
  pub inputs_are : inputs_of t ≡ inputs
  pub owners : unit_owners t ≡ owners_of (length net.units) count
  pub count_is : length ws ≡ count
  pub shares : (j : ℕ) (d : Worker) → j < count → log_share (slice_index_or ws j d) ≡ share_of limit count j

-- where the gate is open: the worker's log has a firing of the exit, or is full or has no stamp left, or its inner units rest in the state
-- after the merged log
abbrev pub HasEnded : Tables → State → Worker → Type 0
HasEnded t s w = HasLoggedExit t w ⊎ (IsFull w ⊎ IsRested (net_of t) (owner_in t) (number_of w) s)

-- the merged log, and then the caller's firings, lead to the state, which is at rest, has exited and has no strays
pub record IsReport (net : Net) (inputs : Inputs) (count limit : ℕ) (keep : Bool) (Opened : Type 0) (t : Tables) (ws : List Worker) (s : State) (firings : ℕ) (log : List Firing) : Type 0 where
  pub crew : IsCrewOf net inputs count limit t ws
  -- each worker was gathered, and is whole no more
  pub closed : All (λ w. is_closed w ≡ true) ws
  pub gathered : State
  pub merged_run : Run net inputs (merged_of ws) gathered
  pub rest : List Firing
  pub finished : Leads net gathered rest s
  pub at_rest : AtRest net s
  pub sound : IsSound net s
  pub firings_are : firings ≡ length (merged_of ws) + length rest
  pub within : firings ≤ limit
  pub kept : log ≡ cond keep (merged_of ws ++ rest) []
  pub ended : Opened → (j : ℕ) (d : Worker) → j < count → HasEnded t gathered (slice_index_or ws j d)

-- some run ends at rest in a state of which this fault is said
pub record EndsFaulty (net : Net) (inputs : Inputs) (limit : ℕ) (f : RunFault) : Type 0 where
  pub firings : List Firing
  pub to : State
  pub run : Run net inputs firings to
  pub within : length firings ≤ limit
  pub at_rest : AtRest net to
  pub fault : IsFault net to f

-- why a run has no report, or want of memory
abbrev pub IsRunFault : Net → Inputs → ℕ → RunFault → Type 0
IsRunFault net inputs limit (fault.Limit n) = (n ≡ limit) × Long net inputs limit
IsRunFault net inputs limit fault.Stuck = EndsFaulty net inputs limit fault.Stuck
IsRunFault net inputs limit (fault.Stray a) = EndsFaulty net inputs limit (fault.Stray a)
IsRunFault net inputs limit fault.Memory = Unit {0}
