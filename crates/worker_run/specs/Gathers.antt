-- What gathering a crew gives.
use Rattle.std.specs.Prelude.{◌≡◌, ◌≢◌, ℕ, ◌<◌, Some, List, [], ◌++◌, length, get_or}
use Rattle.std.specs.List.{sum_by}
use Rattle.elastic_link.specs.declared.put_end.PutEnd.{PutEnd}
use Rattle.elastic_link.specs.declared.take_end.TakeEnd.{TakeEnd}
use Rattle.elastic_link.specs.Ends.{tokens_put, tokens_taken}
use Rattle.net_types.specs.Nets.{kind_of, owns}
use Rattle.net_check.specs.Checks.{IsChecked}
use Rattle.net_core.specs.Fire.{State, idle, tokens_at}
use Rattle.net_core.specs.Runs.{Run}
use Rattle.net_core.specs.States.{strays_at}
use Rattle.net_worker.specs.declared.tables.Tables.{Tables}
use Rattle.net_worker.specs.declared.worker.Worker.{Worker}
use Rattle.net_worker.specs.Plays.{putter, taker}
use Rattle.net_worker.specs.Merge.{Measures}
use Rattle.net_worker.specs.Local.{values}
use Rattle.net_worker.specs.Merged.{IsRested, entries_of}
use Rattle.net_worker.specs.Views.{net_of, inputs_of, owner_in, held_state, put_end, take_end}
use Rattle.net_worker.specs.Workers.{IsSoundAt, HasRested}
use Rattle.worker_run.specs.Crews.{AreMade, AllWhole, logs_of, merged_of}

-- all links are sound
abbrev pub AllSound : Tables → List Worker → Worker → Type 0
AllSound t ws d = (c : ℕ) → c < length (net_of t).chans → putter (net_of t) (owner_in t) c ≢ taker (net_of t) (owner_in t) c
    → IsSoundAt c (get_or ws (putter (net_of t) (owner_in t) c) d) (get_or ws (taker (net_of t) (owner_in t) c) d)

-- The state is put together of what the workers hold: what each unit keeps and the array that it may write, as its owner has them; the
-- tokens of each channel inside one owner, as that one has them; of a channel between two owners the tokens that were put and not taken;
-- and the strays of all workers together. Arrays that no unit may write, and the scalars, are those of the inputs.
pub record IsAssembled (t : Tables) (ws : List Worker) (d : Worker) (s : State) : Type 0 where
  pub measures : Measures (net_of t) (length (inputs_of t).arrays) s
  pub scalars : s.scalars ≡ (inputs_of t).scalars
  pub own : (u : ℕ) → u < length (net_of t).units → get_or s.own u idle ≡ get_or (held_state (get_or ws (owner_in t u) d)).own u idle
  pub arrays : (u a : ℕ) → u < length (net_of t).units → owns (kind_of (net_of t) u) ≡ Some a
      → get_or s.arrays a [] ≡ get_or (held_state (get_or ws (owner_in t u) d)).arrays a []
  pub others : (a : ℕ) → ((u : ℕ) → owns (kind_of (net_of t) u) ≡ Some a → ⊥) → get_or s.arrays a [] ≡ get_or (inputs_of t).arrays a []
  pub inner : (c : ℕ) → c < length (net_of t).chans → putter (net_of t) (owner_in t) c ≡ taker (net_of t) (owner_in t) c
      → tokens_at s c ≡ tokens_at (held_state (get_or ws (taker (net_of t) (owner_in t) c) d)) c
  pub between : (c : ℕ) → c < length (net_of t).chans → putter (net_of t) (owner_in t) c ≢ taker (net_of t) (owner_in t) c → (p : PutEnd) (e : TakeEnd)
      → put_end (get_or ws (putter (net_of t) (owner_in t) c) d) c ≡ Some p → take_end (get_or ws (taker (net_of t) (owner_in t) c) d) c ≡ Some e
      → values (tokens_taken e) ++ tokens_at s c ≡ values (tokens_put p)
  pub strays_long : length s.strays ≡ length (inputs_of t).arrays
  pub strays : (a : ℕ) → a < length (inputs_of t).arrays → strays_at s a ≡ sum_by (λ (w : Worker). strays_at (held_state w) a) ws

-- the merged log is a run of as many firings as there are entries; inner units that rest in a worker rest in its state; each state that
-- is put together of what the workers hold is the one to which the run leads
pub record IsGathered (t : Tables) (ws : List Worker) (d : Worker) : Type 0 where
  pub to : State
  pub run : Run (net_of t) (inputs_of t) (merged_of ws) to
  pub count : length (merged_of ws) ≡ entries_of (logs_of ws)
  pub rests : (j : ℕ) → j < length ws → HasRested t (get_or ws j d) → IsRested (net_of t) (owner_in t) j to
  pub is : (s : State) → IsAssembled t ws d s → s ≡ to

-- whatever threads swept the workers, and however often
abbrev pub CrewGathers : Type 0
CrewGathers = (t : Tables) (ws : List Worker) (d : Worker) → IsChecked (net_of t) → AreMade t ws → AllWhole t ws → AllSound t ws d → IsGathered t ws d

-- inner units of a worker that rest in it rest in the state
abbrev pub RestsIn : Tables → List Worker → State → Type 0
RestsIn t ws s = (j : ℕ) (d : Worker) → j < length ws → HasRested t (get_or ws j d) → IsRested (net_of t) (owner_in t) j s
