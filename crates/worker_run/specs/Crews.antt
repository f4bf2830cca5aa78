-- The workers of one net.
use Rattle.std.specs.Prelude.{◌≡◌, ◌≢◌, ℕ, ◌+◌, ◌/◌, ◌%◌, ◌<◌, ◌≤◌, false, cond, nat_lt, List, length, map, slice_index_or}
use Rattle.std.specs.List.{All}
use Rattle.el_base.specs.Limits.{max_workers}
use Rattle.net_types.specs.declared.firing.Firing.{Firing}
use Rattle.net_types.specs.Inputs.{InputsFit}
use Rattle.firing_log.specs.declared.entry.Entry.{Entry}
use Rattle.net_worker.specs.declared.tables.Tables.{Tables}
use Rattle.net_worker.specs.declared.worker.Worker.{Worker}
use Rattle.net_worker.specs.Plays.{putter, taker}
use Rattle.net_worker.specs.Handed.{SameLogged}
use Rattle.net_worker.specs.Merged.{merged}
use Rattle.net_worker.specs.Views.{net_of, inputs_of, unit_owners, owner_in, number_of, log_of, is_closed}
use Rattle.net_worker.specs.Workers.{IsMadeOf, IsWhole, AreLinkedAt}

-- 64 workers at most; each owner is a worker; worker j has number j and, where it was not gathered, was made of these tables
pub record AreMade (t : Tables) (ws : List Worker) : Type 0 where
  pub few : length ws ≤ max_workers
  pub fit : InputsFit (net_of t) (inputs_of t)
  pub below : All (λ o. o < length ws) (unit_owners t)
  pub numbered : (j : ℕ) (d : Worker) → j < length ws → number_of (slice_index_or ws j d) ≡ j
  pub made : (j : ℕ) (d : Worker) → j < length ws → is_closed (slice_index_or ws j d) ≡ false → IsMadeOf t (slice_index_or ws j d)

-- the two ends that two workers have for a channel from the one to the other are the ends of one link
abbrev pub AreLinked : Tables → List Worker → Type 0
AreLinked t ws = (c : ℕ) (d e : Worker) → c < length (net_of t).chans → putter (net_of t) (owner_in t) c ≢ taker (net_of t) (owner_in t) c
    → putter (net_of t) (owner_in t) c < length ws → taker (net_of t) (owner_in t) c < length ws
    → AreLinkedAt c (slice_index_or ws (putter (net_of t) (owner_in t) c) d) (slice_index_or ws (taker (net_of t) (owner_in t) c) e)

-- both
abbrev pub AreACrew : Tables → List Worker → Type 0
AreACrew t ws = AreMade t ws × AreLinked t ws

-- each has its ends, and none was gathered
abbrev pub AllWhole : Tables → List Worker → Type 0
AllWhole t ws = (j : ℕ) (d : Worker) → j < length ws → IsWhole t (slice_index_or ws j d)

-- the logs, by worker
abbrev pub logs_of : List Worker → List (List Entry)
logs_of ws = map log_of ws

-- the firings of all logs, in the order of their stamps, and then of their workers
abbrev pub merged_of : List Worker → List Firing
merged_of ws = merged (logs_of ws)

-- the share of worker j of a limit
abbrev pub share_of : ℕ → ℕ → ℕ → ℕ
share_of limit count j = limit / count + cond (nat_lt j (limit % count)) 1 0

-- number, share, log and clock of each worker are as they were
pub record AreSameWork (a b : List Worker) : Type 0 where
  pub long : length b ≡ length a
  pub each : (j : ℕ) (d : Worker) → j < length a → SameLogged (slice_index_or a j d) (slice_index_or b j d)

-- the logs are as they were
abbrev pub SameLogs : List Worker → List Worker → Type 0
SameLogs a b = logs_of b ≡ logs_of a
