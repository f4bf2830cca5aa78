-- Private: only contracts of this crate cite it. Workers that were swept, in threads or in turn.
use Rattle.std.specs.Prelude.{◌≡◌, ◌⊎◌, ℕ, ◌<◌, List, length, get_or}
use Rattle.std.specs.List.{sum_by}
use Rattle.net_worker.specs.Views.{log_room}
use Rattle.net_worker.specs.declared.tables.Tables.{Tables}
use Rattle.net_worker.specs.declared.worker.Worker.{Worker}
use Rattle.net_worker.specs.Workers.{IsMadeOf, SameWorker, IsFull, HasLoggedExit, HasRested}

-- the worker later, still one that was made of its tables
pub record IsSweptFrom (t : Tables) (a b : Worker) : Type 0 where
  pub made : IsMadeOf t b
  pub same : SameWorker a b

-- the worker's log has a firing of the exit, or is full or has no stamp left, or its inner units rest
abbrev pub HasStopped : Tables → Worker → Type 0
HasStopped t w = HasLoggedExit t w ⊎ (IsFull w ⊎ HasRested t w)

-- each worker later
pub record AreSwept (t : Tables) (a b : List Worker) : Type 0 where
  pub long : length b ≡ length a
  pub each : (j : ℕ) (d : Worker) → j < length a → IsSweptFrom t (get_or a j d) (get_or b j d)

-- so of each worker
abbrev pub AllStopped : Tables → List Worker → Type 0
AllStopped t ws = (j : ℕ) (d : Worker) → j < length ws → HasStopped t (get_or ws j d)

-- each worker later, which has stopped by itself where the gate is open
pub record AreSweptBy (t : Tables) (Opened : Type 0) (a b : List Worker) : Type 0 where
  pub swept : AreSwept t a b
  pub stopped : Opened → AllStopped t b

-- a gate that answered false is not open
abbrev pub IsShut : Type 0 → Type 0
IsShut Opened = Opened → ⊥

-- how many entries more the logs have room for
abbrev pub rooms_of : List Worker → ℕ
rooms_of ws = sum_by log_room ws

-- a worker that made so many firings in a sweep has stopped where that is none, and else has less room in its log
pub record IsTurnOf (t : Tables) (n : ℕ) (a b : Worker) : Type 0 where
  pub none : n ≡ 0 → HasStopped t b
  pub some : 0 < n → log_room b < log_room a

-- so of all workers
pub record AreTurnsOf (t : Tables) (n : ℕ) (a b : List Worker) : Type 0 where
  pub none : n ≡ 0 → AllStopped t b
  pub some : 0 < n → rooms_of b < rooms_of a

-- so of a worker that was swept for certain only where it was asked
pub record IsTurnAsked (Asked : Type 0) (t : Tables) (n : ℕ) (a b : Worker) : Type 0 where
  pub none : Asked → n ≡ 0 → HasStopped t b
  pub some : 0 < n → log_room b < log_room a

-- so of all workers
pub record AreTurnsAsked (Asked : Type 0) (t : Tables) (n : ℕ) (a b : List Worker) : Type 0 where
  pub none : Asked → n ≡ 0 → AllStopped t b
  pub some : 0 < n → rooms_of b < rooms_of a
