-- Private: only contracts of this crate cite it. Workers while they are made and their links are.
use Rattle.std.specs.Prelude.{◌≡◌, ◌≢◌, ℕ, ◌<◌, ◌≤◌, None, List, length, get_or, IsSome}
use Rattle.std.specs.List.{All}
use Rattle.el_base.specs.Limits.{max_workers}
use Rattle.net_types.specs.Inputs.{InputsFit}
use Rattle.net_worker.specs.declared.tables.Tables.{Tables}
use Rattle.net_worker.specs.declared.worker.Worker.{Worker}
use Rattle.net_worker.specs.Plays.{putter, taker}
use Rattle.net_worker.specs.Given.{IsFresh}
use Rattle.net_worker.specs.Views.{net_of, inputs_of, unit_owners, owner_in, put_end, take_end}
use Rattle.net_worker.specs.Workers.{IsMadeOf, AreLinkedAt}
use Rattle.worker_run.specs.Crews.{share_of}

-- worker j of so many, with its share of the limit and an empty log, and without ends from channel n on
pub record IsNewWorker (t : Tables) (count limit n j : ℕ) (w : Worker) : Type 0 where
  pub made : IsMadeOf t w
  pub fresh : IsFresh j (share_of limit count j) w
  pub puts : (c : ℕ) → n ≤ c → put_end w c ≡ None
  pub takes : (c : ℕ) → n ≤ c → take_end w c ≡ None

-- so of each
abbrev pub AreNew : Tables → ℕ → ℕ → ℕ → List Worker → Type 0
AreNew t count limit n ws = (j : ℕ) (d : Worker) → j < length ws → IsNewWorker t count limit n j (get_or ws j d)

-- the workers at both ends of a channel have its ends, and these are of one link
pub record IsJoined (c : ℕ) (from to : Worker) : Type 0 where
  pub put : IsSome (put_end from c)
  pub take : IsSome (take_end to c)
  pub link : AreLinkedAt c from to

-- so of the first n channels that go from one worker to another
abbrev pub AreJoined : Tables → ℕ → List Worker → Type 0
AreJoined t n ws = (c : ℕ) (d e : Worker) → c < n → putter (net_of t) (owner_in t) c ≢ taker (net_of t) (owner_in t) c
    → IsJoined c (get_or ws (putter (net_of t) (owner_in t) c) d) (get_or ws (taker (net_of t) (owner_in t) c) e)

-- new workers whose first n channels are joined
pub record AreJoinedTo (t : Tables) (count limit n : ℕ) (ws : List Worker) : Type 0 where
  pub long : length ws ≡ count
  pub each : AreNew t count limit n ws
  pub joined : AreJoined t n ws

-- tables whose owners are below the number of workers
pub record AreTablesFor (t : Tables) (count : ℕ) : Type 0 where
  pub fit : InputsFit (net_of t) (inputs_of t)
  pub below : All (λ o. o < count) (unit_owners t)
  pub most : count ≤ max_workers
