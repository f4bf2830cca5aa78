-- What giving ends to a worker, and closing it, leave.
use Rattle.std.specs.Prelude.{◌≡◌, ℕ, false, [], IsSome}
use Rattle.net_worker.specs.Views.{number_of, log_share, log_of, log_room, clock_of, is_closed, held_state, put_end, take_end}
use Rattle.net_worker.specs.Workers.{IsOutOf, IsInto}
use Rattle.net_worker.specs.declared.tables.Tables.{Tables}
use Rattle.net_worker.specs.declared.worker.Worker.{Worker}

-- number, share, log, clock and state are the same
pub record SameWork (a b : Worker) : Type 0 where
  pub number : number_of b ≡ number_of a
  pub share : log_share b ≡ log_share a
  pub log : log_of b ≡ log_of a
  pub room : log_room b ≡ log_room a
  pub clock : clock_of b ≡ clock_of a
  pub state : held_state b ≡ held_state a

-- all but the ends that put is the same
pub record SameButPuts (a b : Worker) : Type 0 where
  pub work : SameWork a b
  pub closed : is_closed b ≡ is_closed a
  pub takes : (c : ℕ) → take_end b c ≡ take_end a c

-- all but the ends that take is the same
pub record SameButTakes (a b : Worker) : Type 0 where
  pub work : SameWork a b
  pub closed : is_closed b ≡ is_closed a
  pub puts : (c : ℕ) → put_end b c ≡ put_end a c

-- all but whether it was gathered is the same
pub record SameButClosed (a b : Worker) : Type 0 where
  pub work : SameWork a b
  pub puts : (c : ℕ) → put_end b c ≡ put_end a c
  pub takes : (c : ℕ) → take_end b c ≡ take_end a c

-- each channel to another worker has its end; each from another worker has
abbrev pub HasPuts : Tables → Worker → Type 0
HasPuts t w = (c : ℕ) → IsOutOf t (number_of w) c → IsSome (put_end w c)

abbrev pub HasTakes : Tables → Worker → Type 0
HasTakes t w = (c : ℕ) → IsInto t (number_of w) c → IsSome (take_end w c)

-- a worker of this number and share that has no entries and was not gathered
pub record IsFresh (number share : ℕ) (w : Worker) : Type 0 where
  pub number_is : number_of w ≡ number
  pub share_is : log_share w ≡ share
  pub log : log_of w ≡ []
  pub closed : is_closed w ≡ false
