-- Credits for which firings wait, and a worker that looked at all its channels from and to others.
use Rattle.std.specs.Prelude.{◌≡◌, ◌≢◌, ℕ, true}
use Rattle.net_worker.specs.Glances.{IsLooked, IsSeen}
use Rattle.net_worker.specs.Offers.{NoCreditAt}
use Rattle.net_worker.specs.Workers.{IsOutOf, IsInto, put_end, IsAwaited}
use Rattle.net_worker.specs.declared.tables.Tables.{Tables}
use Rattle.net_worker.specs.declared.worker.Worker.{Worker}

-- the channel's end, and no other, was asked, and showed no credit where a firing waits for one
pub record IsDenied (c : ℕ) (a b : Worker) : Type 0 where
  pub rested : a.resting ≡ true
  pub waits : b.waits ≡ a.waits
  pub takes : b.takes ≡ a.takes
  pub others : (d : ℕ) → d ≢ c → put_end b d ≡ put_end a d
  pub none : IsAwaited a c → NoCreditAt (put_end a c) (put_end b c)

-- each channel to another worker for whose credit a firing waits showed none
abbrev pub AllDenied : Tables → Worker → Worker → Type 0
AllDenied t a b = (c : ℕ) → IsOutOf t a.number c → IsAwaited b c → NoCreditAt (put_end a c) (put_end b c)

-- the worker looked at all channels from others, and where it rests was denied all credits for which firings wait
pub record IsLookedAll (t : Tables) (a b : Worker) : Type 0 where
  pub looked : IsLooked a b
  pub seen : (c : ℕ) → IsInto t a.number c → IsSeen c a b
  pub denied : b.resting ≡ true → AllDenied t a b
