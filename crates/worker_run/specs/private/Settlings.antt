-- Private: only contracts of this crate cite it. What settling and gathering leave of the workers, and a run of a list of firings.
use Rattle.std.specs.Prelude.{◌≡◌, ◌≢◌, ℕ, ◌<◌, true, List, [], ◌∷◌, length, get_or}
use Rattle.net_types.specs.declared.net.Net.{Net}
use Rattle.net_types.specs.declared.firing.Firing.{Firing}
use Rattle.net_core.specs.Fire.{State, after}
use Rattle.net_core.specs.Runs.{Leads}
use Rattle.net_worker.specs.Plays.{putter, taker}
use Rattle.net_worker.specs.Settles.{IsKeptWith}
use Rattle.net_worker.specs.Given.{SameButClosed}
use Rattle.net_worker.specs.Views.{net_of, owner_in, is_closed}
use Rattle.net_worker.specs.Workers.{IsMadeOf, IsSoundAt}
use Rattle.net_worker.specs.declared.tables.Tables.{Tables}
use Rattle.net_worker.specs.declared.worker.Worker.{Worker}

-- nothing of any worker has moved
pub record AreKept (a b : List Worker) : Type 0 where
  pub long : length b ≡ length a
  pub each : (j : ℕ) (d : Worker) → j < length a → IsKeptWith (get_or a j d) (get_or b j d)

-- a worker is closed, and else as it was
pub record IsClosedFrom (a b : Worker) : Type 0 where
  pub made : (t : Tables) → IsMadeOf t a → IsMadeOf t b
  pub closed : is_closed b ≡ true
  pub rest : SameButClosed a b

-- the link of a channel is sound, where it goes from one worker to another
abbrev pub IsSettled : Tables → List Worker → ℕ → Type 0
IsSettled t ws c = (d : Worker) → putter (net_of t) (owner_in t) c ≢ taker (net_of t) (owner_in t) c
    → IsSoundAt c (get_or ws (putter (net_of t) (owner_in t) c) d) (get_or ws (taker (net_of t) (owner_in t) c) d)

-- the links of the first n channels are
abbrev pub AreSettled : Tables → List Worker → ℕ → Type 0
AreSettled t ws n = (c : ℕ) → c < n → IsSettled t ws c

-- the state after a list of firings
abbrev pub after_all : Net → State → List Firing → State
after_all net s [] = s
after_all net s (f ∷ fs) = after_all net (after net s f) fs

-- from the state on the firings are enabled in turn
abbrev pub CanAll : Net → State → List Firing → Type 0
CanAll net s fs = Leads net s fs (after_all net s fs)

-- each worker is closed, and else as it was
pub record AreClosed (a b : List Worker) : Type 0 where
  pub long : length b ≡ length a
  pub each : (j : ℕ) (d : Worker) → j < length a → IsClosedFrom (get_or a j d) (get_or b j d)
