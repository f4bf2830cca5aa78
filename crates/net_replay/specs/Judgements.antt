-- What is said of a state at rest.
use Rattle.std.specs.Prelude.{◌≡◌, ℕ, ◌<◌, length}
use Rattle.net_types.specs.declared.net.Net.{Net}
use Rattle.net_core.specs.Fire.{State}
use Rattle.net_core.specs.Runs.{HasExited}
use Rattle.net_core.specs.States.{strays_at}
use Rattle.net_replay.specs.declared.fault.RunFault.{RunFault}
use Rattle.net_replay.specs.declared.fault.RunFault.TheVariants.{Limit, Stuck, Stray, Memory}

-- no array of the header has strays
abbrev pub HasNoStrays : Net → State → Type 0
HasNoStrays net s = (a : ℕ) → a < length net.arrays → strays_at s a ≡ 0

-- that is the first array of the header with strays
pub record IsFirstStray (net : Net) (s : State) (a : ℕ) : Type 0 where
  pub within : a < length net.arrays
  pub has : 0 < strays_at s a
  pub first : (b : ℕ) → b < a → strays_at s b ≡ 0

-- the exit has fired, and no address lay past its array
pub record IsSound (net : Net) (s : State) : Type 0 where
  pub exited : HasExited net s
  pub clean : HasNoStrays net s

-- what a fault says of a state at rest
abbrev pub IsFault : Net → State → RunFault → Type 0
IsFault net s (Limit n) = ⊥
IsFault net s Stuck = HasExited net s → ⊥
IsFault net s (Stray a) = HasExited net s × IsFirstStray net s a
IsFault net s Memory = ⊥
