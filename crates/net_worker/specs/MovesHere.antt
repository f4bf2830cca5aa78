-- The channels of a firing's moves, in the rooms of the worker whose unit fires.
use Rattle.std.specs.Prelude.{ℕ, ◌<◌, Option, Some, None, length}
use Rattle.net_types.specs.declared.net.Net.{Net}
use Rattle.net_core.specs.declared.plan.Laid.{Laid}
use Rattle.net_core.specs.declared.plan.Taken.{Taken}
use Rattle.net_core.specs.declared.plan.Taken.TheVariants as taken
use Rattle.net_worker.specs.Portions.{PortionView, IsInHere, IsOutHere}

-- where the net has the channel, it is here: as one to a unit that is here, and as one from such a unit
abbrev pub IsInIfAny : Net → PortionView → ℕ → Type 0
IsInIfAny net p c = c < length net.chans → IsInHere p c

abbrev pub IsOutIfAny : Net → PortionView → ℕ → Type 0
IsOutIfAny net p c = c < length net.chans → IsOutHere p c

-- so of the channels from which tokens are taken
abbrev pub AreTakenHere : Net → PortionView → Taken → Type 0
AreTakenHere net p taken.None = Unit {0}
AreTakenHere net p (taken.One c) = IsInIfAny net p c
AreTakenHere net p (taken.Two c d) = IsInIfAny net p c × IsInIfAny net p d
AreTakenHere net p (taken.Three c d e) = IsInIfAny net p c × IsInIfAny net p d × IsInIfAny net p e

-- and of the one on which a token is laid
abbrev pub IsLaidHere : Net → PortionView → Option Laid → Type 0
IsLaidHere net p None = Unit {0}
IsLaidHere net p (Some l) = IsOutIfAny net p l.chan
