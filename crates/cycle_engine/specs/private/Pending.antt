-- Private: only contracts of this crate cite it. Outputs of forks that need not be tried.
use Rattle.std.specs.Prelude.{◌≡◌, ◌≢◌, ◌⊎◌, ℕ, suc, ◌+◌, ◌*◌, ◌^◌, ◌<◌, ◌≤◌, true, false, List, [], length, get_or}
use Rattle.lsq_core.specs.Bits.{has}
use Rattle.net_types.specs.declared.net.Net.{Net}
use Rattle.net_types.specs.Nets.{kind_of, chan_at, out_of}
use Rattle.net_core.specs.declared.plan.Taken.{Taken}
use Rattle.net_core.specs.Fire.{State, idle, tokens_at}
use Rattle.net_core.specs.Plans.{IsForkOf, chans_of}
use Rattle.net_core.specs.Uses.{is_fork}
use Rattle.cycle_engine.specs.declared.pending.Pending.{Pending}

-- the number of the place of an output of a unit, whose places have their numbers from this base on
abbrev pub out_number : List ℕ → ℕ → ℕ → ℕ
out_number base u j = get_or base u 0 + suc j

-- the pending outputs of a unit are noted, and the output is none of them
pub record IsShut (p : Pending) (base : List ℕ) (u j : ℕ) : Type 0 where
  pub noted : get_or p.noted.items u false ≡ true
  pub out : has p.outs (out_number base u j) ≡ false

-- a fork has sent its head to an output in the state s, or the channel was full in the state that was before
abbrev pub IsHeldBack : Net → State → State → ℕ → ℕ → Type 0
IsHeldBack net before s u j = (get_or (get_or s.own u idle).sent j true ≡ true) ⊎ ((chan_at net (out_of u j net.chans)).slots ≤ length (tokens_at before (out_of u j net.chans)))

-- this holds of each output of a fork that is shut
abbrev pub AllShut : Net → Pending → List ℕ → (ℕ → ℕ → Type 0) → Type 0
AllShut net p base P = (u outs j : ℕ) → u < length net.units → IsForkOf outs (kind_of net u) → j < outs → IsShut p base u j → P u j

-- it tells of each unit, and there is room for the outputs among so many places
pub record HasPlaces (net : Net) (places : ℕ) (p : Pending) : Type 0 where
  pub units : length p.noted.items ≡ length net.units
  pub room : places ≤ 64 * length p.outs
  pub small : places ≤ 2 ^ 60

-- where a fork takes its head, its pending outputs are not noted
abbrev pub IsForgotten : Net → Pending → ℕ → Taken → Type 0
IsForgotten net p u taken = is_fork (kind_of net u) ≡ true → chans_of taken ≢ [] → get_or p.noted.items u false ≡ false

-- less may be noted, and no more is shut
pub record IsOpened (old new : Pending) : Type 0 where
  pub units : length new.noted.items ≡ length old.noted.items
  pub size : length new.outs ≡ length old.outs
  pub shut : (base : List ℕ) (u j : ℕ) → IsShut new base u j → IsShut old base u j

-- so it is, and an output that puts on the channel is not shut
abbrev pub IsFreedOut : Net → List ℕ → Pending → ℕ → Type 0
IsFreedOut net base p d = d < length net.chans → out_number base (chan_at net d).from.unit (chan_at net d).from.place < 2 ^ 60
    → out_number base (chan_at net d).from.unit (chan_at net d).from.place < 64 * length p.outs → IsShut p base (chan_at net d).from.unit (chan_at net d).from.place → ⊥

-- the first output from one on and below so many that is pending; the first output of the unit has this number
pub record IsNextPending (p : Pending) (first from outs n : ℕ) : Type 0 where
  pub from_on : from ≤ n
  pub at_most : n ≤ outs
  pub before : (j : ℕ) → from ≤ j → j < n → has p.outs (first + j) ≡ false
