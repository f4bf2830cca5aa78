-- Private: only contracts of this crate cite it. The queues that the walk back from the exit meets.
use Rattle.std.specs.Prelude.{◌≡◌, ℕ, ◌<◌, Bool, true, false, cond, List, length, get_or}
use Rattle.net_types.specs.declared.net.Net.{Net}
use Rattle.net_types.specs.declared.net.Unit.{Unit as Kind}
use Rattle.net_types.specs.declared.net.Unit.TheVariants.{Sink}
use Rattle.net_check.specs.Ends.{is_lsq, IsQueue, IsChain, WalksBack, times_met}

-- the marks are those of the queues that the walk back from input 0 of the exit meets, each of them once
pub record IsMet (net : Net) (exit : ℕ) (met : List Bool) : Type 0 where
  pub size : length met ≡ length net.units
  pub chain : List ℕ
  pub walk : WalksBack net exit 0 chain
  pub marked : (u : ℕ) → u < length net.units → times_met chain u ≡ cond (get_or met u false) 1 0

-- each queue has its mark
pub record AreMet (units : List Kind) (met : List Bool) : Type 0 where
  pub each : (u : ℕ) → u < length units → is_lsq (get_or units u (Sink 0)) ≡ true → get_or met u false ≡ true

-- the first queue without a mark
pub record IsFirstUnmet (units : List Kind) (met : List Bool) (u : ℕ) : Type 0 where
  pub within : u < length units
  pub queue : is_lsq (get_or units u (Sink 0)) ≡ true
  pub unmet : get_or met u false ≡ false
  pub before : (v : ℕ) → v < u → is_lsq (get_or units v (Sink 0)) ≡ true → get_or met v false ≡ true

-- the walk back from the exit meets each queue once
pub record AreAllMet (net : Net) : Type 0 where
  pub chain : List ℕ
  pub walked : IsChain net chain
  pub each : (u : ℕ) → IsQueue net u → times_met chain u ≡ 1
