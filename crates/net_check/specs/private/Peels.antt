-- Private: only contracts of this crate cite it. Units peeled off a net: a unit goes once each unit that a channel of delay 0 comes from has gone.
use Rattle.std.specs.Prelude.{◌≡◌, ℕ, ◌+◌, ◌-◌, ◌<◌, ◌≤◌, ◌==◌, ◌&&◌, not, Bool, true, false, cond, List, [], ◌∷◌, ◌++◌, length, get_or, slice_set, count_by}
use Rattle.std.specs.List.{All}
use Rattle.net_types.specs.declared.net.Chan.{Chan}
use Rattle.net_types.specs.declared.net.Net.{Net}
use Rattle.net_check.specs.Cycles.{IsDelayed, IsEndless}
use Rattle.net_check.specs.private.Marks.{times}

-- each channel out of a queue has a delay
abbrev pub AreDelayed : Net → Type 0
AreDelayed net = All (IsDelayed net) net.chans

abbrev pub NoneEndless : Net → Type 0
NoneEndless net = (u : ℕ) → IsEndless net u → ⊥

-- both units of the channel exist
pub record HasUnits (net : Net) (c : Chan) : Type 0 where
  pub from : c.from.unit < length net.units
  pub to : c.to.unit < length net.units

-- both units of each channel exist
pub record IsLinked (net : Net) : Type 0 where
  pub chans : All (HasUnits net) net.chans

-- the channel has delay 0 and goes into the unit u
abbrev pub arrives : ℕ → Chan → Bool
arrives u c = (c.delay == 0) && (c.to.unit == u)

-- the channel has delay 0 and goes from the unit v to the unit u
abbrev pub goes : ℕ → ℕ → Chan → Bool
goes v u c = arrives u c && (c.from.unit == v)

-- the channel has delay 0 and goes into the unit u, from a unit that has no mark
abbrev pub holds : List Bool → ℕ → Chan → Bool
holds peeled u c = arrives u c && not (get_or peeled c.from.unit false)

-- the target units of the channels of delay 0 out of each unit, each as often as there are such channels
pub record AreTargets (net : Net) (targets : List (List ℕ)) : Type 0 where
  pub size : length targets ≡ length net.units
  pub named : (v : ℕ) → All (λ u. u < length net.units) (get_or targets v [])
  pub target : (v u : ℕ) → v < length net.units → times (get_or targets v []) u ≡ count_by (goes v u) net.chans

-- the table with the target unit of one channel more, where its delay is 0
abbrev pub target_added : List (List ℕ) → Chan → List (List ℕ)
target_added targets c = cond (c.delay == 0) (slice_set targets c.from.unit (get_or targets c.from.unit [] ++ c.to.unit ∷ [])) targets

-- for each unit the number of channels of delay 0 into it
pub record AreWaits (net : Net) (waits : List ℕ) : Type 0 where
  pub size : length waits ≡ length net.units
  pub wait : (u : ℕ) → u < length net.units → get_or waits u 0 ≡ count_by (arrives u) net.chans

-- the table with one channel more, where its delay is 0
abbrev pub wait_added : List ℕ → Chan → List ℕ
wait_added waits c = cond (c.delay == 0) (slice_set waits c.to.unit (get_or waits c.to.unit 0 + 1)) waits

-- 1 for a wait of 0, else 0
abbrev pub done : ℕ → ℕ
done wait = cond (wait == 0) 1 0

-- the units that wait for nothing, each once
pub record AreReady (waits ready : List ℕ) : Type 0 where
  pub named : All (λ u. u < length waits) ready
  pub once : (u : ℕ) → u < length waits → times ready u ≡ done (get_or waits u 0)

-- each of the targets waits for as many as it has entries, at least
pub record IsAwaited (targets waits : List ℕ) : Type 0 where
  pub named : All (λ u. u < length waits) targets
  pub enough : (u : ℕ) → u < length waits → times targets u ≤ get_or waits u 0

-- each unit waits for one less an entry among the targets, and those that came to wait for nothing were added
pub record IsReleased (targets waits ready waits_after ready_after : List ℕ) : Type 0 where
  pub size : length waits_after ≡ length waits
  pub wait : (u : ℕ) → u < length waits → get_or waits_after u 0 + times targets u ≡ get_or waits u 0
  pub once : (u : ℕ) → u < length waits → times ready_after u + done (get_or waits u 0) ≡ times ready u + done (get_or waits_after u 0)
  pub named : All (λ u. u < length waits) ready → All (λ u. u < length waits) ready_after

-- the waits with one less for a target
abbrev pub wait_taken : List ℕ → ℕ → List ℕ
wait_taken waits target = slice_set waits target (get_or waits target 0 - 1)

-- the units that are ready, with the target where it waits for one alone
abbrev pub ready_added : List ℕ → ℕ → List ℕ → List ℕ
ready_added waits target ready = cond (get_or waits target 0 == 1) (ready ++ target ∷ []) ready

-- the marks are those of the units from which no walk backward is without end
pub record IsPeeled (net : Net) (peeled : List Bool) : Type 0 where
  pub size : length peeled ≡ length net.units
  pub gone : (u : ℕ) → get_or peeled u false ≡ true → IsEndless net u → ⊥
  pub stays : (u : ℕ) → u < length net.units → get_or peeled u false ≡ false → IsEndless net u

-- the first mark that is not set
pub record IsFirstUnset (marks : List Bool) (u : ℕ) : Type 0 where
  pub within : u < length marks
  pub unset : get_or marks u false ≡ false
  pub before : (v : ℕ) → v < u → get_or marks v false ≡ true
