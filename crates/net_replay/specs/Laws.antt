-- The laws of replays and of the plain runner.
use Rattle.std.specs.Prelude.{◌≡◌, ◌↔◌, ℕ, ◌<◌, ◌≤◌, List, length}
use Rattle.net_types.specs.declared.net.Net.{Net}
use Rattle.net_types.specs.declared.firing.Firing.{Firing}
use Rattle.net_types.specs.declared.firing.Inputs.{Inputs}
use Rattle.net_check.specs.Checks.{IsChecked}
use Rattle.net_core.specs.Fire.{State}
use Rattle.net_core.specs.Runs.{opening, Run, AtRest, Long}
use Rattle.net_replay.specs.declared.runner.Ended.{Ended}
use Rattle.net_replay.specs.declared.runner.Ended.TheVariants.{Rest, Limit}
use Rattle.net_replay.specs.Replays.{FailsAt}
use Rattle.net_replay.specs.Finishes.{Finishes}

-- a list of firings that fails is no run, and it fails at one firing
pub record HasOneAnswer (net : Net) (inputs : Inputs) (firings : List Firing) (number : ℕ) : Type 0 where
  pub no_run : (to : State) → Run net inputs firings to → ⊥
  pub one : (other : ℕ) → FailsAt net (opening net inputs) firings other → other ≡ number

abbrev pub OneAnswer : Type 0
OneAnswer = (net : Net) (inputs : Inputs) (firings : List Firing) (number : ℕ) → FailsAt net (opening net inputs) firings number
    → HasOneAnswer net inputs firings number

-- an end agrees with a run of n firings that ends at rest in the state t
pub record AgreesWith (n : ℕ) (t : State) (limit : ℕ) (to : State) (e : Ended) : Type 0 where
  pub rests : n ≤ limit → (e ≡ Rest n) × (to ≡ t)
  pub cut : limit < n → e ≡ Limit

-- each run that is finished agrees with each run that ends at rest; the empty run is finished from the opening state
abbrev pub OneEnd : Type 0
OneEnd = (net : Net) (inputs : Inputs) (firings before after : List Firing) (t s to : State) (limit : ℕ) (e : Ended) → IsChecked net
    → Run net inputs firings t → AtRest net t → Run net inputs before s → Finishes net s (length before) limit after to e
    → AgreesWith (length firings) t limit to e

-- a run that is finished is cut by the limit exactly where the net has longer runs
abbrev pub LimitIsOfTheNet : Type 0
LimitIsOfTheNet = (net : Net) (inputs : Inputs) (before after : List Firing) (s to : State) (limit : ℕ) (e : Ended) → IsChecked net
    → Run net inputs before s → Finishes net s (length before) limit after to e
    → (e ≡ Limit) ↔ Long net inputs limit
