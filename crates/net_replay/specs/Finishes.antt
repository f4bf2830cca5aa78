-- What the plain runner does.
use Rattle.std.specs.Prelude.{◌≡◌, ℕ, ◌+◌, ◌≤◌, Bool, cond, List, [], ◌++◌, length}
use Rattle.el_base.specs.Logs.{Logged}
use Rattle.net_types.specs.declared.net.Net.{Net}
use Rattle.net_types.specs.declared.firing.Firing.{Firing}
use Rattle.net_core.specs.Fire.{State, enabled}
use Rattle.net_core.specs.Runs.{Leads, AtRest}
use Rattle.net_replay.specs.declared.runner.Ended.{Ended}
use Rattle.net_replay.specs.declared.runner.Ended.TheVariants as ended

-- no firing is enabled in a state that was come to by so many firings in all, which the limit allows
pub record IsRested (net : Net) (to : State) (count limit made : ℕ) : Type 0 where
  pub rest : AtRest net to
  pub counted : made ≡ count
  pub within : made ≤ limit

-- as many firings as the limit allows are made, and one is enabled
pub record IsLimited (net : Net) (to : State) (count limit : ℕ) : Type 0 where
  pub reached : count ≡ limit
  pub next : Firing
  pub goes : enabled net to next

-- what an end says of the state and of how many firings led to it
abbrev pub EndsBy : Net → State → ℕ → ℕ → Ended → Type 0
EndsBy net to count limit (ended.Rest made) = IsRested net to count limit made
EndsBy net to count limit ended.Limit = IsLimited net to count limit

-- the firings lead from one state to the other, and with those made before they end so
pub record Finishes (net : Net) (s : State) (made limit : ℕ) (firings : List Firing) (to : State) (e : Ended) : Type 0 where
  pub leads : Leads net s firings to
  pub ends : EndsBy net to (made + length firings) limit e

-- the firings were added to the log where they are kept
pub record IsLogged (keep : Bool) (firings : List Firing) (old new : Logged Firing) : Type 0 where
  pub items : new.items ≡ old.items ++ cond keep firings []
  pub room : new.room + length (cond keep firings []) ≡ old.room

-- some firings finish, and are in the log where they are kept
pub record Finished (net : Net) (s to : State) (made limit : ℕ) (keep : Bool) (old new : Logged Firing) (e : Ended) : Type 0 where
  pub firings : List Firing
  pub finishes : Finishes net s made limit firings to e
  pub logged : IsLogged keep firings old new
