-- Private: only contracts of this crate cite it. Firings that are made one after another, within a limit.
use Rattle.std.specs.Prelude.{◌≡◌, ℕ, ◌+◌, ◌*◌, ◌^◌, ◌≤◌, Bool, true, List, length}
use Rattle.el_base.specs.Limits.{max_depth, max_firings}
use Rattle.el_base.specs.Logs.{Logged}
use Rattle.net_types.specs.declared.net.Net.{Net}
use Rattle.net_types.specs.declared.firing.Firing.{Firing}
use Rattle.net_core.specs.Fire.{State}
use Rattle.net_core.specs.Runs.{Leads}
use Rattle.net_core.specs.States.{CountsWithin}
use Rattle.net_replay.specs.Finishes.{IsLogged}

-- after so many firings the counts of the state and the log have room for all that the limit allows
pub record MayAdvance (s : State) (limit : ℕ) (keep : Bool) (count : ℕ) (log : Logged Firing) : Type 0 where
  pub within : count ≤ limit
  pub few : limit ≤ max_firings
  pub counts : CountsWithin (2 ^ 60 + count * max_depth) s
  pub room : keep ≡ true → limit ≤ count + log.room

-- some firings lead from one state to the other, and are in the log where they are kept
pub record Advances (net : Net) (s t : State) (limit : ℕ) (keep : Bool) (from to : ℕ) (old new : Logged Firing) : Type 0 where
  pub firings : List Firing
  pub leads : Leads net s firings t
  pub counted : to ≡ from + length firings
  pub logged : IsLogged keep firings old new
  pub may : MayAdvance t limit keep to new
