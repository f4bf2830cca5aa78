-- What goes on from a saved state comes to.
use Rattle.std.specs.Prelude.{◌≡◌, ◌⊎◌, ℕ, ◌+◌, ◌<◌, ◌≤◌, List, length}
use Rattle.net_types.specs.declared.net.Net.{Net}
use Rattle.net_types.specs.declared.firing.Firing.{Firing}
use Rattle.net_types.specs.declared.firing.Inputs.{Inputs}
use Rattle.net_core.specs.Fire.{State, enabled}
use Rattle.net_core.specs.Runs.{Leads, Run, AtRest}
use Rattle.snapshot.specs.declared.saved.Saved.{Saved}
use Rattle.net_core.specs.Parts.{state_from}

-- the saved state is one of a run on these inputs, of as many firings
pub record IsOfRun (net : Net) (inputs : Inputs) (s : Saved) : Type 0 where
  pub firings : List Firing
  pub run : Run net inputs firings (state_from net s.parts)
  pub counted : s.made ≡ length firings

-- firings lead from the saved state to one at rest; with those made before they are within the limit
pub record RestsFrom (net : Net) (s : Saved) (limit made : ℕ) (to : State) : Type 0 where
  pub firings : List Firing
  pub leads : Leads net (state_from net s.parts) firings to
  pub rest : AtRest net to
  pub counted : made ≡ s.made + length firings
  pub within : made ≤ limit

-- as many firings as the limit leaves lead to a state in which one more is enabled
pub record GoesOnFrom (net : Net) (s : Saved) (limit : ℕ) : Type 0 where
  pub firings : List Firing
  pub to : State
  pub leads : Leads net (state_from net s.parts) firings to
  pub counted : s.made + length firings ≡ limit
  pub next : Firing
  pub goes : enabled net to next

-- the limit is passed: more firings were made than it allows, or one more is enabled after as many
abbrev pub IsPast : Net → Saved → ℕ → Type 0
IsPast net s limit = (limit < s.made) ⊎ GoesOnFrom net s limit
