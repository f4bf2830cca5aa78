-- Lists of cycles that a limit may cut.
use Rattle.std.specs.Prelude.{◌≡◌, ℕ, ◌+◌, List, [], ◌∷◌, ◌++◌, length}
use Rattle.net_types.specs.declared.net.Net.{Net}
use Rattle.net_types.specs.declared.firing.Firing.{Firing}
use Rattle.net_types.specs.declared.firing.Inputs.{Inputs}
use Rattle.net_core.specs.Fire.{enabled}
use Rattle.cycle_engine.specs.Cycles.{Dated, dated_opening, Makes, Once, InOrder, Cycles}
use Rattle.cycle_engine.specs.Bounds.{firing_count}

-- the firings of all cycles, one cycle after another
abbrev pub joined : List (List Firing) → List Firing
joined [] = []
joined (fs ∷ fss) = fs ++ joined fss

-- as many firings as the limit allows are made in cycles of which the last may be cut off, and one firing is enabled
pub record IsCut (net : Net) (inputs : Inputs) (limit : ℕ) : Type 0 where
  pub cycles : List (List Firing)
  pub start : Dated
  pub done : Cycles net 0 (dated_opening net inputs) cycles start
  pub last : List Firing
  pub to : Dated
  pub makes : Makes net (length cycles) start start last to
  pub once : Once last
  pub order : InOrder last
  pub count : firing_count cycles + length last ≡ limit
  pub next : Firing
  pub goes : enabled net to.state next
