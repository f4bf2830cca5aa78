-- Runs of a net: the opening state, lists of firings, rest, and what a state at the end says.
use Rattle.std.specs.Prelude.{◌≡◌, ℕ, suc, true, Option, List, [], length, get_or, map}
use Rattle.net_types.specs.declared.firing.Firing.{Firing}
use Rattle.net_types.specs.declared.firing.Inputs.{Inputs}
use Rattle.net_types.specs.declared.net.Net.{Net}
use Rattle.net_types.specs.declared.net.Unit.TheVariants.{Exit}
use Rattle.net_types.specs.Nets.{kind_of}
use Rattle.net_core.specs.Machine.{Path, Ended}
use Rattle.net_core.specs.Fire.{State, idle, opened, enabled, after}

-- nothing has fired, no token and no entry is there, no stray is counted, and scalars and arrays are those of the inputs
abbrev pub opening : Net → Inputs → State
opening net inputs = record {
  scalars = inputs.scalars;
  tokens = map (λ c. []) net.chans;
  own = map opened net.units;
  arrays = inputs.arrays;
  strays = map (λ xs. 0) inputs.arrays;
}

-- from the state s each firing is enabled after those before it, and t is the state after all
abbrev pub Leads : Net → State → List Firing → State → Type 0
Leads net s fs t = Path State Firing (enabled net) (after net) s fs t

-- the same from the opening state
abbrev pub Run : Net → Inputs → List Firing → State → Type 0
Run net inputs fs s = Leads net (opening net inputs) fs s

-- no firing is enabled
abbrev pub AtRest : Net → State → Type 0
AtRest net s = Ended State Firing (enabled net) (after net) s

-- there is a run of k + 1 firings
pub record Long (net : Net) (inputs : Inputs) (k : ℕ) : Type 0 where
  pub firings : List Firing
  pub to : State
  pub run : Run net inputs firings to
  pub more : length firings ≡ suc k

-- the exit has fired
abbrev pub HasExited : Net → State → Type 0
HasExited net s = (x : ℕ) → kind_of net x ≡ Exit → (get_or s.own x idle).fired ≡ true

-- the exit has fired and took this result, or none
pub record Exited (net : Net) (r : Option ℕ) (s : State) : Type 0 where
  pub fired : HasExited net s
  pub value : (x : ℕ) → kind_of net x ≡ Exit → (get_or s.own x idle).value ≡ r

-- no address lay past its array
abbrev pub NoStrays : State → Type 0
NoStrays s = (a : ℕ) → get_or s.strays a 0 ≡ 0
