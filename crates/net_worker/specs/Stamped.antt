-- States whose tokens carry stamps.
use Rattle.std.specs.Prelude.{ℕ, Option, Some, None, List, [], get_or}
use Rattle.net_types.specs.declared.net.Net.{Net}
use Rattle.net_types.specs.declared.firing.Firing.{Firing}
use Rattle.net_core.specs.declared.plan.Put.{Put}
use Rattle.net_core.specs.Fire.{State, Effect, effect, moved, applied, changed_from, put_at}

-- a state, and beside the tokens of each channel the stamps of the firings that put them
pub record Stamped : Type 0 where
  pub state : State
  pub stamps : List (List ℕ)

abbrev pub stamps_at : Stamped → ℕ → List ℕ
stamps_at s c = get_or s.stamps c []

-- the stamp is put where the token is put
abbrev pub stamped : ℕ → Option Put → Option Put
stamped n None = None
stamped n (Some w) = put_at w.place n

-- stamps are moved as tokens are
abbrev pub after_by : Net → ℕ → Stamped → ℕ → Option Effect → Stamped
after_by net n s u None = s
after_by net n s u (Some e) = record { state = applied net u e s.state; stamps = changed_from (moved net u (record e { put = stamped n e.put })) 0 s.stamps }

-- after a firing of this stamp
abbrev pub after_at : Net → ℕ → Stamped → Firing → Stamped
after_at net n s f = after_by net n s f.unit (effect net s.state f)
