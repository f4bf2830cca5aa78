-- From where the plain runner ends to the state that is saved.
use Rattle.std.proofs.Common.{◌≡◌, inl, inr, ℕ, ◌≤◌, sym, subst, arith}
use Rattle.std.specs.Prelude.{Err}
use Rattle.std.proofs.lemmas.Bool.{cases_lt}
use Rattle.net_types.specs.declared.net.Net.{Net}
use Rattle.net_core.specs.declared.parts.Parts.{Parts}
use Rattle.net_core.specs.Fire.{State}
use Rattle.net_core.specs.Parts.{state_from}
use Rattle.net_core.specs.Runs.{AtRest}
use Rattle.net_runs.specs.declared.refusal.RunRefusal.{RunRefusal}
use Rattle.net_runs.specs.declared.refusal.RunRefusal.TheVariants as refusal
use Rattle.net_runs.specs.Given.{Bytes, IsInputsFault}
use Rattle.net_runs.specs.Saves.{IsReachedBy, Saves}

pub rest_reached : (net : Net) (at : ℕ) (to : State) (p : Parts) (made : ℕ) → AtRest net to → state_from net p ≡ to → made ≤ at
    → IsReachedBy net at (record { made = made; parts = p })
rest_reached net at to p made rest is within = elim (cases_lt made at) [
  | inl l ↦ inr (record { fewer = l; rest = subst (AtRest net) (sym is) rest })
  | inr ge ↦ inl (omega (arith, within, ge))
]

pub inputs_refused : (net : Net) (bytes : Bytes) (at : ℕ) (r : RunRefusal) → IsInputsFault net bytes r → Saves net bytes at (Err r)
inputs_refused net bytes at (refusal.Inputs r) is = is
inputs_refused net bytes at (refusal.Schedule r) is = absurd is
inputs_refused net bytes at (refusal.NotEnabled i) is = absurd is
inputs_refused net bytes at (refusal.Limit n) is = absurd is
inputs_refused net bytes at refusal.Stuck is = absurd is
inputs_refused net bytes at (refusal.Stray array name) is = absurd is
inputs_refused net bytes at refusal.Memory is = tt
