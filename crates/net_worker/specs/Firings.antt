-- The parts of one firing, over lists of ends and over states.
use Rattle.std.specs.Prelude.{◌≡◌, ℕ, suc, ◌<◌, ◌≤◌, ◌^◌, max, false, Option, Some, None, IsSome, List, [], ◌∷◌, length, get_or, map}
use Rattle.elastic_link.specs.declared.take_end.TakeEnd.{TakeEnd}
use Rattle.elastic_link.specs.declared.put_end.PutEnd.{PutEnd}
use Rattle.elastic_link.specs.Ends.{tokens_taken, token_held, credits_repaid, repaid_stamp}
use Rattle.net_types.specs.declared.net.Net.{Net}
use Rattle.net_types.specs.declared.firing.Firing.{Firing}
use Rattle.net_types.specs.Nets.{into, out_of}
use Rattle.net_core.specs.declared.plan.Put.{Put}
use Rattle.net_core.specs.Fire.{State, Effect, among}
use Rattle.net_core.specs.Held.{take_at}
use Rattle.net_core.specs.States.{with_tokens}
use Rattle.net_worker.specs.Fires.{TakeStep, IsFired}
use Rattle.net_worker.specs.Going.{base_of}
use Rattle.net_worker.specs.Offers.{ToldFor}
use Rattle.net_worker.specs.declared.tables.Tables.{Tables}
use Rattle.net_worker.specs.declared.worker.Worker.{Worker}

-- ---- ends that take

-- there is no end, or it holds a token
abbrev pub HoldsIfAny : Option TakeEnd → Type 0
HoldsIfAny None = Unit {0}
HoldsIfAny (Some e) = IsSome (token_held e)

-- so at these places of a unit
abbrev pub AllHold : Net → ℕ → List (Option TakeEnd) → List ℕ → Type 0
AllHold net u es [] = Unit {0}
AllHold net u es (p ∷ ps) = HoldsIfAny (get_or es (into u p net.chans) None) × AllHold net u es ps

-- there is no end, or its token may be taken and repaid with the stamp n
pub record CanPay (n : ℕ) (e : TakeEnd) : Type 0 where
  pub held : IsSome (token_held e)
  pub stamp : repaid_stamp e ≤ n
  pub all : credits_repaid e ≡ length (tokens_taken e)
  pub few : credits_repaid e < 2 ^ 62

abbrev pub IsPayable : ℕ → Option TakeEnd → Type 0
IsPayable n None = Unit {0}
IsPayable n (Some e) = CanPay n e

abbrev pub AllPayable : Net → ℕ → ℕ → List (Option TakeEnd) → List ℕ → Type 0
AllPayable net u n es [] = Unit {0}
AllPayable net u n es (p ∷ ps) = IsPayable n (get_or es (into u p net.chans) None) × AllPayable net u n es ps

-- the channels into these places of a unit
abbrev pub chans_into : Net → ℕ → List ℕ → List ℕ
chans_into net u ps = map (λ p. into u p net.chans) ps

-- no channel stands twice
abbrev pub AllDistinct : List ℕ → Type 0
AllDistinct [] = Unit {0}
AllDistinct (d ∷ ds) = (among d ds ≡ false) × AllDistinct ds

-- the tokens of the channels into these places are taken, where they come from other workers, and repaid with the stamp n
pub record AreTaken (net : Net) (u n : ℕ) (ps : List ℕ) (es es' : List (Option TakeEnd)) : Type 0 where
  pub long : length es' ≡ length es
  pub each : (c : ℕ) → TakeStep (among c (chans_into net u ps)) n (get_or es c None) (get_or es' c None)

-- ---- the state

-- the token that was put on a channel to another worker is taken out of the state
abbrev pub OutAt : ℕ → Option PutEnd → State → State → Type 0
OutAt c None s s' = s' ≡ s
OutAt c (Some p) s s' = s' ≡ with_tokens (take_at c s.tokens) s

abbrev pub IsHandedOver : Net → ℕ → Option Put → List (Option PutEnd) → State → State → Type 0
IsHandedOver net u None ps s s' = s' ≡ s
IsHandedOver net u (Some w) ps s s' = OutAt (out_of u w.place net.chans) (get_or ps (out_of u w.place net.chans) None) s s'

-- ---- the firing

-- the worker made the firing, with a stamp one above the greatest of its base and of what the output's end told
pub record IsFiredExactly (t : Tables) (a b : Worker) (f : Firing) : Type 0 where
  pub effect : Effect
  pub stamp : ℕ
  pub fired : IsFired t a b f effect stamp
  pub told : ℕ
  pub by : ToldFor t.net.now f.unit effect.put a.puts.items b.puts.items told
  pub exact : stamp ≡ suc (max (base_of t a f) told)
