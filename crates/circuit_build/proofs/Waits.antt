-- What queues keep between visits: no entry waits.
use Rattle.std.proofs.Common.{◌≡◌, ℕ, ◌+◌, Bool, false, Some, [], List, length, ap, ◌∙◌, arith, slice_get}
use Rattle.net_types.specs.declared.net.Net.{Net}
use Rattle.net_types.specs.declared.net.Port.{Port}
use Rattle.net_types.specs.declared.net.Unit.TheVariants.{Lsq}
use Rattle.net_core.specs.Fire.{Own, idle}
use Rattle.circuit_build.proofs.Marks.{Aside, awaits}

-- a queue without entries, after so many
abbrev pub emptied : Bool → ℕ → Own
emptied forward n = record idle { queue = record { forward = forward; next = n; items = [] } }

abbrev pub NoneWaits : Net → Aside → Type 0
NoneWaits net a = (u b depth : ℕ) (ports : List Port) (groups : List (List ℕ)) (forward : Bool) → slice_get net.units u ≡ Some (Lsq b depth ports groups forward) → (n : ℕ) × (a.own u ≡ emptied forward n)

pub emptied_awaits : (ports : List Port) (n : ℕ) → emptied false n ≡ awaits ports n []
emptied_awaits ports n = let e : n ≡ n + length {A = ℕ} [] = omega arith in ap (emptied false) e

pub none_waits_queue : (net : Net) (a : Aside) → NoneWaits net a → (u b depth : ℕ) (ports : List Port) (groups : List (List ℕ)) → slice_get net.units u ≡ Some (Lsq b depth ports groups false)
    → (n : ℕ) × (a.own u ≡ awaits ports n [])
none_waits_queue net a h u b depth ports groups is = let x = h u b depth ports groups false is in (x.0, x.1 ∙ emptied_awaits ports x.0)
