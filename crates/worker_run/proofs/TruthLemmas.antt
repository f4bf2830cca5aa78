-- What can be known of a crew whose facts are hidden.
use Rattle.std.proofs.Common.{◌≡◌, ◌≢◌, ◌⊎◌, inl, inr, ℕ, ◌<◌, ◌≤◌, List, [], ◌∷◌, length, Option, Some, None, refl, ap, ◌∙◌, sym, subst, arith, IsSomeAnd}
use Rattle.std.proofs.Math.Logic.{∥∥₁_elim, ∥∥₁_prop}
use Rattle.std.proofs.lemmas.Bool.{cases_lt}
use Rattle.net_types.specs.declared.net.Net.{Net}
use Rattle.net_types.specs.declared.firing.Firing.{Firing}
use Rattle.net_types.specs.Nets.{chan_at, out_of}
use Rattle.net_core.specs.declared.plan.Put.{Put}
use Rattle.net_core.specs.Fire.{State, Effect, effect, enabled, after, has_room, tokens_at}
use Rattle.net_core.specs.Runs.{Leads}
use Rattle.worker_run.specs.private.Settlings.{after_all, CanAll}
use Rattle.net_replay.proofs.PathLemmas.{leads_one}

-- what is hidden can't be false
pub not_hidden : {X : Type 0} → ∥ X ∥₁ → (X → ⊥) → ⊥
not_hidden t false_if = ∥∥₁_elim t (λ a b. absurd a) false_if

-- what is true or false, and follows from what is hidden, is true
pub from_hidden : {X P : Type 0} → ∥ X ∥₁ → P ⊎ (P → ⊥) → (X → P) → P
from_hidden t (inl p) so = p
from_hidden t (inr n) so = absurd (not_hidden t (λ x. n (so x)))

pub hidden_map : {X Y : Type 0} → ∥ X ∥₁ → (X → Y) → ∥ Y ∥₁
hidden_map t f = ∥∥₁_elim t ∥∥₁_prop (λ x. ∣ f x ∣₁)

-- ---- whether a list of firings can be made

room_or_not : (net : Net) (s : State) (u : ℕ) (o : Option Put) → has_room net s u o ⊎ (has_room net s u o → ⊥)
room_or_not net s u None = inl tt
room_or_not net s u (Some w) = by (cases_lt (length (tokens_at s c)) (chan_at net c).slots)
  where
    c : ℕ
    c = out_of u w.place net.chans

    by : (length (tokens_at s c) < (chan_at net c).slots) ⊎ ((chan_at net c).slots ≤ length (tokens_at s c))
        → has_room net s u (Some w) ⊎ (has_room net s u (Some w) → ⊥)
    by (inl l) = inl l
    by (inr l) = inr (λ h. absurd (omega arith))

some_or_not : (net : Net) (s : State) (u : ℕ) (o : Option Effect) → IsSomeAnd o (λ e. has_room net s u e.put) ⊎ (IsSomeAnd o (λ e. has_room net s u e.put) → ⊥)
some_or_not net s u None = inr (λ h. absurd h)
some_or_not net s u (Some e) = room_or_not net s u e.put

enabled_or_not : (net : Net) (s : State) (f : Firing) → enabled net s f ⊎ (enabled net s f → ⊥)
enabled_or_not net s f = some_or_not net s f.unit (effect net s f)

both_or_not : {P Q : Type 0} → P ⊎ (P → ⊥) → Q ⊎ (Q → ⊥) → (P × Q) ⊎ (P × Q → ⊥)
both_or_not (inl p) (inl q) = inl (p, q)
both_or_not (inl p) (inr n) = inr (λ h. n h.1)
both_or_not (inr n) q = inr (λ h. n h.0)

pub can_or_not : (net : Net) (s : State) (fs : List Firing) → CanAll net s fs ⊎ (CanAll net s fs → ⊥)
can_or_not net s [] = inl refl
can_or_not net s (f ∷ fs) = both_or_not (enabled_or_not net s f) (can_or_not net (after net s f) fs)

-- a list that leads to a state can be made
pub leads_can : (net : Net) (s : State) (fs : List Firing) (t : State) → Leads net s fs t → CanAll net s fs
leads_can net s [] t l = refl
leads_can net s (f ∷ fs) t l = (l.0, leads_can net (after net s f) fs t l.1)

-- and leads to the state after all
pub leads_all : (net : Net) (s : State) (fs : List Firing) (t : State) → Leads net s fs t → t ≡ after_all net s fs
leads_all net s fs t l = leads_one net s fs t (after_all net s fs) l (leads_can net s fs t l)
