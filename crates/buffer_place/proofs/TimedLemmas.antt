-- Nets whose channels were given equal slots and, by a rule, delays.
use Rattle.std.proofs.Common.{◌≡◌, ℕ, suc, ◌+◌, ◌*◌, ◌<◌, ◌≤◌, List, [], ◌∷◌, length, map, refl, ap, ◌∙◌, arith}
use Rattle.std.specs.Prelude.{sum_by, Option, Some, None}
use Rattle.std.specs.List.{All}
use Rattle.std.proofs.Math.Nat.{suc-mul}
use Rattle.std.proofs.lemmas.List.Sums.{sum_by-cons}
use Rattle.std.proofs.lemmas.List.Elements.{All-nil, All-cons}
use Rattle.el_base.specs.Limits.{max_delay}
use Rattle.net_types.specs.declared.net.Chan.{Chan}
use Rattle.net_types.specs.declared.net.Net.{Net}
use Rattle.net_types.specs.declared.net.Unit.{Unit as Kind}
use Rattle.net_types.specs.declared.net.Unit.TheVariants.{Read, Lsq}
use Rattle.net_types.specs.Nets.{kind_of, chan_at}
use Rattle.net_check.specs.Sizes.{IsSized, KeepsC3}
use Rattle.net_check.specs.Cycles.{WaitsAfter, IsDelayed}
use Rattle.net_check.specs.Retimed.{untimed, SamePlain}
use Rattle.buffer_place.specs.declared.timing.Class.{Class}
use Rattle.buffer_place.specs.declared.timing.Class.TheVariants as class
use Rattle.buffer_place.specs.declared.timing.Timing.{Timing}
use Rattle.buffer_place.specs.Timings.{IsTiming, class_of, class_delay, source_delay}
use Rattle.buffer_place.specs.Placing.{AreMostSlots}
use Rattle.buffer_place.specs.Cuts.{timed_by}
use Rattle.buffer_place.proofs.EdgeLemmas.{mapped_at}

class_within : (t : Timing) → IsTiming t → (c : Class) → class_delay t (Some c) ≤ max_delay
class_within t h class.Logic = h.logic
class_within t h class.Mul = h.mul
class_within t h class.Div = h.div
class_within t h class.Read = h.read
class_within t h class.Lsq = h.lsq

pub source_within : (t : Timing) (net : Net) (c : Chan) → IsTiming t → source_delay t net c ≤ max_delay
source_within t net c h = by (class_of (kind_of net c.from.unit))
  where
    by : (o : Option Class) → class_delay t o ≤ max_delay
    by None = omega arith
    by (Some k) = class_within t h k

module _ (t : Timing) (net : Net) (delay : Chan → ℕ) (slots : ℕ) where
  abbrev timed : Chan → Chan
  timed = timed_by delay slots

  abbrev pub after : Net
  after = record net { chans = map timed net.chans }

  pub at_after : (c : ℕ) → c < length net.chans → chan_at after c ≡ timed (chan_at net c)
  at_after c l = mapped_at timed net.chans c l

  same_units : (cs : List Chan) → map untimed (map timed cs) ≡ map untimed cs
  same_units [] = refl
  same_units (c ∷ cs) = ap (λ r. untimed c ∷ r) (same_units cs)

  pub same_after : SamePlain net after
  same_after = λ i. record net { chans = same_units net.chans i }

  -- ---- slots

  pub slots_each : (cs : List Chan) → All (λ (c : Chan). c.slots ≡ slots) (map timed cs)
  slots_each [] = All-nil (λ (c : Chan). c.slots ≡ slots)
  slots_each (c ∷ cs) = All-cons (λ (c : Chan). c.slots ≡ slots) (timed c) (map timed cs) refl (slots_each cs)

  slots_together : (cs : List Chan) → sum_by (λ (c : Chan). c.slots) (map timed cs) ≡ length cs * slots
  slots_together [] = omega arith
  slots_together (c ∷ cs) = let r = slots_together cs in sum_by-cons (λ (c : Chan). c.slots) (timed c) (map timed cs) ∙ ap (λ n. slots + n) r ∙ next (length cs)
    where
      next : (n : ℕ) → slots + n * slots ≡ suc n * slots
      next n = let e = suc-mul n slots in omega arith

  sized_each : IsTiming t → ((c : Chan) → delay c ≤ max_delay) → 0 < slots → slots ≤ t.slots → (cs : List Chan) → All IsSized (map timed cs)
  sized_each h d s m [] = All-nil IsSized
  sized_each h d s m (c ∷ cs) =
      let e = h.slots in
      All-cons IsSized (timed c) (map timed cs) (record { slots_some = s; slots_most = omega arith; delay_most = d c }) (sized_each h d s m cs)

  pub sized_after : IsTiming t → ((c : Chan) → delay c ≤ max_delay) → 0 < slots → AreMostSlots t.slots (length net.chans) slots → KeepsC3 after
  sized_after h d s m = record {
    chans = sized_each h d s m.few net.chans;
    together = (let e = slots_together net.chans in let l = m.together in omega arith);
  }

  -- ---- delays out of queues

  waits : IsTiming t → (k : Kind) (d : ℕ) → (0 < class_delay t (class_of k) → 0 < d) → WaitsAfter k d
  waits h (Lsq b d2 ps gs f) d s = s h.lsq_some
  waits h _ d s = tt

  pub delayed_each : IsTiming t → ((c : Chan) → 0 < source_delay t net c → 0 < delay c) → (cs : List Chan) → All (IsDelayed after) (map timed cs)
  delayed_each h s [] = All-nil (IsDelayed after)
  delayed_each h s (c ∷ cs) = All-cons (IsDelayed after) (timed c) (map timed cs) (waits h (kind_of net c.from.unit) (delay c) (s c)) (delayed_each h s cs)
