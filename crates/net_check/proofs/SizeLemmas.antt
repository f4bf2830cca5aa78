-- Rule C3: slots added up, up to the greatest number of 64 bits.
use Rattle.std.proofs.Common.{◌≡◌, ◌↔◌, ℕ, ◌+◌, ◌-◌, ◌^◌, ◌<◌, ◌≤◌, min, Bool, true, IsTrue, List, length, get_or, take, subst, sym, ap, refl, ◌∙◌, arith, below_more}
use Rattle.std.specs.List.{sum_by}
use Rattle.std.proofs.lemmas.List.{take_all}
use Rattle.std.proofs.lemmas.List.Sums.{sum_by_more}
use Rattle.net_types.specs.declared.net.Net.{Net}
use Rattle.el_base.specs.Limits.{max_sum_of_slots}
use Rattle.net_types.specs.declared.net.Chan.{Chan}
use Rattle.net_types.specs.Nets.{chan_at, nowhere}
use Rattle.net_check.specs.Sizes.{IsSized, slots_of, KeepsC3}
use Rattle.net_check.proofs.MarkLemmas.{true_iff}
use Rattle.net_check.proofs.FirstLemmas.{all_chans}

-- the channels below c are sized, and have this many slots together, or more than 2 ^ 63 in both
pub record Summed (net : Net) (together c : ℕ) : Type 0 where
  pub sized : (v : ℕ) → v < c → IsSized (chan_at net v)
  pub total : together ≡ min (sum_by (λ (x : Chan). x.slots) (take c net.chans)) (2 ^ 64 - 1)

pub summed_none : (net : Net) → Summed net 0 0
summed_none net = record { sized = λ v l. absurd (omega arith); total = refl }

pub summed_more : (net : Net) (cs : List Chan) (together more after c : ℕ) (b : Bool) → cs ≡ net.chans → c < length cs → (IsTrue b ↔ IsSized (get_or cs c nowhere)) → b ≡ true
    → more ≡ (get_or cs c nowhere).slots → after ≡ min (together + more) (2 ^ 64 - 1) → Summed net together c → Summed net after (c + 1)
summed_more net cs together more after c b e l d t m a s =
    let P : List Chan → Type 0 = λ ys. c < length ys in
    let w : c < length net.chans = subst P e l in
    let g : get_or cs c nowhere ≡ chan_at net c = ap (λ ys. get_or ys c nowhere) e in
    let R : Chan → Type 0 = IsSized in
    let q = sum_by_more (λ (y : Chan). y.slots) net.chans c nowhere w in
    let k : (chan_at net c).slots ≡ more = ap (λ (y : Chan). y.slots) (sym g) ∙ sym m in
    let z = s.total in
    record {
      sized = below_more _ _ s.sized (subst R g (true_iff b (IsSized (get_or cs c nowhere)) d t));
      total = omega arith;
    }

total_at : (net : Net) (together c : ℕ) → length net.chans ≤ c → Summed net together c → together ≡ min (slots_of net) (2 ^ 64 - 1)
total_at net together c l s = s.total ∙ ap (λ ys. min (sum_by (λ (x : Chan). x.slots) ys) (2 ^ 64 - 1)) (take_all c net.chans l)

pub sizes_kept : (net : Net) (cs : List Chan) (together c : ℕ) → cs ≡ net.chans → length cs ≤ c → Summed net together c → together ≤ max_sum_of_slots → KeepsC3 net
sizes_kept net cs together c e l s h =
    let P : List Chan → Type 0 = λ ys. length ys ≤ c in
    let w : length net.chans ≤ c = subst P e l in
    let t = total_at net together c w s in
    record { chans = all_chans net IsSized (λ v k. s.sized v (omega arith)); together = omega arith }
