-- Rule C3: slots and delays.
use Rattle.std.specs.Prelude.{ℕ, ◌<◌, ◌≤◌, sum_by}
use Rattle.std.specs.List.{All}
use Rattle.el_base.specs.Limits.{max_slots, max_delay, max_sum_of_slots}
use Rattle.net_types.specs.declared.net.Chan.{Chan}
use Rattle.net_types.specs.declared.net.Net.{Net}
use Rattle.net_check.specs.declared.refusal.At.{At}
use Rattle.net_check.specs.declared.refusal.At.TheVariants as «at»
use Rattle.net_check.specs.Lowest.{IsLowest, ChanLacks}

-- one slot at least, and slots and delay up to the most
pub record IsSized (c : Chan) : Type 0 where
  pub slots_some : 0 < c.slots
  pub slots_most : c.slots ≤ max_slots
  pub delay_most : c.delay ≤ max_delay

abbrev pub slots_of : Net → ℕ
slots_of net = sum_by (λ (c : Chan). c.slots) net.chans

-- C3: each channel has such slots and delay, and all slots together are no more than they may be
pub record KeepsC3 (net : Net) : Type 0 where
  pub chans : All IsSized net.chans
  pub together : slots_of net ≤ max_sum_of_slots

-- the culprit: the lowest channel with other slots or delay, else the net
abbrev pub CulpritC3 : Net → At → Type 0
CulpritC3 net (at.Chan c) = IsLowest (ChanLacks net IsSized) c
CulpritC3 net (at.Unit u) = ⊥
CulpritC3 net at.Net = ((c : ℕ) → ChanLacks net IsSized c → ⊥) × (max_sum_of_slots < slots_of net)
