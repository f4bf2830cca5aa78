use Rattle.net_core.proofs.RetimedLemmas.{more_slots, same_opening, one_slot_serves, stays_at_rest}
use Rattle.net_core.proofs.laws.more_slots.Goals as goal

pub returns : goal.returns
returns c = record { leads = more_slots; opening = same_opening; one_slot = one_slot_serves; rest = stays_at_rest }
