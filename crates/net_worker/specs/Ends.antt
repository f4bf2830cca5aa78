-- The slots of an end that takes, and what putting a token above a clock leaves.
use Rattle.std.specs.Prelude.{◌≡◌, ℕ, ◌+◌, ◌<◌, ◌≤◌, ◌^◌, suc, max, [], ◌∷◌, ◌++◌, length}
use Rattle.el_base.specs.Rises.{Rose}
use Rattle.elastic_link.specs.declared.put_end.PutEnd.{PutEnd}
use Rattle.elastic_link.specs.declared.take_end.TakeEnd.{TakeEnd}
use Rattle.elastic_link.specs.Credits.{newest_stamp, credits_in, IsStamp}
use Rattle.elastic_link.specs.Ends.{tokens_put, messages_received, slots_of, credits_in_hand, no_slot_count, no_message_count}

-- the slots of the link whose end takes
abbrev pub slots_for : TakeEnd → ℕ
slots_for e = e.slots

-- the token is put, with the stamp n one above the clock and the newest credit, and it had a slot
pub record IsPutAbove (a b : PutEnd) (value clock n : ℕ) : Type 0 where
  pub put : tokens_put b ≡ tokens_put a ++ (record { value = value; stamp = n }) ∷ []
  pub stamp : n ≡ max clock (newest_stamp (messages_received b)) + 1
  pub bound : IsStamp n
  pub room : length (tokens_put a) < slots_of a + credits_in (messages_received b)

-- why no token was put: no credit was in hand and the ring showed no message; the ring showed no free slot; or the stamp would be 2^62
pub data IsNotPut (a b : PutEnd) (clock : ℕ) : Type 0 where
  no_credit : credits_in_hand b ≡ 0 → Rose (no_message_count a) (no_message_count b) → IsNotPut a b clock
  no_slot : Rose (no_slot_count a) (no_slot_count b) → IsNotPut a b clock
  late : 2 ^ 62 ≤ suc (max clock (newest_stamp (messages_received b))) → IsNotPut a b clock

-- the credits in hand of an end by which no token was put: as many as before; or none; or some, but the ring showed no free slot, or no
-- stamp is left above the newest of the messages received
pub data IsUnspent (a b : PutEnd) : Type 0 where
  as_before : credits_in_hand b ≡ credits_in_hand a → IsUnspent a b
  spent : credits_in_hand b ≡ 0 → IsUnspent a b
  slotless : Rose (no_slot_count a) (no_slot_count b) → IsUnspent a b
  stampless : 2 ^ 62 ≤ suc (newest_stamp (messages_received b)) → IsUnspent a b
