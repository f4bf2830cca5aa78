-- Stamps, and lists of credit messages.
use Rattle.std.specs.Prelude.{ℕ, zero, suc, ◌+◌, ◌^◌, ◌<◌, ◌≤◌, Bool, nat_le, ◌&&◌, max, List, [], ◌∷◌}
use Rattle.el_base.specs.Limits.{max_slots}
use Rattle.elastic_link.specs.declared.message.Credit.{Credit}

-- a stamp of a firing
abbrev pub IsStamp : ℕ → Type 0
IsStamp s = s < 2 ^ 62

-- a message of one credit or more
pub record IsCredit (m : Credit) : Type 0 where
  pub some : 0 < m.count
  pub most : m.count ≤ 2 ^ 62
  pub stamp : IsStamp m.stamp

-- the numbers that an end which puts keeps
pub record ArePutBounds (slots in_hand newest : ℕ) : Type 0 where
  pub some : 0 < slots
  pub most : slots ≤ max_slots
  pub few : in_hand ≤ 2 ^ 62 + max_slots
  pub stamp : IsStamp newest

-- the numbers that an end which takes keeps
pub record AreTakeBounds (slots owed newest : ℕ) : Type 0 where
  pub some : 0 < slots
  pub most : slots ≤ max_slots
  pub few : owed ≤ 2 ^ 62
  pub stamp : IsStamp newest

-- the credits of all messages
abbrev pub credits_in : List Credit → ℕ
credits_in [] = 0
credits_in (m ∷ ms) = m.count + credits_in ms

-- the greatest stamp, and 0 where there is no message
abbrev pub newest_stamp : List Credit → ℕ
newest_stamp [] = 0
newest_stamp (m ∷ ms) = max m.stamp (newest_stamp ms)

-- from `low` over the messages to `last`, no stamp is below the one before it
abbrev pub never_falls : ℕ → List Credit → ℕ → Bool
never_falls low [] last = nat_le low last
never_falls low (m ∷ ms) last = nat_le low m.stamp && never_falls m.stamp ms last

-- the message that stands for the credits owed: none where there are none
abbrev pub owed_message : ℕ → ℕ → List Credit
owed_message zero stamp = []
owed_message (suc n) stamp = (record { count = suc n; stamp = stamp }) ∷ []

-- a message of one credit more than are owed
abbrev pub one_more : ℕ → ℕ → Credit
one_more owed stamp = record { count = owed + 1; stamp = stamp }
