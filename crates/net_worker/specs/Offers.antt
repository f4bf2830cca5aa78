-- What offering the token of a firing to its output leaves, and why it may be refused.
use Rattle.std.specs.Prelude.{◌≡◌, ℕ, suc, ◌<◌, ◌≤◌, ◌^◌, max, Option, Some, None, List, [], ◌∷◌, length, get_or}
use mathlib.Core.List.{IsPrefix}
use Rattle.el_base.specs.Rises.{Rose}
use Rattle.elastic_link.specs.declared.message.Credit.{Credit}
use Rattle.elastic_link.specs.declared.message.Token.{Token}
use Rattle.elastic_link.specs.declared.put_end.PutEnd.{PutEnd}
use Rattle.elastic_link.specs.declared.take_end.TakeEnd.{TakeEnd}
use Rattle.elastic_link.specs.Credits.{newest_stamp, IsStamp}
use Rattle.elastic_link.specs.Ends.{messages_received, credits_in_hand, no_slot_count, no_message_count}
use Rattle.net_types.specs.declared.net.Net.{Net}
use Rattle.net_types.specs.Nets.{into, out_of, chan_at}
use Rattle.net_core.specs.declared.plan.Put.{Put}
use Rattle.net_core.specs.Fire.{State, tokens_at, puts_on}
use Rattle.net_worker.specs.Fires.{PutStep}
use Rattle.net_worker.specs.Workers.{held_by, received_by}

-- ---- stamps

-- the stamp of the token that is held, 0 where none is
abbrev pub held_stamp : List Token → ℕ
held_stamp [] = 0
held_stamp (x ∷ xs) = x.stamp

-- the greatest stamp of the tokens that are held at these places of a unit
abbrev pub greatest_in : Net → List (Option TakeEnd) → ℕ → List ℕ → ℕ
greatest_in net es u [] = 0
greatest_in net es u (p ∷ ps) = max (held_stamp (held_by (get_or es (into u p net.chans) None))) (greatest_in net es u ps)

-- the stamp that the end of a channel told when it was asked: that of the messages received by then; 0 where there is no end
abbrev pub ToldAt : Option PutEnd → Option PutEnd → ℕ → Type 0
ToldAt None q r = r ≡ 0
ToldAt (Some p) q r = (ms : List Credit) × IsPrefix (messages_received p) ms × IsPrefix ms (received_by q) × (r ≡ newest_stamp ms)

abbrev pub ToldFor : Net → ℕ → Option Put → List (Option PutEnd) → List (Option PutEnd) → ℕ → Type 0
ToldFor net u None ps qs r = r ≡ 0
ToldFor net u (Some w) ps qs r = ToldAt (get_or ps (out_of u w.place net.chans) None) (get_or qs (out_of u w.place net.chans) None) r

-- ---- the token is put, or may be

-- where the output's channel has no end, the state has room on it
abbrev pub RoomAt : Net → State → ℕ → Option PutEnd → Type 0
RoomAt net s c None = length (tokens_at s c) < (chan_at net c).slots
RoomAt net s c (Some p) = Unit {0}

abbrev pub RoomFor : Net → State → ℕ → Option Put → List (Option PutEnd) → Type 0
RoomFor net s u None ps = Unit {0}
RoomFor net s u (Some w) ps = RoomAt net s (out_of u w.place net.chans) (get_or ps (out_of u w.place net.chans) None)

-- the token has the stamp n, one above the greatest of `above` and of what the output's end told, and is put where it has an end
pub record IsOffered (net : Net) (s : State) (u : ℕ) (put : Option Put) (above n : ℕ) (ps qs : List (Option PutEnd)) : Type 0 where
  pub long : length qs ≡ length ps
  pub fits : IsStamp n
  pub puts : (c : ℕ) → PutStep n (puts_on net u put c) (get_or ps c None) (get_or qs c None)
  pub told : ℕ
  pub by : ToldFor net u put ps qs told
  pub stamp : n ≡ suc (max above told)
  pub room : RoomFor net s u put ps

-- ---- it is refused

-- no credit is in hand now, and the ring showed no message
abbrev pub NoCreditAt : Option PutEnd → Option PutEnd → Type 0
NoCreditAt None q = ⊥
NoCreditAt (Some p) None = ⊥
NoCreditAt (Some p) (Some q) = (credits_in_hand q ≡ 0) × Rose (no_message_count p) (no_message_count q)

-- the ring showed no free slot for a token
abbrev pub NoSlotAt : Option PutEnd → Option PutEnd → Type 0
NoSlotAt None q = ⊥
NoSlotAt (Some p) None = ⊥
NoSlotAt (Some p) (Some q) = Rose (no_slot_count p) (no_slot_count q)

-- why the token of a firing was not put: its output's channel has no end and no room; its end had no credit; or no slot; or its stamp
-- would be 2^62
pub data IsNotOffered (net : Net) (s : State) (u : ℕ) (put : Option Put) (above : ℕ) (ps qs : List (Option PutEnd)) : Type 0 where
  no_room : (w : Put) → put ≡ Some w → get_or ps (out_of u w.place net.chans) None ≡ None
      → (chan_at net (out_of u w.place net.chans)).slots ≤ length (tokens_at s (out_of u w.place net.chans)) → IsNotOffered net s u put above ps qs
  no_credit : (w : Put) → put ≡ Some w → NoCreditAt (get_or ps (out_of u w.place net.chans) None) (get_or qs (out_of u w.place net.chans) None) → IsNotOffered net s u put above ps qs
  no_slot : (w : Put) → put ≡ Some w → NoSlotAt (get_or ps (out_of u w.place net.chans) None) (get_or qs (out_of u w.place net.chans) None) → IsNotOffered net s u put above ps qs
  late : (r : ℕ) → ToldFor net u put ps qs r → 2 ^ 62 ≤ suc (max above r) → IsNotOffered net s u put above ps qs
