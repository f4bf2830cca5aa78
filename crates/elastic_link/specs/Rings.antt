-- What a contract sees of the two ends of a ring.
use Rattle.std.specs.Prelude.{◌≡◌, ℕ, List}
use Rattle.rtrb.specs.Ring.{sent, known_free, received, known_items, IsPair, SameProducer, SameConsumer}
use Rattle.elastic_link.specs.declared.rings.RingOut.{RingOut}
use Rattle.elastic_link.specs.declared.rings.RingIn.{RingIn}

module _ {T P : Type 0} where
  -- every item pushed so far, oldest first
  abbrev pub items_out : RingOut T P → List T
  items_out r = sent r.ring

  -- every item popped so far, oldest first
  abbrev pub items_in : RingIn T P → List T
  items_in r = received r.ring

  -- how many free slots the ring is known to have
  abbrev pub room_out : RingOut T P → ℕ
  room_out r = known_free r.ring

  -- the items that are known to be in the ring
  abbrev pub items_known : RingIn T P → List T
  items_known r = known_items r.ring

  -- how often the ring showed no free slot
  abbrev pub full_count : RingOut T P → ℕ
  full_count r = r.fulls

  -- how often the ring showed no item
  abbrev pub empty_count : RingIn T P → ℕ
  empty_count r = r.empties

  -- the two ends of one ring
  abbrev pub IsRing : RingOut T P → RingIn T P → Type 0
  IsRing p c = IsPair p.ring c.ring

  abbrev pub SameOut : RingOut T P → RingOut T P → Type 0
  SameOut a b = SameProducer a.ring b.ring

  abbrev pub SameIn : RingIn T P → RingIn T P → Type 0
  SameIn a b = SameConsumer a.ring b.ring

  -- the end of the same ring, with the same items and count
  abbrev pub KeptOut : RingOut T P → RingOut T P → Type 0
  KeptOut a b = SameOut a b × (items_out b ≡ items_out a) × (full_count b ≡ full_count a)

  abbrev pub KeptIn : RingIn T P → RingIn T P → Type 0
  KeptIn a b = SameIn a b × (items_in b ≡ items_in a) × (empty_count b ≡ empty_count a)
