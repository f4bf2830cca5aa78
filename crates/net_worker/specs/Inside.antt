-- Units all of whose channels stay in one worker.
use Rattle.std.specs.Prelude.{◌≡◌, ◌⊎◌, ℕ, ◌<◌, Option, Some, None, List, length, get_or}
use Rattle.elastic_link.specs.declared.put_end.PutEnd.{PutEnd}
use Rattle.net_types.specs.declared.net.Net.{Net}
use Rattle.net_types.specs.Nets.{chan_at, out_of}
use Rattle.net_core.specs.declared.plan.Put.{Put}
use Rattle.net_core.specs.Fire.{State}
use Rattle.net_worker.specs.Offers.{IsOffered, IsNotOffered}
use Rattle.net_worker.specs.Plays.{putter, taker}
use Rattle.net_worker.specs.Views.{owner_in}
use Rattle.net_worker.specs.declared.tables.Tables.{Tables}

-- each channel from or to the unit has one owner
abbrev pub IsInnerUnit : Net → (ℕ → ℕ) → ℕ → Type 0
IsInnerUnit net owner u = (c : ℕ) → c < length net.chans → ((chan_at net c).from.unit ≡ u) ⊎ ((chan_at net c).to.unit ≡ u) → putter net owner c ≡ taker net owner c

-- the channel of the output has no end
abbrev pub HasNoEnd : Net → ℕ → Option Put → List (Option PutEnd) → Type 0
HasNoEnd net u None ps = Unit {0}
HasNoEnd net u (Some w) ps = get_or ps (out_of u w.place net.chans) None ≡ None

-- the token is offered, or is not, whatever ends there are elsewhere
abbrev pub IsOfferedInside : Net → State → ℕ → Option Put → ℕ → ℕ → Type 0
IsOfferedInside net s u put above n = (ps : List (Option PutEnd)) → HasNoEnd net u put ps → IsOffered net s u put above n ps ps

abbrev pub IsNotOfferedInside : Net → State → ℕ → Option Put → ℕ → Type 0
IsNotOfferedInside net s u put above = (ps : List (Option PutEnd)) → HasNoEnd net u put ps → IsNotOffered net s u put above ps ps

-- where the channel is one of the net, both its units have one owner
abbrev pub StaysInside : Tables → ℕ → Type 0
StaysInside t c = c < length t.net.now.chans → putter t.net.now (owner_in t) c ≡ taker t.net.now (owner_in t) c

-- a channel both of whose units have one owner has no end among these
abbrev pub AreBetween : {A : Type 0} → Tables → List (Option A) → Type 0
AreBetween t es = (c : ℕ) → StaysInside t c → get_or es c None ≡ None
