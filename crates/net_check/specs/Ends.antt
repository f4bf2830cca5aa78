-- Rule C6: the chain of the Ends of queues.
use Rattle.std.specs.Prelude.{◌≡◌, ◌⊎◌, ℕ, ◌<◌, ◌==◌, Bool, true, false, List, [], ◌∷◌, length, count_by}
use Rattle.net_types.specs.declared.net.Place.{Place}
use Rattle.net_types.specs.declared.net.Net.{Net}
use Rattle.net_types.specs.declared.net.Unit.{Unit as Kind}
use Rattle.net_types.specs.declared.net.Unit.TheVariants.{Entry, Param, Const, Op1, Op2, Select, Fork, Mux, Cmerge, Branch, Sink, Read, Lsq, Exit}
use Rattle.net_types.specs.Nets.{kind_of, chan_at, into, out_of}
use Rattle.net_check.specs.declared.refusal.At.{At}
use Rattle.net_check.specs.declared.refusal.At.TheVariants as «at»
use Rattle.net_check.specs.Lowest.{IsLowest}
use Rattle.net_check.specs.Headers.{is_exit}

abbrev pub is_lsq : Kind → Bool
is_lsq (Lsq a d ps gs f) = true
is_lsq _ = false

-- the number of the End's places, input and output, at a queue
abbrev pub end_place : Kind → ℕ
end_place Entry = 0
end_place (Param j) = 0
end_place (Const w n) = 0
end_place (Op1 op) = 0
end_place (Op2 op) = 0
end_place (Select w) = 0
end_place (Fork w n) = 0
end_place (Mux w n) = 0
end_place (Cmerge n) = 0
end_place (Branch w) = 0
end_place (Sink w) = 0
end_place (Read a) = 0
end_place (Lsq a d ps gs f) = length gs
end_place Exit = 0

-- the place is the End of a queue
pub record IsEnd (net : Net) (p : Place) : Type 0 where
  pub within : p.unit < length net.units
  pub queue : is_lsq (kind_of net p.unit) ≡ true
  pub place : p.place ≡ end_place (kind_of net p.unit)

-- the place is one of the exit
pub record IsAtExit (net : Net) (p : Place) : Type 0 where
  pub within : p.unit < length net.units
  pub exit : is_exit (kind_of net p.unit) ≡ true

pub record IsQueue (net : Net) (u : ℕ) : Type 0 where
  pub within : u < length net.units
  pub queue : is_lsq (kind_of net u) ≡ true

-- where the channel out of the End of the queue u goes
abbrev pub end_target : Net → ℕ → Place
end_target net u = (chan_at net (out_of u (end_place (kind_of net u)) net.chans)).to

-- the channel out of the End of the queue u goes to an End or to the exit
abbrev pub EndsWell : Net → ℕ → Type 0
EndsWell net u = IsEnd net (end_target net u) ⊎ IsAtExit net (end_target net u)

-- so at each queue
abbrev pub EachEndsWell : Net → Type 0
EachEndsWell net = (u : ℕ) → IsQueue net u → EndsWell net u

-- where the channel into an input place comes from
abbrev pub source_of : Net → ℕ → ℕ → Place
source_of net u p = (chan_at net (into u p net.chans)).from

-- walking back from the input place p of the unit u through Ends meets these queues, in this order
pub data WalksBack (net : Net) : ℕ → ℕ → List ℕ → Type 0 where
  stops : (u p : ℕ) → (IsEnd net (source_of net u p) → ⊥) → WalksBack net u p []
  meets : (u p : ℕ) (us : List ℕ) → IsEnd net (source_of net u p)
      → WalksBack net (source_of net u p).unit (end_place (kind_of net (source_of net u p).unit)) us
      → WalksBack net u p ((source_of net u p).unit ∷ us)

-- the walk from input 0 of an exit meets these queues
pub record IsChain (net : Net) (us : List ℕ) : Type 0 where
  pub exit : ℕ
  pub within : exit < length net.units
  pub is_exit : is_exit (kind_of net exit) ≡ true
  pub walk : WalksBack net exit 0 us

-- how often the walk meets the queue u
abbrev pub times_met : List ℕ → ℕ → ℕ
times_met us u = count_by (λ v. v == u) us

-- C6: the channel out of each End goes to the End of a queue or to the exit, and walking back from input 0 of the exit
-- through Ends meets each queue once
pub record KeepsC6 (net : Net) : Type 0 where
  pub targets : EachEndsWell net
  pub chain : List ℕ
  pub walked : IsChain net chain
  pub each : (u : ℕ) → IsQueue net u → times_met chain u ≡ 1

-- the End's channel of the queue u goes elsewhere
pub record IsAstray (net : Net) (u : ℕ) : Type 0 where
  pub queue : IsQueue net u
  pub astray : EndsWell net u → ⊥

-- the walk does not meet the queue u
pub record IsUnmet (net : Net) (u : ℕ) : Type 0 where
  pub queue : IsQueue net u
  pub chain : List ℕ
  pub walked : IsChain net chain
  pub unmet : times_met chain u ≡ 0

-- the culprit: the lowest queue whose End's channel goes elsewhere, else the lowest that is not met
abbrev pub CulpritC6 : Net → At → Type 0
CulpritC6 net (at.Unit u) = IsLowest (IsAstray net) u ⊎ (((v : ℕ) → IsAstray net v → ⊥) × IsLowest (IsUnmet net) u)
CulpritC6 net (at.Chan c) = ⊥
CulpritC6 net at.Net = ⊥
