-- States as plain data: the state of such data, and which may stand in a net.
use Rattle.std.specs.Prelude.{◌≡◌, ℕ, suc, ◌<◌, ◌≤◌, Bool, true, false, List, [], ◌∷◌, length, get_or, set, replicate}
use Rattle.std.specs.List.{All}
use Rattle.net_types.specs.declared.net.Net.{Net}
use Rattle.net_types.specs.declared.net.Unit.{Unit as Kind}
use Rattle.net_types.specs.declared.net.Unit.TheVariants.{Entry, Param, Const, Op1, Op2, Select, Fork, Mux, Cmerge, Branch, Sink, Read, Lsq, Exit}
use Rattle.net_types.specs.Inputs.{InputsFit}
use Rattle.net_types.specs.Nets.{chan_at, kind_of}
use Rattle.net_check.specs.Ends.{is_lsq}
use Rattle.lsq_core.specs.declared.part.QueuePart.{QueuePart}
use Rattle.lsq_core.specs.Parts.{MayStand, queue_of}
use Rattle.net_core.specs.declared.parts.Parts.{Parts}
use Rattle.net_core.specs.Fire.{State, Own, idle}

-- the bits of these outputs are set
abbrev pub with_bits : List ℕ → List Bool → List Bool
with_bits [] bits = bits
with_bits (j ∷ js) bits = with_bits js (set bits j true)

-- the queue of a unit that is none
abbrev pub no_part : QueuePart
no_part = record { next = 0; entries = [] }

-- what a unit of this kind and number keeps
abbrev pub own_from : Kind → Parts → ℕ → Own
own_from Entry p u = record idle { fired = get_or p.fired u false }
own_from (Param j) p u = record idle { fired = get_or p.fired u false }
own_from (Const w n) p u = idle
own_from (Op1 op) p u = idle
own_from (Op2 op) p u = idle
own_from (Select w) p u = idle
own_from (Fork w outs) p u = record idle { sent = with_bits (get_or p.sent u []) (replicate outs false) }
own_from (Mux w ins) p u = idle
own_from (Cmerge ins) p u = idle
own_from (Branch w) p u = idle
own_from (Sink w) p u = idle
own_from (Read a) p u = idle
own_from (Lsq a d ps gs f) p u = record idle { queue = queue_of f (get_or p.queues u no_part) }
own_from Exit p u = record idle { fired = get_or p.fired u false; value = p.value }

-- the units from a number on
abbrev pub owns_from : Parts → ℕ → List Kind → List Own
owns_from p u [] = []
owns_from p u (k ∷ ks) = own_from k p u ∷ owns_from p (suc u) ks

-- the state of these data
abbrev pub state_from : Net → Parts → State
state_from net p = record {
  scalars = p.given.scalars;
  tokens = p.tokens;
  own = owns_from p 0 net.units;
  arrays = p.given.arrays;
  strays = p.strays;
}

-- numbers rise
abbrev pub Rising : List ℕ → Type 0
Rising [] = Unit {0}
Rising (j ∷ js) = All (λ k. j < k) js × Rising js

-- outputs of so many, ascending, and not all of them
pub record SentFits (outs : ℕ) (js : List ℕ) : Type 0 where
  pub rising : Rising js
  pub within : All (λ j. j < outs) js
  pub some : length js < outs

-- what is asked of the data of a unit, that its state can stand
abbrev pub OwnStands : Kind → Parts → ℕ → Type 0
OwnStands Entry p u = Unit {0}
OwnStands (Param j) p u = Unit {0}
OwnStands (Const w n) p u = Unit {0}
OwnStands (Op1 op) p u = Unit {0}
OwnStands (Op2 op) p u = Unit {0}
OwnStands (Select w) p u = Unit {0}
OwnStands (Fork w outs) p u = SentFits outs (get_or p.sent u [])
OwnStands (Mux w ins) p u = Unit {0}
OwnStands (Cmerge ins) p u = Unit {0}
OwnStands (Branch w) p u = Unit {0}
OwnStands (Sink w) p u = Unit {0}
OwnStands (Read a) p u = Unit {0}
OwnStands (Lsq a d ps gs f) p u = MayStand d (length ps) (queue_of f (get_or p.queues u no_part))
OwnStands Exit p u = Unit {0}

-- the data are those of a state that the net can be in, whether or not a run leads there
pub record Stands (net : Net) (p : Parts) : Type 0 where
  pub fit : InputsFit net p.given
  pub chans : length p.tokens ≡ length net.chans
  pub slots : (c : ℕ) → length (get_or p.tokens c []) ≤ (chan_at net c).slots
  pub own : (u : ℕ) → u < length net.units → OwnStands (kind_of net u) p u
  pub strays : length p.strays ≡ length net.arrays

-- the units that fire once, and note it
abbrev pub fires_once : Kind → Bool
fires_once Entry = true
fires_once (Param j) = true
fires_once (Const w n) = false
fires_once (Op1 op) = false
fires_once (Op2 op) = false
fires_once (Select w) = false
fires_once (Fork w outs) = false
fires_once (Mux w ins) = false
fires_once (Cmerge ins) = false
fires_once (Branch w) = false
fires_once (Sink w) = false
fires_once (Read a) = false
fires_once (Lsq a d ps gs f) = false
fires_once Exit = true

-- the outputs of a unit that notes to which of them it has sent; none of others
abbrev pub noted_outs : Kind → ℕ
noted_outs Entry = 0
noted_outs (Param j) = 0
noted_outs (Const w n) = 0
noted_outs (Op1 op) = 0
noted_outs (Op2 op) = 0
noted_outs (Select w) = 0
noted_outs (Fork w outs) = outs
noted_outs (Mux w ins) = 0
noted_outs (Cmerge ins) = 0
noted_outs (Branch w) = 0
noted_outs (Sink w) = 0
noted_outs (Read a) = 0
noted_outs (Lsq a d ps gs f) = 0
noted_outs Exit = 0

-- each list goes by unit, has nothing for a unit that keeps nothing of the kind, and tells of a fork its own outputs, ascending
pub record IsByUnit (net : Net) (p : Parts) : Type 0 where
  pub sent_long : length p.sent ≡ length net.units
  pub fired_long : length p.fired ≡ length net.units
  pub queues_long : length p.queues ≡ length net.units
  pub rising : (u : ℕ) → Rising (get_or p.sent u [])
  pub within : (u : ℕ) → All (λ j. j < noted_outs (kind_of net u)) (get_or p.sent u [])
  pub fired : (u : ℕ) → fires_once (kind_of net u) ≡ false → get_or p.fired u false ≡ false
  pub queues : (u : ℕ) → is_lsq (kind_of net u) ≡ false → get_or p.queues u no_part ≡ no_part
