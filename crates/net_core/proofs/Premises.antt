-- What the proofs of the laws use of a checked net, and of the queues.
use Rattle.std.specs.Prelude.{◌≡◌, ◌≢◌, ℕ, zero, suc, ◌<◌, ◌≤◌, ◌==◌, ◌&&◌, Bool, true, false, cond, Option, Some, None, List, [], ◌∷◌, length}
use Rattle.net_types.specs.declared.net.Place.{Place}
use Rattle.net_types.specs.declared.net.Net.{Net}
use Rattle.net_types.specs.declared.net.Unit.{Unit as Kind}
use Rattle.net_types.specs.declared.net.Unit.TheVariants.{Entry, Fork, Cmerge, Branch, Sink, Lsq, Exit}
use Rattle.net_types.specs.Nets.{into, chan_at, kind_of, uses, owns}
use Rattle.net_check.specs.Controls.{ctl_in, ctl_out}
use Rattle.net_check.specs.Ends.{is_lsq, end_place}
use Rattle.lsq_core.specs.Laws.{ActsJoin, StaysConsistent}
use Rattle.net_core.specs.Fire.{among}

-- an array that one unit may write is used by no other unit
abbrev pub Alone : Net → Type 0
Alone net = (u v a : ℕ) → u ≢ v → owns (kind_of net u) ≡ Some a → uses (kind_of net v) ≡ Some a → ⊥

-- which places of a kind are control: as far as the count of control tokens rests on it
abbrev pub Steers : Kind → (ℕ → Bool) → (ℕ → Bool) → Type 0
Steers Entry i o = o 0 ≡ true
Steers (Fork w outs) i o = (j : ℕ) → j < outs → o j ≡ ((j == 0) && i 0)
Steers (Cmerge ins) i o = ((j : ℕ) → j < ins → i j ≡ true) × (o 0 ≡ true)
Steers (Branch w) i o = (i 0 ≡ false) × (o 0 ≡ i 1) × (o 1 ≡ i 1)
Steers (Sink w) i o = Unit {0}
Steers (Lsq a d ps gs fw) i o = ((g : ℕ) → g ≤ length gs → i g ≡ true) × ((g : ℕ) → length gs < g → o g ≡ false)
Steers Exit i o = i 0 ≡ true
Steers _ i o = o 0 ≡ false

abbrev pub Steered : Net → Type 0
Steered net = (u : ℕ) → Steers (kind_of net u) (ctl_in net u) (ctl_out net u)

-- a channel into a fork goes to its one input place
abbrev pub Forked : Net → Type 0
Forked net = (c u w outs : ℕ) → c < length net.chans → (chan_at net c).to.unit ≡ u → kind_of net u ≡ Fork w outs → c ≡ into u 0 net.chans

-- ---- the chain of Ends

-- the queue whose End has this place among its outputs
abbrev pub end_at : Kind → Place → Option ℕ
end_at (Lsq a d ps gs fw) from = cond (from.place == length gs) (Some from.unit) None
end_at _ from = None

abbrev pub end_unit : Net → ℕ → Option ℕ
end_unit net c = end_at (kind_of net (chan_at net c).from.unit) (chan_at net c).from

abbrev pub then_end : Option ℕ → (ℕ → List ℕ) → List ℕ
then_end None f = []
then_end (Some u) f = f u

-- the queues whose Ends are met on the way back from a channel, in at most n steps
abbrev pub met : Net → ℕ → ℕ → List ℕ
met net zero c = []
met net (suc n) c = then_end (end_unit net c) (λ u. u ∷ met net n (into u (end_place (kind_of net u)) net.chans))

-- is a place the End place of a queue, or the control place of the exit
abbrev pub takes_end : Kind → ℕ → Bool
takes_end (Lsq a d ps gs fw) p = p == length gs
takes_end Exit p = p == 0
takes_end _ p = false

pub record Chained (net : Net) : Type 0 where
  -- the channel out of an End goes to the End place of a queue or to the exit
  pub goes_on : (c u : ℕ) → c < length net.chans → end_unit net c ≡ Some u → takes_end (kind_of net (chan_at net c).to.unit) (chan_at net c).to.place ≡ true
  -- on the way back from the exit each End is met
  pub covers : (x u : ℕ) → kind_of net x ≡ Exit → is_lsq (kind_of net u) ≡ true → (n : ℕ) × (among u (met net n (into x 0 net.chans)) ≡ true)

-- ---- all of it

-- the laws of queues
pub record QueueLaws : Type 0 where
  pub join : ActsJoin
  pub consistent : StaysConsistent

pub record Premises (net : Net) : Type 0 where
  pub alone : Alone net
  pub steered : Steered net
  pub forked : Forked net
  pub one_entry : (u v : ℕ) → kind_of net u ≡ Entry → kind_of net v ≡ Entry → u ≡ v
  pub named : (u a : ℕ) → uses (kind_of net u) ≡ Some a → a < length net.arrays
  pub chained : Chained net
  pub queues : QueueLaws
