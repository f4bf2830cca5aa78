-- What one worker does: firings of its own units, with stamps.
use Rattle.std.specs.Prelude.{◌≡◌, ℕ, ◌<◌, Bool, false, cond, Option, Some, None, List, [], ◌∷◌, length, IsSomeAnd}
use Rattle.std.specs.List.{AllByRecursion}
use Rattle.net_types.specs.declared.net.Net.{Net}
use Rattle.net_types.specs.Nets.{into, out_of, chan_at}
use Rattle.net_types.specs.declared.firing.Firing.{Firing}
use Rattle.net_core.specs.declared.plan.Put.{Put}
use Rattle.net_core.specs.Fire.{State, Effect, effect, first, tokens_at, takes_from}
use Rattle.net_core.specs.Uses.{used}
use Rattle.net_worker.specs.Stamped.{Stamped, stamps_at, after_at}
use Rattle.firing_log.specs.declared.entry.Entry.{Entry}

-- the workers at both ends of a channel
abbrev pub putter : Net → (ℕ → ℕ) → ℕ → ℕ
putter net owner c = owner (chan_at net c).from.unit

abbrev pub taker : Net → (ℕ → ℕ) → ℕ → ℕ
taker net owner c = owner (chan_at net c).to.unit

-- worker j may put there: it is a channel of the net, and has room where j also takes from it
abbrev pub HasRoomIn : Net → (ℕ → ℕ) → ℕ → State → ℕ → Option Put → Type 0
HasRoomIn net owner j s u None = Unit {0}
HasRoomIn net owner j s u (Some w) =
    (out_of u w.place net.chans < length net.chans)
    × (taker net owner (out_of u w.place net.chans) ≡ j → length (tokens_at s (out_of u w.place net.chans)) < (chan_at net (out_of u w.place net.chans)).slots)

-- worker j may make the firing with the stamp n: it is enabled in j's own units, and n is above the stamps of all tokens that it uses
pub record MayIn (net : Net) (owner : ℕ → ℕ) (j n : ℕ) (s : Stamped) (f : Firing) : Type 0 where
  pub mine : owner f.unit ≡ j
  pub turn : IsSomeAnd (effect net s.state f) (λ e. HasRoomIn net owner j s.state f.unit e.put)
  pub above : AllByRecursion (λ p. IsSomeAnd (first (stamps_at s (into f.unit p net.chans))) (λ m. m < n)) (used net s.state f)

-- from the state s and the stamp `clock` worker j makes the entries of a log in turn, with rising stamps, and t is the state after them
abbrev pub Plays : Net → (ℕ → ℕ) → ℕ → ℕ → Stamped → List Entry → Stamped → Type 0
Plays net owner j clock s [] t = s ≡ t
Plays net owner j clock s (e ∷ es) t = (clock < e.stamp) × MayIn net owner j e.stamp s e.firing × Plays net owner j e.stamp (after_at net e.stamp s e.firing) es t

abbrev pub takes_by : Net → ℕ → Option Effect → ℕ → Bool
takes_by net u None c = false
takes_by net u (Some e) c = takes_from net u e c

-- the stamps of the entries that take a token from the channel c
abbrev pub take_stamps : Net → ℕ → Stamped → List Entry → List ℕ
take_stamps net c s [] = []
take_stamps net c s (e ∷ es) =
    cond (takes_by net e.firing.unit (effect net s.state e.firing) c)
    (e.stamp ∷ take_stamps net c (after_at net e.stamp s e.firing) es)
    (take_stamps net c (after_at net e.stamp s e.firing) es)
