-- What a sweep answers, which stamps it gives, and what held the firings of an idle sweep back.
use Rattle.std.specs.Prelude.{◌≡◌, ◌⊎◌, ℕ, suc, ◌+◌, ◌<◌, ◌≤◌, ◌^◌, max, Option, Some, None, List, [], ◌∷◌, ◌++◌, length, get_or}
use Rattle.net_types.specs.declared.net.Net.{Net}
use Rattle.net_types.specs.declared.firing.Firing.{Firing}
use Rattle.net_types.specs.Nets.{into, out_of, chan_at, kind_of, uses}
use Rattle.net_core.specs.declared.plan.Put.{Put}
use Rattle.net_core.specs.Fire.{State, Row, Stop, Look, Take, Fires, Effect, row, idle, at_array, setting, head_at, tokens_at, first, effect}
use Rattle.net_core.specs.States.{state_of}
use Rattle.net_core.specs.Uses.{used}
use Rattle.net_worker.specs.Stamped.{Stamped, stamps_at, after_at}
use Rattle.net_worker.specs.Glances.{NoTokenAt}
use Rattle.net_worker.specs.Offers.{ToldFor, NoCreditAt, NoSlotAt, greatest_in}
use Rattle.net_worker.specs.Plays.{Plays}
use Rattle.net_worker.specs.Local.{fed_opening}
use Rattle.net_worker.specs.Workers.{owner_in, IsOutOf, IsInto, put_end, take_end, handed_by, IsFull, HasLoggedExit}
use Rattle.net_worker.specs.declared.tables.Tables.{Tables}
use Rattle.net_worker.specs.declared.worker.Worker.{Worker}
use Rattle.firing_log.specs.declared.entry.Entry.{Entry}
use Rattle.net_worker.specs.declared.swept.Swept.{Swept}
use Rattle.net_worker.specs.declared.swept.Swept.TheVariants as swept

-- ---- stamps

abbrev pub stamp_or_0 : Option ℕ → ℕ
stamp_or_0 None = 0
stamp_or_0 (Some n) = n

-- the greatest stamp of the tokens at these places of a unit
abbrev pub greatest : Net → Stamped → ℕ → List ℕ → ℕ
greatest net s u [] = 0
greatest net s u (p ∷ ps) = max (stamp_or_0 (first (stamps_at s (into u p net.chans)))) (greatest net s u ps)

-- the stamp that the end of the output's channel told when it was asked: that of messages received by then; 0 where the channel goes to
-- no other worker
abbrev pub ToldBy : Tables → Worker → Worker → ℕ → Option Put → ℕ → Type 0
ToldBy t a b u put r = ToldFor t.net.now u put a.puts.items b.puts.items r

-- from the state s and the clock on, each entry's stamp is one above the greatest of the clock, the stamps of the tokens that it uses and
-- the stamp that its output's end told
abbrev pub AreExact : Tables → Worker → Worker → ℕ → Stamped → List Entry → Type 0
AreExact t a b clock s [] = Unit {0}
AreExact t a b clock s (e ∷ es) =
    ((x : Effect) × (effect t.net.now s.state e.firing ≡ Some x)
    × (r : ℕ) × ToldBy t a b e.firing.unit x.put r
    × (e.stamp ≡ suc (max clock (max (greatest t.net.now s e.firing.unit (used t.net.now s.state e.firing)) r))))
    × AreExact t a b e.stamp (after_at t.net.now e.stamp s e.firing) es

-- the entries that a sweep added have exact stamps, from the state after the log that it found and the tokens that were handed out by its end
pub record SweptExactly (t : Tables) (a b : Worker) : Type 0 where
  pub added : List Entry
  pub log : b.log.items ≡ a.log.items ++ added
  pub from : Stamped
  pub plays : Plays t.net.now (owner_in t) a.number 0 (fed_opening t.net.now t.inputs (λ c. handed_by (take_end b c))) a.log.items from
  pub exact : AreExact t a b a.clock from added

-- ---- what holds a firing back

-- the place without a head at which a row stops; none where it stops by itself or fires
abbrev pub asked : Option ℕ → ℕ → (ℕ → Option ℕ) → Option ℕ
asked None p next = Some p
asked (Some v) p next = next v

abbrev pub waits_at : Row → (ℕ → Option ℕ) → Option ℕ
waits_at Stop heads = None
waits_at (Look p next) heads = asked (heads p) p (λ v. waits_at (next v) heads)
waits_at (Take p next) heads = asked (heads p) p (λ v. waits_at (next v) heads)
waits_at (Fires put own array strays) heads = None

abbrev pub waits : Net → State → Firing → Option ℕ
waits net s f = waits_at (row (kind_of net f.unit) f.act (get_or s.own f.unit idle) (at_array s.arrays (uses (kind_of net f.unit))) (setting net s)) (head_at net s f.unit)

-- no token was held there when the sweep began, and the ring showed none in it
abbrev pub NoToken : ℕ → Worker → Worker → Type 0
NoToken c a b = NoTokenAt (take_end a c) (take_end b c)

-- no credit is in hand there after the sweep, and the ring showed no message in it
abbrev pub NoCredit : ℕ → Worker → Worker → Type 0
NoCredit c a b = NoCreditAt (put_end a c) (put_end b c)

-- the ring showed no free slot for a token in the sweep
abbrev pub NoSlot : ℕ → Worker → Worker → Type 0
NoSlot c a b = NoSlotAt (put_end a c) (put_end b c)

-- the greatest stamp of the tokens that are held at these places of a unit
abbrev pub greatest_held : Net → Worker → ℕ → List ℕ → ℕ
greatest_held net w u ps = greatest_in net w.takes.items u ps

-- why a firing of the worker was not made, from the state of the worker after the sweep, which is that before it but for tokens handed out
pub data IsHeldBack (t : Tables) (a b : Worker) (f : Firing) : Type 0 where
  -- its unit's own state, or the channels between the worker's own units
  stops : effect t.net.now (state_of b.portion.state) f ≡ None → waits t.net.now (state_of b.portion.state) f ≡ None → IsHeldBack t a b f
  inner_input : (p : ℕ) → waits t.net.now (state_of b.portion.state) f ≡ Some p → (IsInto t a.number (into f.unit p t.net.now.chans) → ⊥) → IsHeldBack t a b f
  inner_output : (x : Effect) (w : Put) → effect t.net.now (state_of b.portion.state) f ≡ Some x → x.put ≡ Some w → (IsOutOf t a.number (out_of f.unit w.place t.net.now.chans) → ⊥)
      → (chan_at t.net.now (out_of f.unit w.place t.net.now.chans)).slots ≤ length (tokens_at (state_of b.portion.state) (out_of f.unit w.place t.net.now.chans)) → IsHeldBack t a b f
  -- a channel from or to another worker
  no_token : (p : ℕ) → waits t.net.now (state_of b.portion.state) f ≡ Some p → IsInto t a.number (into f.unit p t.net.now.chans) → NoToken (into f.unit p t.net.now.chans) a b → IsHeldBack t a b f
  no_credit : (x : Effect) (w : Put) → effect t.net.now (state_of b.portion.state) f ≡ Some x → x.put ≡ Some w → IsOutOf t a.number (out_of f.unit w.place t.net.now.chans)
      → NoCredit (out_of f.unit w.place t.net.now.chans) a b → IsHeldBack t a b f
  no_slot : (x : Effect) (w : Put) → effect t.net.now (state_of b.portion.state) f ≡ Some x → x.put ≡ Some w → IsOutOf t a.number (out_of f.unit w.place t.net.now.chans)
      → NoSlot (out_of f.unit w.place t.net.now.chans) a b → IsHeldBack t a b f
  -- its stamp would be 2^62
  late : (x : Effect) (r : ℕ) → effect t.net.now (state_of b.portion.state) f ≡ Some x → ToldBy t a b f.unit x.put r
      → 2 ^ 62 ≤ suc (max b.clock (max (greatest_held t.net.now b f.unit (used t.net.now (state_of b.portion.state) f)) r)) → IsHeldBack t a b f

-- ---- answers

abbrev pub AllHeldBack : Tables → Worker → Worker → Type 0
AllHeldBack t a b = (f : Firing) → owner_in t f.unit ≡ a.number → IsHeldBack t a b f

-- no entry was added: each firing was held back, or none could be added
abbrev pub IsHeldOrFull : Tables → Worker → Worker → Type 0
IsHeldOrFull t a b = (b.log ≡ a.log) × (((IsFull a → ⊥) × AllHeldBack t a b) ⊎ IsFull a)

abbrev pub SweptAs : Tables → Swept → Worker → Worker → Type 0
SweptAs t (swept.Fired n) a b = (0 < n) × (length b.log.items ≡ length a.log.items + n) × (HasLoggedExit t b → ⊥) × (IsFull a → ⊥)
SweptAs t swept.Idle a b = (b.log ≡ a.log) × AllHeldBack t a b × (HasLoggedExit t b → ⊥) × (IsFull a → ⊥)
SweptAs t swept.Exited a b = HasLoggedExit t b
SweptAs t swept.Full a b = IsFull a × (b.log ≡ a.log) × (HasLoggedExit t b → ⊥)
