-- Private: only contracts of this crate cite it. The engine in the middle of a cycle, and between two.
use Rattle.std.specs.Prelude.{◌≡◌, ◌⊎◌, ℕ, ◌+◌, ◌-◌, ◌*◌, ◌<◌, ◌≤◌, Bool, true, false, cond, List, [], ◌∷◌, ◌++◌, length, get_or}
use Rattle.std.specs.List.{AllByRecursion}
use Rattle.el_base.specs.Limits.{max_delay, max_depth, max_firings}
use Rattle.net_types.specs.declared.net.Net.{Net}
use Rattle.net_types.specs.declared.firing.Firing.{Firing}
use Rattle.net_types.specs.declared.firing.Inputs.{Inputs}
use Rattle.net_types.specs.declared.firing.Act.{Act}
use Rattle.net_types.specs.Nets.{kind_of, chan_at, out_of, firing}
use Rattle.net_check.specs.Ends.{is_lsq}
use Rattle.net_core.specs.States.{state_of, dates_of, CountsWithin}
use Rattle.net_replay.specs.declared.fault.RunFault.{RunFault}
use Rattle.net_replay.specs.declared.fault.RunFault.TheVariants as fault
use Rattle.cycle_engine.specs.declared.broken.Broken.{Broken}
use Rattle.cycle_engine.specs.declared.broken.Broken.TheVariants as broken
use Rattle.cycle_engine.specs.declared.engine.Engine.{Engine}
use Rattle.cycle_engine.specs.declared.engine.Bounds.{Bounds}
use Rattle.cycle_engine.specs.declared.marks.Marks.{Marks}
use Rattle.cycle_engine.specs.private.Stacks.{Stacked}
use Rattle.lsq_core.specs.Laws.{phase}
use Rattle.cycle_engine.specs.Cycles.{Dated, dated_opening, May, IsOldest, IsUnused, Makes, Once, InOrder, Cycles, after_in}
use Rattle.cycle_engine.specs.Bounds.{firing_count}
use Rattle.cycle_engine.specs.Cuts.{joined, IsCut}
use Rattle.cycle_engine.specs.private.Trials.{dated_of, IsBegun, IsEngine}
use Rattle.cycle_engine.specs.private.Control.{HasControl}
use Rattle.cycle_engine.specs.declared.pending.Pending.{Pending}
use Rattle.cycle_engine.specs.private.Pending.{HasPlaces, IsHeldBack, AllShut}
use Rattle.cycle_engine.specs.private.Fed.{HasFed}
use Rattle.cycle_engine.specs.private.Used.{AreNumbered, AreTold}
use Rattle.cycle_engine.specs.Rousing.{Could}
use Rattle.cycle_engine.specs.private.Marking.{Holds, HasUnit, IsMarked, IsStarved, IsLacking, IsListed, AreFeeds, AreListed, HasCells, cell, coming_in, entries_at}

-- how many firings are made in all
abbrev pub all_made : Engine → ℕ
all_made e = e.made + length e.fired.items

-- the engine may go on: its counts and its log have room for all that the limit allows
pub record IsReady (net : Net) (b : Bounds) (e : Engine) : Type 0 where
  pub engine : IsEngine net e
  pub few : b.limit ≤ max_firings
  pub within : all_made e ≤ b.limit
  pub counts : CountsWithin (all_made e * max_depth) (state_of e.state)
  pub room : b.keep ≡ true → b.limit ≤ all_made e + e.log.room
  pub chans : length e.freed.marked.items ≡ length net.chans
  pub queues : length e.begun.items ≡ length net.units
  pub marked : length e.marks.marked.items ≡ length net.units
  pub listed : IsListed net e.marks
  pub cells : HasCells net e.notes
  pub told : AreTold net e.used e.made e.fired.items
  pub places : AreNumbered net e.used.base.items (length e.used.last.items)
  pub feeds : AreFeeds net e.feeds
  pub pending : HasPlaces net (length e.used.last.items) e.pending
  pub fed : HasFed net (state_of e.state) e.used e.fed

-- what the loop over marked units counts down: each firing adds five numbers to the list at most
abbrev pub to_visit : Bounds → Engine → ℕ
to_visit b e = 6 * (b.limit - all_made e) + length e.marks.list.items

-- the inputs of a run, and the cycles so far
pub record Past : Type 0 where
  pub inputs : Inputs
  pub cycles : List (List Firing)

-- each token was put before the cycle c, and is noted where it ripens from that cycle on
abbrev pub AreComing : Net → ℕ → Engine → Type 0
AreComing net c e = (d : ℕ) → AllByRecursion (λ x. (x < c) × (c ≤ x + (chan_at net d).delay → Holds d (coming_in e.notes (x + (chan_at net d).delay)))) (get_or (dates_of e.state) d [])

-- no token is noted that is to ripen
abbrev pub HasNoneComing : Engine → Type 0
HasNoneComing e = (k : ℕ) → cell e.notes k ≡ []

-- each output of a fork that is shut has had the head, or its channel was full as the cycle began with start
abbrev pub AreShut : Net → Dated → Engine → Type 0
AreShut net start e = AllShut net e.pending e.used.base.items (IsHeldBack net start.state (state_of e.state))

-- each output of a fork that is shut has had the head, or its channel is full, or was and tokens were taken from it
abbrev pub AreShutNow : Net → Engine → Type 0
AreShutNow net e = AllShut net e.pending e.used.base.items (λ u j. IsHeldBack net (state_of e.state) (state_of e.state) u j ⊎ Holds (out_of u j net.chans) e.freed.list.items)

-- the engine in the middle of the cycle c, which began with start
pub record InCycle (net : Net) (past : Past) (b : Bounds) (c : ℕ) (start : Dated) (e : Engine) : Type 0 where
  pub began : IsBegun net c start e
  pub done : Cycles net 0 (dated_opening net past.inputs) past.cycles start
  pub number : c ≡ length past.cycles
  pub makes : Makes net c start start e.fired.items (dated_of e)
  pub once : Once e.fired.items
  pub order : InOrder e.fired.items
  pub made : e.made ≡ firing_count past.cycles
  pub log : e.log.items ≡ cond b.keep (joined past.cycles ++ e.fired.items) []
  pub listed : AreListed e.freed
  pub coming : AreComing net (c + 1) e
  pub control : HasControl net (state_of e.state) e.control
  pub shut : AreShut net start e

-- a unit puts on a channel that was full as the cycle began and from which tokens were taken
pub record HasFreed (net : Net) (e : Engine) (u : ℕ) : Type 0 where
  pub chan : ℕ
  pub listed : Holds chan e.freed.list.items
  pub within : chan < length net.chans
  pub source : (chan_at net chan).from.unit ≡ u
  pub fed : IsStarved net (state_of e.state) u → ⊥

-- a token ripens in the cycle c on a channel into a unit that wants no token beside it
pub record HasRipening (net : Net) (c : ℕ) (e : Engine) (u : ℕ) : Type 0 where
  pub chan : ℕ
  pub coming : Holds chan (coming_in e.notes c)
  pub within : chan < length net.chans
  pub target : (chan_at net chan).to.unit ≡ u
  pub fed : IsLacking net (state_of e.state) chan → ⊥

-- the unit is to be marked as the cycle c begins
abbrev pub IsStirred : Net → ℕ → Engine → ℕ → Type 0
IsStirred net c e u = IsMarked e.marks u ⊎ ((Holds u e.again.items × (IsStarved net (state_of e.state) u → ⊥)) ⊎ (HasFreed net e u ⊎ HasRipening net c e u))

-- the engine after c cycles
pub record HasDone (net : Net) (past : Past) (b : Bounds) (c : ℕ) (e : Engine) : Type 0 where
  pub done : Cycles net 0 (dated_opening net past.inputs) past.cycles (dated_of e)
  pub number : c ≡ length past.cycles
  pub made : all_made e ≡ firing_count past.cycles
  pub log : e.log.items ≡ cond b.keep (joined past.cycles) []
  pub listed : AreListed e.freed
  pub entries : (u : ℕ) → is_lsq (kind_of net u) ≡ true → (get_or e.begun.items u 0 ≡ entries_at (state_of e.state) u) ⊎ Holds u e.again.items
  pub coming : AreComing net c e
  pub control : HasControl net (state_of e.state) e.control
  pub shut : AreShutNow net e
  -- a unit that is not to be marked may not fire
  pub next : (g : Firing) → May net c (dated_of e) (dated_of e) g → (IsStirred net c e g.unit → ⊥) → ⊥

-- nothing was fired in the last cycle, and no unit is to be looked at in the next but for tokens that ripen
pub record IsQuiet (e : Engine) : Type 0 where
  pub fired : e.fired.items ≡ []
  pub again : e.again.items ≡ []
  pub freed : e.freed.list.items ≡ []
  pub list : e.marks.list.items ≡ []
  pub queues : e.marks.queues.items ≡ []

-- after c cycles the cycle t is the next in which something may happen; last is the number of those up to the last with a firing
pub record IsNextCycle (e : Engine) (c last t : ℕ) : Type 0 where
  pub on : c ≤ t
  pub none : (t ≡ c) ⊎ (IsQuiet e × ((t ≤ last + max_delay) × ((k : ℕ) → c ≤ k → k < t → coming_in e.notes k ≡ [])))

-- the firings are of units that are no queues
abbrev pub AllPlain : Net → List Firing → Type 0
AllPlain net fs = AllByRecursion (λ g. (is_lsq (kind_of net g.unit) ≡ false) × (phase g.act ≡ 0)) fs

-- a unit that may fire is marked
abbrev pub IsWatching : Net → ℕ → Dated → Engine → Type 0
IsWatching net c start e = (g : Firing) → IsUnused e.fired.items g → May net c start (dated_of e) g → IsMarked e.marks g.unit

-- the unit is marked, or is to be looked at again in the next cycle
abbrev pub IsNotedUnit : Engine → ℕ → Type 0
IsNotedUnit e u = IsMarked e.marks u ⊎ Holds u e.again.items

-- a unit that has fired and might fire again in the next cycle is marked, or is to be looked at again then
abbrev pub IsKept : Net → ℕ → Dated → Engine → Type 0
IsKept net c start e = (g : Firing) → HasUnit g.unit e.fired.items → Could net c start (dated_of e) g → IsNotedUnit e g.unit

-- so it is of each unit but u
abbrev pub IsKeptBut : Net → ℕ → Dated → Engine → ℕ → Type 0
IsKeptBut net c start e u = (g : Firing) → HasUnit g.unit e.fired.items → Could net c start (dated_of e) g → (g.unit ≡ u) ⊎ IsNotedUnit e g.unit

-- and of u
abbrev pub IsKeptOf : Net → ℕ → Dated → Engine → ℕ → Type 0
IsKeptOf net c start e u = (a : Act) → HasUnit u e.fired.items → Could net c start (dated_of e) (firing u a) → IsNotedUnit e u

-- the engine in a cycle in which no queue has fired
pub record IsBegunIn (net : Net) (past : Past) (b : Bounds) (c : ℕ) (start : Dated) (e : Engine) : Type 0 where
  pub going : InCycle net past b c start e
  pub plain : AllPlain net e.fired.items
  pub watching : IsWatching net c start e
  pub kept : IsKept net c start e

-- what a fault says of a run that is broken off in a cycle
abbrev pub IsBroken : Net → Inputs → Bounds → Broken → Type 0
IsBroken net inputs b broken.Limit = IsCut net inputs b.limit
IsBroken net inputs b broken.Memory = Unit {0}

-- the fault of a run that is broken off so
abbrev pub fault_of : ℕ → Broken → RunFault
fault_of limit broken.Limit = fault.Limit limit
fault_of limit broken.Memory = fault.Memory

-- the engine with other marks
abbrev pub with_marks : Engine → Marks → Engine
with_marks e m = record { state = e.state; begun = e.begun; fired = e.fired; used = e.used; made = e.made; log = e.log; marks = m; notes = e.notes; feeds = e.feeds; freed = e.freed; pending = e.pending; again = e.again; control = e.control; fed = e.fed }

-- the engine with other units that are to be looked at again in the next cycle
abbrev pub with_again : Engine → Stacked ℕ → Engine
with_again e s = record { state = e.state; begun = e.begun; fired = e.fired; used = e.used; made = e.made; log = e.log; marks = e.marks; notes = e.notes; feeds = e.feeds; freed = e.freed; pending = e.pending; again = s; control = e.control; fed = e.fed }

-- the engine where other outputs of forks are noted as pending
abbrev pub with_pending : Engine → Pending → Engine
with_pending e p = record { state = e.state; begun = e.begun; fired = e.fired; used = e.used; made = e.made; log = e.log; marks = e.marks; notes = e.notes; feeds = e.feeds; freed = e.freed; pending = p; again = e.again; control = e.control; fed = e.fed }

-- something was fired, or nothing was
abbrev pub IsGrown : Engine → Engine → Type 0
IsGrown old new = (length old.fired.items < length new.fired.items) ⊎ (new.fired.items ≡ old.fired.items)

-- ---- one firing

-- the firing may stand after those of the cycle so far
pub record MayFollow (net : Net) (e : Engine) (f : Firing) : Type 0 where
  pub order : AllByRecursion (λ g. g.unit ≡ f.unit → phase g.act ≤ phase f.act) e.fired.items
  pub oldest : IsOldest net (state_of e.state) f.unit f.act

-- the firing was made
pub record IsMade (net : Net) (past : Past) (b : Bounds) (c : ℕ) (start : Dated) (old new : Engine) (f : Firing) : Type 0 where
  pub may : May net c start (dated_of old) f
  pub after : dated_of new ≡ after_in net c (dated_of old) f
  pub fired : new.fired.items ≡ old.fired.items ++ f ∷ []
  pub going : InCycle net past b c start new

-- nothing was done, since the place has fired or the firing may not be made
pub record IsPassed (net : Net) (c : ℕ) (start : Dated) (old new : Engine) (f : Firing) : Type 0 where
  pub same : new ≡ old
  pub refused : IsUnused old.fired.items f → May net c start (dated_of old) f → ⊥

abbrev pub IsTried : Net → Past → Bounds → ℕ → Dated → Engine → Engine → Firing → Bool → Type 0
IsTried net past b c start old new f true = IsMade net past b c start old new f
IsTried net past b c start old new f false = IsPassed net c start old new f

-- how many firings were made: at least one where it is so, and none is undone
pub record IsMore (old new : Engine) (did : Bool) : Type 0 where
  pub kept : all_made old ≤ all_made new
  pub more : did ≡ true → all_made old < all_made new
