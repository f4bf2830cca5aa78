-- Private: only contracts of this crate cite it. Marks at the units that may fire, and what is noted for the next cycle.
use Rattle.std.specs.Prelude.{◌≡◌, ◌≢◌, ◌⊎◌, ℕ, zero, suc, ◌+◌, ◌-◌, ◌<◌, ◌≤◌, ◌++◌, ◌∷◌, ◌%◌, nat_lt, cond, set, Bool, true, false, Option, Some, None, List, [], reverse, length, get_or, IfSome, IsSomeAnd}
use Rattle.std.specs.Int.{IsPowerOfTwo}
use Rattle.std.specs.List.{AllByRecursion}
use Rattle.std.specs.List.Sorted.{IsPermutation, IsNonDecreasing}
use Rattle.net_types.specs.declared.net.Net.{Net}
use Rattle.net_types.specs.declared.net.Unit.{Unit as Kind}
use Rattle.net_types.specs.declared.net.Unit.TheVariants.{Entry, Param, Const, Op1, Op2, Select, Fork, Mux, Cmerge, Branch, Sink, Read, Lsq, Exit}
use Rattle.net_types.specs.declared.firing.Act.TheVariants.{Go}
use Rattle.net_types.specs.declared.firing.Firing.{Firing}
use Rattle.net_types.specs.Nets.{kind_of, chan_at, into, firing}
use Rattle.net_check.specs.Ends.{is_lsq}
use Rattle.net_core.specs.Fire.{State, idle, head_at, tokens_at}
use Rattle.circular_buffer.specs.Buffer.{last_item}
use Rattle.net_core.specs.declared.plan.Laid.{Laid}
use Rattle.net_core.specs.declared.plan.Moves.{Moves}
use Rattle.net_core.specs.declared.state.State.{State as Stored}
use Rattle.net_core.specs.States.{state_of, dates_of}
use Rattle.net_core.specs.Plans.{chans_of}
use Rattle.cycle_engine.specs.declared.marks.Marks.{Marks}
use Rattle.cycle_engine.specs.declared.notes.Notes.{Notes}
use Rattle.cycle_engine.specs.declared.feeds.Feeds.{Feeds}
use Rattle.cycle_engine.specs.declared.freed.Freed.{Freed}
use Rattle.net_core.specs.Uses.{is_fork}

-- ---- lists

-- the number is in the list
pub record Holds (x : ℕ) (xs : List ℕ) : Type 0 where
  pub at : ℕ
  pub within : at < length xs
  pub is : get_or xs at 0 ≡ x

-- what stands past the firings
abbrev pub no_firing : Firing
no_firing = firing 0 Go

-- a firing of the list is of the unit
pub record HasUnit (u : ℕ) (fs : List Firing) : Type 0 where
  pub at : ℕ
  pub within : at < length fs
  pub is : (get_or fs at no_firing).unit ≡ u

-- ---- marks

abbrev pub IsMarked : Marks → ℕ → Type 0
IsMarked m u = get_or m.marked.items u false ≡ true

-- the list is of units that have a mark or may have one
abbrev pub AreWithin : Marks → Type 0
AreWithin m = (u : ℕ) → Holds u m.list.items → u < length m.marked.items

-- the unit is in the list, or is a queue that is to have a turn
abbrev pub IsAwaited : Net → Marks → ℕ → Type 0
IsAwaited net m u = Holds u m.list.items ⊎ ((is_lsq (kind_of net u) ≡ true) × Holds u m.queues.items)

-- so it is of each marked unit
pub record IsListed (net : Net) (m : Marks) : Type 0 where
  pub within : AreWithin m
  pub each : (u : ℕ) → IsMarked m u → IsAwaited net m u

-- no mark is taken away
pub record KeepsMarks (old new : Marks) : Type 0 where
  pub long : length new.marked.items ≡ length old.marked.items
  pub kept : (u : ℕ) → IsMarked old u → IsMarked new u
  pub listed : (net : Net) → IsListed net old → IsListed net new

-- a unit that does not fire without a token at its first input
abbrev pub asks_first : Kind → Bool
asks_first Entry = false
asks_first (Param j) = false
asks_first (Const w n) = true
asks_first (Op1 op) = true
asks_first (Op2 op) = true
asks_first (Select w) = true
asks_first (Fork w outs) = true
asks_first (Mux w ins) = true
asks_first (Cmerge ins) = false
asks_first (Branch w) = true
asks_first (Sink w) = true
asks_first (Read a) = true
asks_first (Lsq a d ps gs f) = false
asks_first Exit = false

-- the unit wants a token at its first input, and so may not fire
abbrev pub IsStarved : Net → State → ℕ → Type 0
IsStarved net s u = (asks_first (kind_of net u) ≡ true) × (head_at net s u 0 ≡ None)

-- the unit that puts on a channel is marked, where it is among so many and wants no token
abbrev pub IsSourceMarked : Net → State → ℕ → Marks → ℕ → Type 0
IsSourceMarked net s n m d = d < length net.chans → (IsStarved net s (chan_at net d).from.unit → ⊥) → (chan_at net d).from.unit < n → IsMarked m (chan_at net d).from.unit

abbrev pub IsTargetMarked : Net → ℕ → Marks → ℕ → Type 0
IsTargetMarked net n m d = d < length net.chans → (chan_at net d).to.unit < n → IsMarked m (chan_at net d).to.unit

-- a control merge
abbrev pub is_merge : Kind → Bool
is_merge Entry = false
is_merge (Param j) = false
is_merge (Const w n) = false
is_merge (Op1 op) = false
is_merge (Op2 op) = false
is_merge (Select w) = false
is_merge (Fork w outs) = false
is_merge (Mux w ins) = false
is_merge (Cmerge ins) = true
is_merge (Branch w) = false
is_merge (Sink w) = false
is_merge (Read a) = false
is_merge (Lsq a d ps gs f) = false
is_merge Exit = false

-- the channel into the first place of a unit that asks for a token there
abbrev pub asked : Net → ℕ → Option ℕ
asked net u = cond (asks_first (kind_of net u)) (Some (into u 0 net.chans)) None

-- for each unit is told the channel that it asks of
pub record AreFirsts (net : Net) (firsts : List (Option ℕ)) : Type 0 where
  pub long : length firsts ≡ length net.units
  pub each : (u : ℕ) → u < length net.units → get_or firsts u None ≡ asked net u

-- the next place of a select in turn
abbrev pub in_turn : ℕ → ℕ
in_turn zero = 1
in_turn (suc zero) = 2
in_turn (suc (suc p)) = 0

-- the other of two places
abbrev pub beside : ℕ → ℕ
beside zero = 1
beside (suc p) = 0

-- which way a mux puts through is told at its place 0
abbrev pub told_at : ℕ → Option ℕ
told_at zero = None
told_at (suc p) = Some 0

-- beside a place of a unit another one without whose token the unit does not fire, where it has one; that of the last of a row of such
-- places is the first, so what comes last of their tokens finds the others there
abbrev pub partner_place : Kind → ℕ → Option ℕ
partner_place Entry p = None
partner_place (Param j) p = None
partner_place (Const w n) p = None
partner_place (Op1 op) p = None
partner_place (Op2 op) p = Some (beside p)
partner_place (Select w) p = Some (in_turn p)
partner_place (Fork w outs) p = None
partner_place (Mux w ins) p = told_at p
partner_place (Cmerge ins) p = None
partner_place (Branch w) p = Some (beside p)
partner_place (Sink w) p = None
partner_place (Read a) p = None
partner_place (Lsq a d ps gs f) p = None
partner_place Exit p = None

-- the channel into a place of a unit, and the number of all channels for none
abbrev pub into_where : Net → ℕ → Option ℕ → ℕ
into_where net u None = length net.chans
into_where net u (Some p) = into u p net.chans

-- the channel into the place beside that into which a channel goes
abbrev pub partner : Net → ℕ → ℕ
partner net d = into_where net (chan_at net d).to.unit (partner_place (kind_of net (chan_at net d).to.unit) (chan_at net d).to.place)

-- the unit into which a channel goes wants a token beside it, and so may not fire
abbrev pub IsLacking : Net → State → ℕ → Type 0
IsLacking net s d = IsSomeAnd (partner_place (kind_of net (chan_at net d).to.unit) (chan_at net d).to.place) (λ p. head_at net s (chan_at net d).to.unit p ≡ None)

-- for each channel is told the one beside it
pub record ArePartners (net : Net) (partners : List ℕ) : Type 0 where
  pub long : length partners ≡ length net.chans
  pub each : (d : ℕ) → d < length net.chans → get_or partners d (length net.chans) ≡ partner net d

pub record AreFeeds (net : Net) (f : Feeds) : Type 0 where
  pub firsts : AreFirsts net f.firsts.items
  pub partners : ArePartners net f.partners.items

-- the unit that puts on a channel is marked, where it is a control merge
abbrev pub IsMergeMarked : Net → ℕ → Marks → ℕ → Type 0
IsMergeMarked net n m d = d < length net.chans → is_merge (kind_of net (chan_at net d).from.unit) ≡ true → (chan_at net d).from.unit < n → IsMarked m (chan_at net d).from.unit

-- the unit into which a channel goes is marked, where it wants no token beside it
abbrev pub IsFedMarked : Net → State → ℕ → Marks → ℕ → Type 0
IsFedMarked net s n m d = (IsLacking net s d → ⊥) → IsTargetMarked net n m d

-- so is the unit into which a token was put without delay
abbrev pub IsPutMarked : Net → State → Option Laid → ℕ → Marks → Type 0
IsPutMarked net s laid n m = IfSome laid (λ w. (chan_at net w.chan).delay ≡ 0 → IsFedMarked net s n m w.chan)

-- after a firing that put this and led to the state s, the unit into which it put is marked, or no mark was changed
abbrev pub IsMarkedWhere : Bool → Net → State → Option Laid → Marks → Marks → Type 0
IsMarkedWhere true net s laid old new = KeepsMarks old new × IsPutMarked net s laid (length old.marked.items) new
IsMarkedWhere false net s laid old new = new ≡ old

-- the control merge that puts on a channel is marked, where the channel was full in the state s
abbrev pub IsFullMarked : Net → State → ℕ → Marks → ℕ → Type 0
IsFullMarked net s n m d = (chan_at net d).slots ≤ length (tokens_at s d) → IsMergeMarked net n m d

-- after a firing of the unit u that moved these tokens and led from the state s to the state t, marked is the unit into which was put
-- without delay; after one of a fork that took its head also the fork, where it has another, and the control merge that puts on the
-- channel from which it took, where that was full
pub record IsRoused (net : Net) (s t : State) (u : ℕ) (m : Moves) (n : ℕ) (marks : Marks) : Type 0 where
  pub own : is_fork (kind_of net u) ≡ true → chans_of m.taken ≢ [] → (IsStarved net t u → ⊥) → u < n → IsMarked marks u
  pub merges : is_fork (kind_of net u) ≡ true → AllByRecursion (IsFullMarked net s n marks) (chans_of m.taken)
  pub target : IsPutMarked net t m.laid n marks

-- there was nothing to take
pub record IsEmptied (old new : Marks) : Type 0 where
  pub same : new.marked ≡ old.marked
  pub queues : new.queues ≡ old.queues
  pub before : old.list.items ≡ []
  pub none : new.list.items ≡ []

-- the next unit of the list was taken, and its mark
pub record IsTaken (old new : Marks) (u : ℕ) : Type 0 where
  pub within : u < length old.marked.items
  pub long : length new.marked.items ≡ length old.marked.items
  pub listed : (net : Net) → IsListed net old → IsListed net new
  pub left : (v : ℕ) → IsMarked old v → IsMarked new v ⊎ (v ≡ u)
  pub fewer : length new.list.items + 1 ≡ length old.list.items

-- a queue is marked, and is to have a turn
pub record IsPutOff (old new : Marks) (u : ℕ) : Type 0 where
  pub marked : new.marked.items ≡ set old.marked.items u true
  pub list : new.list ≡ old.list
  pub queues : new.queues.items ≡ old.queues.items ++ u ∷ []

-- the queues that are to have turns stand in another order, the greatest first
pub record IsReordered (old new : Marks) : Type 0 where
  pub marked : new.marked ≡ old.marked
  pub list : new.list ≡ old.list
  pub queues : IsPermutation old.queues.items new.queues.items
  pub order : IsNonDecreasing (reverse new.queues.items)

-- the next queue that is to have a turn was taken, and is not marked; or there was none
pub record HasNoTurn (old new : Marks) : Type 0 where
  pub marked : new.marked ≡ old.marked
  pub list : new.list ≡ old.list
  pub listed : (net : Net) → IsListed net old → IsListed net new
  pub fewer : length new.queues.items ≡ length old.queues.items - 1

-- the next queue that is to have a turn was taken, and its mark
pub record HasTurn (old new : Marks) (u : ℕ) : Type 0 where
  pub was : IsMarked old u
  pub marked : new.marked.items ≡ set old.marked.items u false
  pub list : new.list ≡ old.list
  pub listed : (net : Net) → IsListed net old → IsListed net new
  pub fewer : length new.queues.items ≡ length old.queues.items - 1

-- how many entries the queue of a unit has
abbrev pub entries_at : State → ℕ → ℕ
entries_at s u = length (get_or s.own u idle).queue.items

-- ---- what is noted

abbrev pub cells_of : Notes → List (List ℕ)
cells_of n = n.coming

-- the channels that are noted in a cell
abbrev pub cell : Notes → ℕ → List ℕ
cell n k = get_or (cells_of n) k []

-- there are as many cells as a power of two
abbrev pub AreCells : Notes → Type 0
AreCells n = IsPowerOfTwo (length (cells_of n))

-- and more than any delay of the net has cycles
pub record HasCells (net : Net) (n : Notes) : Type 0 where
  pub power : AreCells n
  pub more : (d : ℕ) → (chan_at net d).delay < length (cells_of n)

-- the place that comes so far after another one in a ring of so many
abbrev pub around : ℕ → ℕ → ℕ → ℕ
around first ahead count = cond (nat_lt ahead (count - first)) (first + ahead) (ahead - (count - first))

-- the channels that are noted for a cycle
abbrev pub coming_in : Notes → ℕ → List ℕ
coming_in n c = cell n (c % length (cells_of n))

-- a channel is noted where the token that is put on it in the cycle c ripens later
abbrev pub cells_with : Net → ℕ → ℕ → List (List ℕ) → List (List ℕ)
cells_with net d c cells = cond (nat_lt 0 (chan_at net d).delay)
    (set cells ((c + (chan_at net d).delay) % length cells) (get_or cells ((c + (chan_at net d).delay) % length cells) [] ++ d ∷ [])) cells

-- the channel on which a token was put in the cycle c is noted for the cycle in which the token ripens
pub record IsNoted (net : Net) (laid : Option Laid) (c : ℕ) (old new : Notes) : Type 0 where
  pub cells : length (cells_of new) ≡ length (cells_of old)
  pub kept : (t d : ℕ) → Holds d (coming_in old t) → Holds d (coming_in new t)
  pub comes : IfSome laid (λ w. 0 < (chan_at net w.chan).delay → Holds w.chan (coming_in new (c + (chan_at net w.chan).delay)))

-- ---- channels from which tokens were taken when they were full

-- a marked channel is in the list
abbrev pub AreListed : Freed → Type 0
AreListed f = (d : ℕ) → get_or f.marked.items d false ≡ true → Holds d f.list.items

-- the channel d is full, and the newest of its tokens was put before the cycle c
abbrev pub IsLongFull : Net → Stored → ℕ → ℕ → Type 0
IsLongFull net s c d = ((chan_at net d).slots ≤ length (tokens_at (state_of s) d)) × IsSomeAnd (last_item (get_or (dates_of s) d [])) (λ x. x < c)

-- tokens are to be taken from these channels in the cycle c: those of them that are full of older tokens are marked
pub record IsFreed (net : Net) (s : Stored) (c : ℕ) (ds : List ℕ) (old new : Freed) : Type 0 where
  pub long : length new.marked.items ≡ length old.marked.items
  pub listed : AreListed old → AreListed new
  pub marked : (d : ℕ) → Holds d ds → IsLongFull net s c d → d < length old.marked.items → get_or new.marked.items d false ≡ true
  pub others : (d : ℕ) → (Holds d ds → ⊥) → get_or new.marked.items d false ≡ get_or old.marked.items d false
  pub kept : (d : ℕ) → (IsLongFull net s c d → ⊥) → get_or new.marked.items d false ≡ get_or old.marked.items d false
