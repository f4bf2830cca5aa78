-- The state that the code keeps, as the definitions see it.
use Rattle.std.specs.Prelude.{◌≡◌, ℕ, ◌+◌, ◌<◌, ◌≤◌, ◌^◌, Bool, true, cond, Option, Some, List, [], length, map, get_or}
use Rattle.net_types.specs.declared.net.Net.{Net}
use Rattle.net_types.specs.declared.net.Chan.{Chan}
use Rattle.net_types.specs.declared.net.Unit.{Unit as Kind}
use Rattle.net_types.specs.declared.net.Unit.TheVariants.{Exit}
use Rattle.net_types.specs.declared.firing.Firing.{Firing}
use Rattle.net_types.specs.Nets.{kind_of, uses, owns}
use Rattle.lsq_core.specs.Views.{QueueView}
use Rattle.net_core.specs.declared.cell.Cell.{Cell}
use Rattle.net_core.specs.declared.cell.Cell.TheVariants as cell
use Rattle.net_core.specs.declared.plan.Plan.{Plan}
use Rattle.net_core.specs.declared.state.State.{State as Stored}
use Rattle.net_core.specs.declared.opening.Home.{Home}
use Rattle.net_core.specs.declared.opening.Home.TheVariants as home
use Rattle.net_core.specs.Fire.{State, Own, idle, at_array, effect, after}
use Rattle.net_core.specs.Plans.{own_of, keeps, IsShaped, planned, kind_in}

-- the array of a queue
abbrev pub queue_array : Cell → List ℕ
queue_array cell.Plain = []
queue_array (cell.Start b) = []
queue_array (cell.Exit b v) = []
queue_array (cell.Fork bits) = []
queue_array (cell.Queue b) = b.value.array

abbrev pub array_in : List Cell → Home → List ℕ
array_in cells (home.Here xs) = xs
array_in cells (home.Queue u) = queue_array (get_or cells u cell.Plain)

abbrev pub arrays_of : Stored → List (List ℕ)
arrays_of s = map (array_in s.cells.items) s.homes.items

-- the state as the definitions see it
abbrev pub state_of : Stored → State
state_of s = record {
  scalars = s.scalars;
  tokens = s.tokens.tokens;
  own = map own_of s.cells.items;
  arrays = arrays_of s;
  strays = s.strays.items;
}

-- the date of each token, by channel; 0 where no cycle is told
abbrev pub dates_of : Stored → List (List ℕ)
dates_of s = s.tokens.dates

-- the state with other tokens on its channels
abbrev pub with_tokens : List (List ℕ) → State → State
with_tokens xss s = record s { tokens = xss }

-- the slots of the channels of a net
abbrev pub slots_in : Net → List ℕ
slots_in net = map (λ (c : Chan). c.slots) net.chans

-- the state with channels of so many slots, on which there is no token
abbrev pub with_slots : List ℕ → Stored → Stored
with_slots ns s = record s { tokens = record { tokens = map (λ n. []) ns; slots = ns; dates = map (λ n. []) ns } }

-- the state has no channels: no tokens, no dates and no slots
abbrev pub HasNoChannels : Stored → Type 0
HasNoChannels s = s.tokens ≡ record { tokens = []; slots = []; dates = [] }

-- the cells of the units, where the arrays lie, and the number of the exit
abbrev pub cells_of : Stored → List Cell
cells_of s = s.cells.items

abbrev pub homes_of : Stored → List Home
homes_of s = s.homes.items

abbrev pub exit_at : Stored → ℕ
exit_at s = s.exit

-- the cell of a unit; past the units a plain one
abbrev pub cell_at : Stored → ℕ → Cell
cell_at s u = get_or s.cells.items u cell.Plain

-- the home of an array; past the arrays an array without elements
abbrev pub home_at : Stored → ℕ → Home
home_at s a = get_or s.homes.items a (home.Here [])

-- the state was made of this net
pub record IsOf (net : Net) (s : Stored) : Type 0 where
  pub slots : s.tokens.slots ≡ map (λ (c : Chan). c.slots) net.chans
  pub long : length s.tokens.tokens ≡ length net.chans
  pub cells : length s.cells.items ≡ length net.units
  -- each cell has its unit's form, and each queue its unit's shape
  pub kept : (u : ℕ) → keeps (kind_of net u) (cell_at s u) ≡ true
  pub shaped : (u : ℕ) → IsShaped (kind_of net u) (cell_at s u) (queue_array (cell_at s u))
  -- an array lies in the queue that owns it, and each queue's array there
  pub homes : (a u : ℕ) → home_at s a ≡ home.Queue u → owns (kind_of net u) ≡ Some a
  pub owned : (u a : ℕ) → owns (kind_of net u) ≡ Some a → (a < length s.homes.items) × (home_at s a ≡ home.Queue u)
  -- serial numbers have room to rise
  pub serials : (u : ℕ) → (get_or (map own_of s.cells.items) u idle).queue.next < 2 ^ 63
  -- the exit is known
  pub exit : kind_of net s.exit ≡ Exit
  pub exits : (x : ℕ) → kind_of net x ≡ Exit → x ≡ s.exit

abbrev pub own_at : Stored → ℕ → Own
own_at s u = get_or (map own_of s.cells.items) u idle

-- the array that a unit works on
abbrev pub array_at : Net → Stored → ℕ → List ℕ
array_at net s u = at_array (arrays_of s) (uses (kind_of net u))

-- the plan is what the firing does in this state, and there is none where it does nothing
abbrev pub IsPlanOf : Net → Stored → Firing → Option Plan → Type 0
IsPlanOf net s f plan = planned (kind_of net f.unit) (own_at s f.unit) (array_at net s f.unit) plan ≡ effect net (state_of s) f

-- the queue of a unit of this kind, which keeps this and works on this array
pub record IsQueueOf (k : Kind) (o : Own) (xs : List ℕ) (q : QueueView) : Type 0 where
  pub array : ℕ
  pub shape : k ≡ kind_in array q
  pub state : q.queue ≡ o.queue
  pub elements : q.array ≡ xs

-- so of a unit of the net
abbrev pub IsQueueAt : Net → Stored → ℕ → QueueView → Type 0
IsQueueAt net s u q = IsQueueOf (kind_of net u) (own_at s u) (array_at net s u) q

-- the exit took this result, or none
abbrev pub TookAtExit : Net → State → Option ℕ → Type 0
TookAtExit net s r = (x : ℕ) → kind_of net x ≡ Exit → (get_or s.own x idle).value ≡ r

-- each next serial number and each count of strays is n at most
pub record CountsWithin (n : ℕ) (s : State) : Type 0 where
  pub serials : (u : ℕ) → (get_or s.own u idle).queue.next ≤ n
  pub strays : (a : ℕ) → get_or s.strays a 0 ≤ n

-- from one state to the other each of them rises by so many at most
abbrev pub CountsRise : ℕ → State → State → Type 0
CountsRise m s t = (n : ℕ) → CountsWithin n s → CountsWithin (n + m) t

-- the state after a firing where it was made, else the same
abbrev pub after_where : Bool → Net → State → Firing → State
after_where b net s f = cond b (after net s f) s

-- the elements of an array, and its count of strays
abbrev pub elements_at : State → ℕ → List ℕ
elements_at s a = get_or s.arrays a []

abbrev pub strays_at : State → ℕ → ℕ
strays_at s a = get_or s.strays a 0
