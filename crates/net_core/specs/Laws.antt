-- The laws of the runs of checked nets.
use Rattle.std.specs.Prelude.{◌≡◌, ◌≢◌, ◌↔◌, ℕ, ◌+◌, ◌<◌, ◌≤◌, Bool, true, false, Option, Some, List, [], length, get_or}
use Rattle.std.specs.List.{All}
use Rattle.net_types.specs.declared.net.Chan.{Chan}
use Rattle.net_types.specs.declared.net.Net.{Net}
use Rattle.net_types.specs.declared.net.Unit.{Unit as Kind}
use Rattle.net_types.specs.declared.net.Unit.TheVariants.{Entry, Param, Const, Op1, Op2, Select, Fork, Mux, Cmerge, Branch, Sink, Read, Lsq, Exit}
use Rattle.net_types.specs.declared.firing.Act.{Act}
use Rattle.net_types.specs.declared.firing.Act.TheVariants.{Go, From, Send, Alloc, Addr, Data, Exec, Reply, Retire, End}
use Rattle.net_types.specs.declared.firing.Firing.{Firing}
use Rattle.net_types.specs.declared.firing.Inputs.{Inputs}
use Rattle.net_types.specs.Nets.{chan_at, kind_of, firing}
use Rattle.net_check.specs.Checks.{IsChecked}
use Rattle.net_check.specs.Retimed.{SamePlain, Retimed}
use Rattle.net_core.specs.Machine.{Commute}
use Rattle.net_core.specs.Fire.{State, Row, Effect, effect, effect_of, idle, tokens_at, enabled, after}
use Rattle.net_core.specs.Control.{control_tokens}
use Rattle.net_core.specs.Runs.{opening, Leads, Run, AtRest, Long, HasExited}
use Rattle.net_core.specs.declared.plan.Takes.{Takes}
use Rattle.net_core.specs.Plans.{places_of}
use Rattle.net_core.specs.Uses.{used_by, AllSame, used, is_fork, places_used}

-- ---- one control token

-- of every reachable state the effective control tokens are at most one
abbrev pub OneToken : Type 0
OneToken = (net : Net) (inputs : Inputs) (fs : List Firing) (s : State) → IsChecked net → Run net inputs fs s → control_tokens net s ≤ 1

-- the acts that take a token at a control merge, at a group of a queue or at its end
abbrev pub takes_control : Act → Bool
takes_control Go = false
takes_control (From j) = true
takes_control (Send j) = false
takes_control (Alloc g) = true
takes_control (Addr p) = false
takes_control (Data p) = false
takes_control (Exec e) = false
takes_control (Reply p) = false
takes_control Retire = false
takes_control End = true

-- so of all merges, allocations and Ends of the net at most one is enabled
abbrev pub OneTaker : Type 0
OneTaker = (net : Net) (inputs : Inputs) (fs : List Firing) (s : State) (f g : Firing) → IsChecked net → Run net inputs fs s
    → enabled net s f → enabled net s g → takes_control f.act ≡ true → takes_control g.act ≡ true → f ≡ g

-- ---- either order

-- two different enabled firings of a reachable state stay enabled after each other, and lead to one state
abbrev pub EitherOrder : Type 0
EitherOrder = (net : Net) (inputs : Inputs) (fs : List Firing) (s : State) (f g : Firing) → IsChecked net → Run net inputs fs s
    → f ≢ g → enabled net s f → enabled net s g → Commute State Firing (enabled net) (after net) s f g

-- ---- completion

-- the list gs, which leads to s, goes on to the state t, and makes n firings in all
pub record GoesOn (net : Net) (s : State) (gs : List Firing) (n : ℕ) (t : State) : Type 0 where
  pub rest : List Firing
  pub together : length gs + length rest ≡ n
  pub leads : Leads net s rest t

-- no run is longer than n firings, each goes on to n, and those of n firings and those at rest are the ones that end in t;
-- there are runs of more than k firings exactly where k is below n
pub record CompletesIn (net : Net) (inputs : Inputs) (n : ℕ) (t : State) : Type 0 where
  pub longest : (gs : List Firing) (s : State) → Run net inputs gs s → length gs ≤ n
  pub goes_on : (gs : List Firing) (s : State) → Run net inputs gs s → GoesOn net s gs n t
  pub all_made : (gs : List Firing) (s : State) → Run net inputs gs s → length gs ≡ n → s ≡ t
  pub at_rest : (gs : List Firing) (s : State) → Run net inputs gs s → AtRest net s → (s ≡ t) × (length gs ≡ n)
  pub long : (k : ℕ) → Long net inputs k ↔ (k < n)

-- so it is where one run ends at rest
abbrev pub Completion : Type 0
Completion = (net : Net) (inputs : Inputs) (fs : List Firing) (t : State) → IsChecked net → Run net inputs fs t → AtRest net t
    → CompletesIn net inputs (length fs) t

-- where as many firings are made as a limit allows and one more is enabled, there are longer runs
abbrev pub LimitIsLong : Type 0
LimitIsLong = (net : Net) (inputs : Inputs) (fs : List Firing) (s : State) (f : Firing) → Run net inputs fs s → enabled net s f
    → Long net inputs (length fs)

-- and there are none where a run ends at rest within the limit
abbrev pub RestIsNotLong : Type 0
RestIsNotLong = (net : Net) (inputs : Inputs) (fs : List Firing) (s : State) (limit : ℕ) → IsChecked net → Run net inputs fs s → AtRest net s
    → length fs ≤ limit → Long net inputs limit → ⊥

-- ---- the exit

-- once the exit has fired, no firing changes an array
abbrev pub Settled : Type 0
Settled = (net : Net) (inputs : Inputs) (fs hs : List Firing) (s t : State) → IsChecked net → Run net inputs fs s → HasExited net s
    → Leads net s hs t → t.arrays ≡ s.arrays

-- ---- slots and delays

-- the nets are equal but for slots and delays, and no channel of the second has fewer slots
pub record IsRoomier (net net2 : Net) : Type 0 where
  pub same : SamePlain net net2
  pub slots : (c : ℕ) → (chan_at net c).slots ≤ (chan_at net2 c).slots

-- a list of firings that is enabled with fewer slots is enabled with more, and leads to the same state
abbrev pub MoreSlots : Type 0
MoreSlots = (net net2 : Net) (s t : State) (fs : List Firing) → IsRoomier net net2 → Leads net s fs t → Leads net2 s fs t

-- the opening state is the same
abbrev pub SameOpening : Type 0
SameOpening = (net net2 : Net) (inputs : Inputs) → SamePlain net net2 → opening net2 inputs ≡ opening net inputs

-- so a run of a net of one slot a channel is one of every checked net that is equal but for slots and delays
abbrev pub OneSlotServes : Type 0
OneSlotServes = (net net2 : Net) (inputs : Inputs) (fs : List Firing) (s : State) → All (λ (c : Chan). c.slots ≡ 1) net.chans → Retimed net net2
    → Run net inputs fs s → Run net2 inputs fs s

-- each channel that has slots in the second net has some in the first
abbrev pub HasSlotsOf : Net → Net → Type 0
HasSlotsOf net net2 = (c : ℕ) → 0 < (chan_at net2 c).slots → 0 < (chan_at net c).slots

-- a state at rest without tokens is at rest with other slots too
abbrev pub StaysAtRest : Type 0
StaysAtRest = (net net2 : Net) (s : State) → SamePlain net net2 → HasSlotsOf net net2 → ((c : ℕ) → tokens_at s c ≡ []) → AtRest net s → AtRest net2 s

-- ---- rest

-- the units that fire without a token, once
abbrev pub starts : Kind → Bool
starts Entry = true
starts (Param j) = true
starts (Const w n) = false
starts (Op1 op) = false
starts (Op2 op) = false
starts (Select w) = false
starts (Fork w outs) = false
starts (Mux w ins) = false
starts (Cmerge ins) = false
starts (Branch w) = false
starts (Sink w) = false
starts (Read a) = false
starts (Lsq a d ps gs f) = false
starts Exit = false

-- no token is on a channel, no entry in a queue, and the entry and all parameters have fired
pub record IsSpent (net : Net) (s : State) : Type 0 where
  pub tokens : (c : ℕ) → tokens_at s c ≡ []
  pub entries : (u : ℕ) → (get_or s.own u idle).queue.items ≡ []
  pub started : (u : ℕ) → starts (kind_of net u) ≡ true → (get_or s.own u idle).fired ≡ true

abbrev pub SpentIsAtRest : Type 0
SpentIsAtRest = (net : Net) (s : State) → IsSpent net s → AtRest net s

-- ---- rows

-- an effect rests on the heads that its row uses
abbrev pub RowsUseOnly : Type 0
RowsUseOnly = (r : Row) (h g : ℕ → Option ℕ) → AllSame h g (used_by r h) → effect_of r g ≡ effect_of r h

-- a firing looks at the heads that its plan takes, and a fork at its one input, taken or not
abbrev pub PlansUse : Type 0
PlansUse = (net : Net) (s : State) (u : ℕ) (a : Act) (e : Effect) (takes : Takes) → effect net s (firing u a) ≡ Some e → e.takes ≡ places_of takes
    → used net s (firing u a) ≡ places_used (is_fork (kind_of net u)) takes
