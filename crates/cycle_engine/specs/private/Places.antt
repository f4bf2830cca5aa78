-- Private: only contracts of this crate cite it. Places that were tried, and those that may not fire any more in a cycle.
use Rattle.std.specs.Prelude.{◌≡◌, ◌≢◌, ◌⊎◌, ℕ, ◌+◌, ◌*◌, ◌<◌, ◌≤◌, Bool, true, false, Option, Some, None, List, [], ◌∷◌, ◌++◌, length, get_or, Result, OnOk, MatchResult}
use Rattle.std.specs.List.{AllByRecursion}
use Rattle.el_base.specs.Limits.{max_delay}
use Rattle.net_types.specs.declared.net.Net.{Net}
use Rattle.net_types.specs.declared.firing.Firing.{Firing}
use Rattle.net_types.specs.declared.firing.Inputs.{Inputs}
use Rattle.net_types.specs.declared.net.Port.{Port}
use Rattle.net_types.specs.declared.net.Unit.{Unit as Kind}
use Rattle.net_types.specs.declared.net.Unit.TheVariants.{Entry, Param, Const, Op1, Op2, Select, Fork, Mux, Cmerge, Branch, Sink, Read, Lsq, Exit}
use Rattle.net_types.specs.declared.firing.Act.{Act}
use Rattle.net_types.specs.declared.firing.Act.TheVariants.{Go, From, Send, Alloc, Addr, Data, Exec, Reply, Retire, End}
use Rattle.net_types.specs.Nets.{kind_of, into, firing}
use Rattle.net_core.specs.declared.plan.Put.{Put}
use Rattle.net_core.specs.declared.plan.Takes.{Takes}
use Rattle.net_core.specs.declared.plan.Takes.TheVariants as takes
use Rattle.net_core.specs.declared.plan.Taken.{Taken}
use Rattle.net_core.specs.declared.plan.Taken.TheVariants as taken
use Rattle.net_core.specs.declared.plan.Laid.{Laid}
use Rattle.net_core.specs.declared.plan.Moves.{Moves}
use Rattle.net_core.specs.declared.plan.Plan.{Plan}
use Rattle.net_types.specs.Order.{act_rank, act_number}
use Rattle.net_check.specs.Ends.{is_lsq}
use Rattle.lsq_core.specs.Views.{QueueView, InOrder, InPorts}
use Rattle.net_core.specs.Fire.{State, idle, enabled}
use Rattle.net_core.specs.Plans.{kind_in}
use Rattle.net_core.specs.Runs.{AtRest}
use Rattle.net_core.specs.States.{state_of}
use Rattle.cycle_engine.specs.declared.engine.Engine.{Engine}
use Rattle.cycle_engine.specs.declared.engine.Bounds.{Bounds}
use Rattle.cycle_engine.specs.declared.marks.Marks.{Marks}
use Rattle.lsq_core.specs.Laws.{act_place}
use Rattle.cycle_engine.specs.Rousing.{Could}
use Rattle.cycle_engine.specs.Cycles.{Dated, May, IsOldest, IsRipe, IsUnused}
use Rattle.cycle_engine.specs.private.Trials.{dated_of}
use Rattle.cycle_engine.specs.private.Marking.{Holds, HasUnit, IsMarked}
use Rattle.cycle_engine.specs.private.Control.{HasControl, groups_in, noted_place, ports_in}
use Rattle.cycle_engine.specs.declared.broken.Broken.{Broken}
use Rattle.cycle_engine.specs.private.Pending.{IsShut}
use Rattle.cycle_engine.specs.private.Goings.{Past, IsBroken, IsReady, to_visit, InCycle, HasDone, AllPlain, IsWatching, IsKept, IsKeptBut, IsKeptOf, all_made}

-- ---- the acts of a unit

-- the act of a number, of the kind of another act
abbrev pub numbered : Act → ℕ → Act
numbered Go n = Go
numbered (From j) n = From n
numbered (Send j) n = Send n
numbered (Alloc j) n = Alloc n
numbered (Addr j) n = Addr n
numbered (Data j) n = Data n
numbered (Exec j) n = Exec n
numbered (Reply j) n = Reply n
numbered Retire n = Retire
numbered End n = End

-- the inputs of a control merge
abbrev pub inputs_in : Kind → ℕ
inputs_in Entry = 0
inputs_in (Param j) = 0
inputs_in (Const w n) = 0
inputs_in (Op1 op) = 0
inputs_in (Op2 op) = 0
inputs_in (Select w) = 0
inputs_in (Fork w outs) = 0
inputs_in (Mux w ins) = 0
inputs_in (Cmerge ins) = ins
inputs_in (Branch w) = 0
inputs_in (Sink w) = 0
inputs_in (Read a) = 0
inputs_in (Lsq a d ps gs f) = 0
inputs_in Exit = 0

-- the outputs of a fork
abbrev pub outputs_in : Kind → ℕ
outputs_in Entry = 0
outputs_in (Param j) = 0
outputs_in (Const w n) = 0
outputs_in (Op1 op) = 0
outputs_in (Op2 op) = 0
outputs_in (Select w) = 0
outputs_in (Fork w outs) = outs
outputs_in (Mux w ins) = 0
outputs_in (Cmerge ins) = 0
outputs_in (Branch w) = 0
outputs_in (Sink w) = 0
outputs_in (Read a) = 0
outputs_in (Lsq a d ps gs f) = 0
outputs_in Exit = 0

-- the first act of a unit that is no queue
abbrev pub first_of : Kind → Act
first_of Entry = Go
first_of (Param j) = Go
first_of (Const w n) = Go
first_of (Op1 op) = Go
first_of (Op2 op) = Go
first_of (Select w) = Go
first_of (Fork w outs) = Send 0
first_of (Mux w ins) = Go
first_of (Cmerge ins) = From 0
first_of (Branch w) = Go
first_of (Sink w) = Go
first_of (Read a) = Go
first_of (Lsq a d ps gs f) = Go
first_of Exit = Go

-- how many acts a unit of a kind may have of the kind of an act
abbrev pub count_in : Kind → Act → ℕ
count_in k Go = 1
count_in k (From j) = inputs_in k
count_in k (Send j) = outputs_in k
count_in k (Alloc j) = groups_in k
count_in k (Addr j) = ports_in k
count_in k (Data j) = ports_in k
count_in k (Exec j) = 1
count_in k (Reply j) = ports_in k
count_in k Retire = 1
count_in k End = 1

-- the queue of a unit, its entries in order and of its ports
pub record HasView (net : Net) (s : State) (u : ℕ) : Type 0 where
  pub array : ℕ
  pub view : QueueView
  pub shape : kind_of net u ≡ kind_in array view
  pub state : view.queue ≡ (get_or s.own u idle).queue
  pub order : InOrder view.queue
  pub ports : InPorts (length view.ports) view.queue.items

-- the queue of a unit, as it is seen
abbrev pub IsViewOf : Net → State → ℕ → QueueView → Type 0
IsViewOf net s u q = (v : HasView net s u) × (v.view ≡ q)

-- the place at which an act takes the control token, where it takes one
abbrev pub takes_at : Kind → Act → Option ℕ
takes_at k Go = None
takes_at k (From j) = Some j
takes_at k (Send j) = None
takes_at k (Alloc j) = Some j
takes_at k (Addr j) = None
takes_at k (Data j) = None
takes_at k (Exec j) = None
takes_at k (Reply j) = None
takes_at k Retire = None
takes_at k End = Some (groups_in k)

-- what is enabled of a unit takes the control token where the noted channel leads to, if it takes one
abbrev pub IsNoted : Net → State → ℕ → Type 0
IsNoted net s noted = (u p : ℕ) (a : Act) → takes_at (kind_of net u) a ≡ Some p → enabled net s (firing u a) → noted_place net noted u ≡ Some p

-- what takes the control token finds it on the noted channel, which leads to where it is taken
pub record KeepsControl (net : Net) (s : State) (noted : ℕ) : Type 0 where
  pub places : IsNoted net s noted
  pub control : HasControl net s noted

-- an act of this kind takes the control token
abbrev pub TakesControl : Act → Type 0
TakesControl Go = ⊥
TakesControl (From j) = Unit {0}
TakesControl (Send j) = ⊥
TakesControl (Alloc j) = Unit {0}
TakesControl (Addr j) = ⊥
TakesControl (Data j) = ⊥
TakesControl (Exec j) = ⊥
TakesControl (Reply j) = ⊥
TakesControl Retire = ⊥
TakesControl End = Unit {0}

-- no act of a kind with a number from one on is enabled
abbrev pub HasNoneFrom : Net → State → ℕ → Act → ℕ → Type 0
HasNoneFrom net s u kind from = (b : Act) → act_rank b ≡ act_rank kind → from ≤ act_number (act_place b) → enabled net s (firing u b) → ⊥

-- no act of a kind with a number from one on and below another is enabled
abbrev pub HasNoneBetween : Net → State → ℕ → Act → ℕ → ℕ → Type 0
HasNoneBetween net s u kind from to = (b : Act) → act_rank b ≡ act_rank kind → from ≤ act_number (act_place b) → act_number (act_place b) < to → enabled net s (firing u b) → ⊥

-- the number is from another on, and no act of a kind with a number between them is enabled
pub record IsNextNumber (net : Net) (s : State) (u : ℕ) (kind : Act) (from n : ℕ) : Type 0 where
  pub from_on : from ≤ n
  pub none : HasNoneBetween net s u kind from n

-- no entry may execute
abbrev pub HasNoExec : Net → State → ℕ → Type 0
HasNoExec net s u = (j : ℕ) → enabled net s (firing u (Exec j)) → ⊥

-- the tokens that a firing of a fork moves: it takes from its input where it takes, and puts on this channel
abbrev pub taken_first : ℕ → Takes → Taken
taken_first first takes.None = taken.None
taken_first first (takes.One p) = taken.One first
taken_first first (takes.Two p q) = taken.One first
taken_first first (takes.Three p q r) = taken.One first

abbrev pub laid_there : ℕ → Option Put → Option Laid
laid_there chan None = None
laid_there chan (Some w) = Some (record { chan = chan; value = w.value })

abbrev pub moves_to : ℕ → ℕ → Plan → Moves
moves_to first chan p = record { taken = taken_first first p.takes; laid = laid_there chan p.put }

-- ---- places that were tried

-- the act is not before the number n of the acts of the rank r
abbrev pub IsOpen : ℕ → ℕ → Act → Type 0
IsOpen r n a = (r < act_rank a) ⊎ ((r ≡ act_rank a) × (n ≤ act_number (act_place a)))

-- the firing is the next to be tried, an execution that of the oldest entry that may execute
pub record IsNextAct (net : Net) (s : State) (f : Firing) (r n : ℕ) : Type 0 where
  pub rank : act_rank f.act ≡ r
  pub number : act_number (act_place f.act) ≡ n
  pub exec : r ≡ 6 → enabled net s f
  pub oldest : IsOldest net s f.unit f.act

abbrev pub IsFirstExec : Net → State → ℕ → Act → Type 0
IsFirstExec net s u act = IsNextAct net s (firing u act) 6 0

-- a unit that may fire is marked, or is u, and its act is still to be tried
abbrev pub IsWatched : Net → ℕ → Dated → Engine → ℕ → ℕ → ℕ → Type 0
IsWatched net c start e u r n = (g : Firing) → IsUnused e.fired.items g → May net c start (dated_of e) g → IsMarked e.marks g.unit ⊎ ((g.unit ≡ u) × IsOpen r n g.act)

-- once a queue has allocated in the cycle, the head at no other of its groups is ripe
abbrev pub AllocsOnce : Net → ℕ → List Firing → Dated → Type 0
AllocsOnce net c fs s = (u a b n d : ℕ) (ps : List Port) (gs : List (List ℕ)) (fw : Bool) → kind_of net u ≡ Lsq n d ps gs fw → (IsUnused fs (firing u (Alloc a)) → ⊥) → IsUnused fs (firing u (Alloc b)) → b < length gs
    → IsRipe net c s (into u b net.chans) → ⊥

-- the queues that have fired in the cycle are to be looked at again in the next, but those that are told
abbrev pub QueuesKept : Net → Engine → (ℕ → Type 0) → Type 0
QueuesKept net e But = (v : ℕ) → is_lsq (kind_of net v) ≡ true → HasUnit v e.fired.items → But v ⊎ Holds v e.again.items

-- in the turn of the queue u, whose acts so far are of no rank above r; marked queues but u have not fired, and marks are as they were
pub record IsQueueTurn (net : Net) (c : ℕ) (marks : Marks) (e : Engine) (u r : ℕ) : Type 0 where
  pub allocs : AllocsOnce net c e.fired.items (dated_of e)
  pub behind : AllByRecursion (λ g. g.unit ≡ u → act_rank g.act ≤ r) e.fired.items
  pub fresh : AllByRecursion (λ g. is_lsq (kind_of net g.unit) ≡ true → (g.unit ≡ u) ⊎ (IsMarked marks g.unit → ⊥)) e.fired.items
  pub same : e.marks ≡ marks
  pub again : QueuesKept net e (λ v. v ≡ u)

abbrev pub IsTurnOf : Bool → Net → ℕ → Marks → Engine → ℕ → ℕ → Type 0
IsTurnOf true net c marks e u r = IsQueueTurn net c marks e u r
IsTurnOf false net c marks e u r = AllPlain net e.fired.items

-- the acts of the unit u before the number n of those of the rank r were tried
pub record IsTurn (net : Net) (past : Past) (b : Bounds) (c : ℕ) (start : Dated) (marks : Marks) (e : Engine) (u r n : ℕ) : Type 0 where
  pub going : InCycle net past b c start e
  pub watched : IsWatched net c start e u r n
  pub kept : IsKeptBut net c start e u
  pub of : IsTurnOf (is_lsq (kind_of net u)) net c marks e u r

-- the turn of the unit u, which is no queue, has ended: its acts up to those of the rank s were tried
pub record IsTurnEnded (net : Net) (past : Past) (b : Bounds) (c : ℕ) (start : Dated) (marks : Marks) (e : Engine) (u s : ℕ) : Type 0 where
  pub turn : IsTurn net past b c start marks e u s 0
  pub own : IsKeptOf net c start e u

-- the acts of the unit u from those of the rank r on to those of the rank s were tried, or the cycle was broken off
pub record IsTurnMade {T : Type 0} (net : Net) (b : Bounds) (c u r s : ℕ) (old new : Engine) (done : Result T Broken) : Type 0 where
  pub ready : OnOk done (IsReady net b new)
  pub less : OnOk done (to_visit b new ≤ to_visit b old)
  pub tried : (past : Past) (start : Dated) (marks : Marks) → IsTurn net past b c start marks old u r 0 → MatchResult done (λ _. IsTurnEnded net past b c start marks new u s) (IsBroken net past.inputs b)

-- the sending of a fork to an output was tried; where it took the head, no act of the fork is left
abbrev pub IsSent : Net → Past → Bounds → ℕ → Dated → Marks → Engine → ℕ → ℕ → Bool → Type 0
IsSent net past b c start marks e u out true = IsTurnEnded net past b c start marks e u 3
IsSent net past b c start marks e u out false = IsTurn net past b c start marks e u 2 (out + 1)

-- since the engine was old something was fired, or nothing was and of the fork's outputs before n those that have fired in the cycle are
-- told by the fork's being to be looked at again
pub record HasSentOrTold (net : Net) (old e : Engine) (u n : ℕ) : Type 0 where
  pub fired : length old.fired.items ≤ length e.fired.items
  pub told : (length old.fired.items < length e.fired.items) ⊎ ((e.fired.items ≡ old.fired.items) × ((j : ℕ) → j < n → (IsUnused e.fired.items (firing u (Send j)) → ⊥) → Holds u e.again.items))

-- each output of the fork before n is shut, or the fork is to be looked at again
abbrev pub AreLeft : Engine → ℕ → ℕ → Type 0
AreLeft e u n = (j : ℕ) → j < n → IsShut e.pending e.used.base.items u j ⊎ Holds u e.again.items

-- the mark of the unit u was taken
pub record IsOpenTurn (net : Net) (past : Past) (b : Bounds) (c : ℕ) (start : Dated) (e : Engine) (u : ℕ) : Type 0 where
  pub going : InCycle net past b c start e
  pub plain : AllPlain net e.fired.items
  pub watched : (g : Firing) → IsUnused e.fired.items g → May net c start (dated_of e) g → IsMarked e.marks g.unit ⊎ (g.unit ≡ u)
  pub kept : IsKeptBut net c start e u

-- no unit that is no queue may fire, and queues have not fired
pub record IsSettled (net : Net) (past : Past) (b : Bounds) (c : ℕ) (start : Dated) (e : Engine) : Type 0 where
  pub going : InCycle net past b c start e
  pub plain : AllPlain net e.fired.items
  pub watching : IsWatching net c start e
  pub kept : IsKept net c start e
  pub list : e.marks.list.items ≡ []

-- ---- queues

-- of so many queues n were taken from those that are to have turns: what may fire is marked, and no marked queue has fired
pub record IsServed (net : Net) (past : Past) (b : Bounds) (c : ℕ) (start : Dated) (e : Engine) (count n : ℕ) : Type 0 where
  pub going : InCycle net past b c start e
  pub allocs : AllocsOnce net c e.fired.items (dated_of e)
  pub watching : IsWatching net c start e
  pub kept : IsKept net c start e
  pub again : QueuesKept net e (λ v. ⊥)
  pub list : e.marks.list.items ≡ []
  pub fresh : AllByRecursion (λ g. is_lsq (kind_of net g.unit) ≡ true → IsMarked e.marks g.unit → ⊥) e.fired.items
  pub left : n + length e.marks.queues.items ≡ count

-- nothing that has not fired may fire
pub record IsFull (net : Net) (past : Past) (b : Bounds) (c : ℕ) (start : Dated) (e : Engine) : Type 0 where
  pub going : InCycle net past b c start e
  pub full : (f : Firing) → IsUnused e.fired.items f → May net c start (dated_of e) f → ⊥
  pub kept : (g : Firing) → HasUnit g.unit e.fired.items → Could net c start (dated_of e) g → Holds g.unit e.again.items
  pub again : QueuesKept net e (λ v. ⊥)

-- ---- whole cycles

-- the cycle c was made, with firings or without
pub record IsCycled (net : Net) (past : Past) (b : Bounds) (c : ℕ) (e : Engine) (did : Bool) : Type 0 where
  pub firings : List Firing
  pub done : HasDone net (record past { cycles = past.cycles ++ firings ∷ [] }) b (c + 1) e
  pub some : did ≡ true → firings ≢ []
  pub none : did ≡ false → firings ≡ []

-- the cycles up to the last that has a firing
abbrev pub kept_before : List Firing → List (List Firing) → List (List Firing)
kept_before [] [] = []
kept_before [] (gs ∷ fss) = [] ∷ gs ∷ fss
kept_before (f ∷ fs) fss = (f ∷ fs) ∷ fss

abbrev pub trimmed : List (List Firing) → List (List Firing)
trimmed [] = []
trimmed (fs ∷ fss) = kept_before fs (trimmed fss)

-- the engine after the cycles made so far: how many there are, and how many up to the last that has a firing;
-- where it does not go on it is at rest
pub record HasRun (net : Net) (inputs : Inputs) (b : Bounds) (e : Engine) (cycle last : ℕ) (going : Bool) : Type 0 where
  pub cycles : List (List Firing)
  pub ready : IsReady net b e
  pub done : HasDone net (record { inputs = inputs; cycles = cycles }) b cycle e
  pub number : last ≡ length (trimmed cycles)
  pub near : going ≡ true → cycle ≤ last + max_delay
  pub rest : going ≡ false → AtRest net (state_of e.state)
  pub few : last ≤ all_made e * (max_delay + 1)
