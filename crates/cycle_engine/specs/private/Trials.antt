-- Private: only contracts of this crate cite it. What the engine asks of a firing that it tries in a cycle.
use Rattle.std.specs.Prelude.{◌≡◌, ◌⊎◌, ℕ, ◌+◌, ◌<◌, ◌≤◌, Bool, true, false, Option, Some, None, List, [], length, get_or, IsSomeAnd}
use Rattle.std.specs.List.{AllByRecursion}
use Rattle.net_types.specs.declared.net.Net.{Net}
use Rattle.net_types.specs.declared.net.Unit.{Unit as Kind}
use Rattle.net_types.specs.declared.net.Unit.TheVariants.{Entry, Param, Const, Op1, Op2, Select, Fork, Mux, Cmerge, Branch, Sink, Read, Lsq, Exit}
use Rattle.net_types.specs.declared.firing.Act.{Act}
use Rattle.net_types.specs.declared.firing.Act.TheVariants.{Go, From, Send, Alloc, Addr, Data, Exec, Reply, Retire, End}
use Rattle.net_types.specs.declared.firing.Firing.{Firing}
use Rattle.net_types.specs.Nets.{into, kind_of, chan_at}
use Rattle.net_check.specs.Ends.{is_lsq}
use Rattle.net_core.specs.declared.plan.Put.{Put}
use Rattle.net_core.specs.declared.plan.Takes.{Takes}
use Rattle.net_core.specs.declared.plan.Change.TheVariants as change
use Rattle.net_core.specs.declared.plan.Plan.{Plan}
use Rattle.net_core.specs.Fire.{idle, first, has_room, tokens_at, changed_from, moved}
use Rattle.net_core.specs.declared.plan.Laid.{Laid}
use Rattle.net_core.specs.Plans.{effect_by, laid_of, moves_of, apart, admits}
use Rattle.circular_buffer.specs.Buffer.{last_item}
use Rattle.net_core.specs.States.{state_of, dates_of, cell_at, IsOf, IsPlanOf}
use Rattle.cycle_engine.specs.declared.trial.Planned.{Planned}
use Rattle.cycle_engine.specs.declared.engine.Engine.{Engine}
use Rattle.cycle_engine.specs.Cycles.{Dated, AreDated, dated}
use Rattle.net_core.specs.Uses.{is_fork, places_used}

-- the state of the engine with the dates of its tokens
abbrev pub dated_of : Engine → Dated
dated_of e = record { state = state_of e.state; dates = dates_of e.state }

-- ---- dates

-- the head of the channel d, of these dates, is ripe
abbrev pub RipeAt : Net → ℕ → List (List ℕ) → ℕ → Type 0
RipeAt net c dates d = IsSomeAnd (first (get_or dates d [])) (λ date. date + (chan_at net d).delay ≤ c)

-- the heads at these places of a unit are ripe
abbrev pub AllRipe : Net → ℕ → List (List ℕ) → ℕ → List ℕ → Type 0
AllRipe net c dates u places = AllByRecursion (λ p. RipeAt net c dates (into u p net.chans)) places

-- the dates after a firing that takes and puts in the cycle c
abbrev pub dates_after : Net → ℕ → Takes → Option Put → ℕ → List (List ℕ) → List (List ℕ)
dates_after net u takes put c dates =
    changed_from (moved net u (effect_by (Sink 0) idle [] (record { takes = takes; put = dated c put; change = change.Keep }))) 0 dates

-- ---- the start of the cycle

-- the channel on which is put is not among those that were full at the start and from which tokens were taken
abbrev pub HadRoom : List Bool → Option Laid → Type 0
HadRoom marked None = Unit {0}
HadRoom marked (Some w) = get_or marked w.chan false ≡ false

-- the channel on which is put has room
abbrev pub HasRoomNow : Net → Engine → Option Laid → Type 0
HasRoomNow net e None = Unit {0}
HasRoomNow net e (Some w) = length (tokens_at (state_of e.state) w.chan) < (chan_at net w.chan).slots

-- so many entries leave room for those of the group that an act allocates
abbrev pub EntriesFit : ℕ → List (List ℕ) → ℕ → Act → Type 0
EntriesFit depth groups n Go = Unit {0}
EntriesFit depth groups n (From j) = Unit {0}
EntriesFit depth groups n (Send j) = Unit {0}
EntriesFit depth groups n (Alloc g) = n + length (get_or groups g []) ≤ depth
EntriesFit depth groups n (Addr p) = Unit {0}
EntriesFit depth groups n (Data p) = Unit {0}
EntriesFit depth groups n (Exec e) = Unit {0}
EntriesFit depth groups n (Reply p) = Unit {0}
EntriesFit depth groups n Retire = Unit {0}
EntriesFit depth groups n End = Unit {0}

abbrev pub HadDepth : Kind → ℕ → Act → Type 0
HadDepth Entry n act = Unit {0}
HadDepth (Param j) n act = Unit {0}
HadDepth (Const w k) n act = Unit {0}
HadDepth (Op1 op) n act = Unit {0}
HadDepth (Op2 op) n act = Unit {0}
HadDepth (Select w) n act = Unit {0}
HadDepth (Fork w outs) n act = Unit {0}
HadDepth (Mux w ins) n act = Unit {0}
HadDepth (Cmerge ins) n act = Unit {0}
HadDepth (Branch w) n act = Unit {0}
HadDepth (Sink w) n act = Unit {0}
HadDepth (Read a) n act = Unit {0}
HadDepth (Lsq a depth ports groups forward) n act = EntriesFit depth groups n act
HadDepth Exit n act = Unit {0}

-- what the engine asks of a planned firing
pub record Allowed (net : Net) (c : ℕ) (e : Engine) (f : Firing) (p : Plan) : Type 0 where
  pub room : has_room net (state_of e.state) f.unit p.put
  pub had_room : HadRoom e.freed.marked.items (laid_of net f.unit p.put)
  pub had_depth : HadDepth (kind_of net f.unit) (get_or e.begun.items f.unit 0) f.act
  pub ripe : AllRipe net c (dates_of e.state) f.unit (places_used (is_fork (kind_of net f.unit)) p.takes)

-- the channel d is full, of tokens alone that were put before the cycle c
abbrev pub IsOldFull : Net → ℕ → Engine → ℕ → Type 0
IsOldFull net c e d = ((chan_at net d).slots ≤ length (tokens_at (state_of e.state) d)) × AllByRecursion (λ x. x < c) (get_or (dates_of e.state) d [])

-- what is known of the channel d in the cycle c, which began with start
pub record IsFollowed (net : Net) (c : ℕ) (start : Dated) (e : Engine) (d : ℕ) : Type 0 where
  -- where it is marked it was full then
  pub marked : get_or e.freed.marked.items d false ≡ true → (chan_at net d).slots ≤ length (tokens_at start.state d)
  -- where it is not it had room then, or is full of older tokens still
  pub clear : get_or e.freed.marked.items d false ≡ false → (length (tokens_at start.state d) < (chan_at net d).slots) ⊎ IsOldFull net c e d
  -- it has no more tokens than then, or the newest is of this cycle
  pub newest : (length (tokens_at (state_of e.state) d) ≤ length (tokens_at start.state d)) ⊎ (last_item (get_or (dates_of e.state) d []) ≡ Some c)

-- what the engine keeps of the state with which the cycle c began: which channels were full in it, and the entries of queues
pub record IsBegun (net : Net) (c : ℕ) (start : Dated) (e : Engine) : Type 0 where
  pub chans : (d : ℕ) → IsFollowed net c start e d
  pub queues : (u : ℕ) → is_lsq (kind_of net u) ≡ true → get_or e.begun.items u 0 ≡ length (get_or start.state.own u idle).queue.items

-- the engine is of the net, and each token has a date
pub record IsEngine (net : Net) (e : Engine) : Type 0 where
  pub state : IsOf net e.state
  pub dated : AreDated net (dated_of e)

-- what a firing does, and the tokens that it moves, which has room
pub record IsPlanned (net : Net) (e : Engine) (f : Firing) (p : Planned) : Type 0 where
  pub effect : IsPlanOf net e.state f (Some p.plan)
  pub moves : p.moves ≡ moves_of net f.unit p.plan
  pub apart : apart p.plan.takes ≡ true
  pub admits : admits (cell_at e.state f.unit) p.plan.change ≡ true
  pub room : has_room net (state_of e.state) f.unit p.plan.put
