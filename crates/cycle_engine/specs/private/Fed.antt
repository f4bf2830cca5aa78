-- Private: only contracts of this crate cite it. Which ports of queues have tokens: marks at their places.
use Rattle.std.specs.Prelude.{◌≡◌, ◌⊎◌, ◌==◌, ℕ, suc, ◌+◌, ◌-◌, ◌*◌, ◌/◌, ◌%◌, ◌^◌, ◌<◌, ◌≤◌, ◌||◌, nat_le, nat_lt, true, false, cond, Option, Some, None, is_some, min, List, length, get_or, IfSome}
use Rattle.net_types.specs.declared.net.Net.{Net}
use Rattle.net_types.specs.declared.net.Unit.{Unit as Kind}
use Rattle.net_types.specs.declared.net.Unit.TheVariants.{Entry, Param, Const, Op1, Op2, Select, Fork, Mux, Cmerge, Branch, Sink, Read, Lsq, Exit}
use Rattle.net_types.specs.declared.firing.Act.{Act}
use Rattle.net_types.specs.declared.firing.Act.TheVariants.{Go, From, Send, Alloc, Addr, Data, Exec, Reply, Retire, End}
use Rattle.net_types.specs.declared.firing.Firing.{Firing}
use Rattle.net_types.specs.Nets.{chan_at, firing, kind_of}
use Rattle.lsq_core.specs.Bits.{has}
use Rattle.net_core.specs.declared.plan.Laid.{Laid}
use Rattle.net_core.specs.Fire.{State, head_at}
use Rattle.cycle_engine.specs.declared.fed.Fed.{Fed}
use Rattle.cycle_engine.specs.declared.fed.Lead.{Lead}
use Rattle.cycle_engine.specs.declared.fed.Lead.TheVariants as lead
use Rattle.cycle_engine.specs.declared.used.Used.{Used}
use Rattle.cycle_engine.specs.private.Control.{control_places_in, leads_to_control_place, ports_in}
use Rattle.cycle_engine.specs.private.Used.{HasPlace, own_number, place_number}

-- ---- what channels lead to

-- what a place of a queue is for that comes so far after its control places
abbrev pub port_lead : ℕ → Lead
port_lead n = cond (n % 2 == 0) (lead.Addr (n / 2)) (lead.Data (n / 2))

-- the ports of a queue of no more than so many are not marked
abbrev pub few_ports : ℕ
few_ports = 8

-- what a place of a unit of this kind is for that is no control place, so far as something is noted of it
abbrev pub port_at : Kind → ℕ → Lead
port_at Entry p = lead.Other
port_at (Param j) p = lead.Other
port_at (Const w n) p = lead.Other
port_at (Op1 op) p = lead.Other
port_at (Op2 op) p = lead.Other
port_at (Select w) p = lead.Other
port_at (Fork w outs) p = lead.Other
port_at (Mux w ins) p = lead.Other
port_at (Cmerge ins) p = lead.Other
port_at (Branch w) p = lead.Other
port_at (Sink w) p = lead.Other
port_at (Read a) p = lead.Other
port_at (Lsq a d ps gs f) p = cond (nat_le (length ps) few_ports || nat_lt p (suc (length gs))) lead.Other (port_lead (p - suc (length gs)))
port_at Exit p = lead.Other

abbrev pub lead_of : Net → ℕ → Lead
lead_of net d = cond (leads_to_control_place net d) lead.Control (port_at (kind_of net (chan_at net d).to.unit) (chan_at net d).to.place)

-- for each channel is told what it leads to
pub record AreLeads (net : Net) (leads : List Lead) : Type 0 where
  pub long : length leads ≡ length net.chans
  pub each : (d : ℕ) → d < length net.chans → get_or leads d lead.Other ≡ lead_of net d

-- the act that takes what comes there
abbrev pub act_of : Lead → Option Act
act_of lead.Other = None
act_of lead.Control = None
act_of (lead.Addr p) = Some (Addr p)
act_of (lead.Data p) = Some (Data p)

-- the place at which an act takes an address or data, where it takes them
abbrev pub port_place : Kind → Act → Option ℕ
port_place k Go = None
port_place k (From j) = None
port_place k (Send j) = None
port_place k (Alloc j) = None
port_place k (Addr j) = Some (control_places_in k + 0 + 2 * j)
port_place k (Data j) = Some (control_places_in k + 1 + 2 * j)
port_place k (Exec j) = None
port_place k (Reply j) = None
port_place k Retire = None
port_place k End = None

-- ---- marks

-- from where on the marks at places of the kind of an act stand, where there are so many places
abbrev pub shift : ℕ → Act → ℕ
shift n Go = 0
shift n (From j) = 0
shift n (Send j) = 0
shift n (Alloc j) = 0
shift n (Addr j) = 0
shift n (Data j) = n
shift n (Exec j) = 0
shift n (Reply j) = 0
shift n Retire = 0
shift n End = 0

-- the number of the mark of a firing's place
abbrev pub mark_number : ℕ → List ℕ → Firing → ℕ
mark_number n base f = shift n f.act + place_number base f

-- there is room for two marks for each place
pub record AreSized (fed : Fed) : Type 0 where
  pub room : 2 * fed.places ≤ 64 * length fed.marked
  pub small : 2 * fed.places ≤ 2 ^ 60

-- each port of a queue of many that has a token is marked
pub record HasFed (net : Net) (s : State) (used : Used) (fed : Fed) : Type 0 where
  pub leads : AreLeads net fed.leads.items
  pub sized : AreSized fed
  pub places : fed.places ≡ length used.last.items
  pub each : (u p : ℕ) (a : Act) → HasPlace net (firing u a) → few_ports < ports_in (kind_of net u) → port_place (kind_of net u) a ≡ Some p → is_some (head_at net s u p) ≡ true
      → has fed.marked (mark_number fed.places used.base.items (firing u a)) ≡ true

-- the marks are of a net that has so many places
pub record AreMarksOf (net : Net) (n : ℕ) (fed : Fed) : Type 0 where
  pub leads : AreLeads net fed.leads.items
  pub sized : AreSized fed
  pub places : fed.places ≡ n

-- but for marks all is as it was
pub record HasShape (old new : Fed) : Type 0 where
  pub leads : new.leads ≡ old.leads
  pub places : new.places ≡ old.places
  pub size : length new.marked ≡ length old.marked

-- no mark is taken away
pub record KeepsFed (old new : Fed) : Type 0 where
  pub shape : HasShape old new
  pub kept : (x : ℕ) → has old.marked x ≡ true → has new.marked x ≡ true

-- the place of an act of a port is marked
abbrev pub IsMarkedPort : List ℕ → Firing → Fed → Type 0
IsMarkedPort base f fed = place_number base f < fed.places → has fed.marked (mark_number fed.places base f) ≡ true

-- so is the port to which a channel leads
abbrev pub IsPortMarked : Net → List ℕ → ℕ → Fed → Type 0
IsPortMarked net base d fed = (a : Act) → act_of (lead_of net d) ≡ Some a → IsMarkedPort base (firing (chan_at net d).to.unit a) fed

-- the act takes an address or data from a place that has no token
abbrev pub LosesFed : Net → State → Firing → Type 0
LosesFed net s f = (p : ℕ) → port_place (kind_of net f.unit) f.act ≡ Some p → is_some (head_at net s f.unit p) ≡ false

-- the mark of the number of a firing's place is taken away, where its port has no token, and no other is
pub record IsLeft (net : Net) (s : State) (f : Firing) (at : ℕ) (old new : Fed) : Type 0 where
  pub shape : HasShape old new
  pub kept : (x : ℕ) → has old.marked x ≡ true → (has new.marked x ≡ true) ⊎ ((x ≡ shift old.places f.act + at) × LosesFed net s f)

-- so it is, and the port is marked at which the firing put a token
pub record IsFedBy (net : Net) (s : State) (base : List ℕ) (f : Firing) (at : ℕ) (laid : Option Laid) (old new : Fed) : Type 0 where
  pub left : IsLeft net s f at old new
  pub put : IfSome laid (λ w. IsPortMarked net base w.chan new)

-- the least number of the marks of a unit's places of the kind of an act, of which those of ports stand four apart
abbrev pub first_mark : Fed → List ℕ → ℕ → Act → ℕ
first_mark fed base u a = shift fed.places a + min (get_or base u 0) fed.places + own_number a

-- of the ports from one on and below another none is marked, where their marks stand four apart from a number on
abbrev pub HasNoneFed : Fed → ℕ → ℕ → ℕ → Type 0
HasNoneFed fed first from to = (p : ℕ) → from ≤ p → p < to → first + 4 * p < 2 * fed.places → has fed.marked (first + 4 * p) ≡ false

-- the port is from one on, and none between them is marked
pub record IsNextFed (fed : Fed) (first from n : ℕ) : Type 0 where
  pub from_on : from ≤ n
  pub none : HasNoneFed fed first from n
