-- Private: only contracts of this crate cite it. Which places have fired in a cycle, by numbers of places.
use Rattle.std.specs.Prelude.{◌≡◌, ◌≢◌, ◌==◌, ℕ, suc, ◌+◌, ◌*◌, ◌<◌, ◌≤◌, Bool, true, false, cond, List, length, get_or}
use Rattle.net_types.specs.declared.net.Net.{Net}
use Rattle.net_types.specs.declared.net.Unit.{Unit as Kind}
use Rattle.net_types.specs.declared.net.Unit.TheVariants.{Entry, Param, Const, Op1, Op2, Select, Fork, Mux, Cmerge, Branch, Sink, Read, Lsq, Exit}
use Rattle.net_types.specs.declared.firing.Act.{Act}
use Rattle.net_types.specs.declared.firing.Act.TheVariants.{Go, From, Send, Alloc, Addr, Data, Exec, Reply, Retire, End}
use Rattle.net_types.specs.declared.firing.Firing.{Firing}
use Rattle.net_types.specs.Nets.{kind_of}
use Rattle.cycle_engine.specs.declared.used.Used.{Used}
use Rattle.cycle_engine.specs.Cycles.{IsUnused}

-- ---- places of a net

abbrev pub IsGo : Act → Type 0
IsGo Go = Unit {0}
IsGo (From j) = ⊥
IsGo (Send j) = ⊥
IsGo (Alloc j) = ⊥
IsGo (Addr j) = ⊥
IsGo (Data j) = ⊥
IsGo (Exec j) = ⊥
IsGo (Reply j) = ⊥
IsGo Retire = ⊥
IsGo End = ⊥

abbrev pub IsSendBelow : ℕ → Act → Type 0
IsSendBelow outs Go = ⊥
IsSendBelow outs (From j) = ⊥
IsSendBelow outs (Send j) = j < outs
IsSendBelow outs (Alloc j) = ⊥
IsSendBelow outs (Addr j) = ⊥
IsSendBelow outs (Data j) = ⊥
IsSendBelow outs (Exec j) = ⊥
IsSendBelow outs (Reply j) = ⊥
IsSendBelow outs Retire = ⊥
IsSendBelow outs End = ⊥

abbrev pub IsFromBelow : ℕ → Act → Type 0
IsFromBelow ins Go = ⊥
IsFromBelow ins (From j) = j < ins
IsFromBelow ins (Send j) = ⊥
IsFromBelow ins (Alloc j) = ⊥
IsFromBelow ins (Addr j) = ⊥
IsFromBelow ins (Data j) = ⊥
IsFromBelow ins (Exec j) = ⊥
IsFromBelow ins (Reply j) = ⊥
IsFromBelow ins Retire = ⊥
IsFromBelow ins End = ⊥

abbrev pub IsQueueAct : (groups ports : ℕ) → Act → Type 0
IsQueueAct groups ports Go = ⊥
IsQueueAct groups ports (From j) = ⊥
IsQueueAct groups ports (Send j) = ⊥
IsQueueAct groups ports (Alloc j) = j < groups
IsQueueAct groups ports (Addr j) = j < ports
IsQueueAct groups ports (Data j) = j < ports
IsQueueAct groups ports (Exec j) = Unit {0}
IsQueueAct groups ports (Reply j) = j < ports
IsQueueAct groups ports Retire = Unit {0}
IsQueueAct groups ports End = Unit {0}

-- a unit of this kind has the act
abbrev pub Fits : Kind → Act → Type 0
Fits Entry a = IsGo a
Fits (Param j) a = IsGo a
Fits (Const w n) a = IsGo a
Fits (Op1 op) a = IsGo a
Fits (Op2 op) a = IsGo a
Fits (Select w) a = IsGo a
Fits (Fork w outs) a = IsSendBelow outs a
Fits (Mux w ins) a = IsGo a
Fits (Cmerge ins) a = IsFromBelow ins a
Fits (Branch w) a = IsGo a
Fits (Sink w) a = IsGo a
Fits (Read x) a = IsGo a
Fits (Lsq x d ps gs f) a = IsQueueAct (length gs) (length ps) a
Fits Exit a = IsGo a

-- a unit of this kind has the act Go
abbrev pub goes : Kind → Bool
goes Entry = true
goes (Param j) = true
goes (Const w n) = true
goes (Op1 op) = true
goes (Op2 op) = true
goes (Select w) = true
goes (Fork w outs) = false
goes (Mux w ins) = true
goes (Cmerge ins) = false
goes (Branch w) = true
goes (Sink w) = true
goes (Read x) = true
goes (Lsq x d ps gs f) = false
goes Exit = true

-- the firing is at a place of the net
pub record HasPlace (net : Net) (f : Firing) : Type 0 where
  pub within : f.unit < length net.units
  pub fits : Fits (kind_of net f.unit) f.act

-- ---- their numbers

-- the number of a place among those of its unit; all executions of a queue have one
abbrev pub own_number : Act → ℕ
own_number Go = 0
own_number (From j) = j
own_number (Send j) = suc j
own_number (Alloc g) = 4 * g + 3
own_number (Addr p) = 4 * p + 4
own_number (Data p) = 4 * p + 5
own_number (Exec e) = 0
own_number (Reply p) = 4 * p + 6
own_number Retire = 1
own_number End = 2

-- the number of a firing's place: its unit's, where its own is 0; else its own from where those of the unit's places begin
abbrev pub place_number : List ℕ → Firing → ℕ
place_number base f = cond (own_number f.act == 0) f.unit (get_or base f.unit 0 + own_number f.act)

-- the numbers of the places of the net are below n, those of units come before the others, and those of a unit before the next unit's
pub record AreNumbered (net : Net) (base : List ℕ) (n : ℕ) : Type 0 where
  pub long : length net.units ≤ n
  pub least : (f : Firing) → HasPlace net f → own_number f.act ≢ 0 → length net.units ≤ place_number base f
  pub most : (f : Firing) → HasPlace net f → place_number base f < n
  pub rising : (f g : Firing) → HasPlace net f → HasPlace net g → f.unit < g.unit → own_number f.act ≢ 0 → own_number g.act ≢ 0 → place_number base f < place_number base g

-- the own numbers of the acts of a unit of this kind are below n, but for 0, which asks for no room
pub record HasNumbersBelow (k : Kind) (n : ℕ) : Type 0 where
  pub below : (a : Act) → Fits k a → own_number a ≢ 0 → own_number a < n

-- so far as units have where the numbers of their places begin: the numbers are below n, and those of a unit before the next unit's
pub record AreLaid (net : Net) (base : List ℕ) (n : ℕ) : Type 0 where
  pub long : length net.units ≤ n
  pub least : (u : ℕ) → u < length base → length net.units ≤ get_or base u 0
  pub most : (u : ℕ) (a : Act) → u < length base → Fits (kind_of net u) a → own_number a ≢ 0 → get_or base u 0 + own_number a < n
  pub rising : (u v : ℕ) (a : Act) → u < v → v < length base → Fits (kind_of net u) a → own_number a ≢ 0 → get_or base u 0 + own_number a < get_or base v 0

-- ---- which have fired

-- after so many firings, earlier ones, each place of the net tells whether it is among those of the cycle's firings, and no place tells of
-- more firings than there were
pub record AreTold (net : Net) (table : Used) (earlier : ℕ) (fs : List Firing) : Type 0 where
  pub unused : (f : Firing) → HasPlace net f → get_or table.last.items (place_number table.base.items f) 0 ≤ earlier → IsUnused fs f
  pub used : (f : Firing) → HasPlace net f → earlier < get_or table.last.items (place_number table.base.items f) 0 → IsUnused fs f → ⊥
  pub most : (x : ℕ) → get_or table.last.items x 0 ≤ earlier + length fs

-- the place of this number tells that it has fired after so many firings
pub record IsStamped (at count : ℕ) (old new : Used) : Type 0 where
  pub base : new.base ≡ old.base
  pub long : length new.last.items ≡ length old.last.items
  pub own : get_or new.last.items at 0 ≡ suc count
  pub others : (x : ℕ) → x ≢ at → get_or new.last.items x 0 ≡ get_or old.last.items x 0
