-- What the code keeps for a unit, and what it plans for a firing, as the definitions see them.
use Rattle.std.specs.Prelude.{◌≡◌, ℕ, ◌==◌, ◌&&◌, not, get_or, Bool, true, false, Option, Some, None, List, [], ◌∷◌, length, nat_eq}
use Rattle.net_types.specs.declared.net.Port.{Port}
use Rattle.net_types.specs.declared.net.Unit.{Unit as Kind}
use Rattle.net_types.specs.declared.net.Unit.TheVariants.{Entry, Param, Const, Op1, Op2, Select, Fork, Mux, Cmerge, Branch, Sink, Read, Lsq, Exit}
use Rattle.net_types.specs.declared.firing.Act.{Act}
use Rattle.net_types.specs.declared.firing.Act.TheVariants.{From}
use Rattle.net_types.specs.declared.net.Net.{Net}
use Rattle.net_types.specs.Nets.{into, out_of}
use Rattle.lsq_core.specs.Acts.{Stepped, step, plain}
use Rattle.lsq_core.specs.Views.{QueueView, allows, given, acted}
use Rattle.net_core.specs.declared.cell.Cell.{Cell}
use Rattle.net_core.specs.declared.cell.Cell.TheVariants as cell
use Rattle.net_core.specs.declared.plan.Takes.{Takes}
use Rattle.net_core.specs.declared.plan.Takes.TheVariants.{None as no_place, One, Two, Three}
use Rattle.net_core.specs.declared.plan.Put.{Put}
use Rattle.net_core.specs.declared.plan.Taken.{Taken}
use Rattle.net_core.specs.declared.plan.Taken.TheVariants as taken
use Rattle.net_core.specs.declared.plan.Laid.{Laid}
use Rattle.net_core.specs.declared.plan.Moves.{Moves}
use Rattle.net_core.specs.declared.plan.Change.{Change}
use Rattle.net_core.specs.declared.plan.Change.TheVariants as change
use Rattle.net_core.specs.declared.plan.Plan.{Plan}
use Rattle.net_core.specs.Fire.{Own, idle, Setting, Effect, Take, Fires, sent_to, put_at, effect_of, row, go_row, entry_row, send_row, cmerge_row, queue_row}

-- what a cell keeps

abbrev pub own_in : QueueView → Own
own_in q = record idle { queue = q.queue }

abbrev pub own_of : Cell → Own
own_of cell.Plain = idle
own_of (cell.Start b) = record idle { fired = b }
own_of (cell.Exit b v) = record idle { fired = b; value = v }
own_of (cell.Fork bits) = record idle { sent = bits }
own_of (cell.Queue b) = own_in b.value

abbrev pub setting_of : List ℕ → Bool → Setting
setting_of ss b = record { scalars = ss; valued = b }

-- the forms of cells

abbrev pub is_plain : Cell → Bool
is_plain cell.Plain = true
is_plain (cell.Start b) = false
is_plain (cell.Exit b v) = false
is_plain (cell.Fork bits) = false
is_plain (cell.Queue b) = false

abbrev pub is_start : Cell → Bool
is_start cell.Plain = false
is_start (cell.Start b) = true
is_start (cell.Exit b v) = false
is_start (cell.Fork bits) = false
is_start (cell.Queue b) = false

abbrev pub is_exit_cell : Cell → Bool
is_exit_cell cell.Plain = false
is_exit_cell (cell.Start b) = false
is_exit_cell (cell.Exit b v) = true
is_exit_cell (cell.Fork bits) = false
is_exit_cell (cell.Queue b) = false

-- bits for so many outputs
abbrev pub has_bits : ℕ → Cell → Bool
has_bits outs cell.Plain = false
has_bits outs (cell.Start b) = false
has_bits outs (cell.Exit b v) = false
has_bits outs (cell.Fork bits) = nat_eq (length bits) outs
has_bits outs (cell.Queue b) = false

abbrev pub is_queue_cell : Cell → Bool
is_queue_cell cell.Plain = false
is_queue_cell (cell.Start b) = false
is_queue_cell (cell.Exit b v) = false
is_queue_cell (cell.Fork bits) = false
is_queue_cell (cell.Queue b) = true

-- a cell of the form that a kind keeps
abbrev pub keeps : Kind → Cell → Bool
keeps Entry c = is_start c
keeps (Param j) c = is_start c
keeps (Const w n) c = is_plain c
keeps (Op1 op) c = is_plain c
keeps (Op2 op) c = is_plain c
keeps (Select w) c = is_plain c
keeps (Fork w outs) c = has_bits outs c
keeps (Mux w ins) c = is_plain c
keeps (Cmerge ins) c = is_plain c
keeps (Branch w) c = is_plain c
keeps (Sink w) c = is_plain c
keeps (Read a) c = is_plain c
keeps (Lsq a d ps gs f) c = is_queue_cell c
keeps Exit c = is_exit_cell c

-- a queue of this shape, with this array
pub record HasForm (depth : ℕ) (ports : List Port) (groups : List (List ℕ)) (forward : Bool) (array : List ℕ) (q : QueueView) : Type 0 where
  pub deep : q.depth ≡ depth
  pub port : q.ports ≡ ports
  pub group : q.groups ≡ groups
  pub mark : q.queue.forward ≡ forward
  pub elements : q.array ≡ array

-- the queue of a cell has the shape of its unit, and this array
abbrev pub IsShaped : Kind → Cell → List ℕ → Type 0
IsShaped Entry c xs = Unit {0}
IsShaped (Param j) c xs = Unit {0}
IsShaped (Const w n) c xs = Unit {0}
IsShaped (Op1 op) c xs = Unit {0}
IsShaped (Op2 op) c xs = Unit {0}
IsShaped (Select w) c xs = Unit {0}
IsShaped (Fork w outs) c xs = Unit {0}
IsShaped (Mux w ins) c xs = Unit {0}
IsShaped (Cmerge ins) c xs = Unit {0}
IsShaped (Branch w) c xs = Unit {0}
IsShaped (Sink w) c xs = Unit {0}
IsShaped (Read a) c xs = Unit {0}
IsShaped (Lsq a d ps gs f) cell.Plain xs = Unit {0}
IsShaped (Lsq a d ps gs f) (cell.Start b) xs = Unit {0}
IsShaped (Lsq a d ps gs f) (cell.Exit b v) xs = Unit {0}
IsShaped (Lsq a d ps gs f) (cell.Fork bits) xs = Unit {0}
IsShaped (Lsq a d ps gs f) (cell.Queue b) xs = HasForm d ps gs f xs b.value
IsShaped Exit c xs = Unit {0}

-- so with some array
pub record KeepsShape (k : Kind) (c : Cell) : Type 0 where
  pub array : List ℕ
  pub shaped : IsShaped k c array

-- a fork with so many outputs
pub record IsForkOf (outs : ℕ) (k : Kind) : Type 0 where
  pub width : ℕ
  pub shape : k ≡ Fork width outs

-- a constant that puts this value
pub record IsConstOf (value : ℕ) (k : Kind) : Type 0 where
  pub width : ℕ
  pub shape : k ≡ Const width value

-- a mux with so many inputs for values and the choice
pub record IsMuxOf (ins : ℕ) (k : Kind) : Type 0 where
  pub width : ℕ
  pub shape : k ≡ Mux width ins

-- a select, a branch, a sink
pub record IsSelect (k : Kind) : Type 0 where
  pub width : ℕ
  pub shape : k ≡ Select width

pub record IsBranch (k : Kind) : Type 0 where
  pub width : ℕ
  pub shape : k ≡ Branch width

pub record IsSink (k : Kind) : Type 0 where
  pub width : ℕ
  pub shape : k ≡ Sink width

-- a plan's effect

abbrev pub places_of : Takes → List ℕ
places_of no_place = []
places_of (One p) = p ∷ []
places_of (Two p q) = p ∷ q ∷ []
places_of (Three p q r) = p ∷ q ∷ r ∷ []

-- the channels from which a unit takes at places, and the token that it puts, by its channel

abbrev pub taken_of : Net → ℕ → Takes → Taken
taken_of net u no_place = taken.None
taken_of net u (One p) = taken.One (into u p net.chans)
taken_of net u (Two p q) = taken.Two (into u p net.chans) (into u q net.chans)
taken_of net u (Three p q r) = taken.Three (into u p net.chans) (into u q net.chans) (into u r net.chans)

abbrev pub laid_of : Net → ℕ → Option Put → Option Laid
laid_of net u None = None
laid_of net u (Some w) = Some (record { chan = out_of u w.place net.chans; value = w.value })

abbrev pub moves_of : Net → ℕ → Plan → Moves
moves_of net u p = record { taken = taken_of net u p.takes; laid = laid_of net u p.put }

abbrev pub chans_of : Taken → List ℕ
chans_of taken.None = []
chans_of (taken.One c) = c ∷ []
chans_of (taken.Two c d) = c ∷ d ∷ []
chans_of (taken.Three c d e) = c ∷ d ∷ e ∷ []

-- what an act of a queue does; of another kind nothing
abbrev pub stepped_by : Kind → Act → ℕ → Own → List ℕ → Stepped
stepped_by Entry act v o xs = plain o.queue xs
stepped_by (Param j) act v o xs = plain o.queue xs
stepped_by (Const w n) act v o xs = plain o.queue xs
stepped_by (Op1 op) act v o xs = plain o.queue xs
stepped_by (Op2 op) act v o xs = plain o.queue xs
stepped_by (Select w) act v o xs = plain o.queue xs
stepped_by (Fork w outs) act v o xs = plain o.queue xs
stepped_by (Mux w ins) act v o xs = plain o.queue xs
stepped_by (Cmerge ins) act v o xs = plain o.queue xs
stepped_by (Branch w) act v o xs = plain o.queue xs
stepped_by (Sink w) act v o xs = plain o.queue xs
stepped_by (Read a) act v o xs = plain o.queue xs
stepped_by (Lsq a d ps gs f) act v o xs = step ps gs o.queue xs act v
stepped_by Exit act v o xs = plain o.queue xs

-- what a unit of this kind keeps after a change, what its array holds, and the strays
abbrev pub own_with : Kind → Change → Own → List ℕ → Own
own_with k change.Keep o xs = o
own_with k change.Fire o xs = record o { fired = true }
own_with k (change.Finish v) o xs = record o { fired = true; value = Some v }
own_with k (change.Send j) o xs = record o { sent = sent_to j o.sent }
own_with k change.Stray o xs = o
own_with k (change.Act act v) o xs = record o { queue = (stepped_by k act v o xs).queue }

abbrev pub array_with : Kind → Change → Own → List ℕ → List ℕ
array_with k change.Keep o xs = xs
array_with k change.Fire o xs = xs
array_with k (change.Finish v) o xs = xs
array_with k (change.Send j) o xs = xs
array_with k change.Stray o xs = xs
array_with k (change.Act act v) o xs = (stepped_by k act v o xs).array

abbrev pub strays_of : Kind → Change → Own → List ℕ → ℕ
strays_of k change.Keep o xs = 0
strays_of k change.Fire o xs = 0
strays_of k (change.Finish v) o xs = 0
strays_of k (change.Send j) o xs = 0
strays_of k change.Stray o xs = 1
strays_of k (change.Act act v) o xs = (stepped_by k act v o xs).strays

abbrev pub effect_by : Kind → Own → List ℕ → Plan → Effect
effect_by k o xs p = record {
  takes = places_of p.takes;
  put = p.put;
  own = own_with k p.change o xs;
  array = array_with k p.change o xs;
  strays = strays_of k p.change o xs;
}

abbrev pub planned : Kind → Own → List ℕ → Option Plan → Option Effect
planned k o xs None = None
planned k o xs (Some p) = Some (effect_by k o xs p)

-- the plan is what the row of an act does at these heads
abbrev pub IsUnitPlan : Kind → Act → Cell → List ℕ → Setting → (ℕ → Option ℕ) → Option Plan → Type 0
IsUnitPlan k act c xs ss heads plan = planned k (own_of c) xs plan ≡ effect_of (row k act (own_of c) xs ss) heads

-- the plan is what the act Go of this kind does at these heads, whatever the unit keeps
abbrev pub IsGoPlan : Kind → List ℕ → (ℕ → Option ℕ) → Option Plan → Type 0
IsGoPlan k xs heads plan = (o : Own) (ss : Setting) → planned k o xs plan ≡ effect_of (go_row k o xs ss) heads

-- so with each array
abbrev pub IsPlainPlan : Kind → (ℕ → Option ℕ) → Option Plan → Type 0
IsPlainPlan k heads plan = (xs : List ℕ) → IsGoPlan k xs heads plan

-- so of each kind that takes its one head, and then puts this
abbrev pub IsTakingPlan : Option Put → (ℕ → Option ℕ) → Option Plan → Type 0
IsTakingPlan put heads plan =
    (k : Kind) (o : Own) (xs : List ℕ) → planned k o xs plan ≡ effect_of (Take 0 (λ v. Fires put o xs 0)) heads

-- so of an entry or a parameter that puts this value
abbrev pub IsStartPlan : Cell → ℕ → Option Plan → Type 0
IsStartPlan c v plan =
    (k : Kind) (xs : List ℕ) (heads : ℕ → Option ℕ) →
    planned k (own_of c) xs plan ≡ effect_of (entry_row (own_of c) xs v) heads

-- so of the exit, with a result or without one
abbrev pub IsExitPlan : Cell → Bool → (ℕ → Option ℕ) → Option Plan → Type 0
IsExitPlan c valued heads plan =
    (ss : List ℕ) (xs : List ℕ) → planned Exit (own_of c) xs plan ≡ effect_of (go_row Exit (own_of c) xs (setting_of ss valued)) heads

-- so of a fork with these bits that sends to output j
abbrev pub IsSendPlan : (outs j : ℕ) → List Bool → List ℕ → (ℕ → Option ℕ) → Option Plan → Type 0
IsSendPlan outs j bits xs heads plan =
    (k : Kind) → planned k (own_of (cell.Fork bits)) xs plan ≡ effect_of (send_row outs j (own_of (cell.Fork bits)) xs) heads

-- so of a control merge that takes from input j
abbrev pub IsFromPlan : (ins j : ℕ) → (ℕ → Option ℕ) → Option Plan → Type 0
IsFromPlan ins j heads plan =
    (k : Kind) (o : Own) (xs : List ℕ) → planned k o xs plan ≡ effect_of (cmerge_row ins (From j) o xs) heads

-- so of an act of a unit, with each array with which the cell has the unit's shape
abbrev pub IsActPlan : Kind → Act → Cell → (ℕ → Option ℕ) → Option Plan → Type 0
IsActPlan k act c heads plan = (xs : List ℕ) (ss : Setting) → IsShaped k c xs → IsUnitPlan k act c xs ss heads plan

-- a plan that takes these and puts a value at a place
abbrev pub putting : Takes → ℕ → ℕ → Plan
putting takes p v = record { takes = takes; put = put_at p v; change = change.Keep }

-- the places are not equal
abbrev pub apart : Takes → Bool
apart no_place = true
apart (One p) = true
apart (Two p q) = not (p == q)
apart (Three p q r) = not (p == q) && (not (p == r) && not (q == r))

-- a cell after a change

abbrev pub started : Cell → Cell
started cell.Plain = cell.Plain
started (cell.Start b) = cell.Start true
started (cell.Exit b v) = cell.Exit true v
started (cell.Fork bits) = cell.Fork bits
started (cell.Queue b) = cell.Queue b

abbrev pub finished : ℕ → Cell → Cell
finished w cell.Plain = cell.Plain
finished w (cell.Start b) = cell.Start b
finished w (cell.Exit b v) = cell.Exit true (Some w)
finished w (cell.Fork bits) = cell.Fork bits
finished w (cell.Queue b) = cell.Queue b

abbrev pub sent_on : ℕ → Cell → Cell
sent_on j cell.Plain = cell.Plain
sent_on j (cell.Start b) = cell.Start b
sent_on j (cell.Exit b v) = cell.Exit b v
sent_on j (cell.Fork bits) = cell.Fork (sent_to j bits)
sent_on j (cell.Queue b) = cell.Queue b

abbrev pub queue_after : Act → ℕ → Cell → Cell
queue_after act v cell.Plain = cell.Plain
queue_after act v (cell.Start b) = cell.Start b
queue_after act v (cell.Exit b w) = cell.Exit b w
queue_after act v (cell.Fork bits) = cell.Fork bits
queue_after act v (cell.Queue b) = cell.Queue (record b { value = acted b.value act v })

abbrev pub queue_strays : Act → ℕ → Cell → ℕ
queue_strays act v cell.Plain = 0
queue_strays act v (cell.Start b) = 0
queue_strays act v (cell.Exit b w) = 0
queue_strays act v (cell.Fork bits) = 0
queue_strays act v (cell.Queue b) = (given b.value act v).strays

abbrev pub cell_after : Change → Cell → Cell
cell_after change.Keep c = c
cell_after change.Fire c = started c
cell_after (change.Finish v) c = finished v c
cell_after (change.Send j) c = sent_on j c
cell_after change.Stray c = c
cell_after (change.Act act v) c = queue_after act v c

abbrev pub strays_after : Change → Cell → ℕ
strays_after change.Keep c = 0
strays_after change.Fire c = 0
strays_after (change.Finish v) c = 0
strays_after (change.Send j) c = 0
strays_after change.Stray c = 1
strays_after (change.Act act v) c = queue_strays act v c

-- the next serial number of a queue
abbrev pub next_of : Cell → ℕ
next_of cell.Plain = 0
next_of (cell.Start b) = 0
next_of (cell.Exit b v) = 0
next_of (cell.Fork bits) = 0
next_of (cell.Queue b) = b.value.queue.next

-- a change that a cell admits

abbrev pub admits_fire : Cell → Bool
admits_fire cell.Plain = false
admits_fire (cell.Start b) = true
admits_fire (cell.Exit b v) = true
admits_fire (cell.Fork bits) = false
admits_fire (cell.Queue b) = false

abbrev pub admits_send : ℕ → Cell → Bool
admits_send j cell.Plain = false
admits_send j (cell.Start b) = false
admits_send j (cell.Exit b v) = false
admits_send j (cell.Fork bits) = not (get_or bits j true)
admits_send j (cell.Queue b) = false

abbrev pub admits_act : Act → Cell → Bool
admits_act act cell.Plain = false
admits_act act (cell.Start b) = false
admits_act act (cell.Exit b v) = false
admits_act act (cell.Fork bits) = false
admits_act act (cell.Queue b) = allows b.value act

abbrev pub admits : Cell → Change → Bool
admits c change.Keep = true
admits c change.Fire = admits_fire c
admits c (change.Finish w) = is_exit_cell c
admits c (change.Send j) = admits_send j c
admits c change.Stray = true
admits c (change.Act act v) = admits_act act c

-- a change that a queue admits
abbrev pub queue_admits : QueueView → Change → Bool
queue_admits q change.Keep = true
queue_admits q change.Fire = false
queue_admits q (change.Finish w) = false
queue_admits q (change.Send j) = false
queue_admits q change.Stray = true
queue_admits q (change.Act act v) = allows q act

-- the kind of a queue of this shape, and what its row does at these heads
abbrev pub kind_in : ℕ → QueueView → Kind
kind_in a q = Lsq a q.depth q.ports q.groups q.queue.forward

abbrev pub queue_effect : QueueView → Act → (ℕ → Option ℕ) → Option Effect
queue_effect q act heads = effect_of (queue_row q.depth q.ports q.groups act (own_in q) q.array) heads

-- the plan of a queue is what its row does
abbrev pub IsQueuePlan : QueueView → Act → (ℕ → Option ℕ) → Option Plan → Type 0
IsQueuePlan q act heads plan = (a : ℕ) → planned (kind_in a q) (own_in q) q.array plan ≡ queue_effect q act heads
