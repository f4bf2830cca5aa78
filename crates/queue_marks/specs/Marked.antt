-- Nets all of whose queues have the mark, and their states.
use Rattle.std.specs.Prelude.{◌≡◌, ℕ, Bool, true, false, List, [], ◌∷◌, map}
use Rattle.net_types.specs.declared.net.Net.{Net}
use Rattle.net_types.specs.declared.net.Port.{Port}
use Rattle.net_types.specs.declared.net.Unit.{Unit as Kind}
use Rattle.net_types.specs.declared.net.Unit.TheVariants.{Entry, Param, Const, Op1, Op2, Select, Fork, Mux, Cmerge, Branch, Sink, Read, Lsq, Exit}
use Rattle.net_types.specs.Nets.{kind_of}
use Rattle.net_core.specs.Fire.{State, Own}

-- a queue with the mark, and any other kind as it is
abbrev pub with_mark : Kind → Kind
with_mark Entry = Entry
with_mark (Param j) = Param j
with_mark (Const w n) = Const w n
with_mark (Op1 op) = Op1 op
with_mark (Op2 op) = Op2 op
with_mark (Select w) = Select w
with_mark (Fork w outs) = Fork w outs
with_mark (Mux w ins) = Mux w ins
with_mark (Cmerge ins) = Cmerge ins
with_mark (Branch w) = Branch w
with_mark (Sink w) = Sink w
with_mark (Read a) = Read a
with_mark (Lsq a depth ports groups forward) = Lsq a depth ports groups true
with_mark Exit = Exit

-- the net with the mark on every queue
abbrev pub forwarding : Net → Net
forwarding net = record net { units = map with_mark net.units }

-- the net with the mark on every queue where it is asked for, else the net as it is
abbrev pub marked : Bool → Net → Net
marked true net = forwarding net
marked false net = net

-- each queue of the net has the mark exactly where it is asked for
abbrev pub HasMark : Bool → Net → Type 0
HasMark forward net = (u a depth : ℕ) (ports : List Port) (groups : List (List ℕ)) (mark : Bool) → kind_of net u ≡ Lsq a depth ports groups mark → mark ≡ forward

abbrev pub forwards : Own → Own
forwards o = record o { queue = record o.queue { forward = true } }

-- what a unit keeps, with the mark where it is a queue
abbrev pub own_with_mark : Kind → Own → Own
own_with_mark Entry o = o
own_with_mark (Param j) o = o
own_with_mark (Const w n) o = o
own_with_mark (Op1 op) o = o
own_with_mark (Op2 op) o = o
own_with_mark (Select w) o = o
own_with_mark (Fork w outs) o = o
own_with_mark (Mux w ins) o = o
own_with_mark (Cmerge ins) o = o
own_with_mark (Branch w) o = o
own_with_mark (Sink w) o = o
own_with_mark (Read a) o = o
own_with_mark (Lsq a depth ports groups forward) o = forwards o
own_with_mark Exit o = o

-- so of each unit
abbrev pub all_with_marks : List Kind → List Own → List Own
all_with_marks [] os = os
all_with_marks (k ∷ ks) [] = []
all_with_marks (k ∷ ks) (o ∷ os) = own_with_mark k o ∷ all_with_marks ks os

-- the state with the mark in every queue, and otherwise the same
abbrev pub with_marks : Net → State → State
with_marks net s = record s { own = all_with_marks net.units s.own }
