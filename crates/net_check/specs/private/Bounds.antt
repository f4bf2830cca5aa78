-- Private: only contracts of this crate cite it. How many numbers the places of units may have.
use Rattle.std.specs.Prelude.{◌⊎◌, ℕ, ◌<◌, ◌^◌, List, length, sum_by}
use Rattle.net_types.specs.declared.net.Unit.{Unit as Kind}
use Rattle.net_types.specs.declared.net.Unit.TheVariants.{Entry, Param, Const, Op1, Op2, Select, Fork, Mux, Cmerge, Branch, Sink, Read, Lsq, Exit}
use Rattle.net_check.specs.declared.wires.Side.{Side}
use Rattle.net_check.specs.private.Wires.{bound}

-- the numbers of all places of a side fit a machine word
abbrev pub HasRoom : Side → List Kind → Type 0
HasRoom side units = sum_by (bound side) units < 2 ^ 64

-- the numbers of the places of one unit do
abbrev pub IsBounded : Side → Kind → Type 0
IsBounded side k = bound side k < 2 ^ 64

-- a queue with more ports or groups than there are channels
abbrev pub IsCrowded : Kind → ℕ → Type 0
IsCrowded Entry chans = ⊥
IsCrowded (Param j) chans = ⊥
IsCrowded (Const w n) chans = ⊥
IsCrowded (Op1 op) chans = ⊥
IsCrowded (Op2 op) chans = ⊥
IsCrowded (Select w) chans = ⊥
IsCrowded (Fork w n) chans = ⊥
IsCrowded (Mux w n) chans = ⊥
IsCrowded (Cmerge n) chans = ⊥
IsCrowded (Branch w) chans = ⊥
IsCrowded (Sink w) chans = ⊥
IsCrowded (Read a) chans = ⊥
IsCrowded (Lsq a d ps gs f) chans = (chans < length ps) ⊎ (chans < length gs)
IsCrowded Exit chans = ⊥
