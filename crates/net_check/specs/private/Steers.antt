-- Private: only contracts of this crate cite it. The marks of the channels at the places of a unit: control or not, tested row by row.
use Rattle.std.specs.Prelude.{◌≡◌, ℕ, Bool, true, false, not, ◌&&◌, List, [], ◌∷◌}
use Rattle.std.specs.List.{All}
use Rattle.net_types.specs.declared.net.Net.{Net}
use Rattle.net_types.specs.declared.net.Unit.{Unit as Kind}
use Rattle.net_types.specs.Nets.{chan_at}
use Rattle.net_types.specs.Tables.{Spot, spot, spots, ins, outs}
use Rattle.net_check.specs.declared.controls.Row.{Row}
use Rattle.net_check.specs.declared.wires.Side.{Side}
use Rattle.net_check.specs.declared.wires.Wires.{Wires}
use Rattle.net_check.specs.Controls.{passes}
use Rattle.net_check.specs.private.Wires.{wire, IsTable}

-- the table tells the channels of the net on this side
abbrev pub IsTableOf : Side → Net → Wires → Type 0
IsTableOf side net w = IsTable side w.starts.items w.chans.items w.none net.chans

-- the mark of the channel that a table tells at a place
abbrev pub told : Net → Wires → ℕ → ℕ → Bool
told net w u p = (chan_at net (wire w.starts.items w.chans.items w.none u p)).ctl

-- the marks at the places of a unit on one side
abbrev pub marks : Row → ℕ → Bool
marks row p = told row.net.now row.wires.now row.unit p

-- is the mark the wanted one
abbrev pub is_mark : Bool → Bool → Bool
is_mark true found = found
is_mark false found = not found

-- do marks agree with a row of the table of places
abbrev pub agrees : (ℕ → Bool) → List Spot → Bool
agrees f [] = true
agrees f (s ∷ ss) = is_mark s.ctl (f s.place) && agrees f ss

-- three places of any width
abbrev pub three_spots : Bool → Bool → Bool → List Spot
three_spots first second third = spot 0 0 first ∷ spot 1 0 second ∷ spot 2 0 third ∷ []

-- the inputs of a mux: its condition, and its data
abbrev pub mux_ins : ℕ → ℕ → List Spot
mux_ins w n = spot 0 32 false ∷ spots 1 w false n

-- do the marks of inputs (f) and of outputs (g) agree with the unit's rows
abbrev pub is_steered : Net → (ℕ → Bool) → (ℕ → Bool) → Kind → Bool
is_steered net f g k = agrees f (ins net (passes f k) k) && agrees g (outs net (passes f k) k)

-- the place has the table's mark
abbrev pub HasMark : (ℕ → Bool) → Spot → Type 0
HasMark f s = f s.place ≡ s.ctl

abbrev pub Marked : (ℕ → Bool) → List Spot → Type 0
Marked f ss = All (HasMark f) ss
