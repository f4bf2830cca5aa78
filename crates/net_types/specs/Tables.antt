-- The table of input and output places.
use Rattle.std.specs.Prelude.{◌≡◌, ◌⊎◌, ℕ, zero, suc, ◌+◌, Bool, true, false, Option, Some, None, List, [], ◌∷◌, ◌++◌, length}
use Rattle.el_base.specs.declared.ty.Ty.{Ty}
use Rattle.el_base.specs.declared.ty.Array.{Array}
use Rattle.el_base.specs.declared.ty.Scalar.{Scalar}
use Rattle.el_base.specs.Widths.{ty_width, op1_in, op1_out, op2_in, op2_out}
use Rattle.net_types.specs.declared.net.Port.{Port}
use Rattle.net_types.specs.declared.net.Port.TheVariants.{Load, Store}
use Rattle.net_types.specs.declared.net.Net.{Net}
use Rattle.net_types.specs.declared.net.Unit.{Unit as Kind}
use Rattle.net_types.specs.declared.net.Unit.TheVariants.{Entry, Param, Const, Op1, Op2, Select, Fork, Mux, Cmerge, Branch, Sink, Read, Lsq, Exit}

-- a place of a unit: its number, its width, and whether it is control
pub record Spot : Type 0 where
  pub place : ℕ
  pub width : ℕ
  pub ctl : Bool

abbrev pub spot : ℕ → ℕ → Bool → Spot
spot p w c = record { place = p; width = w; ctl = c }

-- n places of one width, from number p on
abbrev pub spots : ℕ → ℕ → Bool → ℕ → List Spot
spots p w c zero = []
spots p w c (suc n) = spot p w c ∷ spots (suc p) w c n

-- the widths that the header gives; 0 for what it has not
abbrev pub scalar_width : List Scalar → ℕ → ℕ
scalar_width [] j = 0
scalar_width (s ∷ ss) zero = ty_width s.ty
scalar_width (s ∷ ss) (suc j) = scalar_width ss j

abbrev pub array_width : List Array → ℕ → ℕ
array_width [] a = 0
array_width (x ∷ xs) zero = ty_width x.ty
array_width (x ∷ xs) (suc a) = array_width xs a

-- the address places of all ports, the data places of store ports, and the value places of load ports;
-- p is the number of the first port's address or value place
abbrev pub port_ins : ℕ → ℕ → List Port → List Spot
port_ins p w [] = []
port_ins p w (Load ∷ ps) = spot p 64 false ∷ port_ins (p + 2) w ps
port_ins p w (Store ∷ ps) = spot p 64 false ∷ spot (p + 1) w false ∷ port_ins (p + 2) w ps

abbrev pub port_outs : ℕ → ℕ → List Port → List Spot
port_outs p w [] = []
port_outs p w (Load ∷ ps) = spot p w false ∷ port_outs (p + 1) w ps
port_outs p w (Store ∷ ps) = port_outs (p + 1) w ps

abbrev pub result_in : Option Ty → List Spot
result_in None = []
result_in (Some t) = spot 1 (ty_width t) false ∷ []

-- the input places of a unit; m says of a fork or branch whether it passes control
abbrev pub ins : Net → Bool → Kind → List Spot
ins net m Entry = []
ins net m (Param j) = []
ins net m (Const w n) = spot 0 32 false ∷ []
ins net m (Op1 op) = spot 0 (op1_in op) false ∷ []
ins net m (Op2 op) = spot 0 (op2_in op) false ∷ spot 1 (op2_in op) false ∷ []
ins net m (Select w) = spot 0 32 false ∷ spot 1 w false ∷ spot 2 w false ∷ []
ins net m (Fork w outs) = spot 0 w m ∷ []
ins net m (Mux w n) = spot 0 32 false ∷ spots 1 w false n
ins net m (Cmerge n) = spots 0 32 true n
ins net m (Branch w) = spot 0 32 false ∷ spot 1 w m ∷ []
ins net m (Sink w) = spot 0 w false ∷ []
ins net m (Read a) = spot 0 64 false ∷ []
ins net m (Lsq a d ps gs f) = spots 0 32 true (suc (length gs)) ++ port_ins (length gs + 1) (array_width net.arrays a) ps
ins net m Exit = spot 0 32 true ∷ result_in net.result

-- the output places of a unit
abbrev pub outs : Net → Bool → Kind → List Spot
outs net m Entry = spot 0 32 true ∷ []
outs net m (Param j) = spot 0 (scalar_width net.scalars j) false ∷ []
outs net m (Const w n) = spot 0 w false ∷ []
outs net m (Op1 op) = spot 0 (op1_out op) false ∷ []
outs net m (Op2 op) = spot 0 (op2_out op) false ∷ []
outs net m (Select w) = spot 0 w false ∷ []
outs net m (Fork w zero) = []
outs net m (Fork w (suc n)) = spot 0 w m ∷ spots 1 w false n
outs net m (Mux w n) = spot 0 w false ∷ []
outs net m (Cmerge n) = spot 0 32 true ∷ []
outs net m (Branch w) = spot 0 w m ∷ spot 1 w m ∷ []
outs net m (Sink w) = []
outs net m (Read a) = spot 0 (array_width net.arrays a) false ∷ []
outs net m (Lsq a d ps gs f) = spots 0 32 true (suc (length gs)) ++ port_outs (length gs + 1) (array_width net.arrays a) ps
outs net m Exit = []

-- a place of this number, width and control is in a row of the table
abbrev pub InSpots : List Spot → ℕ → ℕ → Bool → Type 0
InSpots [] p w c = ⊥
InSpots (s ∷ ss) p w c = (s ≡ spot p w c) ⊎ InSpots ss p w c
