-- The text of a net in a version: a line for each part of the header, each unit and each channel.
use Rattle.std.specs.Prelude.{◌≡◌, ℕ, List, [], ◌∷◌, ◌++◌, map, codes, decimal, Option, Some, None}
use Rattle.std.specs.List.{All, flat_map}
use Rattle.el_base.specs.declared.ty.Ty.{Ty}
use Rattle.el_base.specs.declared.ty.Array.{Array}
use Rattle.el_base.specs.declared.ty.Scalar.{Scalar}
use Rattle.el_base.specs.Names.{ty_name, op1_name, op2_name}
use Rattle.net_types.specs.declared.net.Chan.{Chan}
use Rattle.net_types.specs.declared.net.Net.{Net}
use Rattle.net_types.specs.declared.net.Unit.{Unit as Kind}
use Rattle.net_types.specs.declared.net.Unit.TheVariants.{Entry, Param, Const, Op1, Op2, Select, Fork, Mux, Cmerge, Branch, Sink, Read, Lsq, Exit}
use Rattle.net_text.specs.declared.version.Version.{Version}
use Rattle.net_text.specs.declared.version.Version.TheVariants.{One, Two}
use Rattle.net_text.specs.Fits.{IsWritten, NetFits}
use Rattle.net_text.specs.Pieces.{line, place_text, ports_text, groups_text, mark_parts, control_parts}

-- the number by which the first line names a version
abbrev pub version_number : Version → ℕ
version_number One = 1
version_number Two = 2

-- the parts of each kind of line
abbrev pub version_parts : Version → List (List ℕ)
version_parts v = codes "elastic" ∷ decimal (version_number v) ∷ []

abbrev pub kernel_parts : List ℕ → List (List ℕ)
kernel_parts name = codes "kernel" ∷ name ∷ []

abbrev pub scalar_parts : Scalar → List (List ℕ)
scalar_parts s = codes "scalar" ∷ s.name ∷ ty_name s.ty ∷ []

abbrev pub array_parts : Array → List (List ℕ)
array_parts a = codes "array" ∷ a.name ∷ ty_name a.ty ∷ decimal a.len ∷ []

abbrev pub result_parts : Option Ty → List (List ℕ)
result_parts None = codes "result" ∷ codes "none" ∷ []
result_parts (Some t) = codes "result" ∷ ty_name t ∷ []

abbrev pub unit_parts : Version → Kind → List (List ℕ)
unit_parts v Entry = codes "unit" ∷ codes "entry" ∷ []
unit_parts v (Param j) = codes "unit" ∷ codes "param" ∷ decimal j ∷ []
unit_parts v (Const w n) = codes "unit" ∷ codes "const" ∷ decimal w ∷ decimal n ∷ []
unit_parts v (Op1 op) = codes "unit" ∷ codes "op1" ∷ op1_name op ∷ []
unit_parts v (Op2 op) = codes "unit" ∷ codes "op2" ∷ op2_name op ∷ []
unit_parts v (Select w) = codes "unit" ∷ codes "select" ∷ decimal w ∷ []
unit_parts v (Fork w n) = codes "unit" ∷ codes "fork" ∷ decimal w ∷ decimal n ∷ []
unit_parts v (Mux w n) = codes "unit" ∷ codes "mux" ∷ decimal w ∷ decimal n ∷ []
unit_parts v (Cmerge n) = codes "unit" ∷ codes "cmerge" ∷ decimal n ∷ []
unit_parts v (Branch w) = codes "unit" ∷ codes "branch" ∷ decimal w ∷ []
unit_parts v (Sink w) = codes "unit" ∷ codes "sink" ∷ decimal w ∷ []
unit_parts v (Read a) = codes "unit" ∷ codes "read" ∷ decimal a ∷ []
unit_parts v (Lsq a d ps gs f) = codes "unit" ∷ codes "lsq" ∷ decimal a ∷ decimal d ∷ ports_text ps ∷ groups_text gs ∷ mark_parts v f
unit_parts v Exit = codes "unit" ∷ codes "exit" ∷ []

abbrev pub chan_parts : Chan → List (List ℕ)
chan_parts c = codes "chan" ∷ place_text c.from ∷ place_text c.to ∷ decimal c.width ∷ decimal c.slots ∷ decimal c.delay ∷ control_parts c.ctl

abbrev pub end_parts : List (List ℕ)
end_parts = codes "end" ∷ []

-- the lines of the header, in order
abbrev pub header_lines : Version → Net → List (List (List ℕ))
header_lines v net = version_parts v ∷ kernel_parts net.name ∷ (map scalar_parts net.scalars ++ map array_parts net.arrays ++ result_parts net.result ∷ [])

-- all lines, in order
abbrev pub net_lines : Version → Net → List (List (List ℕ))
net_lines v net = header_lines v net ++ map (unit_parts v) net.units ++ map chan_parts net.chans ++ end_parts ∷ []

-- the text of a net
abbrev pub net_text : Version → Net → List ℕ
net_text v net = flat_map line (net_lines v net)

-- bytes are the text of a net in version 2
abbrev pub NetText : Net → List ℕ → Type 0
NetText net bytes = bytes ≡ net_text Two net

-- bytes are the text of a net in version 1, which a net with a marked queue has not
pub record OldText (net : Net) (bytes : List ℕ) : Type 0 where
  pub unmarked : All (IsWritten One) net.units
  pub text : bytes ≡ net_text One net

-- two nets that fit are one where a text is that of both; two texts of one net are one
abbrev pub IsOfOneNet : (Net → List ℕ → Type 0) → Type 0
IsOfOneNet Text = (m n : Net) (bytes : List ℕ) → NetFits m → NetFits n → Text m bytes → Text n bytes → m ≡ n

abbrev pub IsOneText : (Net → List ℕ → Type 0) → Type 0
IsOneText Text = (net : Net) (a b : List ℕ) → Text net a → Text net b → a ≡ b
