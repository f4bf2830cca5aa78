-- Nets whose numbers fit their fields, and whose names are names; and what a version has words for.
use Rattle.std.specs.Prelude.{◌≡◌, ℕ, ◌<◌, ◌^◌, Bool, false, List, IsTrue}
use Rattle.el_base.specs.Limits.{IsNumbered}
use Rattle.std.specs.List.{All}
use Rattle.el_base.specs.Words.{is_identifier}
use Rattle.el_base.specs.declared.ty.Array.{Array}
use Rattle.el_base.specs.declared.ty.Scalar.{Scalar}
use Rattle.net_types.specs.declared.net.Place.{Place}
use Rattle.net_types.specs.declared.net.Chan.{Chan}
use Rattle.net_types.specs.declared.net.Net.{Net}
use Rattle.net_types.specs.declared.net.Unit.{Unit as Kind}
use Rattle.net_types.specs.declared.net.Unit.TheVariants.{Entry, Param, Const, Op1, Op2, Select, Fork, Mux, Cmerge, Branch, Sink, Read, Lsq, Exit}
use Rattle.net_text.specs.declared.version.Version.{Version}
use Rattle.net_text.specs.declared.version.Version.TheVariants.{One, Two}

abbrev pub FitsU64 : ℕ → Type 0
FitsU64 n = n < 2 ^ 64

-- what always fits
abbrev pub Always : {V : Type 0} → V → Type 0
Always v = Unit {0}

pub record PlaceFits (p : Place) : Type 0 where
  pub unit : IsNumbered p.unit
  pub place : IsNumbered p.place

abbrev pub GroupFits : List ℕ → Type 0
GroupFits = All IsNumbered

abbrev pub GroupsFit : List (List ℕ) → Type 0
GroupsFit = All GroupFits

abbrev pub NameFits : List ℕ → Type 0
NameFits name = IsTrue (is_identifier name)

abbrev pub ScalarFits : Scalar → Type 0
ScalarFits s = NameFits s.name

pub record ArrayFits (a : Array) : Type 0 where
  pub name : NameFits a.name
  pub len : FitsU64 a.len

-- the numbers of a queue
pub record QueueFits (a d : ℕ) (gs : List (List ℕ)) : Type 0 where
  pub array : IsNumbered a
  pub depth : IsNumbered d
  pub groups : GroupsFit gs

abbrev pub UnitFits : Kind → Type 0
UnitFits Entry = Unit {0}
UnitFits (Param j) = IsNumbered j
UnitFits (Const w v) = IsNumbered w × FitsU64 v
UnitFits (Op1 op) = Unit {0}
UnitFits (Op2 op) = Unit {0}
UnitFits (Select w) = IsNumbered w
UnitFits (Fork w n) = IsNumbered w × IsNumbered n
UnitFits (Mux w n) = IsNumbered w × IsNumbered n
UnitFits (Cmerge n) = IsNumbered n
UnitFits (Branch w) = IsNumbered w
UnitFits (Sink w) = IsNumbered w
UnitFits (Read a) = IsNumbered a
UnitFits (Lsq a d ps gs f) = QueueFits a d gs
UnitFits Exit = Unit {0}

pub record ChanFits (c : Chan) : Type 0 where
  pub from : PlaceFits c.from
  pub to : PlaceFits c.to
  pub width : IsNumbered c.width
  pub slots : IsNumbered c.slots
  pub delay : IsNumbered c.delay

-- a net's header: the names and the sizes of its parameters
pub record HeaderFits (net : Net) : Type 0 where
  pub name : NameFits net.name
  pub scalars : All ScalarFits net.scalars
  pub arrays : All ArrayFits net.arrays

-- a net that the types of its fields can hold
pub record NetFits (net : Net) : Type 0 where
  pub name : NameFits net.name
  pub scalars : All ScalarFits net.scalars
  pub arrays : All ArrayFits net.arrays
  pub units : All UnitFits net.units
  pub chans : All ChanFits net.chans

-- version 1 has no word for a mark
abbrev pub MarkFits : Version → Bool → Type 0
MarkFits One f = f ≡ false
MarkFits Two f = Unit {0}

-- a version has a text for a unit
abbrev pub IsWritten : Version → Kind → Type 0
IsWritten v Entry = Unit {0}
IsWritten v (Param j) = Unit {0}
IsWritten v (Const w n) = Unit {0}
IsWritten v (Op1 op) = Unit {0}
IsWritten v (Op2 op) = Unit {0}
IsWritten v (Select w) = Unit {0}
IsWritten v (Fork w n) = Unit {0}
IsWritten v (Mux w n) = Unit {0}
IsWritten v (Cmerge n) = Unit {0}
IsWritten v (Branch w) = Unit {0}
IsWritten v (Sink w) = Unit {0}
IsWritten v (Read a) = Unit {0}
IsWritten v (Lsq a d ps gs f) = MarkFits v f
IsWritten v Exit = Unit {0}

-- a unit, and a net, that a version can write
abbrev pub WritesUnit : Version → Kind → Type 0
WritesUnit v u = UnitFits u × IsWritten v u

pub record Writes (v : Version) (net : Net) : Type 0 where
  pub fits : NetFits net
  pub written : All (IsWritten v) net.units
