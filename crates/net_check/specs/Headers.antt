-- Rule C8: the header, and the units that it asks for.
use Rattle.std.specs.Prelude.{◌≡◌, ◌≢◌, ◌⊎◌, ℕ, ◌<◌, ◌≤◌, ◌==◌, Bool, true, false, List, ◌++◌, length, take, map, sum_by, count_by}
use Rattle.std.specs.List.{All, AllPairs}
use Rattle.el_base.specs.declared.ty.Scalar.{Scalar}
use Rattle.el_base.specs.declared.ty.Array.{Array}
use Rattle.el_base.specs.Limits.{max_elements}
use Rattle.net_types.specs.declared.net.Net.{Net}
use Rattle.net_types.specs.declared.net.Unit.{Unit as Kind}
use Rattle.net_types.specs.declared.net.Unit.TheVariants.{Entry, Param, Const, Op1, Op2, Select, Fork, Mux, Cmerge, Branch, Sink, Read, Lsq, Exit}
use Rattle.net_types.specs.Nets.{kind_of}
use Rattle.net_check.specs.declared.refusal.At.{At}
use Rattle.net_check.specs.declared.refusal.At.TheVariants as «at»
use Rattle.net_check.specs.Lowest.{IsLowest}

abbrev pub is_entry : Kind → Bool
is_entry Entry = true
is_entry _ = false

abbrev pub is_exit : Kind → Bool
is_exit Exit = true
is_exit _ = false

-- the unit puts the scalar j
abbrev pub is_param : ℕ → Kind → Bool
is_param j (Param i) = i == j
is_param j _ = false

-- the unit reads the array a
abbrev pub is_read : ℕ → Kind → Bool
is_read a (Read b) = b == a
is_read a _ = false

-- the unit is a queue of the array a
abbrev pub is_queue : ℕ → Kind → Bool
is_queue a (Lsq b d ps gs f) = b == a
is_queue a _ = false

-- a scalar or array that the unit names is in the header
abbrev pub IsNamed : Net → Kind → Type 0
IsNamed net Entry = Unit {0}
IsNamed net (Param j) = j < length net.scalars
IsNamed net (Const w n) = Unit {0}
IsNamed net (Op1 op) = Unit {0}
IsNamed net (Op2 op) = Unit {0}
IsNamed net (Select w) = Unit {0}
IsNamed net (Fork w n) = Unit {0}
IsNamed net (Mux w n) = Unit {0}
IsNamed net (Cmerge n) = Unit {0}
IsNamed net (Branch w) = Unit {0}
IsNamed net (Sink w) = Unit {0}
IsNamed net (Read a) = a < length net.arrays
IsNamed net (Lsq a d ps gs f) = a < length net.arrays
IsNamed net Exit = Unit {0}

-- the names of the header, in order
abbrev pub header_names : Net → List (List ℕ)
header_names net = map (λ (s : Scalar). s.name) net.scalars ++ map (λ (a : Array). a.name) net.arrays

-- each array has 1 element and more, and all together have no more than one array may have
pub record AreSized (arrays : List Array) : Type 0 where
  pub some : All (λ (a : Array). 0 < a.len) arrays
  pub together : sum_by (λ (a : Array). a.len) arrays ≤ max_elements

-- what the rule says of the header alone: distinct names, and the sizes of arrays
pub record IsHeader (net : Net) : Type 0 where
  pub names : AllPairs (λ x y. x ≢ y) (header_names net)
  pub arrays : AreSized net.arrays

-- C8: the header is as above; there are one Entry and one Exit, and each scalar has one Param; each Param, Read and
-- queue names a scalar or an array of the header; an array has one queue at most, and then no Read
pub record KeepsC8 (net : Net) : Type 0 where
  pub header : IsHeader net
  pub one_entry : count_by is_entry net.units ≡ 1
  pub one_exit : count_by is_exit net.units ≡ 1
  pub one_param : (j : ℕ) → j < length net.scalars → count_by (is_param j) net.units ≡ 1
  pub named : All (IsNamed net) net.units
  pub one_queue : (a : ℕ) → count_by (is_queue a) net.units ≤ 1
  pub unread : (a : ℕ) → 0 < count_by (is_queue a) net.units → count_by (is_read a) net.units ≡ 0

-- the unit stands after another that the rule allows once only: an Entry, an Exit, a Param of a scalar, a queue of an array
abbrev pub IsSecond : List Kind → Kind → Type 0
IsSecond earlier Entry = 0 < count_by is_entry earlier
IsSecond earlier (Param j) = 0 < count_by (is_param j) earlier
IsSecond earlier (Const w n) = ⊥
IsSecond earlier (Op1 op) = ⊥
IsSecond earlier (Op2 op) = ⊥
IsSecond earlier (Select w) = ⊥
IsSecond earlier (Fork w n) = ⊥
IsSecond earlier (Mux w n) = ⊥
IsSecond earlier (Cmerge n) = ⊥
IsSecond earlier (Branch w) = ⊥
IsSecond earlier (Sink w) = ⊥
IsSecond earlier (Read a) = ⊥
IsSecond earlier (Lsq a d ps gs f) = 0 < count_by (is_queue a) earlier
IsSecond earlier Exit = 0 < count_by is_exit earlier

-- the unit reads an array that has a queue, anywhere in the net
abbrev pub ReadsQueued : Net → Kind → Type 0
ReadsQueued net Entry = ⊥
ReadsQueued net (Param j) = ⊥
ReadsQueued net (Const w n) = ⊥
ReadsQueued net (Op1 op) = ⊥
ReadsQueued net (Op2 op) = ⊥
ReadsQueued net (Select w) = ⊥
ReadsQueued net (Fork w n) = ⊥
ReadsQueued net (Mux w n) = ⊥
ReadsQueued net (Cmerge n) = ⊥
ReadsQueued net (Branch w) = ⊥
ReadsQueued net (Sink w) = ⊥
ReadsQueued net (Read a) = 0 < count_by (is_queue a) net.units
ReadsQueued net (Lsq a d ps gs f) = ⊥
ReadsQueued net Exit = ⊥

-- the unit is at fault by the rule
pub record IsFaultyC8 (net : Net) (u : ℕ) : Type 0 where
  pub within : u < length net.units
  pub fault : (IsNamed net (kind_of net u) → ⊥) ⊎ (IsSecond (take u net.units) (kind_of net u) ⊎ ReadsQueued net (kind_of net u))

-- the culprit: the lowest unit at fault, else the net
abbrev pub CulpritC8 : Net → At → Type 0
CulpritC8 net (at.Unit u) = IsLowest (IsFaultyC8 net) u
CulpritC8 net (at.Chan c) = ⊥
CulpritC8 net at.Net = ((u : ℕ) → IsFaultyC8 net u → ⊥) × (KeepsC8 net → ⊥)
