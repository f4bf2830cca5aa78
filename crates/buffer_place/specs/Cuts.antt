-- Words that the contracts of private functions cite, and no other: levels of units as they are found, in a topological order,
-- and what cuts chains of channels whose classes have delay 0.
use Rattle.std.specs.Prelude.{◌≡◌, ℕ, ◌+◌, ◌==◌, ◌&&◌, nat_lt, nat_le, cond, List, [], ◌∷◌, replicate, map, length, get_or, slice_get, slice_set, Option, Some, None}
use Rattle.net_types.specs.declared.net.Chan.{Chan}
use Rattle.net_types.specs.declared.net.Net.{Net}
use Rattle.net_types.specs.Nets.{kind_of}
use Rattle.graph_parts.specs.Graph.{AreRows}
use Rattle.graph_parts.specs.Topological.{IsTopological}
use Rattle.buffer_place.specs.declared.timing.Timing.{Timing}
use Rattle.buffer_place.specs.Timings.{source_delay}
use Rattle.buffer_place.specs.declared.cuts.Cuts.{Cuts}
use Rattle.buffer_place.specs.declared.cuts.Cuts.TheVariants.{Cycles, Chains}
use Rattle.buffer_place.specs.Edges.{sources, targets, AreUnitParts, marked_delay, is_ahead, staying}
use Rattle.buffer_place.specs.Chains.{weight, is_low}

-- the level of a unit of this weight raised to that of a unit before it and the weight together, where they are at most the depth
abbrev pub raised_by : ℕ → ℕ → ℕ → Option ℕ → ℕ
raised_by depth weight level None = level
raised_by depth weight level (Some before) = cond (nat_le (before + weight) depth && nat_lt level (before + weight)) (before + weight) level

-- and by all units of a list
abbrev pub raised : ℕ → ℕ → List ℕ → List ℕ → ℕ → ℕ
raised depth weight levels [] level = level
raised depth weight levels (v ∷ vs) level = raised depth weight levels vs (raised_by depth weight level (slice_get levels v))

-- the level of a unit, from the row of the units that channels into it leave
abbrev pub level_of : ℕ → Net → List ℕ → ℕ → List ℕ → ℕ
level_of depth net levels u row = raised depth (weight (kind_of net u)) levels row (weight (kind_of net u))

-- the levels with those of the units of the list, one after the other
abbrev pub levels_by : ℕ → Net → List (List ℕ) → List ℕ → List ℕ → List ℕ
levels_by depth net rows [] levels = levels
levels_by depth net rows (u ∷ us) levels = levels_by depth net rows us (slice_set levels u (level_of depth net levels u (get_or rows u [])))

-- for each unit the units that the channels into it leave, over those that may stay without delay
abbrev pub AreSourceRows : Timing → Net → List ℕ → List (List ℕ) → Type 0
AreSourceRows t net marks rows = AreRows (length net.units) (targets (staying t net marks net.chans)) (sources (staying t net marks net.chans)) rows

-- the levels of all units, one after the other, each behind the units of its row
pub record AreUnitLevels (t : Timing) (depth : ℕ) (net : Net) (marks levels : List ℕ) : Type 0 where
  pub rows : List (List ℕ)
  pub are_rows : AreSourceRows t net marks rows
  pub order : List ℕ
  pub topological : IsTopological rows order
  pub are_levels : levels ≡ levels_by depth net rows order (replicate (length rows) 0)

abbrev pub level_at : List ℕ → ℕ → ℕ
level_at levels u = get_or levels u 0

-- what the timing asks for: marks of the parts of units, and their levels by the depth, if any
abbrev pub AreCutsFor : Timing → Option ℕ → Net → Cuts → Type 0
AreCutsFor t None net (Cycles marks) = AreUnitParts t net marks.items
AreCutsFor t None net (Chains depth marks levels) = ⊥
AreCutsFor t (Some d) net (Cycles marks) = ⊥
AreCutsFor t (Some d) net (Chains depth marks levels) = (depth ≡ d) × (AreUnitParts t net marks.items × AreUnitLevels t d net marks.items levels.items)

-- a mark, and a level, for each of so many units
abbrev pub AreCutsOf : ℕ → Cuts → Type 0
AreCutsOf n (Cycles marks) = length marks.items ≡ n
AreCutsOf n (Chains depth marks levels) = (length marks.items ≡ n) × (length levels.items ≡ n)

-- the delay of the class; where that is 0 and the channel is not ahead or not low, 1
abbrev pub chain_delay : Timing → ℕ → List ℕ → (ℕ → ℕ) → Net → Chan → ℕ
chain_delay t depth marks level net c = cond (source_delay t net c == 0) (cond (is_ahead marks c && is_low depth level net c) 0 1) (source_delay t net c)

abbrev pub cut_delay : Timing → Net → Cuts → Chan → ℕ
cut_delay t net (Cycles marks) c = marked_delay t net marks.items c
cut_delay t net (Chains depth marks levels) c = chain_delay t depth marks.items (level_at levels.items) net c

-- a channel with other slots and the delay that a rule gives it
abbrev pub timed_by : (Chan → ℕ) → ℕ → Chan → Chan
timed_by delay slots c = record c { slots = slots; delay = delay c }

abbrev pub cut_chans : Timing → Net → Cuts → ℕ → List Chan → List Chan
cut_chans t net cuts slots cs = map (timed_by (cut_delay t net cuts) slots) cs
