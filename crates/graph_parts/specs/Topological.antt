-- Graphs without cycles, and their nodes in an order in which each stands behind those of its row.
use Rattle.std.specs.Prelude.{◌≡◌, ◌≢◌, ℕ, ◌<◌, List, length, get_or}
use Rattle.graph_parts.specs.Graph.{In, InRow, Reaches}

-- no node can be reached from itself by an edge and more
abbrev pub IsAcyclic : (ℕ → ℕ → Type 0) → Type 0
IsAcyclic Goes = (u v : ℕ) → Goes u v → Reaches Goes v u → ⊥

-- the rows name nodes only
abbrev pub AreNodes : List (List ℕ) → Type 0
AreNodes rows = (u v : ℕ) → InRow rows u v → v < length rows

-- v stands in the list before the place i
abbrev pub Before : List ℕ → ℕ → ℕ → Type 0
Before order i v = (j : ℕ) × (j < i) × (get_or order j 0 ≡ v)

-- some nodes, each once, and behind those of its row
pub record IsOrdered (rows : List (List ℕ)) (order : List ℕ) : Type 0 where
  pub named : (i : ℕ) → i < length order → get_or order i 0 < length rows
  pub once : (i j : ℕ) → i < j → j < length order → get_or order i 0 ≢ get_or order j 0
  pub before : (i v : ℕ) → i < length order → InRow rows (get_or order i 0) v → Before order i v

-- and all of them
pub record IsTopological (rows : List (List ℕ)) (order : List ℕ) : Type 0 where
  pub ordered : IsOrdered rows order
  pub whole : (u : ℕ) → u < length rows → In order u
