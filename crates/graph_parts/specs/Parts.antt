-- Nodes marked by their parts.
use Rattle.std.specs.Prelude.{◌≡◌, ◌≢◌, ℕ, ◌+◌, ◌<◌, ◌==◌, cond, List, length, get_or, slice_set}
use Rattle.graph_parts.specs.Graph.{Reaches}
use Rattle.graph_parts.specs.Search.{mark}

-- two nodes that reach each other
abbrev pub Both : (ℕ → ℕ → Type 0) → ℕ → ℕ → Type 0
Both Goes u v = Reaches Goes u v × Reaches Goes v u

-- some nodes have a mark that is not 0: whole parts, each with a mark of its own
pub record IsParted (n : ℕ) (Goes : ℕ → ℕ → Type 0) (marks : List ℕ) : Type 0 where
  pub size : length marks ≡ n
  pub joined : (u v : ℕ) → mark marks u ≢ 0 → mark marks u ≡ mark marks v → Reaches Goes u v
  pub whole : (u v : ℕ) → mark marks u ≢ 0 → Both Goes u v → mark marks v ≡ mark marks u
  pub rooted : (u k : ℕ) → mark marks u ≡ k + 2 → mark marks k ≡ k + 2
  pub none : (u : ℕ) → mark marks u ≢ 1

-- all nodes are marked
pub record ArePartsOf (n : ℕ) (Goes : ℕ → ℕ → Type 0) (marks : List ℕ) : Type 0 where
  pub parted : IsParted n Goes marks
  pub all : (u : ℕ) → u < n → mark marks u ≢ 0

-- the nodes of the list that have the mark 1 get the mark 0, and all else stays
pub record IsCleared (list : List ℕ) (j : ℕ) (marks after : List ℕ) : Type 0 where
  pub size : length after ≡ length marks
  pub kept : (v : ℕ) → mark marks v ≢ 1 → mark after v ≡ mark marks v
  pub cleared : (v : ℕ) → mark after v ≢ 1 → mark marks v ≡ 1 → mark after v ≡ 0
  pub gone : (i : ℕ) → i < j → i < length list → mark after (get_or list i 0) ≢ 1

-- one part more is marked, that of the root
pub record IsPartedMore (n : ℕ) (Goes : ℕ → ℕ → Type 0) (root : ℕ) (marks after : List ℕ) : Type 0 where
  pub parted : IsParted n Goes after
  pub kept : (v : ℕ) → mark marks v ≢ 0 → mark after v ≢ 0
  pub here : root < n → mark after root ≢ 0

abbrev pub cleared_marks : ℕ → List ℕ → List ℕ
cleared_marks v marks = cond (get_or marks v 0 == 1) (slice_set marks v 0) marks
