-- Words that the contracts of private functions cite, and no other: a search in depth.
use Rattle.std.specs.Prelude.{◌≡◌, ◌≢◌, ◌⊎◌, ℕ, ◌+◌, ◌<◌, ◌≤◌, Bool, true, false, not, cond, List, [], ◌∷◌, ◌++◌, length, get_or, slice_set, sum, count_by}
use Rattle.graph_parts.specs.Graph.{In, InRow}
use Rattle.graph_parts.specs.Topological.{IsOrdered}
use Rattle.graph_parts.specs.declared.topological.Deepening.{Deepening}

abbrev pub Seen : List Bool → ℕ → Type 0
Seen seen v = get_or seen v false ≡ true

-- the nodes that were met are those in the order and those on the path; of the row of a node all that stand from the place
-- left on were met; the path goes from each node to one of its row; and the order is right so far
pub record IsSearching (rows : List (List ℕ)) (seen : List Bool) (left path order : List ℕ) : Type 0 where
  pub seen_size : length seen ≡ length rows
  pub left_size : length left ≡ length rows
  pub few : (u : ℕ) → get_or left u 0 ≤ length (get_or rows u [])
  pub looked : (u k : ℕ) → get_or left u 0 ≤ k → k < length (get_or rows u []) → Seen seen (get_or (get_or rows u []) k 0)
  pub linked : (i : ℕ) → i + 1 < length path → InRow rows (get_or path i 0) (get_or path (i + 1) 0)
  pub met : (v : ℕ) → Seen seen v → In order v ⊎ In path v
  pub path_seen : (i : ℕ) → i < length path → Seen seen (get_or path i 0)
  pub order_seen : (i : ℕ) → i < length order → Seen seen (get_or order i 0)
  pub apart : (i j : ℕ) → i < length order → j < length path → get_or order i 0 ≢ get_or path j 0
  pub ordered : IsOrdered rows order

abbrev pub IsDeepening : List (List ℕ) → Deepening → List ℕ → Type 0
IsDeepening rows s path = IsSearching rows s.seen.items s.left.items path s.order.items

-- no node is on the path
abbrev pub IsEnded : List (List ℕ) → Deepening → Type 0
IsEnded rows s = IsSearching rows s.seen.items s.left.items s.path.items s.order.items × (s.path.items ≡ [])

-- what was met stays so
abbrev pub AreKept : Deepening → Deepening → Type 0
AreKept s t = (v : ℕ) → Seen s.seen.items v → Seen t.seen.items v

pub record IsDeeper (rows : List (List ℕ)) (root : ℕ) (s t : Deepening) : Type 0 where
  pub ended : IsEnded rows t
  pub kept : AreKept s t
  pub here : Seen t.seen.items root

-- what is still to do, by a path
abbrev pub work : Deepening → List ℕ → ℕ
work s path = sum s.left.items + length path + count_by not s.seen.items

-- one step from the node behind the path
pub record IsAdvanced (rows : List (List ℕ)) (node : ℕ) (s t : Deepening) : Type 0 where
  pub searching : IsDeepening rows t t.path.items
  pub kept : AreKept s t
  pub less : work t t.path.items < work s (s.path.items ++ node ∷ [])

abbrev pub met_seen : ℕ → List Bool → List Bool
met_seen v seen = cond (get_or seen v false) seen (slice_set seen v true)

abbrev pub met_path : ℕ → List Bool → List ℕ → List ℕ
met_path v seen path = cond (get_or seen v false) path (path ++ v ∷ [])
