-- Graphs as rows of targets, and walks in them.
use Rattle.std.specs.Prelude.{◌≡◌, ℕ, ◌<◌, List, [], ◌∷◌, length, get_or}

-- x stands in the list
abbrev pub In : List ℕ → ℕ → Type 0
In xs x = (i : ℕ) × (i < length xs) × (get_or xs i 0 ≡ x)

-- each node of ws follows the one before it, from u on, and the last is v
abbrev pub Walk : (ℕ → ℕ → Type 0) → ℕ → List ℕ → ℕ → Type 0
Walk Goes u [] v = u ≡ v
Walk Goes u (w ∷ ws) v = Goes u w × Walk Goes w ws v

abbrev pub Reaches : (ℕ → ℕ → Type 0) → ℕ → ℕ → Type 0
Reaches Goes u v = (ws : List ℕ) × Walk Goes u ws v

-- an edge of the graph that two lists give
abbrev pub Edge : List ℕ → List ℕ → ℕ → ℕ → Type 0
Edge from to u v = (e : ℕ) × (e < length from) × (get_or from e 0 ≡ u) × (get_or to e 0 ≡ v)

-- v stands in the row of u
abbrev pub InRow : List (List ℕ) → ℕ → ℕ → Type 0
InRow rows u v = In (get_or rows u []) v

-- a row of targets for each of n nodes, which names nodes only
pub record AreRows (n : ℕ) (from to : List ℕ) (rows : List (List ℕ)) : Type 0 where
  pub size : length rows ≡ n
  pub named : (u v : ℕ) → InRow rows u v → v < n
  pub sound : (u v : ℕ) → InRow rows u v → Edge from to u v
  pub whole : (u v : ℕ) → Edge from to u v → InRow rows u v

-- two tables of rows for the same edges, the second with each edge turned round
pub record AreTurned (n : ℕ) (ahead back : List (List ℕ)) : Type 0 where
  pub ahead_size : length ahead ≡ n
  pub back_size : length back ≡ n
  pub ahead_named : (u v : ℕ) → InRow ahead u v → v < n
  pub back_named : (u v : ℕ) → InRow back u v → v < n
  pub turned : (u v : ℕ) → InRow ahead u v → InRow back v u
  pub returned : (u v : ℕ) → InRow back u v → InRow ahead v u
