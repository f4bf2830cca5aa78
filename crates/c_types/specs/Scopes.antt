-- Scopes, the innermost first, each with its names, the latest first.
use Rattle.std.specs.Prelude.{ℕ, ◌==◌, List, [], ◌∷◌, Bool, true, reverse, map, flat_map, Option, is_none, if◌then◌else◌}
use Rattle.std.specs.Cmp.Lexicographic.{pointwise}
use Rattle.std.specs.Map.{lookup}
use Rattle.std.specs.HashMap.{HashMap}

module _ {T : Type 0} where
  -- what a name stands for: its innermost declaration
  abbrev pub declared_in : List (List (List ℕ × T)) → List ℕ → Option T
  declared_in scopes x = lookup (pointwise ◌==◌ x) (flat_map (λ s. s) scopes)

  -- whether a name is not yet declared in the innermost scope
  abbrev pub is_new_in : List (List (List ℕ × T)) → List ℕ → Bool
  is_new_in [] x = true
  is_new_in (s ∷ ss) x = is_none (lookup (pointwise ◌==◌ x) s)

  -- with a name in the innermost scope, unless it is declared there already
  abbrev pub with_entry : List ℕ → T → List (List (List ℕ × T)) → List (List (List ℕ × T))
  with_entry x t [] = ((x, t) ∷ []) ∷ []
  with_entry x t (s ∷ ss) = (if is_none (lookup (pointwise ◌==◌ x) s) then (x, t) ∷ s else s) ∷ ss

  -- the entries of a map that keeps their order, from the last to the first
  abbrev pub latest_first : {S : Type 0} → HashMap (List ℕ) T S → List (List ℕ × T)
  latest_first m = reverse m.entries

  abbrev pub outer_scopes : {S : Type 0} → List (HashMap (List ℕ) T S) → List (List (List ℕ × T))
  outer_scopes ms = reverse (map latest_first ms)

  -- after the end of the innermost scope, unless it is the only one
  abbrev pub without_innermost : List (List (List ℕ × T)) → List (List (List ℕ × T))
  without_innermost (s ∷ s2 ∷ ss) = s2 ∷ ss
  without_innermost (s ∷ []) = s ∷ []
  without_innermost [] = []

-- the same scopes, with what each name stands for told in other words
module _ {A B : Type 0} (f : A → B) where
  abbrev pub scope_by : List (List ℕ × A) → List (List ℕ × B)
  scope_by [] = []
  scope_by (e ∷ es) = (e.0, f e.1) ∷ scope_by es

  abbrev pub scopes_by : List (List (List ℕ × A)) → List (List (List ℕ × B))
  scopes_by [] = []
  scopes_by (s ∷ ss) = scope_by s ∷ scopes_by ss
