-- Private: only contracts of private functions cite it. The accesses sorted by their arrays, and what a queue has for its own.
use Rattle.std.specs.Prelude.{◌≡◌, ◌<◌, ◌==◌, ℕ, max, List, [], ◌∷◌, ◌++◌, filter, length, get_or, set, slice_get, Option, Some, None}
use Rattle.ir.specs.declared.graph.Block.{Block}
use Rattle.ir.specs.declared.groups.Access.{Access}
use Rattle.net_types.specs.declared.net.Port.{Port}
use Rattle.circuit_build.specs.declared.draft.Draft.{Draft}
use Rattle.circuit_build.specs.Drafts.{number}
use Rattle.circuit_build.specs.Fronts.{steps_of, ports_at, ports_of, numbers_from, number_after, groups_from, depth_from, queue_if}

-- ---- the accesses of one array

abbrev pub own : ℕ → List Access → List Access
own a xs = filter (λ x. x.array == a) xs

abbrev pub with_one : Option Access → List Access → List Access
with_one None xs = xs
with_one (Some x) xs = x ∷ xs

-- the accesses at some places
abbrev pub picked : List Access → List ℕ → List Access
picked xs [] = []
picked xs (i ∷ is) = with_one (slice_get xs i) (picked xs is)

-- the table with a place more for an array
abbrev pub put_at : List (List ℕ) → ℕ → ℕ → List (List ℕ)
put_at table a i = set table a (get_or table a [] ++ i ∷ [])

-- the table has for each of n arrays the places of its accesses, in order
pub record ArePlaces (n : ℕ) (xs : List Access) (table : List (List ℕ)) : Type 0 where
  pub many : length table ≡ n
  pub each : (a : ℕ) → a < n → picked xs (get_or table a []) ≡ own a xs

-- ---- the ports, groups and depth of a queue that has all of these accesses

abbrev pub ports_for : List Block → Access → List Port
ports_for blocks x = ports_at (steps_of (slice_get blocks x.block)) x.steps

abbrev pub all_ports : List Block → List Access → List Port
all_ports blocks [] = []
all_ports blocks (x ∷ xs) = ports_for blocks x ++ all_ports blocks xs

abbrev pub all_groups : ℕ → List Access → List (List ℕ)
all_groups p [] = []
all_groups p (x ∷ xs) = numbers_from p x.steps ∷ all_groups (number_after p x.steps) xs

abbrev pub greatest_depth : ℕ → List Access → ℕ
greatest_depth m [] = m
greatest_depth m (x ∷ xs) = greatest_depth (max m (number (length x.steps))) xs

-- the queue of an array among all accesses, where some access is its own
abbrev pub own_queue : List Block → List Access → ℕ → Draft → Draft
own_queue blocks xs a d = queue_if a (ports_of a blocks xs) (groups_from a 0 xs) (depth_from a 16 xs) d
