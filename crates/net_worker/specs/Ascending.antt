-- The merged log in standard terms: all entries in ascending order.
use Rattle.std.specs.Prelude.{◌≡◌, ℕ, ◌≤◌, ◌==◌, List, [], get_or, map}
use Rattle.std.specs.List.{AllPairs, filter}
use Rattle.net_worker.specs.Merged.{merged, RisesFrom}
use Rattle.firing_log.specs.declared.entry.Entry.{Entry}

-- an entry, with the number of the worker in whose log it is
pub record LoggedEntry : Type 0 where
  pub worker : ℕ
  pub entry : Entry

-- the entries of one worker, in the order in which the list has them
abbrev pub entries_by : ℕ → List LoggedEntry → List Entry
entries_by w xs = map (λ (x : LoggedEntry). x.entry) (filter (λ (x : LoggedEntry). x.worker == w) xs)

-- the order of stamps, and of entries with one stamp that of their workers
pub record IsNotAfter (x y : LoggedEntry) : Type 0 where
  pub stamps : x.entry.stamp ≤ y.entry.stamp
  pub workers : x.entry.stamp ≡ y.entry.stamp → x.worker ≤ y.worker

-- the list has the entries of each log, in their order, and no others; and it ascends
pub record IsInOrder (logs : List (List Entry)) (xs : List LoggedEntry) : Type 0 where
  pub each : (w : ℕ) → entries_by w xs ≡ get_or logs w []
  pub ascends : AllPairs IsNotAfter xs

-- there is one such list, and the merged log has its firings
pub record IsMergedInOrder (logs : List (List Entry)) : Type 0 where
  pub entries : List LoggedEntry
  pub in_order : IsInOrder logs entries
  pub only : (others : List LoggedEntry) → IsInOrder logs others → others ≡ entries
  pub firings : merged logs ≡ map (λ (x : LoggedEntry). x.entry.firing) entries

-- so of all logs whose stamps never fall
abbrev pub MergedAscends : Type 0
MergedAscends = (logs : List (List Entry)) → ((v : ℕ) → RisesFrom 0 (get_or logs v [])) → IsMergedInOrder logs
