-- Private: only contracts of this crate cite it. What is left of the logs of workers, in the order in which they are merged.
use Rattle.std.specs.Prelude.{◌≡◌, ℕ, suc, ◌<◌, cond, nat_lt, Option, Some, None, List, [], ◌∷◌, length, get_or, drop}
use Rattle.net_types.specs.declared.firing.Firing.{Firing}
use Rattle.net_worker.specs.Merged.{Head, earlier, earliest, merged, entries_of}
use Rattle.firing_log.specs.declared.entry.Entry.{Entry}
use Rattle.worker_run.specs.declared.order.Left.{Left}
use Rattle.worker_run.specs.declared.order.Rests.{Rests}

abbrev pub rests_of : Rests → List (List Entry)
rests_of r = r.logs.items

-- the head that an entry is
abbrev pub head_as : List (List Entry) → Left → Head
head_as rests l = record { at = l.worker; entry = l.entry; rest = drop 1 (get_or rests l.worker []) }

abbrev pub head_if : List (List Entry) → Option Left → Option Head
head_if rests None = None
head_if rests (Some l) = Some (head_as rests l)

-- the second where its stamp is lower than the first's
abbrev pub earlier_of : Option Left → Left → Left
earlier_of None m = m
earlier_of (Some l) m = cond (nat_lt m.entry.stamp l.entry.stamp) m l

abbrev pub IsEarlierOf : Option Left → Option Left → Left → Type 0
IsEarlierOf result first second = result ≡ Some (earlier_of first second)

-- an entry of one of the logs
abbrev pub IsLeft : List (List Entry) → Option Left → Type 0
IsLeft rests None = Unit {0}
IsLeft rests (Some l) = l.worker < length rests

-- the earliest of what is left, and none where nothing is left
pub record IsFirstLeft (rests : List (List Entry)) (o : Option Left) : Type 0 where
  pub is : head_if rests o ≡ earliest 0 rests
  pub left : IsLeft rests o

-- the merged log goes on with this firing, and then with what is left after it; or nothing is left
abbrev pub IsNextOf : Option Firing → List (List Entry) → List (List Entry) → Type 0
IsNextOf None old new = (merged old ≡ []) × (entries_of old ≡ 0)
IsNextOf (Some f) old new = (merged old ≡ f ∷ merged new) × (entries_of old ≡ suc (entries_of new))
