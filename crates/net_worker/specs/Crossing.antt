-- Units with a channel from or to another worker.
use Rattle.std.specs.Prelude.{◌≡◌, ◌≢◌, ℕ, ◌<◌, Bool, true, Option, None, List, length, get_or}
use Rattle.std.specs.List.{All}
use Rattle.net_types.specs.declared.net.Chan.{Chan}
use Rattle.net_types.specs.Nets.{nowhere}
use Rattle.net_worker.specs.declared.end_places.EndPlaces.{EndPlaces}

-- both units of the channel are marked, where they have two owners
abbrev pub IsMarked : List ℕ → List Bool → Chan → Type 0
IsMarked owners marks c = get_or owners c.from.unit 0 ≢ get_or owners c.to.unit 0 → (get_or marks c.from.unit true ≡ true) × (get_or marks c.to.unit true ≡ true)

-- so of each of these channels
abbrev pub AreMarked : List Chan → List ℕ → List Bool → Type 0
AreMarked chans owners marks = All (IsMarked owners marks) chans

-- both units of the channel have one owner
abbrev pub HasOneOwner : List ℕ → Chan → Type 0
HasOneOwner owners c = get_or owners c.from.unit 0 ≡ get_or owners c.to.unit 0

-- each channel has one owner for which no places of ends are noted
abbrev pub ArePlaced : List Chan → List ℕ → List (Option EndPlaces) → Type 0
ArePlaced chans owners ps = (i : ℕ) → i < length chans → get_or ps i None ≡ None → HasOneOwner owners (get_or chans i nowhere)
