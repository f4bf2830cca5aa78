-- Private: only contracts of this crate cite it. What the opening state is made of.
use Rattle.std.specs.Prelude.{◌≡◌, ℕ, ◌<◌, true, Option, Some, None, List, [], length, get_or, set}
use Rattle.std.specs.List.{AllZip}
use Rattle.net_types.specs.declared.net.Unit.{Unit as Kind}
use Rattle.net_types.specs.declared.net.Unit.TheVariants.{Sink}
use Rattle.net_types.specs.Nets.{owns}
use Rattle.net_check.specs.Headers.{is_exit}
use Rattle.net_core.specs.declared.cell.Cell.{Cell}
use Rattle.net_core.specs.declared.opening.Home.{Home}
use Rattle.net_core.specs.declared.opening.Home.TheVariants as home
use Rattle.net_core.specs.Fire.{at_array, opened}
use Rattle.net_core.specs.Plans.{own_of, keeps, IsShaped}

-- the cell of a unit at first, with its array where it is a queue
pub record IsFresh (arrays : List (List ℕ)) (k : Kind) (c : Cell) : Type 0 where
  pub own : own_of c ≡ opened k
  pub kept : keeps k c ≡ true
  pub shaped : IsShaped k c (at_array arrays (owns k))

-- a fresh cell for each unit
abbrev pub AreFresh : List (List ℕ) → List Kind → List Cell → Type 0
AreFresh arrays ks cs = AllZip (IsFresh arrays) ks cs

-- the queues among the first n units, by their arrays
pub record AreOwners (units : List Kind) (n : ℕ) (owners : List (Option ℕ)) : Type 0 where
  pub sound : (a u : ℕ) → get_or owners a None ≡ Some u → owns (get_or units u (Sink 0)) ≡ Some a
  pub each : (u a : ℕ) → u < n → owns (get_or units u (Sink 0)) ≡ Some a → a < length owners → get_or owners a None ≡ None → ⊥

-- the owners with one more queue
abbrev pub owners_with : Option ℕ → ℕ → List (Option ℕ) → List (Option ℕ)
owners_with None u owners = owners
owners_with (Some a) u owners = set owners a (Some u)

-- where an array lies, by its owner
abbrev pub home_by : Option ℕ → List ℕ → Home
home_by None xs = home.Here xs
home_by (Some u) xs = home.Queue u

-- the homes of the first arrays
pub record AreHomes (owners : List (Option ℕ)) (arrays : List (List ℕ)) (homes : List Home) : Type 0 where
  pub each : (a : ℕ) → a < length homes → get_or homes a (home.Here []) ≡ home_by (get_or owners a None) (get_or arrays a [])

-- an exit has this number, where there is one among the units
abbrev pub IsExitIn : List Kind → ℕ → Type 0
IsExitIn units x = (u : ℕ) → is_exit (get_or units u (Sink 0)) ≡ true → is_exit (get_or units x (Sink 0)) ≡ true
