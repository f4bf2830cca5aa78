-- The order of accesses.
use Rattle.std.specs.Prelude.{◌≡◌, ◌<◌, ◌⊎◌, List, [], ◌∷◌}
use Rattle.std.specs.List.{AllByRecursion}
use Rattle.ir.specs.declared.groups.Access.{Access}

-- of an earlier block, or of the same block and an earlier array
abbrev pub IsBefore : Access → Access → Type 0
IsBefore x y = (x.block < y.block) ⊎ ((x.block ≡ y.block) × (x.array < y.array))

-- each access is before all that come after it
abbrev pub AreInOrder : List Access → Type 0
AreInOrder [] = Unit {0}
AreInOrder (x ∷ xs) = AllByRecursion (IsBefore x) xs × AreInOrder xs
