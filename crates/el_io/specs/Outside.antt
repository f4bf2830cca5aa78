-- What a call tells of the outside.
use Rattle.std.specs.Prelude.{◌≡◌, ℕ, ◌<◌, ◌≤◌, List, [], length, take, Option, Some, None}
use Rattle.std.specs.Io.KnownBytes.{append_known}
pub use Rattle.el_base.specs.Rises.{Rose}

-- what stands under a name: none where the object does not tell, and then the bytes, or none where there are none
abbrev pub Told : Type 0
Told = Option (Option (List ℕ))

-- it is told that the name holds these bytes
abbrev pub IsHeld : Told → List ℕ → Type 0
IsHeld told bytes = told ≡ Some (Some bytes)

-- where it is told, the name holds these bytes
abbrev pub MayHold : Told → List ℕ → Type 0
MayHold None bytes = Unit {0}
MayHold (Some None) bytes = ⊥
MayHold (Some (Some held)) bytes = held ≡ bytes

-- where it is told, the name holds more bytes than this
abbrev pub MayPass : Told → ℕ → Type 0
MayPass None max = Unit {0}
MayPass (Some None) max = ⊥
MayPass (Some (Some held)) max = max < length held

-- a read that gave all that a name holds, at most max bytes
pub record IsWhole (told : Told) (max : ℕ) (into : List ℕ) : Type 0 where
  pub bytes : MayHold told into
  pub bound : length into ≤ max

-- a read of something longer than max: nothing is read, it is counted, and max is kept
pub record IsLonger (told : Told) (max longs longs' long' : ℕ) (into : List ℕ) : Type 0 where
  pub more : MayPass told max
  pub none : into ≡ []
  pub rose : Rose longs longs'
  pub at : long' ≡ max

-- some first bytes of a piece were taken, at least one where there is one
pub record IsTaken (before now : Option (List ℕ)) (bytes : List ℕ) (n : ℕ) : Type 0 where
  pub within : n ≤ length bytes
  pub some : 0 < length bytes → 0 < n
  pub written : now ≡ append_known before (take n bytes)

-- a proper prefix of the bytes was written
pub record IsCut (before now : Option (List ℕ)) (bytes : List ℕ) : Type 0 where
  pub taken : ℕ
  pub proper : taken < length bytes
  pub written : now ≡ append_known before (take taken bytes)
