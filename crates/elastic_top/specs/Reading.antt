-- How the reading of a command's files ends.
use Rattle.std.specs.Prelude.{◌≡◌, ◌<◌, ℕ, List, [], ◌∷◌, get_or, length, map, take, Result, Ok, Err}
use Rattle.std.specs.declared.vec.Vec.{Vec}
use Rattle.std.specs.declared.alloc.Global.{Global}
use Rattle.el_io.specs.Outside.{Told, IsHeld, IsWhole, MayPass}
use Rattle.command_words.specs.Tables.{Text}
use Rattle.elastic_top.specs.Files.{Wanted}
use Rattle.elastic_top.specs.Faults.{fault_code}
use Rattle.elastic_top.specs.declared.reading.File.{File}
use Rattle.elastic_top.specs.declared.fault.Fault.{Fault}
use Rattle.elastic_top.specs.declared.fault.Fault.TheVariants.{Usage, Read, Write, Memory, TooLong, Refused}

-- the status of a part: 0, or that of its fault
abbrev pub code_of : {A : Type 0} → Result A Fault → ℕ
code_of (Ok x) = 0
code_of (Err f) = fault_code f

abbrev pub contents_of : List (Vec ℕ Global) → List Text
contents_of contents = map (λ bytes. bytes.items) contents

abbrev pub file_of : File → Wanted
file_of file = record { name = file.name.now; limit = file.limit }

-- the files hold these contents, each within its limit, where it is told what they hold
abbrev pub AreHeld : (Text → Told) → List Wanted → List Text → Type 0
AreHeld holds [] [] = Unit {0}
AreHeld holds [] (bytes ∷ contents) = ⊥
AreHeld holds (file ∷ files) [] = ⊥
AreHeld holds (file ∷ files) (bytes ∷ contents) = IsWhole (holds file.name) file.limit bytes × AreHeld holds files contents

-- the file at a place of the list, counted from 0, where all before it are read
pub record IsReached (holds : Text → Told) (files : List Wanted) (file : Wanted) : Type 0 where
  pub place : ℕ
  pub within : place < length files
  pub here : file ≡ get_or files place file
  pub contents : List Text
  pub read : AreHeld holds (take place files) contents

-- the file of this name is reached and could not be read; so it is not both steady and held
pub record IsUnread (holds : Text → Told) (steady : Type 0) (files : List Wanted) (name : Text) : Type 0 where
  pub file : Wanted
  pub reached : IsReached holds files file
  pub named : name ≡ file.name
  pub unsteady : steady → (bytes : Text) → IsHeld (holds name) bytes → ⊥

-- the file of this name is reached and longer than its limit, which is the one that was noted
pub record IsTooLong (holds : Text → Told) (long : ℕ) (files : List Wanted) (name : Text) : Type 0 where
  pub file : Wanted
  pub reached : IsReached holds files file
  pub named : name ≡ file.name
  pub more : MayPass (holds name) file.limit
  pub noted : long ≡ file.limit

-- a fault of reading this one file
abbrev pub IsFileFault : Told → Type 0 → ℕ → Wanted → Fault → Type 0
IsFileFault told steady long file Usage = ⊥
IsFileFault told steady long file (Read name) = (name.now ≡ file.name) × (steady → (bytes : Text) → IsHeld told bytes → ⊥)
IsFileFault told steady long file Write = ⊥
IsFileFault told steady long file Memory = Unit {0}
IsFileFault told steady long file (TooLong name) = (name.now ≡ file.name) × MayPass told file.limit × (long ≡ file.limit)
IsFileFault told steady long file (Refused refusal) = ⊥

-- a fault of reading the files
abbrev pub EndsReading : (Text → Told) → Type 0 → ℕ → List Wanted → Fault → Type 0
EndsReading holds steady long files Usage = ⊥
EndsReading holds steady long files (Read name) = IsUnread holds steady files name.now
EndsReading holds steady long files Write = ⊥
EndsReading holds steady long files Memory = Unit {0}
EndsReading holds steady long files (TooLong name) = IsTooLong holds long files name.now
EndsReading holds steady long files (Refused refusal) = ⊥
