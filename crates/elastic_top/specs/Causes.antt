-- Why a call ended as it did.
use Rattle.std.specs.Prelude.{◌≡◌, ◌≢◌, ◌≤◌, ℕ, List, [], ◌∷◌, length, Ok, Err}
use Rattle.std.specs.List.{concat}
use Rattle.el_io.specs.Outside.{Told, IsHeld}
use Rattle.command_words.specs.Tables.{Text}
use Rattle.command_words.specs.Commands.{Asked}
use Rattle.elastic_top.specs.Files.{Wanted, files_of}
use Rattle.elastic_top.specs.Reading.{AreHeld, IsUnread, IsTooLong}
use Rattle.elastic_top.specs.Answers.{Answers}
use Rattle.elastic_top.specs.Faults.{refusal_code, refusal_parts, unread_parts, long_parts}
use Rattle.elastic_top.specs.declared.fault.Fault.{Fault}
use Rattle.elastic_top.specs.declared.fault.Refusal.{Refusal}
use Rattle.elastic_top.specs.declared.fault.Fault.TheVariants as fault

-- the command's files hold contents for which it answers a text, and that text was written so
pub record Writes (holds : Text → Told) (c : Asked) (Written : Text → Type 0) : Type 0 where
  pub contents : List Text
  pub held : AreHeld holds (files_of c) contents
  pub text : Text
  pub answer : Answers c contents (Ok text)
  pub written : Written text

-- a file that is reached could not be read; the line names it
pub record Unread (holds : Text → Told) (steady : Type 0) (c : Asked) (Tells : Text → Type 0) : Type 0 where
  pub name : Text
  pub cause : IsUnread holds steady (files_of c) name
  pub told : Tells (concat (unread_parts name))

-- a file that is reached is longer than its limit; the line names it
pub record TooLong (holds : Text → Told) (long : ℕ) (c : Asked) (Tells : Text → Type 0) : Type 0 where
  pub name : Text
  pub cause : IsTooLong holds long (files_of c) name
  pub told : Tells (concat (long_parts name))

-- the command's files hold contents that it refuses so
pub record RefusesSo (holds : Text → Told) (c : Asked) (refusal : Refusal) : Type 0 where
  pub contents : List Text
  pub held : AreHeld holds (files_of c) contents
  pub answer : Answers c contents (Err refusal)

-- a refusal of the command has this status; its line was told
pub record RefusesWith (holds : Text → Told) (c : Asked) (code : ℕ) (Tells : Text → Type 0) : Type 0 where
  pub refusal : Refusal
  pub cause : RefusesSo holds c refusal
  pub status : code ≡ refusal_code refusal
  pub told : Tells (concat (refusal_parts refusal))

-- why a call of the command ends with this fault
abbrev pub IsCauseOf : (Text → Told) → Type 0 → ℕ → (Text → Type 0) → Asked → Fault → Type 0
IsCauseOf holds steady long Cut c fault.Usage = ⊥
IsCauseOf holds steady long Cut c (fault.Read name) = IsUnread holds steady (files_of c) name.now
IsCauseOf holds steady long Cut c (fault.TooLong name) = IsTooLong holds long (files_of c) name.now
IsCauseOf holds steady long Cut c fault.Write = Writes holds c Cut
IsCauseOf holds steady long Cut c fault.Memory = Unit {0}
IsCauseOf holds steady long Cut c (fault.Refused refusal) = RefusesSo holds c refusal

-- a status that no words, no device and no want of memory give
abbrev pub IsOwn : ℕ → Type 0
IsOwn code = (code ≢ 0) × (code ≢ 1) × (code ≢ 2) × (code ≢ 3) × (code ≢ 11) × (code ≢ 12)

-- it is told that the files hold these contents, within their limits
abbrev pub AreToldWithin : (Text → Told) → List Wanted → List Text → Type 0
AreToldWithin holds [] [] = Unit {0}
AreToldWithin holds [] (bytes ∷ contents) = ⊥
AreToldWithin holds (file ∷ files) [] = ⊥
AreToldWithin holds (file ∷ files) (bytes ∷ contents) = IsHeld (holds file.name) bytes × (length bytes ≤ file.limit) × AreToldWithin holds files contents

-- the files are steady and hold contents for which the command has no refusal
pub record AreSound (holds : Text → Told) (steady : Type 0) (c : Asked) : Type 0 where
  pub steady_files : steady
  pub contents : List Text
  pub kept : AreToldWithin holds (files_of c) contents
  pub none : (refusal : Refusal) → Answers c contents (Err refusal) → ⊥
