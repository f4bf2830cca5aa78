-- The files that a command names.
use Rattle.std.specs.Prelude.{◌≤◌, ℕ, List, [], ◌∷◌, length}
use Rattle.command_words.specs.declared.verb.PlainKind.{PlainKind}
use Rattle.command_words.specs.declared.verb.PlainKind.TheVariants.{File, Seed}
use Rattle.command_words.specs.Tables.{Text, plain_of}
use Rattle.command_words.specs.Commands.{Asked}

-- a file to be read: the word that names it, and its greatest length in bytes
pub record Wanted : Type 0 where
  pub name : Text
  pub limit : ℕ

-- the files among plain words
abbrev pub wanted : List PlainKind → List Text → List Wanted
wanted [] ws = []
wanted (kind ∷ kinds) [] = []
wanted (File limit ∷ kinds) (w ∷ ws) = record { name = w; limit = limit } ∷ wanted kinds ws
wanted (Seed ∷ kinds) (w ∷ ws) = wanted kinds ws

-- the files of a command, in the order in which they are read
abbrev pub files_of : Asked → List Wanted
files_of c = wanted (plain_of c.verb) c.plain

-- the greatest lengths of the files among plain words of these kinds
abbrev pub limits_of : List PlainKind → List ℕ
limits_of [] = []
limits_of (File limit ∷ kinds) = limit ∷ limits_of kinds
limits_of (Seed ∷ kinds) = limits_of kinds

-- as many contents as limits, each within its own
abbrev pub AreWithin : List ℕ → List Text → Type 0
AreWithin [] [] = Unit {0}
AreWithin [] (bytes ∷ contents) = ⊥
AreWithin (limit ∷ limits) [] = ⊥
AreWithin (limit ∷ limits) (bytes ∷ contents) = (length bytes ≤ limit) × AreWithin limits contents
