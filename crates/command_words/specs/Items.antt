-- The words after a command: plain words and uses of its options.
use Rattle.std.specs.Prelude.{◌≡◌, ◌≢◌, ◌⊎◌, List, [], ◌∷◌, ◌++◌, map, IsTrue, if◌then◌else◌}
use Rattle.command_words.specs.declared.verb.Verb.{Verb}
use Rattle.command_words.specs.declared.choice.Choice.{Choice}
use Rattle.command_words.specs.declared.choice.ValueKind.TheVariants.{Flag}
use Rattle.command_words.specs.declared.items.Written.{Written}
use Rattle.command_words.specs.declared.items.Written.TheVariants as written
use Rattle.command_words.specs.Tables.{Text, choice_word, kind_of, is_own, is_choice}

-- a plain word, or an option with its value; a flag has the empty value
pub data Item : Type 0 where
  plain : Text → Item
  option : Choice → Text → Item

-- before `--` a word is plain where it does not begin with `-` (45), or is `-`
abbrev pub IsPlain : Text → Type 0
IsPlain [] = Unit {0}
IsPlain (b ∷ bs) = (b ≢ 45) ⊎ (bs ≡ [])

-- the word that ends the options, `--`
abbrev pub end_word : Text
end_word = 45 ∷ 45 ∷ []

-- the words begin with this item of the command, and these are the words after it: an option with a value is written `--x v` or `--x=v`
pub data Begins (verb : Verb) (words rest : List Text) : Item → Type 0 where
  word : {w : Text} → IsPlain w → words ≡ w ∷ rest → Begins verb words rest (plain w)
  alone : {o : Choice} → IsTrue (is_own verb o) → kind_of o ≡ Flag → words ≡ choice_word o ∷ rest → Begins verb words rest (option o [])
  apart : {o : Choice} {v : Text} → IsTrue (is_own verb o) → kind_of o ≢ Flag → words ≡ choice_word o ∷ v ∷ rest → Begins verb words rest (option o v)
  joined : {o : Choice} {v : Text} → IsTrue (is_own verb o) → kind_of o ≢ Flag → words ≡ (choice_word o ++ (61 ∷ v)) ∷ rest
      → Begins verb words rest (option o v)

-- the words are these items of the command; after `--` all are plain
pub data AreWritten (verb : Verb) : List Item → List Text → Type 0 where
  done : AreWritten verb [] []
  more : {i : Item} {is : List Item} {words rest : List Text} → Begins verb words rest i → AreWritten verb is rest → AreWritten verb (i ∷ is) words
  ended : {words rest : List Text} {is : List Item} → words ≡ end_word ∷ rest → is ≡ map plain rest → AreWritten verb is words

abbrev pub plain_words : List Item → List Text
plain_words [] = []
plain_words (plain w ∷ is) = w ∷ plain_words is
plain_words (option o v ∷ is) = plain_words is

-- the values that are given to an option
abbrev pub given : Choice → List Item → List Text
given o [] = []
given o (plain w ∷ is) = given o is
given o (option p v ∷ is) = if is_choice o p then v ∷ given o is else given o is

-- the item that the code holds
abbrev pub item_of : Written → Item
item_of (written.Plain w) = plain w.now
item_of (written.Use o v) = option o v.now

abbrev pub items_of : List Written → List Item
items_of ws = map item_of ws
