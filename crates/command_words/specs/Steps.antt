-- How words are read one by one. Only private contracts cite these.
use Rattle.std.specs.Prelude.{◌≡◌, ◌≢◌, ◌≤◌, ◌==◌, List, [], ◌∷◌, ◌++◌, map, length, Option, Some, None}
use Rattle.std.specs.List.{AllZip, slice_split}
use Rattle.el_base.specs.Limits.{max_delay}
use Rattle.command_words.specs.declared.verb.Verb.{Verb}
use Rattle.command_words.specs.declared.choice.Choice.{Choice}
use Rattle.command_words.specs.declared.command.Chosen.{Chosen}
use Rattle.command_words.specs.declared.items.Written.{Written}
use Rattle.command_words.specs.declared.items.WordSort.{WordSort}
use Rattle.command_words.specs.declared.items.WordSort.TheVariants as sort
use Rattle.command_words.specs.declared.items.State.{State}
use Rattle.command_words.specs.declared.items.State.TheVariants as state
use Rattle.command_words.specs.declared.values.Given.{Given}
use Rattle.command_words.specs.declared.values.Given.TheVariants as given
use Rattle.command_words.specs.declared.choice.ClassDelay.{ClassDelay}
use Rattle.command_words.specs.Tables.{Text, choice_word, class_word, least_delay}
use Rattle.command_words.specs.Values.{IsNumeral, AreApart}
use Rattle.command_words.specs.Items.{Item, plain, option, IsPlain, end_word, AreWritten, item_of}

-- a word that is no use of this option
pub record IsNoUse (w : Text) (o : Choice) : Type 0 where
  pub alone : w ≢ choice_word o
  pub joined : (v : Text) → w ≢ choice_word o ++ (61 ∷ v)

-- a word before `--` that is none of an item
pub record IsUnknown (w : Text) : Type 0 where
  pub end : w ≢ end_word
  pub plain : IsPlain w → ⊥
  pub no_use : (o : Choice) → IsNoUse w o

-- what a word is
abbrev pub IsSort : Text → WordSort → Type 0
IsSort w sort.End = w ≡ end_word
IsSort w sort.Plain = IsPlain w
IsSort w (sort.Alone o) = w ≡ choice_word o
IsSort w (sort.Joined o v) = w ≡ choice_word o ++ (61 ∷ v.now)
IsSort w sort.Unknown = IsUnknown w

-- an option of the command that waits for its value in the first word
pub record TakesFirst (verb : Verb) (o : Choice) (is : List Item) (words : List Text) : Type 0 where
  pub value : Text
  pub rest : List Text
  pub items : List Item
  pub first : words ≡ value ∷ rest
  pub begun : is ≡ option o value ∷ items
  pub after : AreWritten verb items rest

-- the words go on with these items, in this state
abbrev pub GoOn : Verb → State → List Item → List Text → Type 0
GoOn verb state.Open is words = AreWritten verb is words
GoOn verb (state.Waits o) is words = TakesFirst verb o is words
GoOn verb state.Ended is words = is ≡ map plain words

-- items that go on after some
pub record HasRest (verb : Verb) (s : State) (front is : List Item) (words : List Text) : Type 0 where
  pub rest : List Item
  pub split : is ≡ front ++ rest
  pub on : GoOn verb s rest words

-- a word leads from a state to another, with these items
pub record Moves (verb : Verb) (s : State) (w : Text) (front : List Item) (s' : State) : Type 0 where
  pub sound : (is : List Item) (ws : List Text) → GoOn verb s' is ws → GoOn verb s (front ++ is) (w ∷ ws)
  pub complete : (is : List Item) (ws : List Text) → GoOn verb s is (w ∷ ws) → HasRest verb s' front is ws

-- the items of a step
abbrev pub step_items : Option Written → List Item
step_items None = []
step_items (Some w) = item_of w ∷ []

-- so many items were read of all words, and these are left
pub record Reads (verb : Verb) (s : State) (front : List Item) (words left : List Text) : Type 0 where
  pub sound : (is : List Item) → GoOn verb s is left → AreWritten verb (front ++ is) words
  pub complete : (is : List Item) → AreWritten verb is words → HasRest verb s front is left

-- how often a value is given, with the value that is given once
abbrev pub IsGiven : List Text → Given → Type 0
IsGiven texts given.Nothing = texts ≡ []
IsGiven texts (given.Once v) = texts ≡ v.now ∷ []
IsGiven texts given.Again = 2 ≤ length texts

-- ---- the delays of a LIST

-- the texts between the commas (44)
abbrev pub parts : Text → List Text
parts text = slice_split (λ b. b == 44) text

-- one delay, with its number in its range
pub record IsDelay (part : Text) (d : ClassDelay) : Type 0 where
  pub digits : Text
  pub number : IsNumeral digits d.cycles
  pub spelled : part ≡ class_word d.class ++ (61 ∷ digits)
  pub least : least_delay d.class ≤ d.cycles
  pub most : d.cycles ≤ max_delay

-- a delay for each text
abbrev pub AreEach : List Text → List ClassDelay → Type 0
AreEach texts ds = AllZip IsDelay texts ds

-- no two are of one class
abbrev pub AreOfApart : List ClassDelay → Type 0
AreOfApart ds = AreApart (map (λ (d : ClassDelay). d.class) ds)

-- the same values with these delays
abbrev pub with_delay : Option (List ClassDelay) → Chosen → Chosen
with_delay delay c = record c { delay = delay }
