-- What the words of a command line spell.
use Rattle.std.specs.Prelude.{◌≡◌, ◌+◌, ◌≤◌, ◌<◌, ◌^◌, ℕ, Bool, true, false, List, [], ◌∷◌, map, length, get_or, Option, Some, None, string_bytes}
use Rattle.std.specs.Borrow.{Bor}
use Rattle.std.specs.declared.string.String.{String}
use Rattle.std.specs.declared.alloc.Global.{Global}
use Rattle.el_base.specs.Limits.{max_shared_firings}
use Rattle.command_words.specs.declared.verb.Verb.{Verb}
use Rattle.command_words.specs.declared.verb.PlainKind.{PlainKind}
use Rattle.command_words.specs.declared.verb.PlainKind.TheVariants.{File, Seed}
use Rattle.command_words.specs.declared.choice.Choice.TheVariants.{Delay, Slots, Depth, Workers, Limit, Turns, At, Count, Cycles, Log, Forward, Wrap}
use Rattle.command_words.specs.declared.command.Chosen.{Chosen}
use Rattle.command_words.specs.declared.command.Command.{Command as Read}
use Rattle.command_words.specs.Tables.{Text, verb_word, plain_of, choices_of, kind_of}
use Rattle.command_words.specs.Values.{IsNumeral, IsNumber, AreDelays}
use Rattle.command_words.specs.Items.{Item, AreWritten, plain_words, given}

-- the bytes of each word
abbrev pub texts : List (String Global) → List Text
texts words = map string_bytes words

-- what is asked for: a command, its plain words, and the values of its options with the number that a plain word gives
pub record Asked : Type 0 where
  pub verb : Verb
  pub plain : List Text
  pub chosen : Chosen

abbrev pub word_texts : List (Bor (List ℕ)) → List Text
word_texts words = map (λ w. w.now) words

abbrev pub asked : Read → Asked
asked c = record { verb = c.verb; plain = word_texts c.plain.items; chosen = c.chosen }

-- an option is used once, and its value is read so; or it is not used
abbrev pub IsValue : {V : Type 0} → (Text → V → Type 0) → List Text → Option V → Type 0
IsValue Reads [] None = Unit {0}
IsValue Reads [] (Some v) = ⊥
IsValue Reads (text ∷ []) None = ⊥
IsValue Reads (text ∷ []) (Some v) = Reads text v
IsValue Reads (text ∷ more ∷ texts) value = ⊥

abbrev pub IsFlag : List Text → Bool → Type 0
IsFlag [] value = value ≡ false
IsFlag (text ∷ []) value = value ≡ true
IsFlag (text ∷ more ∷ texts) value = ⊥

-- the values of the options
pub record AreChosen (items : List Item) (c : Chosen) : Type 0 where
  pub delay : IsValue AreDelays (given Delay items) c.delay
  pub slots : IsValue (IsNumber (kind_of Slots)) (given Slots items) c.slots
  pub depth : IsValue (IsNumber (kind_of Depth)) (given Depth items) c.depth
  pub workers : IsValue (IsNumber (kind_of Workers)) (given Workers items) c.workers
  pub limit : IsValue (IsNumber (kind_of Limit)) (given Limit items) c.limit
  pub turns : IsValue (IsNumber (kind_of Turns)) (given Turns items) c.turns
  pub at : IsValue (IsNumber (kind_of At)) (given At items) c.at
  pub count : IsFlag (given Count items) c.count
  pub cycles : IsFlag (given Cycles items) c.cycles
  pub log : IsFlag (given Log items) c.log
  pub forward : IsFlag (given Forward items) c.forward
  pub wrap : IsFlag (given Wrap items) c.wrap

-- with workers no cycles are counted; with workers or a log the limit is lower
pub record GoTogether (c : Chosen) : Type 0 where
  pub cycles : c.cycles ≡ true → c.workers ≡ None
  pub logged : (n : ℕ) → c.limit ≡ Some n → c.log ≡ true → n ≤ max_shared_firings
  pub shared : (n w : ℕ) → c.limit ≡ Some n → c.workers ≡ Some w → n ≤ max_shared_firings

-- a plain word names a file, or is a number below 2 ^ 64
abbrev pub IsPlainWord : PlainKind → Text → Type 0
IsPlainWord (File limit) w = Unit {0}
IsPlainWord Seed w = (n : ℕ) × IsNumeral w n × (n < 2 ^ 64)

-- there are as many plain words as the command has
pub record ArePlain (kinds : List PlainKind) (words : List Text) : Type 0 where
  pub count : length words ≡ length kinds
  pub each : (i : ℕ) → i < length kinds → IsPlainWord (get_or kinds i Seed) (get_or words i [])

-- the number that the plain word of kind `Seed` spells; none, where the command has no such word
abbrev pub IsSeed : List PlainKind → List Text → Option ℕ → Type 0
IsSeed [] words seed = seed ≡ None
IsSeed (File limit ∷ kinds) [] seed = seed ≡ None
IsSeed (File limit ∷ kinds) (w ∷ words) seed = IsSeed kinds words seed
IsSeed (Seed ∷ kinds) [] seed = seed ≡ None
IsSeed (Seed ∷ kinds) (w ∷ words) seed = (n : ℕ) × IsNumeral w n × (seed ≡ Some n)

-- the items after the word of a command spell it
pub record ItemsSpell (items : List Item) (c : Asked) : Type 0 where
  pub words : plain_words items ≡ c.plain
  pub plain : ArePlain (plain_of c.verb) c.plain
  pub seed : IsSeed (plain_of c.verb) c.plain c.chosen.seed
  pub chosen : AreChosen items c.chosen
  pub together : GoTogether c.chosen

-- at most one item for each plain word and each option of the command
abbrev pub AreFew : {I : Type 0} → Verb → List I → Type 0
AreFew verb items = length items ≤ length (plain_of verb) + length (choices_of verb)

-- the words are the word of the command and then these items of it
pub record AreWordsOf (verb : Verb) (items : List Item) (words : List Text) : Type 0 where
  pub rest : List Text
  pub first : words ≡ verb_word verb ∷ rest
  pub after : AreWritten verb items rest

-- the whole list of words spells the command
pub record Command (words : List Text) (c : Asked) : Type 0 where
  pub items : List Item
  pub written : AreWordsOf c.verb items words
  pub spelled : ItemsSpell items c
