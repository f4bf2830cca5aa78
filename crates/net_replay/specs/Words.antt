-- Private: only contracts of this crate cite it. The words of acts, and what stands at the front of a text.
use Rattle.std.specs.Prelude.{◌≡◌, ℕ, ◌<◌, ◌^◌, Bool, true, false, List, [], ◌∷◌, ◌++◌, codes, decimal, pos, Some}
use Rattle.el_base.specs.Digits.{number_at}
use Rattle.net_types.specs.declared.firing.Act.{Act}
use Rattle.net_types.specs.declared.firing.Act.TheVariants as act
use Rattle.net_replay.specs.declared.schedule_words.ActWord.{ActWord}
use Rattle.net_replay.specs.declared.schedule_words.ActWord.TheVariants.{Go, From, Send, Alloc, Addr, Data, Exec, Reply, Retire, End}
use Rattle.net_types.specs.Order.{ActFits}
use Rattle.net_replay.specs.Schedules.{act_text}

-- a word with the byte that follows it: a space before a number, else a line feed
abbrev pub word_text : ActWord → List ℕ
word_text Go = codes "go" ++ 10 ∷ []
word_text From = codes "from "
word_text Send = codes "send "
word_text Alloc = codes "alloc "
word_text Addr = codes "addr "
word_text Data = codes "data "
word_text Exec = codes "exec "
word_text Reply = codes "reply "
word_text Retire = codes "retire" ++ 10 ∷ []
word_text End = codes "end" ++ 10 ∷ []

-- does a number follow
abbrev pub has_number : ActWord → Bool
has_number Go = false
has_number From = true
has_number Send = true
has_number Alloc = true
has_number Addr = true
has_number Data = true
has_number Exec = true
has_number Reply = true
has_number Retire = false
has_number End = false

-- the act of a word and a number
abbrev pub act_of : ActWord → ℕ → Act
act_of Go n = act.Go
act_of From n = act.From n
act_of Send n = act.Send n
act_of Alloc n = act.Alloc n
act_of Addr n = act.Addr n
act_of Data n = act.Data n
act_of Exec n = act.Exec n
act_of Reply n = act.Reply n
act_of Retire n = act.Retire
act_of End n = act.End

-- what follows a word: its number and a line feed, where it has a number, and more bytes
abbrev pub after_word : Bool → ℕ → List ℕ → List ℕ
after_word true n more = decimal n ++ 10 ∷ more
after_word false n more = more

-- at the front of a text stands that number and nothing else that reads as one, up to a place
abbrev pub IsAtFront : List ℕ → ℕ → ℕ → Type 0
IsAtFront text n end = number_at text 0 ≡ Some (record { value = pos n; end = end; canonical = true })

-- a number and a byte stand before more bytes
pub record IsNumberBefore (mark : ℕ) (text : List ℕ) (n : ℕ) (more : List ℕ) : Type 0 where
  pub fits : n < 2 ^ 64
  pub whole : text ≡ decimal n ++ mark ∷ more

-- the same of what follows a word
pub record IsAfterWord (w : ActWord) (text : List ℕ) (n : ℕ) (more : List ℕ) : Type 0 where
  pub fits : n < 2 ^ 64
  pub whole : text ≡ after_word (has_number w) n more

-- an act and a line feed stand before more bytes
pub record IsActBefore (text : List ℕ) (a : Act) (more : List ℕ) : Type 0 where
  pub fits : ActFits a
  pub whole : text ≡ act_text a ++ 10 ∷ more
