-- What each answer of the reader says of the bytes.
use Rattle.std.specs.Prelude.{◌≡◌, ◌≢◌, ◌⊎◌, ℕ, ◌+◌, ◌<◌, List, [], ◌∷◌, ◌++◌, length, codes, Option, Some, None, Result, Ok, Err}
use Rattle.std.specs.List.{All}
use Rattle.net_types.specs.declared.net.Net.{Net}
use Rattle.net_text.specs.declared.refusal.TextRefusal.{TextRefusal}
use Rattle.net_text.specs.declared.refusal.TextRefusal.TheVariants as refusal
use Rattle.net_text.specs.declared.version.Version.{Version}
use Rattle.el_base.specs.Limits.{IsNumbered}
use Rattle.net_text.specs.Fits.{NetFits, Writes}
use Rattle.net_text.specs.Texts.{NetText, OldText, version_number}
use Rattle.net_text.specs.Reads.{version_text}
use Rattle.net_text.specs.Bodies.{Complete, text_of, texts}

-- the number and the word by which a refusal is printed, and its line
abbrev pub refusal_number : TextRefusal → Option ℕ
refusal_number (refusal.Line n) = Some 40
refusal_number refusal.Ends = Some 41
refusal_number refusal.Version = Some 42
refusal_number refusal.Memory = None

abbrev pub refusal_word : TextRefusal → List ℕ
refusal_word (refusal.Line n) = codes "Line"
refusal_word refusal.Ends = codes "Ends"
refusal_word refusal.Version = codes "Version"
refusal_word refusal.Memory = codes "Memory"

abbrev pub refusal_line : TextRefusal → Option ℕ
refusal_line (refusal.Line n) = Some n
refusal_line refusal.Ends = None
refusal_line refusal.Version = None
refusal_line refusal.Memory = None

-- lines begin the text of some net in some version; a text's first line names its version
pub record Begins (ls : List (List ℕ)) : Type 0 where
  pub version : Version
  pub net : Net
  pub writes : Writes version net
  pub more : List (List ℕ)
  pub whole : texts version net ≡ ls ++ more

-- lines are the whole text of some net in some version
pub record Spells (ls : List (List ℕ)) : Type 0 where
  pub version : Version
  pub net : Net
  pub writes : Writes version net
  pub whole : texts version net ≡ ls

-- the first line is complete and is `elastic` and a number that is no version's
pub record IsOtherVersion (bytes : List ℕ) : Type 0 where
  pub number : ℕ
  pub fits : IsNumbered number
  pub other : (v : Version) → number ≢ version_number v
  pub more : List ℕ
  pub whole : bytes ≡ version_text number ++ 10 ∷ more

-- the next line is complete; the lines before it begin some net's text, and with it they begin none
pub record IsMisplaced (before : List (List ℕ)) (rest : List ℕ) : Type 0 where
  pub text : List ℕ
  pub more : List ℕ
  pub whole : rest ≡ text ++ 10 ∷ more
  pub one : Complete text
  pub begins : Begins before
  pub misplaced : Begins (before ++ text ∷ []) → ⊥

-- the line of that number, from 1, is complete and may not stand after the lines before it, or a byte stands in it and
-- the lines before it are a whole text
pub record IsWrongLine (bytes : List ℕ) (number : ℕ) : Type 0 where
  pub before : List (List ℕ)
  pub complete : All Complete before
  pub counted : number ≡ length before + 1
  pub rest : List ℕ
  pub whole : bytes ≡ text_of before ++ rest
  pub wrong : IsMisplaced before rest ⊎ (Spells before × (0 < length rest))

-- the complete lines begin some net's text, and are no whole one
pub record IsCutShort (bytes : List ℕ) : Type 0 where
  pub before : List (List ℕ)
  pub complete : All Complete before
  pub rest : List ℕ
  pub whole : bytes ≡ text_of before ++ rest
  pub incomplete : Complete rest
  pub begins : Begins before
  pub unended : Spells before → ⊥

-- what an answer says of the bytes; want of memory says nothing
abbrev pub Says : List ℕ → Result Net TextRefusal → Type 0
Says bytes (Ok net) = NetFits net × (NetText net bytes ⊎ OldText net bytes)
Says bytes (Err refusal.Version) = IsOtherVersion bytes
Says bytes (Err (refusal.Line n)) = (IsOtherVersion bytes → ⊥) × IsWrongLine bytes n
Says bytes (Err refusal.Ends) = IsCutShort bytes
Says bytes (Err refusal.Memory) = Unit {0}

-- each answer that says what holds of the bytes is the net, or want of memory
abbrev pub ReadsBack : List ℕ → Net → Type 0
ReadsBack bytes net = (r : Result Net TextRefusal) → Says bytes r → (r ≡ Ok net) ⊎ (r ≡ Err refusal.Memory)

-- no other answer but want of memory says what holds of the bytes
abbrev pub IsOnly : List ℕ → Result Net TextRefusal → Type 0
IsOnly bytes r = (other : Result Net TextRefusal) → other ≢ Err refusal.Memory → Says bytes other → (r ≡ other) ⊎ (r ≡ Err refusal.Memory)

-- two answers to one text, each of which says what holds of it, are one but for want of memory
abbrev pub AnswersAreOne : Type 0
AnswersAreOne = (bytes : List ℕ) (r : Result Net TextRefusal) → Says bytes r → IsOnly bytes r
