-- What each answer of the reader says of the bytes.
use Rattle.std.specs.Prelude.{◌≡◌, ◌≢◌, ◌⊎◌, ℕ, ◌+◌, ◌<◌, ◌≤◌, List, [], ◌∷◌, ◌++◌, length, codes, Option, Some, None, Result, Ok, Err}
use Rattle.std.specs.List.{All}
use Rattle.el_base.specs.Limits.{max_firings}
use Rattle.net_types.specs.declared.net.Net.{Net}
use Rattle.net_text.specs.Bodies.{Complete, text_of}
use Rattle.snapshot.specs.declared.refusal.SnapRefusal.{SnapRefusal}
use Rattle.snapshot.specs.declared.refusal.SnapRefusal.TheVariants as refusal
use Rattle.snapshot.specs.declared.saved.Saved.{Saved}
use Rattle.snapshot.specs.Fits.{Fits}
use Rattle.snapshot.specs.Texts.{lines_of, StateText}

-- the number and the word by which a refusal is printed, and its line
abbrev pub refusal_number : SnapRefusal → Option ℕ
refusal_number (refusal.Line n) = Some 90
refusal_number refusal.Ends = Some 91
refusal_number refusal.Memory = None

abbrev pub refusal_word : SnapRefusal → List ℕ
refusal_word (refusal.Line n) = codes "Line"
refusal_word refusal.Ends = codes "Ends"
refusal_word refusal.Memory = codes "Memory"

abbrev pub refusal_line : SnapRefusal → Option ℕ
refusal_line (refusal.Line n) = Some n
refusal_line refusal.Ends = None
refusal_line refusal.Memory = None

-- what may be saved of a net
pub record MaySave (net : Net) (s : Saved) : Type 0 where
  pub made : s.made ≤ max_firings
  pub fits : Fits net s.parts

-- its lines
abbrev pub texts : Net → Saved → List (List ℕ)
texts net s = lines_of net s.made s.parts

-- lines begin the text of some state of the net that may be saved
pub record Begins (net : Net) (ls : List (List ℕ)) : Type 0 where
  pub saved : Saved
  pub may : MaySave net saved
  pub more : List (List ℕ)
  pub whole : texts net saved ≡ ls ++ more

-- lines are the whole text of one
pub record Spells (net : Net) (ls : List (List ℕ)) : Type 0 where
  pub saved : Saved
  pub may : MaySave net saved
  pub whole : texts net saved ≡ ls

-- the next line is complete; the lines before it begin some text, and with it they begin none
pub record IsMisplaced (net : Net) (before : List (List ℕ)) (rest : List ℕ) : Type 0 where
  pub text : List ℕ
  pub more : List ℕ
  pub whole : rest ≡ text ++ 10 ∷ more
  pub one : Complete text
  pub begins : Begins net before
  pub misplaced : Begins net (before ++ text ∷ []) → ⊥

-- the line of that number, from 1, is complete and may not stand after the lines before it, or a byte stands in it and the
-- lines before it are a whole text
pub record IsWrongLine (net : Net) (bytes : List ℕ) (number : ℕ) : Type 0 where
  pub before : List (List ℕ)
  pub complete : All Complete before
  pub counted : number ≡ length before + 1
  pub rest : List ℕ
  pub whole : bytes ≡ text_of before ++ rest
  pub wrong : IsMisplaced net before rest ⊎ (Spells net before × (0 < length rest))

-- the complete lines begin some text, and are no whole one
pub record IsCutShort (net : Net) (bytes : List ℕ) : Type 0 where
  pub before : List (List ℕ)
  pub complete : All Complete before
  pub rest : List ℕ
  pub whole : bytes ≡ text_of before ++ rest
  pub incomplete : Complete rest
  pub begins : Begins net before
  pub unended : Spells net before → ⊥

-- what an answer says of the bytes; want of memory says nothing
abbrev pub Says : Net → List ℕ → Result Saved SnapRefusal → Type 0
Says net bytes (Ok s) = MaySave net s × StateText net s.made s.parts bytes
Says net bytes (Err (refusal.Line n)) = IsWrongLine net bytes n
Says net bytes (Err refusal.Ends) = IsCutShort net bytes
Says net bytes (Err refusal.Memory) = Unit {0}

-- no other answer but want of memory says what holds of the bytes
abbrev pub IsOnly : Net → List ℕ → Result Saved SnapRefusal → Type 0
IsOnly net bytes r = (other : Result Saved SnapRefusal) → other ≢ Err refusal.Memory → Says net bytes other → (r ≡ other) ⊎ (r ≡ Err refusal.Memory)
