-- Words that the contracts of private functions cite, and no other.
use Rattle.std.specs.Prelude.{ℕ, ◌+◌, ◌-◌, ◌<◌, ◌≤◌, ◌==◌, ◌&&◌, not, nat_lt, if◌then◌else◌, Bool, true, List, [], ◌∷◌, length, get_or, set, All}
use Rattle.ir.specs.declared.cfg.Write.{Write}
use Rattle.block_trim.specs.Trimming.{is_unchanged}

-- ---- writes

abbrev pub NameVariables : ℕ → List Write → Type 0
NameVariables n writes = All (λ x. x.var < n) writes

-- the writes, numbered from i on, note their numbers at their variables
abbrev pub noted : ℕ → List Write → List ℕ → List ℕ
noted i [] places = places
noted i (x ∷ xs) places = noted (i + 1) xs (set places x.var i)

-- of the writes, numbered from i on, those whose numbers stand at their variables and that change something
abbrev pub kept_by : List ℕ → List ℕ → ℕ → List Write → List Write
kept_by reads places i [] = []
kept_by reads places i (x ∷ xs) =
    if (get_or places x.var 0 == i) && not (is_unchanged reads x) then (x ∷ kept_by reads places (i + 1) xs) else kept_by reads places (i + 1) xs

-- ---- marks, one for each read

abbrev pub marked : List Bool → List ℕ → List Bool
marked marks [] = marks
marked marks (a ∷ more) = marked (set marks a true) more

-- the reads that are marked
abbrev pub reads_by : List Bool → List ℕ → List ℕ
reads_by [] rs = []
reads_by (b ∷ bs) [] = []
reads_by (b ∷ bs) (r ∷ rs) = if b then (r ∷ reads_by bs rs) else reads_by bs rs

-- ---- numbers

-- the number of each read, and how many reads are kept
pub record Numbering : Type 0 where
  pub of_reads : List ℕ
  pub kept : ℕ

-- no number grows
pub record IsLow (n : Numbering) : Type 0 where
  pub reads : (a : ℕ) → get_or n.of_reads a 0 ≤ a
  pub kept : n.kept ≤ length n.of_reads

abbrev pub number_by : Numbering → ℕ → ℕ
number_by n a = if nat_lt a (length n.of_reads) then get_or n.of_reads a 0 else (n.kept + (a - length n.of_reads))

abbrev pub numbers_from : ℕ → List Bool → List ℕ
numbers_from n [] = []
numbers_from n (b ∷ bs) = n ∷ numbers_from (if b then n + 1 else n) bs

abbrev pub marks_after : ℕ → List Bool → ℕ
marks_after n [] = n
marks_after n (b ∷ bs) = marks_after (if b then n + 1 else n) bs

-- the numbering of the reads that are marked
abbrev pub numbering : List Bool → Numbering
numbering marks = record { of_reads = numbers_from 0 marks; kept = marks_after 0 marks }
