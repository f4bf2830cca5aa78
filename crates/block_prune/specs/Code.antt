-- Private: only contracts of private functions cite it. Tables of new numbers, places that are stored to, and marks on values.
use Rattle.std.specs.Prelude.{ℕ, ◌+◌, ◌-◌, ◌==◌, ◌&&◌, not, nat_lt, if◌then◌else◌, Bool, true, List, [], ◌∷◌, ◌++◌, filter, get_or, set}
use Rattle.std.specs.List.{list_any}
use Rattle.ir.specs.declared.instr.Instr.{Instr}
use Rattle.ir.specs.declared.instr.Instr.TheVariants.{Const, One, Two, Select, Load, Store}
use Rattle.block_prune.specs.declared.overwritten.Place.{Place}

-- ---- numbers

-- how many arguments there are, the new number of each step's value, and that behind all steps
pub record Numbering : Type 0 where
  pub args : ℕ
  pub of_steps : List ℕ
  pub end : ℕ

abbrev pub number_by : Numbering → ℕ → ℕ
number_by n a = if nat_lt a n.args then a else get_or n.of_steps (a - n.args) n.end

abbrev pub numbers_from : ℕ → List Bool → List ℕ
numbers_from n [] = []
numbers_from n (m ∷ ms) = n ∷ numbers_from (if m then n + 1 else n) ms

abbrev pub number_after : ℕ → List Bool → ℕ
number_after n [] = n
number_after n (m ∷ ms) = number_after (if m then n + 1 else n) ms

-- the numbering behind n arguments where the marked steps stay
abbrev pub numbering : ℕ → List Bool → Numbering
numbering n ms = record { args = n; of_steps = numbers_from n ms; end = number_after n ms }

-- ---- places that later steps store to

abbrev pub is_pending : List Place → ℕ → ℕ → Bool
is_pending ps a p = list_any (λ q. (q.array == a) && (q.addr == p)) ps

-- does a step stay where stores to those places are behind it
abbrev pub lasts : Instr → List Place → Bool
lasts (Const w n) ps = true
lasts (One op x) ps = true
lasts (Two op x y) ps = true
lasts (Select w c x y) ps = true
lasts (Load a p) ps = true
lasts (Store a p v) ps = not (is_pending ps a p)

-- the places to which the step and those behind it store before they load the array
abbrev pub noted : Instr → List Place → List Place
noted (Const w n) ps = ps
noted (One op x) ps = ps
noted (Two op x y) ps = ps
noted (Select w c x y) ps = ps
noted (Load a p) ps = filter (λ q. not (q.array == a)) ps
noted (Store a p v) ps = ps ++ record { array = a; addr = p } ∷ []

abbrev pub all_noted : List Instr → List Place
all_noted [] = []
all_noted (i ∷ is) = noted i (all_noted is)

-- ---- marks on values

abbrev pub marked : List Bool → List ℕ → List Bool
marked marks [] = marks
marked marks (a ∷ more) = marked (set marks a true) more
