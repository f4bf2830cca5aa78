-- A block made anew from left to right, with a table from its old values to its new ones.
use Rattle.std.specs.Prelude.{ℕ, ◌+◌, List, [], ◌∷◌, ◌++◌, length, Option, Some, None}
use Rattle.std.specs.List.{filter}
use Rattle.ir.specs.declared.instr.Instr.{Instr}
use Rattle.ir.specs.declared.instr.Instr.TheVariants.{Const, One, Two, Select, Load, Store}
use Rattle.ir.specs.declared.graph.Block.{Block}
use Rattle.ir.specs.Renaming.{renamed}
use Rattle.block_fold.specs.declared.known.Known.{Known}
use Rattle.block_fold.specs.Numbers.{renumbered}
use Rattle.block_fold.specs.Puts.{Put, put, depth}
use Rattle.block_fold.specs.Addresses.{known_value, stays_known}
use Rattle.block_fold.specs.Jumps.{folded_jump}

-- a block with n arguments under construction: its steps, the new numbers of the values of the old steps, and what is known of arrays
pub record Made : Type 0 where
  pub steps : List Instr
  pub numbers : List ℕ
  pub known : List Known

abbrev pub nothing_made : Made
nothing_made = record { steps = []; numbers = []; known = [] }

-- the old step's value is one that there is
abbrev pub with_number : Made → ℕ → Made
with_number d v = record { steps = d.steps; numbers = d.numbers ++ v ∷ []; known = d.known }

abbrev pub with_put : Made → Put → Made
with_put d p = record { steps = p.steps; numbers = d.numbers ++ p.number ∷ []; known = d.known }

-- with this step at the end, and this known then
abbrev pub with_access : ℕ → Made → Instr → List Known → Made
with_access n d i known = record { steps = d.steps ++ i ∷ []; numbers = d.numbers ++ (n + length d.steps) ∷ []; known = known }

-- a load where this is known to stand there
abbrev pub loaded_as : ℕ → Made → ℕ → ℕ → Option ℕ → Made
loaded_as n d a p (Some v) = with_number d v
loaded_as n d a p None =
    with_access n d (Load a p) (d.known ++ record { array = a; addr = p; value = n + length d.steps } ∷ [])

abbrev pub stored_at : ℕ → Made → ℕ → ℕ → ℕ → Made
stored_at n d a p v =
    with_access n d (Store a p v) (filter (stays_known n d.steps a p) d.known ++ record { array = a; addr = p; value = v } ∷ [])

-- with a step on new values
abbrev pub taken : ℕ → Made → Instr → Made
taken n d (Const w c) = with_put d (put depth n d.steps (Const w c))
taken n d (One op a) = with_put d (put depth n d.steps (One op a))
taken n d (Two op a b) = with_put d (put depth n d.steps (Two op a b))
taken n d (Select w c a b) = with_put d (put depth n d.steps (Select w c a b))
taken n d (Load a p) = loaded_as n d a p (known_value d.known a p)
taken n d (Store a p v) = stored_at n d a p v

abbrev pub new_number : ℕ → Made → ℕ → ℕ
new_number n d = renumbered n d.numbers

-- with some old steps, one after the other
abbrev pub taken_all : ℕ → Made → List Instr → Made
taken_all n d [] = d
taken_all n d (i ∷ is) = taken_all n (taken n d (renamed (new_number n d) i)) is

abbrev pub simplified : Block → Block
simplified b =
    let n = length b.args in
    let d = taken_all n nothing_made b.steps in
    record { args = b.args; steps = d.steps; jump = folded_jump n d.steps (new_number n d) b.jump }
