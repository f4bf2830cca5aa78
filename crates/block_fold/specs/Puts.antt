-- A pure step put behind the steps of a block with n arguments: by the rules it becomes a value or other steps, and an equal step that
-- stands already is taken in its place.
use Rattle.std.specs.Prelude.{ℕ, zero, suc, ◌+◌, ◌^◌, nat_lt, nat_le, if◌then◌else◌, Bool, List, [], ◌∷◌, ◌++◌, length, position, Option, Some, None}
use Rattle.ir.specs.declared.instr.Instr.{Instr}
use Rattle.ir.specs.contracts.instr.InstrPartialEq.TheImpl as equality
use Rattle.ir.specs.Renaming.{renamed}
use Rattle.block_rules.specs.declared.rewriting.Rewriting.{Rewriting}
use Rattle.block_rules.specs.declared.rewriting.Rewriting.TheVariants.{Kept, Value, Steps}
use Rattle.block_rules.specs.Rules.{rewritten}
use Rattle.block_fold.specs.Numbers.{renumbered}

-- steps, and the number of a value of theirs
pub record Put : Type 0 where
  pub steps : List Instr
  pub number : ℕ

-- are both steps the same, as `==` says
abbrev pub same_step : Instr → Instr → Bool
same_step = equality.ghosts.eq

abbrev pub appended : ℕ → List Instr → Instr → Put
appended n steps i = record { steps = steps ++ i ∷ []; number = n + length steps }

abbrev pub added_at : ℕ → List Instr → Instr → Option ℕ → Put
added_at n steps i (Some k) = record { steps = steps; number = n + k }
added_at n steps i None = appended n steps i

-- the first equal step, and the step itself behind the others where there is none
abbrev pub added : ℕ → List Instr → Instr → Put
added n steps i = added_at n steps i (position (same_step i) steps)

-- each of some steps put by f, one after the other, where the first m values stay and behind them the j-th is that which the j-th step gave;
-- the number is the last one's
abbrev pub put_all : (List Instr → Instr → Put) → ℕ → List ℕ → Put → List Instr → Put
put_all f m numbers p [] = p
put_all f m numbers p (i ∷ is) =
    let q = f p.steps (renamed (renumbered m numbers) i) in put_all f m (numbers ++ q.number ∷ []) q is

-- so many steps a rule may make
abbrev pub most_made : ℕ
most_made = 64

-- a step that became this, with f for the steps that it made
abbrev pub put_as : (List Instr → Instr → Put) → ℕ → List Instr → Instr → Rewriting → Put
put_as f n steps i Kept = added n steps i
put_as f n steps i (Value v) = record { steps = steps; number = v }
put_as f n steps i (Steps is) =
    if nat_le (length is) most_made
    then put_all f (n + length steps) [] (record { steps = steps; number = 0 }) is
    else added n steps i

-- so many values a block may have where rules are tried
abbrev pub most_values : ℕ
most_values = 2 ^ 31

-- a step put, where the steps that rules make are put by rules again, d deep
unfoldable pub put : ℕ → ℕ → List Instr → Instr → Put
put zero n steps i = added n steps i
put (suc d) n steps i =
    if nat_lt (n + length steps) most_values
    then put_as (put d n) n steps i (rewritten n steps i)
    else added n steps i

-- so deep
unfoldable pub depth : ℕ
depth = 8
