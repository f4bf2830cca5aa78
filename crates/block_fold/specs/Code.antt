-- Private: only contracts of private functions cite it. What the code keeps beside the definitions.
use Rattle.std.specs.Prelude.{◌≡◌, ℕ, ◌+◌, ◌*◌, ◌&&◌, is_none, cond, length, position, option_map, Some}
use Rattle.indexmap.specs.IndexMap.{IndexMap, get}
use Rattle.ir.specs.declared.instr.Instr.{Instr}
use Rattle.block_fold.specs.declared.table.StepTable.{StepTable}
use Rattle.block_fold.specs.declared.making.Maker.{Maker}
use Rattle.block_fold.specs.Puts.{Put, same_step, most_made}
use Rattle.block_fold.specs.Simplified.{Made}

-- how many values there are
abbrev pub values_in : StepTable → ℕ
values_in t = t.args + length t.steps

-- the number that is kept for a step is that of the first equal one
pub record PlacesAreRight (t : StepTable) : Type 0 where
  pub each : (i : Instr) → get same_step t.places i ≡ option_map (λ k. t.args + k) (position (same_step i) t.steps)

-- with a number for a step that had none
pub record IsNoted {S : Type 0} (old new : IndexMap Instr ℕ S) (i : Instr) (v : ℕ) : Type 0 where
  pub each : (q : Instr) → get same_step new q ≡ cond (is_none (get same_step old i) && same_step i q) (Some v) (get same_step old q)

-- these steps, with this number
pub record IsPutThere (old new : StepTable) (v : ℕ) (q : Put) : Type 0 where
  pub args : new.args ≡ old.args
  pub steps : new.steps ≡ q.steps
  pub number : v ≡ q.number
  pub places : PlacesAreRight new

abbrev pub made_of : Maker → Made
made_of m = record { steps = m.table.steps; numbers = m.numbers; known = m.known }

-- that is made now
pub record IsMade (old new : Maker) (d : Made) : Type 0 where
  pub args : new.table.args ≡ old.table.args
  pub made : made_of new ≡ d
  pub places : PlacesAreRight new.table

-- so many more values at most, d deep, where rules are tried
abbrev pub most_more : ℕ → ℕ
most_more d = d * most_made + 1
