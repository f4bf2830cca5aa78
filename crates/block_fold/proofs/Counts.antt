-- How many values a block under construction has at most.
use Rattle.std.proofs.Common.{◌≡◌, ℕ, zero, suc, ◌+◌, ◌<◌, ◌≤◌, Bool, true, false, List, [], ◌∷◌, ◌++◌, length, Option, Some, None, refl, arith, length-append, inl, inr}
use Rattle.std.specs.Prelude.{nat_lt, nat_le, if◌then◌else◌, position}
use Rattle.std.proofs.lemmas.Bool.{cases_lt, ltb-true, leb-true}
use Rattle.ir.specs.declared.instr.Instr.{Instr}
use Rattle.ir.specs.declared.instr.Instr.TheVariants.{Const, One, Two, Select, Load, Store}
use Rattle.ir.specs.Renaming.{renamed}
use Rattle.block_rules.specs.declared.rewriting.Rewriting.{Rewriting}
use Rattle.block_rules.specs.declared.rewriting.Rewriting.TheVariants.{Kept, Value, Steps}
use Rattle.block_rules.specs.Rules.{rewritten}
use Rattle.block_fold.specs.Numbers.{renumbered}
use Rattle.block_fold.specs.Puts.{Put, same_step, added_at, added, put_all, most_made, put_as, most_values, put, depth}
use Rattle.block_fold.specs.Addresses.{known_value}
use Rattle.block_fold.specs.Simplified.{Made, loaded_as, taken}
use Rattle.block_fold.specs.Code.{most_more}

-- from so many values to so many, d deep
pub record GrowsWithin (d old new : ℕ) : Type 0 where
  pub low : old < most_values → new ≤ most_values + most_more d
  pub high : most_values ≤ old → new ≤ old + 1

one_more : (d old new : ℕ) → new ≤ old + 1 → GrowsWithin d old new
one_more d old new h = record { low = λ lt. omega (arith, h, lt); high = λ ge. h }

-- a function that puts steps
abbrev pub PutsWithin : ℕ → ℕ → (List Instr → Instr → Put) → Type 0
PutsWithin d n f = (steps : List Instr) (i : Instr) → GrowsWithin d (n + length steps) (n + length (f steps i).steps)

appended_one : (n : ℕ) (steps : List Instr) (i : Instr) → n + length (steps ++ i ∷ []) ≤ (n + length steps) + 1
appended_one n steps i = omega (arith, length-append steps (i ∷ []))

added_one : (n : ℕ) (steps : List Instr) (i : Instr) → n + length (added n steps i).steps ≤ (n + length steps) + 1
added_one n steps i = by (position (same_step i) steps)
  where
    by : (o : Option ℕ) → n + length (added_at n steps i o).steps ≤ (n + length steps) + 1
    by (Some k) = omega arith
    by None = appended_one n steps i

-- so many steps from below the bound, j of which came before
pub grows_on_within : (d old new j : ℕ) → GrowsWithin d old new → old ≤ (most_values + most_more d) + j → new ≤ (most_values + most_more d) + (j + 1)
grows_on_within d old new j g le = elim (cases_lt old most_values) [
  | inl lt ↦ let h = g.low lt in omega (arith, h)
  | inr ge ↦ let h = g.high ge in omega (arith, h, le)
]

module _ (d n : ℕ) (f : List Instr → Instr → Put) (puts : PutsWithin d n f) (m : ℕ) where
  all_within : (is : List Instr) (numbers : List ℕ) (p : Put) (j : ℕ) → n + length p.steps ≤ (most_values + most_more d) + j
      → n + length (put_all f m numbers p is).steps ≤ (most_values + most_more d) + (j + length is)
  all_within [] numbers p j le = omega (arith, le)
  all_within (i ∷ is) numbers p j le =
      let q = f p.steps (renamed (renumbered m numbers) i) in
      let one = grows_on_within d (n + length p.steps) (n + length q.steps) j (puts p.steps (renamed (renumbered m numbers) i)) le in
      let rest = all_within is (numbers ++ q.number ∷ []) q (j + 1) one in
      omega (arith, rest)

as_within : (d n : ℕ) (f : List Instr → Instr → Put) → PutsWithin d n f → (steps : List Instr) (i : Instr) → n + length steps < most_values → (r : Rewriting)
    → n + length (put_as f n steps i r).steps ≤ most_values + most_more (suc d)
as_within d n f puts steps i lt Kept = let h = added_one n steps i in omega (arith, h, lt)
as_within d n f puts steps i lt (Value v) = omega (arith, lt)
as_within d n f puts steps i lt (Steps is) = by (nat_le (length is) most_made) refl
  where
    by : (t : Bool) → nat_le (length is) most_made ≡ t
        → n + length (if t then put_all f (n + length steps) [] (record { steps = steps; number = 0 }) is else added n steps i).steps ≤ most_values + most_more (suc d)
    by true e =
        let few = leb-true (length is) most_made e in
        let h = all_within d n f puts (n + length steps) is [] (record { steps = steps; number = 0 }) 0 (omega (arith, lt)) in
        omega (arith, h, few)
    by false e = let h = added_one n steps i in omega (arith, h, lt)

by_number : (d n : ℕ) → PutsWithin d n (put d n) → (steps : List Instr) (i : Instr) → (t : Bool) → nat_lt (n + length steps) most_values ≡ t
    → GrowsWithin (suc d) (n + length steps) (n + length (if t then put_as (put d n) n steps i (rewritten n steps i) else added n steps i).steps)
by_number d n puts steps i true e =
    let lt = ltb-true (n + length steps) most_values e in
    record { low = λ z. as_within d n (put d n) puts steps i lt (rewritten n steps i); high = λ ge. absurd (omega (arith, lt, ge)) }
by_number d n puts steps i false e = one_more (suc d) (n + length steps) (n + length (added n steps i).steps) (added_one n steps i)

pub put_within : (d n : ℕ) → PutsWithin d n (put d n)
unfolding put
put_within zero n steps i = one_more 0 (n + length steps) (n + length (added n steps i).steps) (added_one n steps i)
put_within (suc d) n steps i = by_number d n (put_within d n) steps i (nat_lt (n + length steps) most_values) refl

-- ---- a block

loaded_one : (n : ℕ) (d : Made) (a p : ℕ) (o : Option ℕ) → n + length (loaded_as n d a p o).steps ≤ (n + length d.steps) + 1
loaded_one n d a p (Some v) = omega arith
loaded_one n d a p None = appended_one n d.steps (Load a p)

pub taken_within : (n : ℕ) (d : Made) (i : Instr) → GrowsWithin depth (n + length d.steps) (n + length (taken n d i).steps)
taken_within n d (Const w c) = put_within depth n d.steps (Const w c)
taken_within n d (One op a) = put_within depth n d.steps (One op a)
taken_within n d (Two op a b) = put_within depth n d.steps (Two op a b)
taken_within n d (Select w c a b) = put_within depth n d.steps (Select w c a b)
taken_within n d (Load a p) = one_more depth (n + length d.steps) (n + length (taken n d (Load a p)).steps) (loaded_one n d a p (known_value d.known a p))
taken_within n d (Store a p v) = one_more depth (n + length d.steps) (n + length (taken n d (Store a p v)).steps) (appended_one n d.steps (Store a p v))
