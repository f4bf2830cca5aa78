-- What a run that has an end is made of: the turns that it takes, and the runs that go on one after another.
use Rattle.std.proofs.Common.{◌≡◌, ℕ, zero, suc, ◌+◌, refl, ◌∙◌, ap, arith}
use Rattle.c_meaning.specs.Stores.{Store}
use Rattle.c_meaning.specs.Profiles.{IsDefined}
use Rattle.c_meaning.specs.Runs.{How, normally, by_break, by_continue, by_return, undefined, out_of_turns, Run, taking, go_on, both_runs, after_body}

-- ---- turns

-- what ends after u turns had them
pub record Had (u : ℕ) (run : Run) (s : Store) (m : ℕ) : Type 0 where
  pub rest : ℕ
  pub sum : m ≡ u + rest
  pub is : taking u run s m ≡ run s rest

pub had : (u : ℕ) (run : Run) (s : Store) (m : ℕ) → IsDefined (taking u run s m).how → Had u run s m
had zero run s m e = record { rest = m; sum = omega arith; is = refl }
had (suc u) run s zero e = absurd e
had (suc u) run s (suc m) e = let h = had u run s m e in record { rest = h.rest; sum = let a = h.sum in omega arith; is = h.is }

pub taken : (t : ℕ) (run : Run) (s : Store) (l : ℕ) → taking t run s (t + l) ≡ run s l
taken zero run s l = let e : 0 + l ≡ l = omega arith in ap (λ n. run s n) e
taken (suc t) run s l = let e : suc t + l ≡ suc (t + l) = omega arith in ap (λ n. taking (suc t) run s n) e ∙ taken t run s l

-- ---- one after another

pub go_end : (h : How) (a2 : Run) (s : Store) (l : ℕ) → IsDefined (go_on h a2 s l).how → IsDefined h
go_end normally a2 s l e = tt
go_end by_break a2 s l e = tt
go_end by_continue a2 s l e = tt
go_end (by_return v) a2 s l e = tt
go_end (undefined at) a2 s l e = e
go_end out_of_turns a2 s l e = e

pub go_assoc : (h : How) (a b c : Run) → ((s : Store) (n : ℕ) → c s n ≡ both_runs a b s n) → (s : Store) (n : ℕ) → go_on h c s n ≡ (let e = go_on h a s n in go_on e.how b e.store e.left)
go_assoc normally a b c is s n = is s n
go_assoc by_break a b c is s n = refl
go_assoc by_continue a b c is s n = refl
go_assoc (by_return v) a b c is s n = refl
go_assoc (undefined at) a b c is s n = refl
go_assoc out_of_turns a b c is s n = refl

-- ---- the body of a loop, and what goes on after it

-- the body ended in a way after which the loop goes on
abbrev pub GoesOn : How → Type 0
GoesOn normally = Unit {0}
GoesOn by_break = ⊥
GoesOn by_continue = Unit {0}
GoesOn (by_return v) = ⊥
GoesOn (undefined at) = ⊥
GoesOn out_of_turns = ⊥

pub after_goes : (h : How) (b : Run) (s : Store) (n : ℕ) → GoesOn h → after_body h b s n ≡ b s n
after_goes normally b s n g = refl
after_goes by_break b s n g = absurd g
after_goes by_continue b s n g = refl
after_goes (by_return v) b s n g = absurd g
after_goes (undefined at) b s n g = absurd g
after_goes out_of_turns b s n g = absurd g

pub after_end : (h : How) (a2 : Run) (s : Store) (l : ℕ) → IsDefined (after_body h a2 s l).how → IsDefined h
after_end normally a2 s l e = tt
after_end by_break a2 s l e = tt
after_end by_continue a2 s l e = tt
after_end (by_return v) a2 s l e = tt
after_end (undefined at) a2 s l e = e
after_end out_of_turns a2 s l e = e
