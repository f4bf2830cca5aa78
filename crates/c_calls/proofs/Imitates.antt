-- A run is imitated by runs b i j from some i and j on, with as many turns as they need: they end in the same way, in a store that is related to that of the run. Imitations are put together as runs are.
-- It speaks of any two runs, so it is used both ways between programs with calls and without. The first index is a bound on the turns of calls, the second one on the rounds of a loop.
use Rattle.std.proofs.Common.{◌≡◌, ℕ, ℤ, zero, suc, ◌+◌, ◌-◌, ◌≤◌, sym, ◌∙◌, ap, subst, arith, refl}
use Rattle.std.specs.Prelude.{Bool, true, false, IsTrue}
use Rattle.c_meaning.specs.Operators.{is_zero}
use Rattle.c_meaning.specs.Stores.{Store}
use Rattle.c_meaning.specs.Expressions.{Val, undefined_value, value, Meaning}
use Rattle.c_meaning.specs.Profiles.{IsDefined}
use Rattle.c_meaning.specs.Runs.{How, normally, by_break, by_continue, by_return, undefined, out_of_turns, Ended, Run, ends, turn, go_on, both_runs, with_val, with_value, run_of, after_body, looped, rounds, loop}
use Rattle.c_meaning.specs.Statements.{nothing}
use Rattle.c_meaning.proofs.RunParts.{had, taken, go_end, after_end, after_goes, GoesOn}

abbrev pub Rel : Type 1
Rel = Store → Store → Type 0

-- how the stores are related after an end: R where it is normal; M where it leaves, which it may do as the flags say
abbrev pub After : Rel → Rel → Bool → Bool → How → Rel
After R M ret inside normally s t = R s t
After R M ret inside by_break s t = IsTrue inside × M s t
After R M ret inside by_continue s t = IsTrue inside × M s t
After R M ret inside (by_return v) s t = IsTrue ret × M s t
After R M ret inside (undefined at) s t = ⊥
After R M ret inside out_of_turns s t = ⊥

abbrev pub ended : How → Store → ℕ → Ended
ended h s n = record { how = h; store = s; left = n }

pub record Imitates (R M : Rel) (ret inside : Bool) (e : Ended) (m : ℕ) (b : ℕ → ℕ → Run) (t : Store) : Type 0 where
  pub least : ℕ
  pub need : ℕ
  pub turns : ℕ
  pub last : Store
  pub within : need ≤ turns
  pub takes : (i j l : ℕ) → b (least + i) (need + j) t (turns + l) ≡ ended e.how last l
  pub after : After R M ret inside e.how e.store last
  pub less : e.left ≤ m

-- of at most n turns
abbrev pub Sims : ℕ → Rel → Rel → Rel → Bool → Bool → Run → (ℕ → ℕ → Run) → Type 0
Sims n R S M ret inside a b = (s t : Store) (m : ℕ) → m ≤ n → R s t → IsDefined (a s m).how → Imitates S M ret inside (a s m) m b t

-- ---- relations

after_map : (S1 S2 M1 M2 : Rel) (ret in1 in2 : Bool) (h : How) (s t : Store) → ((s t : Store) → S1 s t → S2 s t) → ((s t : Store) → M1 s t → M2 s t) → (IsTrue in1 → IsTrue in2) → After S1 M1 ret in1 h s t → After S2 M2 ret in2 h s t
after_map S1 S2 M1 M2 ret in1 in2 normally s t f g k x = f s t x
after_map S1 S2 M1 M2 ret in1 in2 by_break s t f g k x = (k x.0, g s t x.1)
after_map S1 S2 M1 M2 ret in1 in2 by_continue s t f g k x = (k x.0, g s t x.1)
after_map S1 S2 M1 M2 ret in1 in2 (by_return v) s t f g k x = (x.0, g s t x.1)
after_map S1 S2 M1 M2 ret in1 in2 (undefined at) s t f g k x = x
after_map S1 S2 M1 M2 ret in1 in2 out_of_turns s t f g k x = x

pub map_sims : (n : ℕ) (Ra Rb S1 S2 M1 M2 : Rel) (ret in1 in2 : Bool) (a : Run) (b : ℕ → ℕ → Run) → ((s t : Store) → Rb s t → Ra s t) → ((s t : Store) → S1 s t → S2 s t) → ((s t : Store) → M1 s t → M2 s t) → (IsTrue in1 → IsTrue in2)
    → Sims n Ra S1 M1 ret in1 a b → Sims n Rb S2 M2 ret in2 a b
map_sims n Ra Rb S1 S2 M1 M2 ret in1 in2 a b e f g k x s t m le r d =
    let q = x s t m le (e s t r) d in
    record { least = q.least; need = q.need; turns = q.turns; last = q.last; within = q.within; takes = q.takes; after = after_map S1 S2 M1 M2 ret in1 in2 (a s m).how (a s m).store q.last f g k q.after; less = q.less }

-- both begin in stores that are made of those before
pub from_sims : (n : ℕ) (Ra Rb S M : Rel) (ret inside : Bool) (a : Run) (b : ℕ → ℕ → Run) (f g : Store → Store) → ((s t : Store) → Rb s t → Ra (f s) (g t))
    → Sims n Ra S M ret inside a b → Sims n Rb S M ret inside (λ s n. a (f s) n) (λ i j s n. b i j (g s) n)
from_sims n Ra Rb S M ret inside a b f g e x s t m le r d =
    let q = x (f s) (g t) m le (e s t r) d in
    record { least = q.least; need = q.need; turns = q.turns; last = q.last; within = q.within; takes = q.takes; after = q.after; less = q.less }

-- ---- ends and turns

pub ends_sims : (n : ℕ) (R S M : Rel) (ret inside : Bool) (h : How) → ((s t : Store) → R s t → After S M ret inside h s t) → Sims n R S M ret inside (ends h) (λ i j. ends h)
ends_sims n R S M ret inside h f s t m le r d = record { least = 0; need = 0; turns = 0; last = t; within = omega arith; takes = λ i j l. let e : 0 + l ≡ l = omega arith in ap (λ n. ended h t n) e; after = f s t r; less = omega arith }

pub turn_sims : (n : ℕ) (R S M : Rel) (ret inside : Bool) (a : Run) (b : ℕ → ℕ → Run) → Sims n R S M ret inside a b → Sims n R S M ret inside (turn a) (λ i j. turn (b i j))
turn_sims n R S M ret inside a b x s t zero le r d = absurd d
turn_sims n R S M ret inside a b x s t (suc m) le r d =
    let q = x s t m (omega arith) r d in
    record { least = q.least; need = q.need; turns = suc q.turns; last = q.last; within = let w = q.within in omega arith; takes = λ i j l. let e : suc q.turns + l ≡ suc (q.turns + l) = omega arith in ap (λ n. turn (b (q.least + i) (q.need + j)) t n) e ∙ q.takes i j l; after = q.after; less = let w = q.less in omega arith }

-- a turn of the second alone, and of the first alone
pub turn_right : (n : ℕ) (R S M : Rel) (ret inside : Bool) (a : Run) (b : ℕ → ℕ → Run) → Sims n R S M ret inside a b → Sims n R S M ret inside a (λ i j. turn (b i j))
turn_right n R S M ret inside a b x s t m le r d =
    let q = x s t m le r d in
    record { least = q.least; need = q.need; turns = suc q.turns; last = q.last; within = let w = q.within in omega arith; takes = λ i j l. let e : suc q.turns + l ≡ suc (q.turns + l) = omega arith in ap (λ n. turn (b (q.least + i) (q.need + j)) t n) e ∙ q.takes i j l; after = q.after; less = q.less }

pub turn_left : (n : ℕ) (R S M : Rel) (ret inside : Bool) (a : Run) (b : ℕ → ℕ → Run) → Sims n R S M ret inside a b → Sims n R S M ret inside (turn a) b
turn_left n R S M ret inside a b x s t zero le r d = absurd d
turn_left n R S M ret inside a b x s t (suc m) le r d =
    let q = x s t m (omega arith) r d in
    record { least = q.least; need = q.need; turns = q.turns; last = q.last; within = q.within; takes = q.takes; after = q.after; less = let w = q.less in omega arith }

-- ---- one after another

abbrev go_of : Run → Ended → Ended
go_of b z = go_on z.how b z.store z.left

-- a run after one that ended so, where the next goes on after such an end
in_turn : (next : Run → Ended → Ended) (h : How) → ((b : Run) (s : Store) (l : ℕ) → next b (ended h s l) ≡ b s l) → (n : ℕ) (R S T M N : Rel) (ret inner inside : Bool) (s1 : Store) (l m : ℕ) (a2 : Run) (b1 b2 : ℕ → ℕ → Run) (t : Store) → m ≤ n
    → (x : Imitates R N ret inner (ended h s1 l) m b1 t) → T s1 x.last → Sims n T S M ret inside a2 b2 → IsDefined (a2 s1 l).how → Imitates S M ret inside (a2 s1 l) m (λ i j s0 n0. next (b2 i j) (b1 i j s0 n0)) t
in_turn next h goes n R S T M N ret inner inside s1 l m a2 b1 b2 t le x near sim d =
    let y = sim s1 x.last l (let w = x.less in omega arith) near d in
    record {
      least = x.least + y.least;
      need = x.need + y.need;
      turns = x.turns + y.turns;
      last = y.last;
      within = let v = x.within in let w = y.within in omega arith;
      takes = λ i j l0.
          let e : x.turns + y.turns + l0 ≡ x.turns + (y.turns + l0) = omega arith in
          let a1 : x.least + y.least + i ≡ x.least + (y.least + i) = omega arith in
          let a3 : x.need + y.need + j ≡ x.need + (y.need + j) = omega arith in
          let c1 : x.least + y.least + i ≡ y.least + (x.least + i) = omega arith in
          let c3 : x.need + y.need + j ≡ y.need + (x.need + j) = omega arith in
          let i0 = x.least + y.least + i in
          let j0 = x.need + y.need + j in
          ap (λ n0. next (b2 i0 j0) (b1 i0 j0 t n0)) e
          ∙ ap (next (b2 i0 j0)) (ap (λ i1. b1 i1 j0 t (x.turns + (y.turns + l0))) a1 ∙ ap (λ j1. b1 (x.least + (y.least + i)) j1 t (x.turns + (y.turns + l0))) a3 ∙ x.takes (y.least + i) (y.need + j) (y.turns + l0))
          ∙ goes (b2 i0 j0) x.last (y.turns + l0)
          ∙ ap (λ i1. b2 i1 j0 x.last (y.turns + l0)) c1 ∙ ap (λ j1. b2 (y.least + (x.least + i)) j1 x.last (y.turns + l0)) c3 ∙ y.takes (x.least + i) (x.need + j) l0;
      after = y.after;
      less = let v = x.less in let w = y.less in omega arith;
    }

go_first : (n : ℕ) (R S M : Rel) (ret inside : Bool) (h : How) (s1 : Store) (l m : ℕ) (a2 : Run) (b1 b2 : ℕ → ℕ → Run) (t : Store) → m ≤ n → Imitates R M ret inside (ended h s1 l) m b1 t → Sims n R S M ret inside a2 b2 → IsDefined (go_on h a2 s1 l).how
    → Imitates S M ret inside (go_on h a2 s1 l) m (λ i j. both_runs (b1 i j) (b2 i j)) t
go_first n R S M ret inside normally s1 l m a2 b1 b2 t le x sim d = in_turn go_of normally (λ b s0 n0. refl) n R S R M M ret inside inside s1 l m a2 b1 b2 t le x x.after sim d
go_first n R S M ret inside by_break s1 l m a2 b1 b2 t le x sim d = record { least = x.least; need = x.need; turns = x.turns; last = x.last; within = x.within; takes = λ i j l0. ap (go_of (b2 (x.least + i) (x.need + j))) (x.takes i j l0); after = x.after; less = x.less }
go_first n R S M ret inside by_continue s1 l m a2 b1 b2 t le x sim d = record { least = x.least; need = x.need; turns = x.turns; last = x.last; within = x.within; takes = λ i j l0. ap (go_of (b2 (x.least + i) (x.need + j))) (x.takes i j l0); after = x.after; less = x.less }
go_first n R S M ret inside (by_return v) s1 l m a2 b1 b2 t le x sim d = record { least = x.least; need = x.need; turns = x.turns; last = x.last; within = x.within; takes = λ i j l0. ap (go_of (b2 (x.least + i) (x.need + j))) (x.takes i j l0); after = x.after; less = x.less }
go_first n R S M ret inside (undefined at) s1 l m a2 b1 b2 t le x sim d = absurd d
go_first n R S M ret inside out_of_turns s1 l m a2 b1 b2 t le x sim d = absurd d

pub both_sims : (n : ℕ) (R S T M : Rel) (ret inside : Bool) (a1 a2 : Run) (b1 b2 : ℕ → ℕ → Run) → Sims n R S M ret inside a1 b1 → Sims n S T M ret inside a2 b2 → Sims n R T M ret inside (both_runs a1 a2) (λ i j. both_runs (b1 i j) (b2 i j))
both_sims n R S T M ret inside a1 a2 b1 b2 x y s t m le r d =
    let e = a1 s m in go_first n S T M ret inside e.how e.store e.left m a2 b1 b2 t le (x s t m le r (go_end e.how a2 e.store e.left d)) y d

-- ---- the body of a loop, and what goes on after it

abbrev after_of : Run → Ended → Ended
after_of b z = after_body z.how b z.store z.left

goes_again : (n : ℕ) (S M : Rel) (ret inside : Bool) (h : How) (s1 : Store) (l m : ℕ) (a2 : Run) (b1 b2 : ℕ → ℕ → Run) (t : Store) → m ≤ n → GoesOn h → (x : Imitates M M ret true (ended h s1 l) m b1 t) → M s1 x.last → Sims n M S M ret inside a2 b2 → IsDefined (a2 s1 l).how
    → Imitates S M ret inside (a2 s1 l) m (λ i j. looped (b1 i j) (b2 i j)) t
goes_again n S M ret inside h s1 l m a2 b1 b2 t le go x near sim d = in_turn after_of h (λ b s0 n0. after_goes h b s0 n0 go) n M S M M M ret true inside s1 l m a2 b1 b2 t le x near sim d

after_first : (n : ℕ) (S M : Rel) (ret inside : Bool) (h : How) (s1 : Store) (l m : ℕ) (a2 : Run) (b1 b2 : ℕ → ℕ → Run) (t : Store) → m ≤ n → ((s t : Store) → M s t → S s t) → Imitates M M ret true (ended h s1 l) m b1 t → Sims n M S M ret inside a2 b2 → IsDefined (after_body h a2 s1 l).how
    → Imitates S M ret inside (after_body h a2 s1 l) m (λ i j. looped (b1 i j) (b2 i j)) t
after_first n S M ret inside normally s1 l m a2 b1 b2 t le f x sim d = goes_again n S M ret inside normally s1 l m a2 b1 b2 t le tt x x.after sim d
after_first n S M ret inside by_continue s1 l m a2 b1 b2 t le f x sim d = goes_again n S M ret inside by_continue s1 l m a2 b1 b2 t le tt x x.after.1 sim d
after_first n S M ret inside by_break s1 l m a2 b1 b2 t le f x sim d = record { least = x.least; need = x.need; turns = x.turns; last = x.last; within = x.within; takes = λ i j l0. ap (after_of (b2 (x.least + i) (x.need + j))) (x.takes i j l0); after = f s1 x.last x.after.1; less = x.less }
after_first n S M ret inside (by_return v) s1 l m a2 b1 b2 t le f x sim d = record { least = x.least; need = x.need; turns = x.turns; last = x.last; within = x.within; takes = λ i j l0. ap (after_of (b2 (x.least + i) (x.need + j))) (x.takes i j l0); after = x.after; less = x.less }
after_first n S M ret inside (undefined at) s1 l m a2 b1 b2 t le f x sim d = absurd d
after_first n S M ret inside out_of_turns s1 l m a2 b1 b2 t le f x sim d = absurd d

pub looped_sims : (n : ℕ) (M : Rel) (ret inside : Bool) (a1 a2 : Run) (b1 b2 : ℕ → ℕ → Run) → Sims n M M M ret true a1 b1 → Sims n M M M ret inside a2 b2 → Sims n M M M ret inside (looped a1 a2) (λ i j. looped (b1 i j) (b2 i j))
looped_sims n M ret inside a1 a2 b1 b2 x y s t m le r d =
    let e = a1 s m in after_first n M M ret inside e.how e.store e.left m a2 b1 b2 t le (λ s t z. z) (x s t m le r (after_end e.how a2 e.store e.left d)) y d

-- ---- choices by a condition that gives the same in both

pub side_sims : (z : Bool) (n : ℕ) (R S M : Rel) (ret inside : Bool) (a1 a2 : Run) (b1 b2 : ℕ → ℕ → Run) → Sims n R S M ret inside a1 b1 → Sims n R S M ret inside a2 b2 → Sims n R S M ret inside (run_of z a1 a2) (λ i j. run_of z (b1 i j) (b2 i j))
side_sims true n R S M ret inside a1 a2 b1 b2 x y s t m le r d = let q = x s t m le r d in record { least = q.least; need = q.need; turns = q.turns; last = q.last; within = q.within; takes = q.takes; after = q.after; less = q.less }
side_sims false n R S M ret inside a1 a2 b1 b2 x y s t m le r d = let q = y s t m le r d in record { least = q.least; need = q.need; turns = q.turns; last = q.last; within = q.within; takes = q.takes; after = q.after; less = q.less }

value_sims : (n : ℕ) (S M : Rel) (ret inside : Bool) (v : Val) (next : ℤ → Run) (next2 : ℕ → ℕ → ℤ → Run) (c2 : ℕ → Meaning) (R : Rel) → ((x : ℤ) → Sims n R S M ret inside (next x) (λ i j. next2 i j x))
    → (s t : Store) (m : ℕ) → m ≤ n → R s t → ((i : ℕ) → c2 i t ≡ v) → IsDefined (with_val v next s m).how → Imitates S M ret inside (with_val v next s m) m (λ i j. with_value (c2 i) (next2 i j)) t
value_sims n S M ret inside (undefined_value at) next next2 c2 R f s t m le r is d = absurd d
value_sims n S M ret inside (value x u) next next2 c2 R f s t m le r is d =
    let h = had u (next x) s m d in
    let e = next x s h.rest in
    let q = f x s t h.rest (let w = h.sum in omega arith) r (subst (λ (z : Ended). IsDefined z.how) h.is d) in
    let made : Imitates S M ret inside e m (λ i j. with_value (c2 i) (next2 i j)) t = record {
      least = q.least;
      need = q.need;
      turns = u + q.turns;
      last = q.last;
      within = let w = q.within in omega arith;
      takes = λ i j l.
          let a : u + q.turns + l ≡ u + (q.turns + l) = omega arith in
          ap (λ n0. with_value (c2 (q.least + i)) (next2 (q.least + i) (q.need + j)) t n0) a ∙ ap (λ v. with_val v (next2 (q.least + i) (q.need + j)) t (u + (q.turns + l))) (is (q.least + i)) ∙ taken u (next2 (q.least + i) (q.need + j) x) t (q.turns + l) ∙ q.takes i j l;
      after = q.after;
      less = let a = q.less in let b = h.sum in omega arith;
    } in
    subst (λ (z : Ended). Imitates S M ret inside z m (λ i j. with_value (c2 i) (next2 i j)) t) (sym h.is) made

-- the value of an expression that is the same in both
pub same_value_sims : (n : ℕ) (R S M : Rel) (ret inside : Bool) (c : Meaning) (c2 : ℕ → Meaning) (next : ℤ → Run) (next2 : ℕ → ℕ → ℤ → Run) → ((s t : Store) → R s t → (i : ℕ) → c2 i t ≡ c s) → ((x : ℤ) → Sims n R S M ret inside (next x) (λ i j. next2 i j x))
    → Sims n R S M ret inside (with_value c next) (λ i j. with_value (c2 i) (next2 i j))
same_value_sims n R S M ret inside c c2 next next2 is f s t m le r d = value_sims n S M ret inside (c s) next next2 c2 R f s t m le r (is s t r) d

-- ---- loops

module _ (n : ℕ) (M : Rel) (ret inside : Bool) (c : Meaning) (c2 : ℕ → Meaning) (a1 a2 : Run) (b1 b2 : ℕ → Run) (is : (s t : Store) → M s t → (i : ℕ) → c2 i t ≡ c s) (body : Sims n M M M ret true a1 (λ i j. b1 i)) (step : Sims n M M M ret inside a2 (λ i j. b2 i)) where
  abbrev rounds_of : ℕ → ℕ → Run
  rounds_of i j = rounds j nothing (c2 i) (b1 i) (b2 i)

  rounds_sims : (r : ℕ) → Sims n M M M ret inside (rounds r nothing c a1 a2) rounds_of
  rounds_sims zero s t m le near d = absurd d
  rounds_sims (suc r) s t zero le near d = absurd d
  rounds_sims (suc r) s t (suc m) le near d =
      let again = looped_sims n M ret inside a1 (both_runs a2 (rounds r nothing c a1 a2)) (λ i j. b1 i) (λ i j. both_runs (b2 i) (rounds_of i j)) body
      (both_sims n M M M M ret inside a2 (rounds r nothing c a1 a2) (λ i j. b2 i) rounds_of step (rounds_sims r)) in
      let over = ends_sims n M M M ret inside normally (λ s t x. x) in
      let next : ℤ → Run = λ x. run_of (is_zero x) (ends normally) (looped a1 (both_runs a2 (rounds r nothing c a1 a2))) in
      let next2 : ℕ → ℕ → ℤ → Run = λ i j x. run_of (is_zero x) (ends normally) (looped (b1 i) (both_runs (b2 i) (rounds_of i j))) in
      let q = same_value_sims n M M M ret inside c c2 next next2 is
      (λ x. side_sims (is_zero x) n M M M ret inside (ends normally) (looped a1 (both_runs a2 (rounds r nothing c a1 a2))) (λ i j. ends normally) (λ i j. looped (b1 i) (both_runs (b2 i) (rounds_of i j))) over again) s t m (omega arith) near d in
      record {
        least = q.least;
        need = suc q.need;
        turns = suc q.turns;
        last = q.last;
        within = let w = q.within in omega arith;
        takes = λ i j l.
            let e : suc q.turns + l ≡ suc (q.turns + l) = omega arith in
            let g : suc q.need + j ≡ suc (q.need + j) = omega arith in
            ap (λ j1. rounds_of (q.least + i) j1 t (suc q.turns + l)) g ∙ ap (λ n0. rounds_of (q.least + i) (suc (q.need + j)) t n0) e ∙ q.takes i j l;
        after = q.after;
        less = let w = q.less in omega arith;
      }

  pub loop_sims : Sims n M M M ret inside (loop nothing c a1 a2) (λ i j. loop nothing (c2 i) (b1 i) (b2 i))
  loop_sims s t m le near d =
      let q = rounds_sims (suc m) s t m le near d in
      record {
        least = q.least;
        need = 0;
        turns = q.turns;
        last = q.last;
        within = omega arith;
        takes = λ i j l.
            let g : suc (q.turns + l) ≡ q.need + (suc (q.turns + l) - q.need) = let w = q.within in omega arith in
            ap (λ j1. rounds_of (q.least + i) j1 t (q.turns + l)) g ∙ q.takes i (suc (q.turns + l) - q.need) l;
        after = q.after;
        less = q.less;
      }

  -- the body once, and then the loop
  pub do_sims : Sims n M M M ret inside (looped a1 (loop nothing c a1 a2)) (λ i j. looped (b1 i) (loop nothing (c2 i) (b1 i) (b2 i)))
  do_sims = looped_sims n M ret inside a1 (loop nothing c a1 a2) (λ i j. b1 i) (λ i j. loop nothing (c2 i) (b1 i) (b2 i)) body loop_sims
