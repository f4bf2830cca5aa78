-- Runs with calls against runs without, both ways at once, put together as runs are.
use Rattle.std.proofs.Common.{◌≡◌, ℕ, ℤ, ◌+◌, Option, sym, ◌∙◌, subst}
use Rattle.std.specs.Prelude.{Bool, true, IsTrue}
use Rattle.c_meaning.specs.Stores.{Store}
use Rattle.c_meaning.specs.Expressions.{Meaning}
use Rattle.c_meaning.specs.Profiles.{IsDefined}
use Rattle.c_meaning.specs.Runs.{normally, by_break, by_continue, by_return, Ended, Run, ends, turn, both_runs, run_of, looped, loop}
use Rattle.c_meaning.specs.Statements.{nothing}
use Rattle.c_calls.proofs.Imitates.{Rel, Imitates, Sims, map_sims, from_sims, ends_sims, turn_sims, turn_right, turn_left, both_sims, side_sims, loop_sims, do_sims}
use Rattle.c_calls.proofs.Expands.{flip, Both}

pub both_map : (Ra Rb S1 S2 M1 M2 : Rel) (ret in1 in2 : Bool) (a : ℕ → Run) (b : Run) → ((s t : Store) → Rb s t → Ra s t) → ((s t : Store) → S1 s t → S2 s t) → ((s t : Store) → M1 s t → M2 s t) → (IsTrue in1 → IsTrue in2) → Both Ra S1 M1 ret in1 a b → Both Rb S2 M2 ret in2 a b
both_map Ra Rb S1 S2 M1 M2 ret in1 in2 a b e f g h x = record {
  forth = λ n. map_sims n Ra Rb S1 S2 M1 M2 ret in1 in2 (a n) (λ i j. b) e f g h (x.forth n);
  back = λ n. map_sims n (flip Ra) (flip Rb) (flip S1) (flip S2) (flip M1) (flip M2) ret in1 in2 b (λ i j. a i) (λ t s. e s t) (λ t s. f s t) (λ t s. g s t) h (x.back n);
}

pub both_from : (Ra Rb S M : Rel) (ret inside : Bool) (a : ℕ → Run) (b : Run) (f g : Store → Store) → ((s t : Store) → Rb s t → Ra (f s) (g t)) → Both Ra S M ret inside a b → Both Rb S M ret inside (λ n s l. a n (f s) l) (λ s l. b (g s) l)
both_from Ra Rb S M ret inside a b f g e x = record {
  forth = λ n. from_sims n Ra Rb S M ret inside (a n) (λ i j. b) f g e (x.forth n);
  back = λ n. from_sims n (flip Ra) (flip Rb) (flip S) (flip M) ret inside b (λ i j. a i) g f (λ t s. e s t) (x.back n);
}

-- the same runs in other words
sims_left : (n : ℕ) (R S M : Rel) (ret inside : Bool) (a a2 : Run) (b : ℕ → ℕ → Run) → ((s : Store) (l : ℕ) → a2 s l ≡ a s l) → Sims n R S M ret inside a b → Sims n R S M ret inside a2 b
sims_left n R S M ret inside a a2 b h x s t m le r d =
    let q = x s t m le r (subst (λ (z : Ended). IsDefined z.how) (h s m) d) in
    subst (λ (z : Ended). Imitates S M ret inside z m b t) (sym (h s m)) q

sims_right : (n : ℕ) (R S M : Rel) (ret inside : Bool) (a : Run) (b b2 : ℕ → ℕ → Run) → ((i j : ℕ) (s : Store) (l : ℕ) → b2 i j s l ≡ b i j s l) → Sims n R S M ret inside a b → Sims n R S M ret inside a b2
sims_right n R S M ret inside a b b2 h x s t m le r d =
    let q = x s t m le r d in
    record { least = q.least; need = q.need; turns = q.turns; last = q.last; within = q.within; takes = λ i j l. h (q.least + i) (q.need + j) t (q.turns + l) ∙ q.takes i j l; after = q.after; less = q.less }

pub both_respell : (R S M : Rel) (ret inside : Bool) (a a2 : ℕ → Run) (b b2 : Run) → ((n : ℕ) (s : Store) (l : ℕ) → a2 n s l ≡ a n s l) → ((s : Store) (l : ℕ) → b2 s l ≡ b s l) → Both R S M ret inside a b → Both R S M ret inside a2 b2
both_respell R S M ret inside a a2 b b2 g h x = record {
  forth = λ n. sims_left n R S M ret inside (a n) (a2 n) (λ i j. b2) (g n) (sims_right n R S M ret inside (a n) (λ i j. b) (λ i j. b2) (λ i j. h) (x.forth n));
  back = λ n. sims_left n (flip R) (flip S) (flip M) ret inside b b2 (λ i j. a2 i) h (sims_right n (flip R) (flip S) (flip M) ret inside b (λ i j. a i) (λ i j. a2 i) (λ i j. g i) (x.back n));
}

pub both_turns : (R S M : Rel) (ret inside : Bool) (a : ℕ → Run) (b : Run) → Both R S M ret inside a b → Both R S M ret inside (λ n. turn (a n)) (turn b)
both_turns R S M ret inside a b x = record {
  forth = λ n. turn_sims n R S M ret inside (a n) (λ i j. b) (x.forth n);
  back = λ n. turn_sims n (flip R) (flip S) (flip M) ret inside b (λ i j. a i) (x.back n);
}

-- a turn of the tree without calls alone
pub both_turn : (R S M : Rel) (ret inside : Bool) (a : ℕ → Run) (b : Run) → Both R S M ret inside a b → Both R S M ret inside a (turn b)
both_turn R S M ret inside a b x = record {
  forth = λ n. turn_right n R S M ret inside (a n) (λ i j. b) (x.forth n);
  back = λ n. turn_left n (flip R) (flip S) (flip M) ret inside b (λ i j. a i) (x.back n);
}

pub both_both : (R S T M : Rel) (ret inside : Bool) (a1 a2 : ℕ → Run) (b1 b2 : Run) → Both R S M ret inside a1 b1 → Both S T M ret inside a2 b2 → Both R T M ret inside (λ n. both_runs (a1 n) (a2 n)) (both_runs b1 b2)
both_both R S T M ret inside a1 a2 b1 b2 x y = record {
  forth = λ n. both_sims n R S T M ret inside (a1 n) (a2 n) (λ i j. b1) (λ i j. b2) (x.forth n) (y.forth n);
  back = λ n. both_sims n (flip R) (flip S) (flip T) (flip M) ret inside b1 b2 (λ i j. a1 i) (λ i j. a2 i) (x.back n) (y.back n);
}

pub both_nothing : (R S M : Rel) (ret inside : Bool) → ((s t : Store) → R s t → S s t) → Both R S M ret inside (λ n. ends normally) (ends normally)
both_nothing R S M ret inside f = record { forth = λ n. ends_sims n R S M ret inside normally f; back = λ n. ends_sims n (flip R) (flip S) (flip M) ret inside normally (λ t s. f s t) }

pub both_break : (R S M : Rel) (ret inside : Bool) → IsTrue inside → ((s t : Store) → R s t → M s t) → Both R S M ret inside (λ n. ends by_break) (ends by_break)
both_break R S M ret inside e f = record { forth = λ n. ends_sims n R S M ret inside by_break (λ s t r. (e, f s t r)); back = λ n. ends_sims n (flip R) (flip S) (flip M) ret inside by_break (λ t s r. (e, f s t r)) }

pub both_continue : (R S M : Rel) (ret inside : Bool) → IsTrue inside → ((s t : Store) → R s t → M s t) → Both R S M ret inside (λ n. ends by_continue) (ends by_continue)
both_continue R S M ret inside e f = record { forth = λ n. ends_sims n R S M ret inside by_continue (λ s t r. (e, f s t r)); back = λ n. ends_sims n (flip R) (flip S) (flip M) ret inside by_continue (λ t s r. (e, f s t r)) }

pub both_return : (R S M : Rel) (ret inside : Bool) (v : Option ℤ) → IsTrue ret → ((s t : Store) → R s t → M s t) → Both R S M ret inside (λ n. ends (by_return v)) (ends (by_return v))
both_return R S M ret inside v e f = record { forth = λ n. ends_sims n R S M ret inside (by_return v) (λ s t r. (e, f s t r)); back = λ n. ends_sims n (flip R) (flip S) (flip M) ret inside (by_return v) (λ t s r. (e, f s t r)) }

pub both_side : (z : Bool) (R S M : Rel) (ret inside : Bool) (a1 a2 : ℕ → Run) (b1 b2 : Run) → Both R S M ret inside a1 b1 → Both R S M ret inside a2 b2 → Both R S M ret inside (λ n. run_of z (a1 n) (a2 n)) (run_of z b1 b2)
both_side z R S M ret inside a1 a2 b1 b2 x y = record {
  forth = λ n. side_sims z n R S M ret inside (a1 n) (a2 n) (λ i j. b1) (λ i j. b2) (x.forth n) (y.forth n);
  back = λ n. side_sims z n (flip R) (flip S) (flip M) ret inside b1 b2 (λ i j. a1 i) (λ i j. a2 i) (x.back n) (y.back n);
}

module _ (M : Rel) (ret inside : Bool) (c : ℕ → Meaning) (c2 : Meaning) (a1 a2 : ℕ → Run) (b1 b2 : Run) (is : (n : ℕ) (s t : Store) → M s t → c2 t ≡ c n s) (body : Both M M M ret true a1 b1) (step : Both M M M ret inside a2 b2) where
  pub both_loop : Both M M M ret inside (λ n. loop nothing (c n) (a1 n) (a2 n)) (loop nothing c2 b1 b2)
  both_loop = record {
    forth = λ n. loop_sims n M ret inside (c n) (λ i. c2) (a1 n) (a2 n) (λ i. b1) (λ i. b2) (λ s t r i. is n s t r) (body.forth n) (step.forth n);
    back = λ n. loop_sims n (flip M) ret inside c2 c b1 b2 a1 a2 (λ t s r i. sym (is i s t r)) (body.back n) (step.back n);
  }

  pub both_do : Both M M M ret inside (λ n. looped (a1 n) (loop nothing (c n) (a1 n) (a2 n))) (looped b1 (loop nothing c2 b1 b2))
  both_do = record {
    forth = λ n. do_sims n M ret inside (c n) (λ i. c2) (a1 n) (a2 n) (λ i. b1) (λ i. b2) (λ s t r i. is n s t r) (body.forth n) (step.forth n);
    back = λ n. do_sims n (flip M) ret inside c2 c b1 b2 a1 a2 (λ t s r i. sym (is i s t r)) (body.back n) (step.back n);
  }
