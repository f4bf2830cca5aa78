-- Runs that take exact turns whatever is left, and what they count: one after another, by a turn, by a value, by a choice.
use Rattle.std.proofs.Common.{◌≡◌, ℕ, zero, suc, ◌+◌, List, [], ◌∷◌, ◌++◌, refl, ◌∙◌, ap, subst, arith}
use Rattle.std.specs.Prelude.{ℤ}
use Rattle.c_meaning.specs.Operators.{is_zero}
use Rattle.c_meaning.specs.Stores.{Store}
use Rattle.c_meaning.specs.Expressions.{value, Meaning}
use Rattle.c_meaning.specs.Runs.{How, normally, by_break, by_continue, by_return, undefined, out_of_turns, Ended, Run, ends, turn, go_on, both_runs, with_val, with_value, branch}
use Rattle.c_meaning.specs.Runs as runs
use Rattle.c_meaning.specs.Statements.{in_order}
use Rattle.c_meaning.specs.Counts.{Tally, tally, both_tallies, Counting, counting, only, counting_after, Counted, run_of, where_normal, counts_both, counts_in_order, acts_of, with_counts, counts_of, counts_branch}
use Rattle.c_meaning.proofs.RunParts.{taken, go_assoc}

-- with so many turns and any number more, all of which are left
pub record Takes (run : Run) (counts : Counting) (s : Store) (how : How) (last : Store) (turns jumps price : ℕ) : Type 0 where
  pub runs : (l : ℕ) → run s (turns + l) ≡ record { how = how; store = last; left = l }
  pub counted : (l : ℕ) → counts s (turns + l) ≡ tally jumps price

-- it does not end normally
abbrev pub Stops : How → Type 0
Stops normally = ⊥
Stops by_break = Unit {0}
Stops by_continue = Unit {0}
Stops (by_return v) = Unit {0}
Stops (undefined at) = Unit {0}
Stops out_of_turns = Unit {0}

pub counted_after : (t : ℕ) (c : Counting) (s : Store) (l : ℕ) → counting_after t c s (t + l) ≡ c s l
counted_after zero c s l = let e : 0 + l ≡ l = omega arith in ap (λ n. c s n) e
counted_after (suc t) c s l = let e : suc t + l ≡ suc (t + l) = omega arith in ap (λ n. counting_after (suc t) c s n) e ∙ counted_after t c s l

pub takes_end : (h : How) (j p : ℕ) (s : Store) → Takes (ends h) (only (tally j p)) s h s 0 j p
takes_end h j p s = record { runs = λ l. let e : 0 + l ≡ l = omega arith in ap (λ n. record { how = h; store = s; left = n }) e; counted = λ l. refl }

pub takes_turn : (a : Run) (c : Counting) (s t : Store) (h : How) (m j p : ℕ) → Takes a c s h t m j p → Takes (turn a) (counting_after 1 c) s h t (1 + m) j p
takes_turn a c s t h m j p x = record {
  runs = λ l. let e : 1 + m + l ≡ suc (m + l) = omega arith in ap (λ n. turn a s n) e ∙ x.runs l;
  counted = λ l. let e : 1 + m + l ≡ suc (m + l) = omega arith in ap (λ n. counting_after 1 c s n) e ∙ x.counted l;
}

pub takes_more : (a : Run) (c : Counting) (s t : Store) (h : How) (m j p q r : ℕ) → Takes a c s h t m j p → Takes a (counting (tally q r) c) s h t m (q + j) (r + p)
takes_more a c s t h m j p q r x = record { runs = x.runs; counted = λ l. ap (λ z. both_tallies (tally q r) z) (x.counted l) }

-- what follows the value of an expression
pub takes_value : (m : Meaning) (s t : Store) (h : How) (w : ℤ) (u n j p : ℕ) (next : ℤ → Run) (c : ℤ → Counting) → m s ≡ value w u → Takes (next w) (c w) s h t n j p → Takes (with_value m next) (λ s n. with_counts (m s) c s n) s h t (u + n) j p
takes_value m s t h w u n j p next c e x = record {
  runs = λ l. let a : u + n + l ≡ u + (n + l) = omega arith in ap (λ i. with_value m next s i) a ∙ ap (λ v. with_val v next s (u + (n + l))) e ∙ taken u (next w) s (n + l) ∙ x.runs l;
  counted = λ l. let a : u + n + l ≡ u + (n + l) = omega arith in ap (λ i. with_counts (m s) c s i) a ∙ ap (λ v. with_counts v c s (u + (n + l))) e ∙ counted_after u (c w) s (n + l) ∙ x.counted l;
}

-- where the counts do not ask what the value is
-- ---- one after another

abbrev go_on_of : Run → Ended → Ended
go_on_of b z = go_on z.how b z.store z.left

abbrev where_of : Counting → Ended → Tally
where_of d z = where_normal z.how d z.store z.left

pub takes_both : (a b : Run) (c d : Counting) (s t u : Store) (h : How) (m n j l p q : ℕ) → Takes a c s normally t m j p → Takes b d t h u n l q → Takes (both_runs a b) (counts_both a c d) s h u (m + n) (j + l) (p + q)
takes_both a b c d s t u h m n j l p q x y = record {
  runs = λ r. let e : m + n + r ≡ m + (n + r) = omega arith in ap (λ i. both_runs a b s i) e ∙ ap (go_on_of b) (x.runs (n + r)) ∙ y.runs r;
  counted = λ r.
      let e : m + n + r ≡ m + (n + r) = omega arith in
      ap (λ i. counts_both a c d s i) e ∙ ap (λ z. both_tallies (c s (m + (n + r))) (where_of d z)) (x.runs (n + r)) ∙ ap (λ z. both_tallies z (d t (n + r))) (x.counted (n + r)) ∙ ap (λ z. both_tallies (tally j p) z) (y.counted r);
}

go_on_stops : (h : How) (b : Run) (s : Store) (n : ℕ) → Stops h → go_on h b s n ≡ record { how = h; store = s; left = n }
go_on_stops normally b s n e = absurd e
go_on_stops h b s n e = refl

where_stops : (h : How) (d : Counting) (s : Store) (n : ℕ) → Stops h → where_normal h d s n ≡ tally 0 0
where_stops normally d s n e = absurd e
where_stops h d s n e = refl

pub tally_none : (j p : ℕ) → both_tallies (tally j p) (tally 0 0) ≡ tally j p
tally_none j p = let e : j + 0 ≡ j = omega arith in let f : p + 0 ≡ p = omega arith in ap (λ i. tally i (p + 0)) e ∙ ap (λ i. tally j i) f

-- what stops lets nothing follow
pub takes_stop : (a b : Run) (c d : Counting) (s t : Store) (h : How) (m j p : ℕ) → Stops h → Takes a c s h t m j p → Takes (both_runs a b) (counts_both a c d) s h t m j p
takes_stop a b c d s t h m j p e x = record {
  runs = λ r. ap (go_on_of b) (x.runs r) ∙ go_on_stops h b t r e;
  counted = λ r. ap (λ z. both_tallies (c s (m + r)) (where_of d z)) (x.runs r) ∙ ap (λ z. both_tallies (c s (m + r)) z) (where_stops h d t r e) ∙ ap (λ z. both_tallies z (tally 0 0)) (x.counted r) ∙ tally_none j p;
}

-- ---- a choice whose condition has a value

pub takes_branch : (before : List Counted) (a : Meaning) (s r t : Store) (h : How) (w : ℤ) (ta : ℕ) (yes_run no_run : Run) (yes_counts no_counts : Counting) (pa n i q m j p : ℕ) → Takes (in_order (acts_of before)) (counts_in_order before) s normally r n i q → a r ≡ value w ta
    → Takes (runs.run_of (is_zero w) no_run yes_run) (counts_of (is_zero w) no_counts yes_counts) r h t m j p → Takes (branch (in_order (acts_of before)) a yes_run no_run) (counts_branch before pa a yes_counts no_counts) s h t (n + (1 + (ta + m))) (i + (2 + j)) (q + (pa + 2 + p))
takes_branch before a s r t h w ta yes_run no_run yes_counts no_counts pa n i q m j p b e x =
    let v = takes_value a r t h w ta m j p (λ x. runs.run_of (is_zero x) no_run yes_run) (λ x. counts_of (is_zero x) no_counts yes_counts) e x in
    let c = takes_more (with_value a (λ x. runs.run_of (is_zero x) no_run yes_run)) (λ s n. with_counts (a s) (λ x. counts_of (is_zero x) no_counts yes_counts) s n) r t h (ta + m) j p 2 (pa + 2) v in
    let d = takes_turn (with_value a (λ x. runs.run_of (is_zero x) no_run yes_run)) (counting (tally 2 (pa + 2)) (λ s n. with_counts (a s) (λ x. counts_of (is_zero x) no_counts yes_counts) s n)) r t h (ta + m) (2 + j) (pa + 2 + p) c in
    takes_both (in_order (acts_of before)) (turn (with_value a (λ x. runs.run_of (is_zero x) no_run yes_run))) (counts_in_order before) (counting_after 1 (counting (tally 2 (pa + 2)) (λ s n. with_counts (a s) (λ x. counts_of (is_zero x) no_counts yes_counts) s n))) s r t h n (1 + (ta + m)) i (2 + j) q (pa + 2 + p) b d

-- ---- lists

abbrev pub TakesAll : List Counted → Store → How → Store → ℕ → ℕ → ℕ → Type 0
TakesAll parts s h t m j p = Takes (in_order (acts_of parts)) (counts_in_order parts) s h t m j p

pub takes_none : (s : Store) → TakesAll [] s normally s 0 0 0
takes_none s = takes_end normally 0 0 s

-- one statement alone
pub takes_one : (a : Counted) (s t : Store) (h : How) (m j p : ℕ) → Takes (run_of a) a.counts s h t m j p → TakesAll (a ∷ []) s h t m j p
takes_one a s t normally m j p x =
    let z = takes_both (run_of a) (in_order (acts_of [])) a.counts (counts_in_order []) s t t normally m 0 j 0 p 0 x (takes_none t) in
    let e : m + 0 ≡ m = omega arith in let f : j + 0 ≡ j = omega arith in let g : p + 0 ≡ p = omega arith in
    subst (λ q. TakesAll (a ∷ []) s normally t m j q) g (subst (λ i. TakesAll (a ∷ []) s normally t m i (p + 0)) f (subst (λ n. TakesAll (a ∷ []) s normally t n (j + 0) (p + 0)) e z))
takes_one a s t by_break m j p x = takes_stop (run_of a) (in_order (acts_of [])) a.counts (counts_in_order []) s t by_break m j p tt x
takes_one a s t by_continue m j p x = takes_stop (run_of a) (in_order (acts_of [])) a.counts (counts_in_order []) s t by_continue m j p tt x
takes_one a s t (by_return v) m j p x = takes_stop (run_of a) (in_order (acts_of [])) a.counts (counts_in_order []) s t (by_return v) m j p tt x
takes_one a s t (undefined at) m j p x = takes_stop (run_of a) (in_order (acts_of [])) a.counts (counts_in_order []) s t (undefined at) m j p tt x
takes_one a s t out_of_turns m j p x = takes_stop (run_of a) (in_order (acts_of [])) a.counts (counts_in_order []) s t out_of_turns m j p tt x

tally_assoc : (a b c : Tally) → both_tallies a (both_tallies b c) ≡ both_tallies (both_tallies a b) c
tally_assoc a b c =
    let e : a.jumps + (b.jumps + c.jumps) ≡ a.jumps + b.jumps + c.jumps = omega arith in
    let f : a.price + (b.price + c.price) ≡ a.price + b.price + c.price = omega arith in
    ap (λ i. tally i (a.price + (b.price + c.price))) e ∙ ap (λ i. tally (a.jumps + b.jumps + c.jumps) i) f

where_assoc : (h : How) (a : Run) (c d e : Counting) → ((s : Store) (n : ℕ) → e s n ≡ counts_both a c d s n) → (s : Store) (n : ℕ) → where_normal h e s n ≡ both_tallies (where_normal h c s n) (let z = go_on h a s n in where_normal z.how d z.store z.left)
where_assoc normally a c d e is s n = is s n
where_assoc h a c d e is s n = refl

pub run_append : (xs ys : List Counted) (s : Store) (n : ℕ) → in_order (acts_of (xs ++ ys)) s n ≡ both_runs (in_order (acts_of xs)) (in_order (acts_of ys)) s n
run_append [] ys s n = refl
run_append (x ∷ xs) ys s n = let e = run_of x s n in go_assoc e.how (in_order (acts_of xs)) (in_order (acts_of ys)) (in_order (acts_of (xs ++ ys))) (run_append xs ys) e.store e.left

tally_first : (a : Tally) → a ≡ both_tallies (tally 0 0) a
tally_first a = let e : a.jumps ≡ 0 + a.jumps = omega arith in let f : a.price ≡ 0 + a.price = omega arith in ap (λ i. tally i a.price) e ∙ ap (λ i. tally (0 + a.jumps) i) f

pub counts_append : (xs ys : List Counted) (s : Store) (n : ℕ) → counts_in_order (xs ++ ys) s n ≡ counts_both (in_order (acts_of xs)) (counts_in_order xs) (counts_in_order ys) s n
counts_append [] ys s n = tally_first (counts_in_order ys s n)
counts_append (x ∷ xs) ys s n =
    let e = run_of x s n in
    ap (λ z. both_tallies (x.counts s n) z) (where_assoc e.how (in_order (acts_of xs)) (counts_in_order xs) (counts_in_order ys) (counts_in_order (xs ++ ys)) (counts_append xs ys) e.store e.left)
    ∙ tally_assoc (x.counts s n) (where_normal e.how (counts_in_order xs) e.store e.left) (let z = go_on e.how (in_order (acts_of xs)) e.store e.left in where_normal z.how (counts_in_order ys) z.store z.left)

-- what takes turns as two lists one after the other, does so as one
pub takes_joined : (xs ys : List Counted) (s t : Store) (h : How) (m j p : ℕ) → Takes (both_runs (in_order (acts_of xs)) (in_order (acts_of ys))) (counts_both (in_order (acts_of xs)) (counts_in_order xs) (counts_in_order ys)) s h t m j p → TakesAll (xs ++ ys) s h t m j p
takes_joined xs ys s t h m j p x = record { runs = λ l. run_append xs ys s (m + l) ∙ x.runs l; counted = λ l. counts_append xs ys s (m + l) ∙ x.counted l }

pub takes_append : (xs ys : List Counted) (s t u : Store) (h : How) (m n j l p q : ℕ) → TakesAll xs s normally t m j p → TakesAll ys t h u n l q → TakesAll (xs ++ ys) s h u (m + n) (j + l) (p + q)
takes_append xs ys s t u h m n j l p q x y = takes_joined xs ys s u h (m + n) (j + l) (p + q) (takes_both (in_order (acts_of xs)) (in_order (acts_of ys)) (counts_in_order xs) (counts_in_order ys) s t u h m n j l p q x y)
