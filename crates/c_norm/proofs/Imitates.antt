-- Runs of the kernel are imitated by those of its normal form, with jumps and price against the turns that are used; imitations are put together as runs are.
use Rattle.std.proofs.Common.{◌≡◌, ℕ, zero, suc, ◌+◌, ◌-◌, ◌*◌, ◌≤◌, List, [], ◌∷◌, ◌++◌, length, Option, refl, sym, ◌∙◌, ap, subst, arith}
use Rattle.std.specs.Prelude.{Bool, true, false}
use Rattle.c_meaning.specs.Operators.{is_zero}
use Rattle.c_meaning.specs.Stores.{Store, Objects, unset_vars}
use Rattle.c_meaning.specs.Expressions.{Val, undefined_value, value, Meaning}
use Rattle.c_meaning.specs.Profiles.{IsDefined}
use Rattle.c_meaning.specs.Runs.{How, normally, by_break, by_continue, by_return, undefined, out_of_turns, Ended, Run, ends, turn, go_on, both_runs, with_val, branch, after_body, looped, rounds, loop}
use Rattle.c_meaning.specs.Runs as runs
use Rattle.c_meaning.specs.Statements.{in_order, nothing, part}
use Rattle.c_meaning.specs.Counts.{Tally, tally, both_tallies, Counting, counting, only, counting_after, Counted, run_of, counts_both, counts_in_order, acts_of, counts_of, counts_branch, where_looped, counts_part, counts_looped, step_run, step_counts, counts_rounds, counts_loop}
use Rattle.c_meaning.proofs.StoreParts.{below_same}
use Rattle.c_meaning.proofs.RunParts.{GoesOn, after_goes, had, go_end, after_end}
use Rattle.c_norm.proofs.Takes.{Takes, takes_end, takes_turn, takes_more, takes_both, takes_stop, takes_branch, takes_one, run_append, counts_append, tally_none}
use Rattle.c_norm.proofs.Stores.{Matches, unset_matches, matches_below}
use Rattle.c_norm.proofs.Expands.{Expands}

-- ---- loops: what goes on after a body

abbrev after_of : Run → Ended → Ended
after_of b z = after_body z.how b z.store z.left

abbrev looped_of : Counting → Ended → Tally
looped_of d z = where_looped z.how d z.store z.left

abbrev pub counts_after_body : Run → Counting → Counting → Counting
counts_after_body a c d s n = let e = a s n in both_tallies (c s n) (where_looped e.how d e.store e.left)

counts_goes : (h : How) (d : Counting) (s : Store) (n : ℕ) → GoesOn h → where_looped h d s n ≡ d s n
counts_goes normally d s n g = refl
counts_goes by_continue d s n g = refl
counts_goes h d s n g = absurd g

takes_again : (a b : Run) (c d : Counting) (s t u : Store) (g h : How) (m n j l p q : ℕ) → GoesOn g → Takes a c s g t m j p → Takes b d t h u n l q → Takes (looped a b) (counts_after_body a c d) s h u (m + n) (j + l) (p + q)
takes_again a b c d s t u g h m n j l p q go x y = record {
  runs = λ r. let e : m + n + r ≡ m + (n + r) = omega arith in ap (λ i. looped a b s i) e ∙ ap (after_of b) (x.runs (n + r)) ∙ after_goes g b t (n + r) go ∙ y.runs r;
  counted = λ r.
      let e : m + n + r ≡ m + (n + r) = omega arith in
      ap (λ i. counts_after_body a c d s i) e ∙ ap (λ z. both_tallies (c s (m + (n + r))) (looped_of d z)) (x.runs (n + r)) ∙ ap (λ z. both_tallies (c s (m + (n + r))) z) (counts_goes g d t (n + r) go)
      ∙ ap (λ z. both_tallies z (d t (n + r))) (x.counted (n + r)) ∙ ap (λ z. both_tallies (tally j p) z) (y.counted r);
}

takes_left : (a b : Run) (c d : Counting) (s t : Store) (g h : How) (m j p : ℕ) → ((n : ℕ) → after_body g b t n ≡ record { how = h; store = t; left = n }) → ((n : ℕ) → where_looped g d t n ≡ tally 0 0) → Takes a c s g t m j p → Takes (looped a b) (counts_after_body a c d) s h t m j p
takes_left a b c d s t g h m j p e f x = record {
  runs = λ r. ap (after_of b) (x.runs r) ∙ e r;
  counted = λ r. ap (λ z. both_tallies (c s (m + r)) (looped_of d z)) (x.runs r) ∙ ap (λ z. both_tallies (c s (m + r)) z) (f r) ∙ ap (λ z. both_tallies z (tally 0 0)) (x.counted r) ∙ tally_none j p;
}

-- what was set, the condition and 2 more cost a turn, and the rest costs its own
price_of : (price u rest k b p c left : ℕ) → k ≡ u + rest → b + p + 2 ≤ price → c + price * left ≤ price * rest → b + (p + 2 + c) + price * left ≤ price * suc k
price_of price u rest k b p c left a d e =
    let x : price * suc k ≡ price + price * k = omega arith in
    let y : price * k ≡ price * u + price * rest = ap (λ z. price * z) a ∙ omega arith in
    omega arith

module _ (k : Objects) (all price : ℕ) (le : length k.vars ≤ all) where
  -- A run that ended as e, of m turns, is imitated by runs b i, from a least number on: they take exact turns, at least w more than that number, and count at most 2 jumps, with so many to spare, and the price for each turn.
  pub record Imitates (w spare : ℕ) (e : Ended) (m : ℕ) (b : ℕ → Run) (c : ℕ → Counting) (t : Store) : Type 0 where
    pub least : ℕ
    pub last : Store
    pub turns : ℕ
    pub jumps : ℕ
    pub cost : ℕ
    pub within : least + w ≤ turns
    pub takes : (i : ℕ) → Takes (b (least + i)) (c (least + i)) t e.how last turns jumps cost
    pub same : Matches k all e.store last
    pub few : jumps + spare + 2 * e.left ≤ 2 * m
    pub cheap : cost + price * e.left ≤ price * m

  abbrev pub Sims : ℕ → ℕ → Run → (ℕ → Run) → (ℕ → Counting) → Type 0
  Sims w spare a b c = (s t : Store) (m : ℕ) → Matches k all s t → IsDefined (a s m).how → Imitates w spare (a s m) m b c t

  abbrev pub Sim : ℕ → Run → Run → Counting → Type 0
  Sim spare a b c = Sims 0 spare a (λ i. b) (λ i. c)

  pub weaker : (w v i j : ℕ) (a : Run) (b : ℕ → Run) (c : ℕ → Counting) → v ≤ w → j ≤ i → Sims w i a b c → Sims v j a b c
  weaker w v i j a b c x y z s t m same end =
      let q = z s t m same end in
      record { least = q.least; last = q.last; turns = q.turns; jumps = q.jumps; cost = q.cost; within = let h = q.within in omega arith; takes = q.takes; same = q.same; few = let h = q.few in omega arith; cheap = q.cheap }

  -- ---- one after another

  -- two that follow each other, by how they are joined
  in_turn : (join : Run → Run → Run) (count : Run → Counting → Counting → Counting) (h : How) (s1 : Store) (l m : ℕ) (a2 : Run) (b1 b2 : ℕ → Run) (c1 c2 : ℕ → Counting) (t : Store)
      → ((a b : Run) (c d : Counting) (s t u : Store) (g : How) (m n j l p q : ℕ) → Takes a c s h t m j p → Takes b d t g u n l q → Takes (join a b) (count a c d) s g u (m + n) (j + l) (p + q))
      → Imitates 0 0 (record { how = h; store = s1; left = l }) m b1 c1 t → Sims 0 0 a2 b2 c2 → IsDefined (a2 s1 l).how → Imitates 0 0 (a2 s1 l) m (λ i. join (b1 i) (b2 i)) (λ i. count (b1 i) (c1 i) (c2 i)) t
  in_turn join count h s1 l m a2 b1 b2 c1 c2 t takes i sim end =
      let j = sim s1 i.last l i.same end in
      record {
        least = i.least + j.least;
        last = j.last;
        turns = i.turns + j.turns;
        jumps = i.jumps + j.jumps;
        cost = i.cost + j.cost;
        within = let x = i.within in let y = j.within in omega arith;
        takes = λ q.
            let e : i.least + (j.least + q) ≡ i.least + j.least + q = omega arith in
            let f : j.least + (i.least + q) ≡ i.least + j.least + q = omega arith in
            let x = subst (λ n. Takes (b1 n) (c1 n) t h i.last i.turns i.jumps i.cost) e (i.takes (j.least + q)) in
            let y = subst (λ n. Takes (b2 n) (c2 n) i.last (a2 s1 l).how j.last j.turns j.jumps j.cost) f (j.takes (i.least + q)) in
            takes (b1 (i.least + j.least + q)) (b2 (i.least + j.least + q)) (c1 (i.least + j.least + q)) (c2 (i.least + j.least + q)) t i.last j.last (a2 s1 l).how i.turns j.turns i.jumps j.jumps i.cost j.cost x y;
        same = j.same;
        few = let x = i.few in let y = j.few in omega arith;
        cheap = let x = i.cheap in let y = j.cheap in omega arith;
      }

  go_first : (h : How) (s1 : Store) (l m : ℕ) (a2 : Run) (b1 b2 : ℕ → Run) (c1 c2 : ℕ → Counting) (t : Store) → Imitates 0 0 (record { how = h; store = s1; left = l }) m b1 c1 t → Sims 0 0 a2 b2 c2 → IsDefined (go_on h a2 s1 l).how
      → Imitates 0 0 (go_on h a2 s1 l) m (λ i. both_runs (b1 i) (b2 i)) (λ i. counts_both (b1 i) (c1 i) (c2 i)) t
  go_first normally s1 l m a2 b1 b2 c1 c2 t i sim end = in_turn both_runs counts_both normally s1 l m a2 b1 b2 c1 c2 t takes_both i sim end
  go_first by_break s1 l m a2 b1 b2 c1 c2 t i sim end = record { least = i.least; last = i.last; turns = i.turns; jumps = i.jumps; cost = i.cost; within = i.within; takes = λ q. takes_stop (b1 (i.least + q)) (b2 (i.least + q)) (c1 (i.least + q)) (c2 (i.least + q)) t i.last by_break i.turns i.jumps i.cost tt (i.takes q); same = i.same; few = i.few; cheap = i.cheap }
  go_first by_continue s1 l m a2 b1 b2 c1 c2 t i sim end = record { least = i.least; last = i.last; turns = i.turns; jumps = i.jumps; cost = i.cost; within = i.within; takes = λ q. takes_stop (b1 (i.least + q)) (b2 (i.least + q)) (c1 (i.least + q)) (c2 (i.least + q)) t i.last by_continue i.turns i.jumps i.cost tt (i.takes q); same = i.same; few = i.few; cheap = i.cheap }
  go_first (by_return v) s1 l m a2 b1 b2 c1 c2 t i sim end = record { least = i.least; last = i.last; turns = i.turns; jumps = i.jumps; cost = i.cost; within = i.within; takes = λ q. takes_stop (b1 (i.least + q)) (b2 (i.least + q)) (c1 (i.least + q)) (c2 (i.least + q)) t i.last (by_return v) i.turns i.jumps i.cost tt (i.takes q); same = i.same; few = i.few; cheap = i.cheap }
  go_first (undefined at) s1 l m a2 b1 b2 c1 c2 t i sim end = absurd end
  go_first out_of_turns s1 l m a2 b1 b2 c1 c2 t i sim end = absurd end

  pub both_sims : (a1 a2 : Run) (b1 b2 : ℕ → Run) (c1 c2 : ℕ → Counting) → Sims 0 0 a1 b1 c1 → Sims 0 0 a2 b2 c2 → Sims 0 0 (both_runs a1 a2) (λ i. both_runs (b1 i) (b2 i)) (λ i. counts_both (b1 i) (c1 i) (c2 i))
  both_sims a1 a2 b1 b2 c1 c2 x y s t m same end =
      let e = a1 s m in go_first e.how e.store e.left m a2 b1 b2 c1 c2 t (x s t m same (go_end e.how a2 e.store e.left end)) y end

  -- ---- turns

  -- a turn of the kernel alone: it gives two jumps and a price
  pub kernel_turn : (spare : ℕ) (a : Run) (b : ℕ → Run) (c : ℕ → Counting) → Sims 0 spare a b c → Sims 0 (spare + 2) (turn a) b c
  kernel_turn spare a b c z s t zero same end = absurd end
  kernel_turn spare a b c z s t (suc m) same end =
      let q = z s t m same end in
      record { least = q.least; last = q.last; turns = q.turns; jumps = q.jumps; cost = q.cost; within = q.within; takes = q.takes; same = q.same; few = let h = q.few in omega arith; cheap = let h = q.cheap in let e : price * suc m ≡ price + price * m = omega arith in omega arith }

  -- a turn of the form alone
  pub form_turn : (spare : ℕ) (a b : Run) (c : Counting) → Sim spare a b c → Sim spare a (turn b) (counting_after 1 c)
  form_turn spare a b c z s t m same end =
      let q = z s t m same end in
      record { least = 0; last = q.last; turns = 1 + q.turns; jumps = q.jumps; cost = q.cost; within = omega arith; takes = λ i. takes_turn b c t q.last (a s m).how q.turns q.jumps q.cost (q.takes 0); same = q.same; few = q.few; cheap = q.cheap }

  -- variables are unset in both
  pub unset_sim : (spare : ℕ) (vs ws : List ℕ) (a b : Run) (c : Counting) → vs ≡ ws → Sim spare a b c → Sim spare (λ s n. a (unset_vars vs s) n) (λ s n. b (unset_vars ws s) n) (λ s n. c (unset_vars ws s) n)
  unset_sim spare vs ws a b c e z s t m same end =
      let near = subst (λ us. Matches k all (unset_vars vs s) (unset_vars us t)) e (unset_matches k all vs s t le same) in
      let q = z (unset_vars vs s) (unset_vars ws t) m near end in
      record { least = q.least; last = q.last; turns = q.turns; jumps = q.jumps; cost = q.cost; within = q.within; takes = λ i. let x = q.takes i in record { runs = x.runs; counted = x.counted }; same = q.same; few = q.few; cheap = q.cheap }

  -- one more jump
  pub jump_sim : (spare : ℕ) (a b : Run) (c : Counting) → Sim (spare + 1) a b c → Sim spare a b (counting (tally 1 0) c)
  jump_sim spare a b c z s t m same end =
      let q = z s t m same end in
      record { least = q.least; last = q.last; turns = q.turns; jumps = 1 + q.jumps; cost = 0 + q.cost; within = q.within; takes = λ i. takes_more b c t q.last (a s m).how q.turns q.jumps q.cost 1 0 (q.takes i); same = q.same; few = let h = q.few in omega arith; cheap = let h = q.cheap in omega arith }

  -- nothing, and a list of one
  pub nothing_sim : Sim 0 nothing nothing (only (tally 0 0))
  nothing_sim s t m same end = record { least = 0; last = t; turns = 0; jumps = 0; cost = 0; within = omega arith; takes = λ i. takes_end normally 0 0 t; same = same; few = omega arith; cheap = omega arith }

  pub one_sim : (spare : ℕ) (a : Run) (x : Counted) → Sim spare a (run_of x) x.counts → Sim spare a (in_order (acts_of (x ∷ []))) (counts_in_order (x ∷ []))
  one_sim spare a x z s t m same end =
      let q = z s t m same end in
      record { least = q.least; last = q.last; turns = q.turns; jumps = q.jumps; cost = q.cost; within = q.within; takes = λ i. takes_one x t q.last (a s m).how q.turns q.jumps q.cost (q.takes i); same = q.same; few = q.few; cheap = q.cheap }

  pub append_sim : (a1 a2 : Run) (xs ys : List Counted) → Sim 0 a1 (in_order (acts_of xs)) (counts_in_order xs) → Sim 0 a2 (in_order (acts_of ys)) (counts_in_order ys) → Sim 0 (both_runs a1 a2) (in_order (acts_of (xs ++ ys))) (counts_in_order (xs ++ ys))
  append_sim a1 a2 xs ys x y s t m same end =
      let q = both_sims a1 a2 (λ i. in_order (acts_of xs)) (λ i. in_order (acts_of ys)) (λ i. counts_in_order xs) (λ i. counts_in_order ys) x y s t m same end in
      record { least = q.least; last = q.last; turns = q.turns; jumps = q.jumps; cost = q.cost; within = q.within; takes = λ i. let z = q.takes i in record { runs = λ l. run_append xs ys t (q.turns + l) ∙ z.runs l; counted = λ l. counts_append xs ys t (q.turns + l) ∙ z.counted l }; same = q.same; few = q.few; cheap = q.cheap }

  -- ---- choices

  side_sims : (z : Bool) (yes_run no_run : Run) (yes_form no_form : ℕ → Run) (cy cn : ℕ → Counting) → Sims 0 0 yes_run yes_form cy → Sims 0 0 no_run no_form cn → Sims 0 0 (runs.run_of z no_run yes_run) (λ i. runs.run_of z (no_form i) (yes_form i)) (λ i. counts_of z (cn i) (cy i))
  side_sims true yes_run no_run yes_form no_form cy cn x y s t m same end = let q = y s t m same end in record { least = q.least; last = q.last; turns = q.turns; jumps = q.jumps; cost = q.cost; within = q.within; takes = λ i. let z = q.takes i in record { runs = z.runs; counted = z.counted }; same = q.same; few = q.few; cheap = q.cheap }
  side_sims false yes_run no_run yes_form no_form cy cn x y s t m same end = let q = x s t m same end in record { least = q.least; last = q.last; turns = q.turns; jumps = q.jumps; cost = q.cost; within = q.within; takes = λ i. let z = q.takes i in record { runs = z.runs; counted = z.counted }; same = q.same; few = q.few; cheap = q.cheap }

  -- a condition by what is set before it and what is left of it: together they cost a turn at most
  pub record Condition (p : ℕ) (m : Meaning) (before : List Counted) (left : Meaning) : Type 0 where
    pub from : ℕ
    pub to : ℕ
    pub most : ℕ
    pub does : Expands k all from to m before left most
    pub cheap : most + p + 2 ≤ price

  value_sims : (p : ℕ) (m m2 : Meaning) (before : List Counted) (yes_run no_run : Run) (yes_form no_form : ℕ → Run) (cy cn : ℕ → Counting) → Condition p m before m2 → Sims 0 0 yes_run yes_form cy → Sims 0 0 no_run no_form cn
      → (v : Val) (s t : Store) (n : ℕ) → m s ≡ v → Matches k all s t → (let e = with_val v (λ x. runs.run_of (is_zero x) no_run yes_run) s n in IsDefined e.how → Imitates 1 0 e (suc n) (λ i. branch (in_order (acts_of before)) m2 (yes_form i) (no_form i)) (λ i. counts_branch before p m2 (cy i) (cn i)) t)
  value_sims p m m2 before yes_run no_run yes_form no_form cy cn cond x y (undefined_value at) s t n is same end = absurd end
  value_sims p m m2 before yes_run no_run yes_form no_form cy cn cond x y (value w u) s t n is same end =
      let d = cond.does.does s t w u same is in
      let there = d.stays d.last (below_same cond.to d.last) in
      let near = matches_below k all cond.from s t d.last cond.does.own same d.kept in
      let h = had u (runs.run_of (is_zero w) no_run yes_run) s n end in
      let e = runs.run_of (is_zero w) no_run yes_run s h.rest in
      let ended : IsDefined e.how = subst (λ (z : Ended). IsDefined z.how) h.is end in
      let i = side_sims (is_zero w) yes_run no_run yes_form no_form cy cn x y s d.last h.rest near ended in
      let made : Imitates 1 0 e (suc n) (λ i. branch (in_order (acts_of before)) m2 (yes_form i) (no_form i)) (λ i. counts_branch before p m2 (cy i) (cn i)) t = record {
        least = i.least;
        last = i.last;
        turns = d.turns + (1 + (there.turns + i.turns));
        jumps = d.jumps + (2 + i.jumps);
        cost = d.price + (p + 2 + i.cost);
        within = let z = i.within in omega arith;
        takes = λ q. takes_branch before m2 t d.last i.last e.how w there.turns (yes_form (i.least + q)) (no_form (i.least + q)) (cy (i.least + q)) (cn (i.least + q)) p d.turns d.jumps d.price i.turns i.jumps i.cost d.takes there.is (i.takes q);
        same = i.same;
        few = let a = d.few in let b = i.few in let c = h.sum in omega arith;
        cheap = price_of price u h.rest n d.price p i.cost e.left h.sum (let a = d.cheap in let b = cond.cheap in omega arith) i.cheap;
      } in
      subst (λ (z : Ended). Imitates 1 0 z (suc n) (λ i. branch (in_order (acts_of before)) m2 (yes_form i) (no_form i)) (λ i. counts_branch before p m2 (cy i) (cn i)) t) (sym h.is) made

  pub branch_sims : (p : ℕ) (m m2 : Meaning) (before : List Counted) (yes_run no_run : Run) (yes_form no_form : ℕ → Run) (cy cn : ℕ → Counting) → Condition p m before m2 → Sims 0 0 yes_run yes_form cy → Sims 0 0 no_run no_form cn
      → Sims 1 0 (branch nothing m yes_run no_run) (λ i. branch (in_order (acts_of before)) m2 (yes_form i) (no_form i)) (λ i. counts_branch before p m2 (cy i) (cn i))
  branch_sims p m m2 before yes_run no_run yes_form no_form cy cn cond x y s t zero same end = absurd end
  branch_sims p m m2 before yes_run no_run yes_form no_form cy cn cond x y s t (suc n) same end = value_sims p m m2 before yes_run no_run yes_form no_form cy cn cond x y (m s) s t n refl same end

  -- ---- the body of a loop

  goes_again : (h : How) (s1 : Store) (l m : ℕ) (a2 : Run) (b1 b2 : ℕ → Run) (c1 c2 : ℕ → Counting) (t : Store) → GoesOn h → Imitates 0 0 (record { how = h; store = s1; left = l }) m b1 c1 t → Sims 0 0 a2 b2 c2 → IsDefined (a2 s1 l).how
      → Imitates 0 0 (a2 s1 l) m (λ i. looped (b1 i) (b2 i)) (λ i. counts_after_body (b1 i) (c1 i) (c2 i)) t
  goes_again h s1 l m a2 b1 b2 c1 c2 t go i sim end = in_turn looped counts_after_body h s1 l m a2 b1 b2 c1 c2 t (λ a b c d s t u g m n j l p q x y. takes_again a b c d s t u h g m n j l p q go x y) i sim end

  after_first : (h : How) (s1 : Store) (l m : ℕ) (a2 : Run) (b1 b2 : ℕ → Run) (c1 c2 : ℕ → Counting) (t : Store) → Imitates 0 0 (record { how = h; store = s1; left = l }) m b1 c1 t → Sims 0 0 a2 b2 c2 → IsDefined (after_body h a2 s1 l).how
      → Imitates 0 0 (after_body h a2 s1 l) m (λ i. looped (b1 i) (b2 i)) (λ i. counts_after_body (b1 i) (c1 i) (c2 i)) t
  after_first normally s1 l m a2 b1 b2 c1 c2 t i sim end = goes_again normally s1 l m a2 b1 b2 c1 c2 t tt i sim end
  after_first by_continue s1 l m a2 b1 b2 c1 c2 t i sim end = goes_again by_continue s1 l m a2 b1 b2 c1 c2 t tt i sim end
  after_first by_break s1 l m a2 b1 b2 c1 c2 t i sim end = record { least = i.least; last = i.last; turns = i.turns; jumps = i.jumps; cost = i.cost; within = i.within; takes = λ q. takes_left (b1 (i.least + q)) (b2 (i.least + q)) (c1 (i.least + q)) (c2 (i.least + q)) t i.last by_break normally i.turns i.jumps i.cost (λ n. refl) (λ n. refl) (i.takes q); same = i.same; few = i.few; cheap = i.cheap }
  after_first (by_return v) s1 l m a2 b1 b2 c1 c2 t i sim end = record { least = i.least; last = i.last; turns = i.turns; jumps = i.jumps; cost = i.cost; within = i.within; takes = λ q. takes_left (b1 (i.least + q)) (b2 (i.least + q)) (c1 (i.least + q)) (c2 (i.least + q)) t i.last (by_return v) (by_return v) i.turns i.jumps i.cost (λ n. refl) (λ n. refl) (i.takes q); same = i.same; few = i.few; cheap = i.cheap }
  after_first (undefined at) s1 l m a2 b1 b2 c1 c2 t i sim end = absurd end
  after_first out_of_turns s1 l m a2 b1 b2 c1 c2 t i sim end = absurd end

  pub looped_sims : (a1 a2 : Run) (b1 b2 : ℕ → Run) (c1 c2 : ℕ → Counting) → Sims 0 0 a1 b1 c1 → Sims 0 0 a2 b2 c2 → Sims 0 0 (looped a1 a2) (λ i. looped (b1 i) (b2 i)) (λ i. counts_after_body (b1 i) (c1 i) (c2 i))
  looped_sims a1 a2 b1 b2 c1 c2 x y s t m same end =
      let e = a1 s m in after_first e.how e.store e.left m a2 b1 b2 c1 c2 t (x s t m same (after_end e.how a2 e.store e.left end)) y end

  -- ---- loops, of as many rounds

  module _ (p : ℕ) (m m2 : Meaning) (before : List Counted) (cond : Condition p m before m2) (a step_a : Run) (body : Counted) (step : Option Counted) (body_sim : Sim 0 a (part body.act) (counts_part body)) (step_sim : Sim 0 step_a (step_run step) (step_counts step)) where
    abbrev form_rounds : ℕ → Run
    form_rounds i = rounds i (in_order (acts_of before)) m2 (part body.act) (step_run step)

    abbrev form_counts : ℕ → Counting
    form_counts i = counts_rounds i before p m2 body step

    rounds_sims : (r : ℕ) → Sims 0 0 (rounds r nothing m a step_a) form_rounds form_counts
    rounds_sims zero s t n same end = absurd end
    rounds_sims (suc r) s t n same end =
        let rest_a = rounds r nothing m a step_a in
        let again = both_sims step_a rest_a (λ i. step_run step) form_rounds (λ i. step_counts step) form_counts step_sim (rounds_sims r) in
        let round = looped_sims a (both_runs step_a rest_a) (λ i. part body.act) (λ i. both_runs (step_run step) (form_rounds i)) (λ i. counts_part body) (λ i. counts_both (step_run step) (step_counts step) (form_counts i)) body_sim again in
        let q = branch_sims p m m2 before (looped a (both_runs step_a rest_a)) (ends normally) (λ i. looped (part body.act) (both_runs (step_run step) (form_rounds i))) (λ i. ends normally) (λ i. counts_looped body (counts_both (step_run step) (step_counts step) (form_counts i))) (λ i. only (tally 0 0)) cond round nothing_sim s t n same end in
        record {
          least = suc q.least;
          last = q.last;
          turns = q.turns;
          jumps = q.jumps;
          cost = q.cost;
          within = let w = q.within in omega arith;
          takes = λ i.
              let e : suc (q.least + i) ≡ suc q.least + i = omega arith in
              let x = q.takes i in
              subst (λ j. Takes (form_rounds j) (form_counts j) t (rounds (suc r) nothing m a step_a s n).how q.last q.turns q.jumps q.cost) e (record { runs = x.runs; counted = x.counted });
          same = q.same;
          few = q.few;
          cheap = q.cheap;
        }

    pub loop_sim : Sim 0 (loop nothing m a step_a) (loop (in_order (acts_of before)) m2 (part body.act) (step_run step)) (counts_loop before p m2 body step)
    loop_sim s t n same end =
        let q = rounds_sims (suc n) s t n same end in
        let h = (loop nothing m a step_a s n).how in
        let more : (l : ℕ) → q.least + (suc (q.turns + l) - q.least) ≡ suc (q.turns + l) = λ l. let w = q.within in omega arith in
        record {
          least = 0;
          last = q.last;
          turns = q.turns;
          jumps = q.jumps;
          cost = q.cost;
          within = omega arith;
          takes = λ i. record {
            runs = λ l. ap (λ j. form_rounds j t (q.turns + l)) (sym (more l)) ∙ (q.takes (suc (q.turns + l) - q.least)).runs l;
            counted = λ l. ap (λ j. form_counts j t (q.turns + l)) (sym (more l)) ∙ (q.takes (suc (q.turns + l) - q.least)).counted l;
          };
          same = q.same;
          few = q.few;
          cheap = q.cheap;
        }
