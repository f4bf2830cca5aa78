-- Choices and loops are followed where their parts are.
use Rattle.std.proofs.Common.{◌≡◌, ℕ, zero, suc, ◌+◌, ◌≤◌, List, [], Option, refl, arith}
use Rattle.std.specs.Prelude.{Bool, true, false, ℤ, IsTrue}
use Rattle.ir.specs.Visits.{Visit}
use Rattle.ir.specs.declared.cfg.CfgJump.TheVariants.{Go}
use Rattle.c_meaning.specs.Operators.{is_zero}
use Rattle.c_meaning.specs.Stores.{Store}
use Rattle.c_meaning.specs.Expressions.{Val, undefined_value, value, Meaning}
use Rattle.c_meaning.specs.Runs.{How, normally, by_break, by_continue, by_return, undefined, out_of_turns, Run, ends, taking, turn, both_runs, with_val, with_value, branch, after_body, looped, rounds, loop}
use Rattle.c_meaning.specs.Runs as runs
use Rattle.c_meaning.specs.Statements.{in_order, part}
use Rattle.c_meaning.specs.Counts.{tally, Counting, counting, only, counting_after, Counted, counts_part, counts_both, counts_in_order, acts_of, with_counts, counts_of, counts_branch, where_looped, counts_looped, step_run, step_counts, counts_rounds, counts_loop}
use Rattle.struct_cfg.specs.declared.draft.Draft.{Draft}
use Rattle.struct_cfg.specs.Places.{Setting, Spot, spot, entry, count, At, Reach, Frame, Follow}
use Rattle.struct_cfg.proofs.Walks.{follow_more, reach_more, gone_more, after_reach, reach_then, gone_then, Does, turn_does, both_do}
use Rattle.struct_cfg.proofs.Blocks.{Stands, goes}

module _ (o : Setting) where
  -- where a condition has a value, the place p leads by one visit and at most c + 2 steps to the block that it chooses
  pub record Picks (p : Spot) (m : Meaning) (a b c : ℕ) : Type 0 where
    pub yes_part : (v : Visit) (s : Store) (x : ℤ) (t : ℕ) → At o p v s → m s ≡ value x t → is_zero x ≡ false → Reach o 0 p v (entry (count o) a) s 1 (c + 2)
    pub no_part : (v : Visit) (s : Store) (x : ℤ) (t : ℕ) → At o p v s → m s ≡ value x t → is_zero x ≡ true → Reach o 0 p v (entry (count o) b) s 1 (c + 2)

  -- ---- a choice

  -- a side of a choice after the condition has led to it: one more jump is left to it
  side_does : (n g : ℕ) (f : Frame) (p q : Spot) (a c : ℕ) (e : Run) (h : Counting) (v : Visit) (s : Store) (m : ℕ) → Reach o 0 p v (entry (count o) a) s 1 (c + 2) → Does o n g f (entry (count o) a) q e (counting (tally 1 0) h)
      → Follow o n g f p v q (e s m).how (e s m).store (2 + (h s m).jumps) (c + 2 + (h s m).price)
  side_does n g f p q a c e h v s m go does =
      follow_more o n g f p q v (e s m).how (e s m).store (1 + (1 + (h s m).jumps)) (c + 2 + (0 + (h s m).price)) (2 + (h s m).jumps) (c + 2 + (h s m).price)
      (after_reach o n g f p (entry (count o) a) q v (e s m).how s (e s m).store 1 (c + 2) (1 + (h s m).jumps) (0 + (h s m).price) go (does go.to s m go.at)) (omega arith) (omega arith)

  sides_do : (n g : ℕ) (f : Frame) (p q : Spot) (a b c : ℕ) (e i : Run) (h k : Counting) (t : ℕ) (is : Bool) (v : Visit) (s : Store) (m : ℕ)
      → (is ≡ false → Reach o 0 p v (entry (count o) a) s 1 (c + 2)) → (is ≡ true → Reach o 0 p v (entry (count o) b) s 1 (c + 2))
      → Does o n g f (entry (count o) a) q e (counting (tally 1 0) h) → Does o n g f (entry (count o) b) q i (counting (tally 1 0) k)
      → (let r = taking t (runs.run_of is i e) s m in let u = counting_after t (counts_of is k h) s m in Follow o n g f p v q r.how r.store (2 + u.jumps) (c + 2 + u.price))
  sides_do n g f p q a b c e i h k zero true v s m l r x y = side_does n g f p q b c i k v s m (r refl) y
  sides_do n g f p q a b c e i h k zero false v s m l r x y = side_does n g f p q a c e h v s m (l refl) x
  sides_do n g f p q a b c e i h k (suc t) is v s zero l r x y = tt
  sides_do n g f p q a b c e i h k (suc t) is v s (suc m) l r x y = sides_do n g f p q a b c e i h k t is v s m l r x y

  value_does : (n g : ℕ) (f : Frame) (p q : Spot) (a b c : ℕ) (e i : Run) (h k : Counting) (m : Meaning) (u : Val) (v : Visit) (s : Store) (l : ℕ)
      → Picks p m a b c → At o p v s → m s ≡ u
      → Does o n g f (entry (count o) a) q e (counting (tally 1 0) h) → Does o n g f (entry (count o) b) q i (counting (tally 1 0) k)
      → (let r = with_val u (λ z. runs.run_of (is_zero z) i e) s l in let t = with_counts u (λ z. counts_of (is_zero z) k h) s l in Follow o n g f p v q r.how r.store (2 + t.jumps) (c + 2 + t.price))
  value_does n g f p q a b c e i h k m (undefined_value u) v s l picks at is x y = tt
  value_does n g f p q a b c e i h k m (value z t) v s l picks at is x y =
      sides_do n g f p q a b c e i h k t (is_zero z) v s l (picks.yes_part v s z t at is) (picks.no_part v s z t at is) x y

  condition_does : (n g : ℕ) (f : Frame) (p q : Spot) (a b c : ℕ) (e i : Run) (h k : Counting) (m : Meaning) → Picks p m a b c
      → Does o n g f (entry (count o) a) q e (counting (tally 1 0) h) → Does o n g f (entry (count o) b) q i (counting (tally 1 0) k)
      → Does o n g f p q (with_value m (λ z. runs.run_of (is_zero z) i e)) (counting (tally 2 (c + 2)) (λ s n. with_counts (m s) (λ z. counts_of (is_zero z) k h) s n))
  condition_does n g f p q a b c e i h k m picks x y v s l at = value_does n g f p q a b c e i h k m (m s) v s l picks at refl x y

  -- what stands before the condition, the condition, and one of two
  pub branch_does : (n g : ℕ) (f : Frame) (p p1 q : Spot) (a b c : ℕ) (before : List Counted) (e i : Run) (h k : Counting) (m : Meaning)
      → Does o 0 g f p p1 (in_order (acts_of before)) (counts_in_order before) → Picks p1 m a b c
      → Does o n g f (entry (count o) a) q e (counting (tally 1 0) h) → Does o n g f (entry (count o) b) q i (counting (tally 1 0) k)
      → Does o n g f p q (branch (in_order (acts_of before)) m e i) (counts_branch before c m h k)
  branch_does n g f p p1 q a b c before e i h k m first picks x y v s l at =
      let next = with_value m (λ z. runs.run_of (is_zero z) i e) in
      let counts = counting (tally 2 (c + 2)) (λ s n. with_counts (m s) (λ z. counts_of (is_zero z) k h) s n) in
      both_do o n g f p p1 q (in_order (acts_of before)) (turn next) (counts_in_order before) (counting_after 1 counts) first
      (turn_does o n g f p1 q next counts (condition_does n g f p1 q a b c e i h k m picks x y)) v s l at

  -- ---- the end of a block that goes on

  go_does : (g : ℕ) (f : Frame) (p : Spot) (d : Draft) (b : ℕ) (h : How) (v : Visit) (s : Store) (j l : ℕ) → Follow o 0 g f p v (spot d) h s j l → Stands o.graph d (Go b) → Follow o 0 (suc g) f p v (entry (count o) b) h s (1 + j) (0 + l)
  go_does g f p d b normally v s j l z st =
      let r = reach_then o 0 p (spot d) (entry (count o) b) v s s j l 1 0 z (goes o d z.to s b z.at st) in
      reach_more o 0 p (entry (count o) b) v s (j + 1) (l + 0) (1 + j) (0 + l) r (omega arith) (omega arith)
  go_does g f p d b by_break v s j l z st = (z.0, reach_more o 0 p (entry (count o) f.break_to) v s j l (1 + j) (0 + l) z.1 (omega arith) (omega arith))
  go_does g f p d b by_continue v s j l z st = (z.0, reach_more o 0 p (entry (count o) f.continue_to) v s j l (1 + j) (0 + l) z.1 (omega arith) (omega arith))
  go_does g f p d b (by_return t) v s j l z st = (z.0, gone_more o g (suc g) p v t s j l (1 + j) (0 + l) z.1 (omega arith) (omega arith))
  go_does g f p d b (undefined at) v s j l z st = tt
  go_does g f p d b out_of_turns v s j l z st = tt

  -- a part with the jump after it, where one more jump is counted; a return in it leaves one more
  pub part_goes : (g : ℕ) (f : Frame) (p : Spot) (d : Draft) (b : ℕ) (a : Run) (c : Counting) → Does o 0 g f p (spot d) a c → Stands o.graph d (Go b) → Does o 0 (suc g) f p (entry (count o) b) a (counting (tally 1 0) c)
  part_goes g f p d b a c z st v s m at = go_does g f p d b (a s m).how v (a s m).store (c s m).jumps (c s m).price (z v s m at) st

  -- less is owed by a return
  fewer_owed : (n g h : ℕ) → h ≤ g → (f : Frame) (p q : Spot) (w : How) (v : Visit) (s : Store) (j l : ℕ) → Follow o n g f p v q w s j l → Follow o n h f p v q w s j l
  fewer_owed n g h le f p q (by_return t) v s j l z = (z.0, gone_more o g h p v t s j l j l z.1 (omega arith) (omega arith))
  fewer_owed n g h le f p q (undefined at) v s j l z = tt
  fewer_owed n g h le f p q out_of_turns v s j l z = tt
  fewer_owed n g h le f p q _ v s j l z = z

  pub owing_less : (n g h : ℕ) → h ≤ g → (f : Frame) (p q : Spot) (a : Run) (c : Counting) → Does o n g f p q a c → Does o n h f p q a c
  owing_less n g h le f p q a c z v s m at = fewer_owed n g h le f p q (a s m).how v (a s m).store (c s m).jumps (c s m).price (z v s m at)

  -- ---- the body of a loop

  abbrev pub in_loop : Frame → ℕ → ℕ → Frame
  in_loop f a c = record { loop = true; free = f.free; break_to = a; continue_to = c }

  abbrev pub no_loop : Frame → Frame
  no_loop f = record { loop = false; free = f.free; break_to = f.break_to; continue_to = f.continue_to }

  abbrev pub quiet : Frame → Frame
  quiet f = record { loop = false; free = false; break_to = f.break_to; continue_to = f.continue_to }

  -- the body is left by break to block x, and goes on by continue to block y, as it does at its end by one jump
  after_body_does : (f : Frame) (a c : ℕ) (d : Draft) (p : Spot) (rest : Run) (k : Counting) (h : How) (v : Visit) (s : Store) (m j l : ℕ)
      → Follow o 0 0 (in_loop f a c) p v (spot d) h s j l → Stands o.graph d (Go c) → Does o 1 1 (no_loop f) (entry (count o) c) (entry (count o) a) rest k
      → Follow o 1 1 (no_loop f) p v (entry (count o) a) (after_body h rest s m).how (after_body h rest s m).store (1 + (j + (where_looped h k s m).jumps)) (0 + (l + (where_looped h k s m).price))
  after_body_does f a c d p rest k normally v s m j l z st g =
      let back = reach_then o 0 p (spot d) (entry (count o) c) v s s j l 1 0 z (goes o d z.to s c z.at st) in
      follow_more o 1 1 (no_loop f) p (entry (count o) a) v (rest s m).how (rest s m).store (j + 1 + (k s m).jumps) (l + 0 + (k s m).price) (1 + (j + (k s m).jumps)) (0 + (l + (k s m).price))
      (after_reach o 1 1 (no_loop f) p (entry (count o) c) (entry (count o) a) v (rest s m).how s (rest s m).store (j + 1) (l + 0) (k s m).jumps (k s m).price back (g back.to s m back.at)) (omega arith) (omega arith)
  after_body_does f a c d p rest k by_break v s m j l z st g =
      let r = z.1 in record { path = r.path; to = r.to; walks = r.walks; few = omega (arith, r.few); cheap = omega (arith, r.cheap); at = r.at }
  after_body_does f a c d p rest k by_continue v s m j l z st g =
      let r = z.1 in
      follow_more o 1 1 (no_loop f) p (entry (count o) a) v (rest s m).how (rest s m).store (j + (k s m).jumps) (l + (k s m).price) (1 + (j + (k s m).jumps)) (0 + (l + (k s m).price))
      (after_reach o 1 1 (no_loop f) p (entry (count o) c) (entry (count o) a) v (rest s m).how s (rest s m).store j l (k s m).jumps (k s m).price r (g r.to s m r.at)) (omega arith) (omega arith)
  after_body_does f a c d p rest k (by_return t) v s m j l z st g = (z.0, gone_more o 0 1 p v t s j l (1 + (j + 0)) (0 + (l + 0)) z.1 (omega arith) (omega arith))
  after_body_does f a c d p rest k (undefined at) v s m j l z st g = tt
  after_body_does f a c d p rest k out_of_turns v s m j l z st g = tt

  pub looped_does : (f : Frame) (a c : ℕ) (d : Draft) (p : Spot) (body : Counted) (rest : Run) (k : Counting)
      → Does o 0 0 (in_loop f a c) p (spot d) (part body.act) (counts_part body) → Stands o.graph d (Go c) → Does o 1 1 (no_loop f) (entry (count o) c) (entry (count o) a) rest k
      → Does o 1 1 (no_loop f) p (entry (count o) a) (looped (part body.act) rest) (counting (tally 1 0) (counts_looped body k))
  looped_does f a c d p body rest k z st g v s m at =
      let e = part body.act s m in
      after_body_does f a c d p rest k e.how v e.store e.left (counts_part body s m).jumps (counts_part body s m).price (z v s m at) st g

  -- ---- loops: h is the block of the condition, b that of the body, a the one after the loop, c the one where continue leads

  pub record Loop (f : Frame) (h b a c : ℕ) (p1 : Spot) (d2 : Draft) (price : ℕ) (before : List Counted) (m : Meaning) (body : Counted) (step : Option Counted) : Type 0 where
    pub first : Does o 0 1 (no_loop f) (entry (count o) h) p1 (in_order (acts_of before)) (counts_in_order before)
    pub picks : Picks p1 m b a price
    pub inside : Does o 0 0 (in_loop f a c) (entry (count o) b) (spot d2) (part body.act) (counts_part body)
    pub stands : Stands o.graph d2 (Go c)
    pub stepped : Does o 0 1 (no_loop f) (entry (count o) c) (entry (count o) h) (step_run step) (step_counts step)

  left_does : (f : Frame) (a : ℕ) → Does o 1 1 f (entry (count o) a) (entry (count o) a) (ends normally) (counting (tally 1 0) (only (tally 0 0)))
  left_does f a v s m at = record { path = []; to = v; walks = refl; few = omega arith; cheap = omega arith; at = at }

  pub rounds_do : (r : ℕ) (f : Frame) (h b a c : ℕ) (p1 : Spot) (d2 : Draft) (price : ℕ) (before : List Counted) (m : Meaning) (body : Counted) (step : Option Counted)
      → Loop f h b a c p1 d2 price before m body step
      → Does o 1 1 (no_loop f) (entry (count o) h) (entry (count o) a) (rounds r (in_order (acts_of before)) m (part body.act) (step_run step)) (counts_rounds r before price m body step)
  rounds_do zero f h b a c p1 d2 price before m body step l v s n at = tt
  rounds_do (suc r) f h b a c p1 d2 price before m body step l v s n at =
      let again = rounds r (in_order (acts_of before)) m (part body.act) (step_run step) in
      let counts = counts_rounds r before price m body step in
      let rest = both_runs (step_run step) again in
      let k = counts_both (step_run step) (step_counts step) counts in
      branch_does 1 1 (no_loop f) (entry (count o) h) p1 (entry (count o) a) b a price before (looped (part body.act) rest) (ends normally) (counts_looped body k) (only (tally 0 0)) m
      l.first l.picks
      (looped_does f a c d2 (entry (count o) b) body rest k l.inside l.stands
      (both_do o 1 1 (no_loop f) (entry (count o) c) (entry (count o) h) (entry (count o) a) (step_run step) again (step_counts step) counts l.stepped (rounds_do r f h b a c p1 d2 price before m body step l)))
      (left_does (no_loop f) a) v s n at

  pub loop_does : (f : Frame) (h b a c : ℕ) (p1 : Spot) (d2 : Draft) (price : ℕ) (before : List Counted) (m : Meaning) (body : Counted) (step : Option Counted)
      → Loop f h b a c p1 d2 price before m body step
      → Does o 1 1 (no_loop f) (entry (count o) h) (entry (count o) a) (loop (in_order (acts_of before)) m (part body.act) (step_run step)) (counts_loop before price m body step)
  loop_does f h b a c p1 d2 price before m body step l v s n at = rounds_do (suc n) f h b a c p1 d2 price before m body step l v s n at

  pub not_false : IsTrue false → ⊥
  not_false h = cc

  -- the jump to what owes one visit pays it
  enter_paid : (f : Frame) (p r q : Spot) (v : Visit) (h : How) (s t : Store) (j l : ℕ) (a : Reach o 0 p v r s 1 0) → Follow o 1 1 (no_loop f) r a.to q h t j l → Follow o 0 0 f p v q h t j (0 + l)
  enter_paid f p r q v normally s t j l a z =
      let w = reach_then o 1 p r q v s t 1 0 j l a z in
      record { path = w.path; to = w.to; walks = w.walks; few = omega (arith, w.few); cheap = w.cheap; at = w.at }
  enter_paid f p r q v by_break s t j l a z = absurd (not_false z.0)
  enter_paid f p r q v by_continue s t j l a z = absurd (not_false z.0)
  enter_paid f p r q v (by_return e) s t j l a z = (z.0, gone_more o 1 0 p v e t (1 + j) (0 + l) j (0 + l) (gone_then o 1 p r v e s t 1 0 j l a z.1) (omega arith) (omega arith))
  enter_paid f p r q v (undefined at) s t j l a z = tt
  enter_paid f p r q v out_of_turns s t j l a z = tt

  pub entered : (f : Frame) (d : Draft) (b : ℕ) (q : Spot) (e : Run) (k : Counting) → Stands o.graph d (Go b) → Does o 1 1 (no_loop f) (entry (count o) b) q e k → Does o 0 0 f (spot d) q e k
  entered f d b q e k st z v s m at =
      let go = goes o d v s b at st in
      follow_more o 0 0 f (spot d) q v (e s m).how (e s m).store (k s m).jumps (0 + (k s m).price) (k s m).jumps (k s m).price
      (enter_paid f (spot d) (entry (count o) b) q v (e s m).how s (e s m).store (k s m).jumps (k s m).price go (z go.to s m go.at)) (omega arith) (omega arith)
