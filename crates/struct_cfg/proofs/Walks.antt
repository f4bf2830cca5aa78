-- Walks are put together, and each way to run one thing after another is followed where its parts are.
use Rattle.std.proofs.Common.{◌≡◌, ℕ, zero, suc, ◌+◌, ◌≤◌, List, [], ◌∷◌, ◌++◌, Option, refl, sym, subst, arith, length-append}
use Rattle.std.specs.Prelude.{ℤ}
use Rattle.ir.specs.Visits.{Visit, over_visits}
use Rattle.ir.specs.Variables.{VarGraph, steps_made}
use Rattle.c_meaning.specs.Stores.{Store}
use Rattle.c_meaning.specs.Runs.{How, normally, by_break, by_continue, by_return, undefined, out_of_turns, Run, ends, taking, turn, go_on, both_runs}
use Rattle.c_meaning.specs.Counts.{tally, Counting, only, counting_after, where_normal, counts_both}
use Rattle.struct_cfg.specs.Places.{Setting, Spot, entry, count, At, Path, Reach, Gone, Frame, Follow}

pub path_then : (g : VarGraph) (v w u : Visit) (xs ys : List Visit) → Path g v xs w → Path g w ys u → Path g v (xs ++ ys) u
path_then g v w u [] ys a b = subst (λ z. Path g z ys u) (sym a) b
path_then g v w u (x ∷ xs) ys a b = (a.0, a.1, (a.2.0, a.2.1, path_then g a.2.0 w u xs ys a.2.2 b))

pub over_append : (f : Visit → ℕ) (xs ys : List Visit) → over_visits f (xs ++ ys) ≡ over_visits f xs + over_visits f ys
over_append f [] ys = omega arith
over_append f (x ∷ xs) ys = omega (arith, over_append f xs ys)

module _ (o : Setting) where
  -- a walk of no visits
  pub stay : (p : Spot) (v : Visit) (s : Store) → At o p v s → Reach o 0 p v p s 0 0
  stay p v s at = record { path = []; to = v; walks = refl; few = omega arith; cheap = omega arith; at = at }

  pub reach_more : (n : ℕ) (p q : Spot) (v : Visit) (s : Store) (j c l d : ℕ) → Reach o n p v q s j c → j ≤ l → c ≤ d → Reach o n p v q s l d
  reach_more n p q v s j c l d r a b = record { path = r.path; to = r.to; walks = r.walks; few = omega (arith, r.few); cheap = omega (arith, r.cheap); at = r.at }

  pub gone_more : (g h : ℕ) (p : Spot) (v : Visit) (r : Option ℤ) (s : Store) (j c l d : ℕ) → Gone o g p v r s j c → h + j ≤ g + l → c ≤ d → Gone o h p v r s l d
  gone_more g h p v r s j c l d z a b =
      record { path = z.path; last = z.last; walks = z.walks; result = z.result; arrays = z.arrays; clean = z.clean; shown = z.shown; few = omega (arith, z.few); cheap = omega (arith, z.cheap) }

  -- more visits and steps may be counted
  pub follow_more : (n g : ℕ) (f : Frame) (p q : Spot) (v : Visit) (h : How) (s : Store) (j c l d : ℕ) → Follow o n g f p v q h s j c → j ≤ l → c ≤ d → Follow o n g f p v q h s l d
  follow_more n g f p q v normally s j c l d z e i = reach_more n p q v s j c l d z e i
  follow_more n g f p q v by_break s j c l d z e i = (z.0, reach_more 0 p (entry (count o) f.break_to) v s j c l d z.1 e i)
  follow_more n g f p q v by_continue s j c l d z e i = (z.0, reach_more 0 p (entry (count o) f.continue_to) v s j c l d z.1 e i)
  follow_more n g f p q v (by_return r) s j c l d z e i = (z.0, gone_more g g p v r s j c l d z.1 (omega arith) i)
  follow_more n g f p q v (undefined at) s j c l d z e i = tt
  follow_more n g f p q v out_of_turns s j c l d z e i = tt

  pub reach_then : (n : ℕ) (p q r : Spot) (v : Visit) (s t : Store) (j c l d : ℕ) (a : Reach o 0 p v q s j c) → Reach o n q a.to r t l d → Reach o n p v r t (j + l) (c + d)
  reach_then n p q r v s t j c l d a b = record {
    path = a.path ++ b.path;
    to = b.to;
    walks = path_then o.graph v a.to b.to a.path b.path a.walks b.walks;
    few = omega (arith, a.few, b.few, length-append a.path b.path);
    cheap = omega (arith, a.cheap, b.cheap, over_append (steps_made o.graph) a.path b.path);
    at = b.at;
  }

  pub gone_then : (g : ℕ) (p q : Spot) (v : Visit) (r : Option ℤ) (s t : Store) (j c l d : ℕ) (a : Reach o 0 p v q s j c) → Gone o g q a.to r t l d → Gone o g p v r t (j + l) (c + d)
  gone_then g p q v r s t j c l d a b = record {
    path = a.path ++ b.path;
    last = b.last;
    walks = path_then o.graph v a.to b.last a.path b.path a.walks b.walks;
    result = b.result;
    arrays = b.arrays;
    clean = b.clean;
    shown = b.shown;
    few = omega (arith, a.few, b.few, length-append a.path b.path);
    cheap = omega (arith, a.cheap, b.cheap, over_append (steps_made o.graph) a.path b.path);
  }

  -- what is followed after a walk
  pub after_reach : (n g : ℕ) (f : Frame) (p q r : Spot) (v : Visit) (h : How) (s t : Store) (j c l d : ℕ) (a : Reach o 0 p v q s j c) → Follow o n g f q a.to r h t l d → Follow o n g f p v r h t (j + l) (c + d)
  after_reach n g f p q r v normally s t j c l d a z = reach_then n p q r v s t j c l d a z
  after_reach n g f p q r v by_break s t j c l d a z = (z.0, reach_then 0 p q (entry (count o) f.break_to) v s t j c l d a z.1)
  after_reach n g f p q r v by_continue s t j c l d a z = (z.0, reach_then 0 p q (entry (count o) f.continue_to) v s t j c l d a z.1)
  after_reach n g f p q r v (by_return e) s t j c l d a z = (z.0, gone_then g p q v e s t j c l d a z.1)
  after_reach n g f p q r v (undefined at) s t j c l d a z = tt
  after_reach n g f p q r v out_of_turns s t j c l d a z = tt

  -- a run is followed from every visit and store that are at p, by what it counts
  abbrev pub Does : ℕ → ℕ → Frame → Spot → Spot → Run → Counting → Type 0
  Does n g f p q a c = (v : Visit) (s : Store) (m : ℕ) → At o p v s → Follow o n g f p v q (a s m).how (a s m).store (c s m).jumps (c s m).price

  pub ends_do : (g : ℕ) (f : Frame) (p : Spot) → Does 0 g f p p (ends normally) (only (tally 0 0))
  ends_do g f p v s m at = stay p v s at

  pub taking_does : (t n g : ℕ) (f : Frame) (p q : Spot) (a : Run) (c : Counting) → Does n g f p q a c → Does n g f p q (taking t a) (counting_after t c)
  taking_does zero n g f p q a c z v s m at = z v s m at
  taking_does (suc t) n g f p q a c z v s zero at = tt
  taking_does (suc t) n g f p q a c z v s (suc m) at = taking_does t n g f p q a c z v s m at

  pub turn_does : (n g : ℕ) (f : Frame) (p q : Spot) (a : Run) (c : Counting) → Does n g f p q a c → Does n g f p q (turn a) (counting_after 1 c)
  turn_does n g f p q a c z v s m at = taking_does 1 n g f p q a c z v s m at

  go_on_does : (n g : ℕ) (f : Frame) (p q r : Spot) (b : Run) (c : Counting) (h : How) (v : Visit) (s : Store) (m j d : ℕ) → Follow o 0 g f p v q h s j d → Does n g f q r b c
      → Follow o n g f p v r (go_on h b s m).how (go_on h b s m).store (j + (where_normal h c s m).jumps) (d + (where_normal h c s m).price)
  go_on_does n g f p q r b c normally v s m j d z e =
      after_reach n g f p q r v (b s m).how s (b s m).store j d (c s m).jumps (c s m).price z (e z.to s m z.at)
  go_on_does n g f p q r b c by_break v s m j d z e = follow_more n g f p r v by_break s j d (j + 0) (d + 0) z (omega arith) (omega arith)
  go_on_does n g f p q r b c by_continue v s m j d z e = follow_more n g f p r v by_continue s j d (j + 0) (d + 0) z (omega arith) (omega arith)
  go_on_does n g f p q r b c (by_return e) v s m j d z i = follow_more n g f p r v (by_return e) s j d (j + 0) (d + 0) z (omega arith) (omega arith)
  go_on_does n g f p q r b c (undefined at) v s m j d z e = tt
  go_on_does n g f p q r b c out_of_turns v s m j d z e = tt

  pub both_do : (n g : ℕ) (f : Frame) (p q r : Spot) (a b : Run) (c d : Counting) → Does 0 g f p q a c → Does n g f q r b d → Does n g f p r (both_runs a b) (counts_both a c d)
  both_do n g f p q r a b c d z e v s m at = go_on_does n g f p q r b d (a s m).how v (a s m).store (a s m).left (c s m).jumps (c s m).price (z v s m at) e
