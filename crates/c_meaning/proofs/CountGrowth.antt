-- What a run that is over has counted stays the same under larger bounds.
use Rattle.std.proofs.Common.{◌≡◌, ℕ, zero, suc, ◌+◌, ◌≤◌, List, [], ◌∷◌, map, Option, Some, None, refl, sym, ◌∙◌, ap, subst, arith}
use Rattle.std.specs.Prelude.{Bool, true, false, ℤ, flat_map}
use mathlib.Core.Former.{Count}
use Rattle.c_ast.specs.declared.normal.NormalStmt.{NormalStmt}
use Rattle.c_ast.specs.declared.normal.Normal.{Normal}
use Rattle.c_ast.specs.declared.normal.NormalStmtKind.{NormalStmtKind, Row_of-NormalStmt, end_of-NormalStmt, more_of-NormalStmt, Held-NormalStmtKind-If-3, None', Some'}
use Rattle.c_ast.specs.declared.normal.NormalStmtKind as tree
use Rattle.c_meaning.specs.declared.profile.Profile.{Profile}
use Rattle.c_meaning.specs.Operators.{is_zero}
use Rattle.c_meaning.specs.Stores.{Store, Objects, Inputs, opening, unset_vars}
use Rattle.c_meaning.specs.Expressions.{Val, undefined_value, value, Meaning, meaning}
use Rattle.c_meaning.specs.Runs.{How, normally, by_break, by_continue, by_return, undefined, out_of_turns, Run, ends, taking, turn, go_on, both_runs, with_val, with_value, branch, after_body, looped, rounds, loop}
use Rattle.c_meaning.specs.Runs as runs
use Rattle.c_meaning.specs.Statements.{Act, entering, in_order, block, nothing, part, run_if_any, condition, meant_target, meant_if_any, assigned, declared_run, returned}
use Rattle.c_meaning.specs.Normals.{normal_kind_act, normal_act_if_any, normal_row_acts, normal_act, normal_objects, normal_body_run, normal_run}
use Rattle.c_meaning.specs.Bounds.{IsOver}
use Rattle.c_meaning.specs.Counts.{Tally, tally, both_tallies, Counting, counting, only, counting_after, Counted, run_of, where_normal, counts_both, counts_in_order, acts_of, with_counts, counts_of, counts_branch, where_looped, counts_part, counts_looped, step_run, step_counts, counts_rounds, counts_loop, counts_entering, counts_if_any, option_price, assignment_price, expr_price, kind_counts, counted_if_any, row_counted, counted, normal_tally, CostsAreOne, StatementsKeepCosts}
use Rattle.c_meaning.proofs.Growth as growth
use Rattle.c_meaning.proofs.Growth.{ActGrows, ActsGrow, add_suc, go_on_over, after_over, nothing_grows, in_order_grows, part_grows}
use Rattle.c_meaning.proofs.Ends.{over_rule, normal_kind_grows, kernel_end_over}

abbrev Grows : Run → Run → Type 0
Grows a b = growth.Grows IsOver a b

-- where a run is over, so much is counted within more turns: c within its turns, and d within more
abbrev pub Steady : Run → Counting → Counting → Type 0
Steady a c d = (s : Store) (n m : ℕ) → IsOver (a s n).how → d s (n + m) ≡ c s n

only_steady : (a : Run) (t : Tally) → Steady a (only t) (only t)
only_steady a t s n m o = refl

counting_steady : (a : Run) (t : Tally) (c d : Counting) → Steady a c d → Steady a (counting t c) (counting t d)
counting_steady a t c d h s n m o = ap (λ u. both_tallies t u) (h s n m o)

after_steady : (t : ℕ) (a : Run) (c d : Counting) → Steady a c d → Steady (taking t a) (counting_after t c) (counting_after t d)
after_steady zero a c d h s n m o = h s n m o
after_steady (suc t) a c d h s zero m o = absurd o
after_steady (suc t) a c d h s (suc n) m o = subst (λ k. counting_after (suc t) d s k ≡ counting_after t c s n) (add_suc n m) (after_steady t a c d h s n m o)

turn_steady : (a : Run) (c d : Counting) → Steady a c d → Steady (turn a) (counting_after 1 c) (counting_after 1 d)
turn_steady a c d h s n m o = after_steady 1 a c d h s n m o

normal_steady : (w : How) (b : Run) (c d : Counting) → Steady b c d → (s : Store) (n m : ℕ) → IsOver (go_on w b s n).how → where_normal w d s (n + m) ≡ where_normal w c s n
normal_steady normally b c d h s n m o = h s n m o
normal_steady by_break b c d h s n m o = refl
normal_steady by_continue b c d h s n m o = refl
normal_steady (by_return v) b c d h s n m o = refl
normal_steady (undefined at) b c d h s n m o = refl
normal_steady out_of_turns b c d h s n m o = refl

both_steady : (a b : Run) (c d e f : Counting) → Grows a a → Steady a c d → Steady b e f → Steady (both_runs a b) (counts_both a c e) (counts_both a d f)
both_steady a b c d e f g h i s n m o =
    let z = a s n in
    let over : IsOver z.how = go_on_over IsOver over_rule z.how b z.store z.left o in
    ap (λ u. both_tallies u (where_normal (a s (n + m)).how f (a s (n + m)).store (a s (n + m)).left)) (h s n m over)
    ∙ ap (λ u. both_tallies (c s n) (where_normal u.how f u.store u.left)) (g s n m over)
    ∙ ap (λ u. both_tallies (c s n) u) (normal_steady z.how b e f i z.store z.left m o)

body_steady : (w : How) (b : Run) (c d : Counting) → Steady b c d → (s : Store) (n m : ℕ) → IsOver (after_body w b s n).how → where_looped w d s (n + m) ≡ where_looped w c s n
body_steady normally b c d h s n m o = h s n m o
body_steady by_break b c d h s n m o = refl
body_steady by_continue b c d h s n m o = h s n m o
body_steady (by_return v) b c d h s n m o = refl
body_steady (undefined at) b c d h s n m o = refl
body_steady out_of_turns b c d h s n m o = refl

looped_steady : (a : Counted) (b : Run) (e f : Counting) → Grows (part a.act) (part a.act) → Steady (part a.act) (counts_part a) (counts_part a) → Steady b e f → Steady (looped (part a.act) b) (counts_looped a e) (counts_looped a f)
looped_steady a b e f g h i s n m o =
    let z = part a.act s n in
    let over : IsOver z.how = after_over IsOver over_rule z.how b z.store z.left o in
    ap (λ u. both_tallies u (where_looped (part a.act s (n + m)).how f (part a.act s (n + m)).store (part a.act s (n + m)).left)) (h s n m over)
    ∙ ap (λ u. both_tallies (counts_part a s n) (where_looped u.how f u.store u.left)) (g s n m over)
    ∙ ap (λ u. both_tallies (counts_part a s n) u) (body_steady z.how b e f i z.store z.left m o)

val_steady : (v : Val) (a : ℤ → Run) (c d : ℤ → Counting) → ((x : ℤ) → Steady (a x) (c x) (d x)) → Steady (with_val v a) (with_counts v c) (with_counts v d)
val_steady (undefined_value at) a c d h s n m o = refl
val_steady (value x t) a c d h s n m o = after_steady t (a x) (c x) (d x) (h x) s n m o

of_steady : (t : Bool) (a b : Run) (c d e f : Counting) → Steady a c d → Steady b e f → Steady (runs.run_of t a b) (counts_of t c e) (counts_of t d f)
of_steady true a b c d e f h i s n m o = h s n m o
of_steady false a b c d e f h i s n m o = i s n m o

-- ---- parts

abbrev pub AreSteady : List Counted → Type 0
AreSteady [] = Unit {0}
AreSteady (a ∷ rest) = Grows (run_of a) (run_of a) × Steady (run_of a) a.counts a.counts × AreSteady rest

in_order_steady : (parts : List Counted) → AreSteady parts → Steady (in_order (acts_of parts)) (counts_in_order parts) (counts_in_order parts)
in_order_steady [] h s n m o = refl
in_order_steady (a ∷ rest) h s n m o = both_steady (run_of a) (in_order (acts_of rest)) a.counts a.counts (counts_in_order rest) (counts_in_order rest) h.0 h.1 (in_order_steady rest h.2) s n m o

act_grows : (a : Act) → Grows a.run a.run → ActGrows IsOver a a
act_grows a g = record { same = refl; grows = g }

all_grow : (parts : List Counted) → AreSteady parts → ActsGrow IsOver (acts_of parts) (acts_of parts)
all_grow [] h = tt
all_grow (a ∷ rest) h = (act_grows a.act h.0, all_grow rest h.2)

parts_grow : (parts : List Counted) → AreSteady parts → Grows (in_order (acts_of parts)) (in_order (acts_of parts))
parts_grow parts h = in_order_grows IsOver over_rule (acts_of parts) (acts_of parts) (all_grow parts h)

entering_steady : (parts : List Counted) (a : Run) (c d : Counting) → Steady a c d → Steady (entering (acts_of parts) a) (counts_entering parts c) (counts_entering parts d)
entering_steady parts a c d h s n m o = h (unset_vars (flat_map (λ (x : Act). x.declares) (acts_of parts)) s) n m o

-- a part that is a block
pub record IsSteadyPart (a : Counted) : Type 0 where
  pub grows : Grows (part a.act) (part a.act)
  pub steady : Steady (part a.act) (counts_part a) (counts_part a)

steady_part : (a : Counted) → Grows (run_of a) (run_of a) → Steady (run_of a) a.counts a.counts → IsSteadyPart a
steady_part a g h = record { grows = part_grows IsOver over_rule a.act a.act (act_grows a.act g); steady = entering_steady (a ∷ []) (run_of a) a.counts a.counts h }

branch_steady : (parts : List Counted) (p : ℕ) (e : Meaning) (a b : Run) (c d u w : Counting) → AreSteady parts → Steady a c d → Steady b u w
    → Steady (branch (in_order (acts_of parts)) e a b) (counts_branch parts p e c u) (counts_branch parts p e d w)
branch_steady parts p e a b c d u w h i j s n m o =
    both_steady (in_order (acts_of parts)) (turn (with_value e (λ x. runs.run_of (is_zero x) b a))) (counts_in_order parts) (counts_in_order parts)
    (counting_after 1 (counting (tally 2 (p + 2)) (λ s n. with_counts (e s) (λ x. counts_of (is_zero x) u c) s n)))
    (counting_after 1 (counting (tally 2 (p + 2)) (λ s n. with_counts (e s) (λ x. counts_of (is_zero x) w d) s n)))
    (parts_grow parts h) (in_order_steady parts h)
    (turn_steady (with_value e (λ x. runs.run_of (is_zero x) b a))
    (counting (tally 2 (p + 2)) (λ s n. with_counts (e s) (λ x. counts_of (is_zero x) u c) s n))
    (counting (tally 2 (p + 2)) (λ s n. with_counts (e s) (λ x. counts_of (is_zero x) w d) s n))
    (counting_steady (with_value e (λ x. runs.run_of (is_zero x) b a)) (tally 2 (p + 2))
    (λ s n. with_counts (e s) (λ x. counts_of (is_zero x) u c) s n) (λ s n. with_counts (e s) (λ x. counts_of (is_zero x) w d) s n)
    (λ s n m o. val_steady (e s) (λ x. runs.run_of (is_zero x) b a) (λ x. counts_of (is_zero x) u c) (λ x. counts_of (is_zero x) w d) (λ x. of_steady (is_zero x) b a u w c d j i) s n m o)))
    s n m o

-- a step that may be absent
abbrev pub IsSteadyStep : Option Counted → Type 0
IsSteadyStep None = Unit {0}
IsSteadyStep (Some a) = IsSteadyPart a

step_grows : (step : Option Counted) → IsSteadyStep step → Grows (step_run step) (step_run step)
step_grows None h = nothing_grows IsOver over_rule
step_grows (Some a) h = h.grows

step_steady : (step : Option Counted) → IsSteadyStep step → Steady (step_run step) (step_counts step) (step_counts step)
step_steady None h = only_steady nothing (tally 0 0)
step_steady (Some a) h = counting_steady (part a.act) (tally 1 0) (counts_part a) (counts_part a) h.steady

if_any_steady : (o : Option Counted) → IsSteadyStep o → Steady (step_run o) (counts_if_any o) (counts_if_any o)
if_any_steady None h = only_steady nothing (tally 0 0)
if_any_steady (Some a) h = h.steady

rounds_steady : (r k : ℕ) → r ≤ k → (parts : List Counted) (p : ℕ) (e : Meaning) (body : Counted) (step : Option Counted) → AreSteady parts → IsSteadyPart body → IsSteadyStep step
    → Steady (rounds r (in_order (acts_of parts)) e (part body.act) (step_run step)) (counts_rounds r parts p e body step) (counts_rounds k parts p e body step)
rounds_steady zero k le parts p e body step h g j s n m o = absurd o
rounds_steady (suc r) zero le parts p e body step h g j s n m o = absurd (omega arith)
rounds_steady (suc r) (suc k) le parts p e body step h g j s n m o =
    let rest = rounds r (in_order (acts_of parts)) e (part body.act) (step_run step) in
    let c = counts_rounds r parts p e body step in
    let d = counts_rounds k parts p e body step in
    branch_steady parts p e (looped (part body.act) (both_runs (step_run step) rest)) (ends normally)
    (counts_looped body (counts_both (step_run step) (step_counts step) c)) (counts_looped body (counts_both (step_run step) (step_counts step) d)) (only (tally 0 0)) (only (tally 0 0)) h
    (looped_steady body (both_runs (step_run step) rest) (counts_both (step_run step) (step_counts step) c) (counts_both (step_run step) (step_counts step) d) g.grows g.steady
    (both_steady (step_run step) rest (step_counts step) (step_counts step) c d (step_grows step j) (step_steady step j) (rounds_steady r k (omega arith) parts p e body step h g j)))
    (only_steady (ends normally) (tally 0 0)) s n m o

loop_steady : (parts : List Counted) (p : ℕ) (e : Meaning) (body : Counted) (step : Option Counted) → AreSteady parts → IsSteadyPart body → IsSteadyStep step
    → Steady (loop (in_order (acts_of parts)) e (part body.act) (step_run step)) (counts_loop parts p e body step) (counts_loop parts p e body step)
loop_steady parts p e body step h g j s n m o = rounds_steady (suc n) (suc (n + m)) (omega arith) parts p e body step h g j s n m o

-- ---- the acts of counted parts are those of the tree

acts_are : (k : Objects) {n : Count} (row : Row_of-NormalStmt n) → acts_of (row_counted k row) ≡ normal_row_acts k row
acts_are k end_of-NormalStmt = refl
acts_are k (more_of-NormalStmt s at row) = ap (λ u. normal_kind_act k s ∷ u) (acts_are k row)

held_run : (k : Objects) (o : Held-NormalStmtKind-If-3) → step_run (counted_if_any k o) ≡ run_if_any (normal_act_if_any k o)
held_run k None' = refl
held_run k (Some' b (more_of-NormalStmt s at end_of-NormalStmt)) = refl

abbrev pub counted_kind : Objects → NormalStmtKind → Counted
counted_kind k x = record { act = normal_kind_act k x; counts = kind_counts k x }

mutual
  kind_steady : (k : Objects) (x : NormalStmtKind) → Steady (normal_kind_act k x).run (kind_counts k x) (kind_counts k x)
  kind_steady k (tree.Block' n row) =
      let parts = row_counted k row in
      let c = counts_entering parts (counts_in_order parts) in
      subst (λ (u : List Act). Steady (turn (block u)) (counting_after 1 c) (counting_after 1 c)) (acts_are k row)
      (turn_steady (block (acts_of parts)) c c (entering_steady parts (in_order (acts_of parts)) (counts_in_order parts) (counts_in_order parts) (in_order_steady parts (row_steady k row))))
  kind_steady k (tree.Declare v init) = let t = tally 0 (option_price init) in let a = declared_run k v (meant_if_any k init) in turn_steady a (only t) (only t) (only_steady a t)
  kind_steady k (tree.Assign target e) =
      let t = tally 0 (assignment_price target e) in let a = assigned k (meant_target k target) (meaning k e) in turn_steady a (only t) (only t) (only_steady a t)
  kind_steady k (tree.If' n before cond b (more_of-NormalStmt s at end_of-NormalStmt) o) =
      let parts = row_counted k before in
      let m = meaning k cond in
      let yes_run = part (normal_kind_act k s) in
      let c = counts_branch parts (expr_price cond) m (counts_part (counted_kind k s)) (counts_if_any (counted_if_any k o)) in
      subst (λ (u : List Act). Steady (turn (branch (in_order u) m yes_run (run_if_any (normal_act_if_any k o)))) (counting_after 1 c) (counting_after 1 c)) (acts_are k before)
      (subst (λ (u : Run). Steady (turn (branch (in_order (acts_of parts)) m yes_run u)) (counting_after 1 c) (counting_after 1 c)) (held_run k o)
      (turn_steady (branch (in_order (acts_of parts)) m yes_run (step_run (counted_if_any k o))) c c
      (branch_steady parts (expr_price cond) m yes_run (step_run (counted_if_any k o)) (counts_part (counted_kind k s)) (counts_part (counted_kind k s)) (counts_if_any (counted_if_any k o)) (counts_if_any (counted_if_any k o))
      (row_steady k before) (steady_part (counted_kind k s) (normal_kind_grows k s) (kind_steady k s)).steady (if_any_steady (counted_if_any k o) (held_steady k o)))))
  kind_steady k (tree.While' n before cond b (more_of-NormalStmt s at end_of-NormalStmt)) =
      let parts = row_counted k before in
      let m = meaning k cond in
      let c = counts_loop parts (expr_price cond) m (counted_kind k s) None in
      subst (λ (u : List Act). Steady (turn (loop (in_order u) m (part (normal_kind_act k s)) nothing)) (counting_after 1 c) (counting_after 1 c)) (acts_are k before)
      (turn_steady (loop (in_order (acts_of parts)) m (part (normal_kind_act k s)) nothing) c c
      (loop_steady parts (expr_price cond) m (counted_kind k s) None (row_steady k before) (steady_part (counted_kind k s) (normal_kind_grows k s) (kind_steady k s)) tt))
  kind_steady k (tree.DoWhile' b (more_of-NormalStmt s at end_of-NormalStmt) n before cond) =
      let parts = row_counted k before in
      let m = meaning k cond in
      let body = part (normal_kind_act k s) in
      let c = counts_loop parts (expr_price cond) m (counted_kind k s) None in
      let d = counting (tally 1 0) (counts_looped (counted_kind k s) c) in
      subst (λ (u : List Act). Steady (turn (looped body (loop (in_order u) m body nothing))) (counting_after 1 d) (counting_after 1 d)) (acts_are k before)
      (turn_steady (looped body (loop (in_order (acts_of parts)) m body nothing)) d d
      (counting_steady (looped body (loop (in_order (acts_of parts)) m body nothing)) (tally 1 0) (counts_looped (counted_kind k s) c) (counts_looped (counted_kind k s) c)
      (looped_steady (counted_kind k s) (loop (in_order (acts_of parts)) m body nothing) c c (steady_part (counted_kind k s) (normal_kind_grows k s) (kind_steady k s)).grows (steady_part (counted_kind k s) (normal_kind_grows k s) (kind_steady k s)).steady
      (loop_steady parts (expr_price cond) m (counted_kind k s) None (row_steady k before) (steady_part (counted_kind k s) (normal_kind_grows k s) (kind_steady k s)) tt))))
  kind_steady k (tree.For' n first i before cond o b (more_of-NormalStmt s at end_of-NormalStmt)) =
      let firsts = row_counted k first in
      let parts = row_counted k before in
      let m = condition (meant_if_any k cond) in
      let body = part (normal_kind_act k s) in
      let step = counted_if_any k o in
      let c = counts_loop parts (option_price cond) m (counted_kind k s) step in
      let d = counts_entering firsts (counts_both (in_order (acts_of firsts)) (counts_in_order firsts) c) in
      subst (λ (u : List Act). Steady (turn (entering u (both_runs (in_order u) (loop (in_order (normal_row_acts k before)) m body (run_if_any (normal_act_if_any k o)))))) (counting_after 1 d) (counting_after 1 d)) (acts_are k first)
      (subst (λ (u : List Act). Steady (turn (entering (acts_of firsts) (both_runs (in_order (acts_of firsts)) (loop (in_order u) m body (run_if_any (normal_act_if_any k o)))))) (counting_after 1 d) (counting_after 1 d)) (acts_are k before)
      (subst (λ (u : Run). Steady (turn (entering (acts_of firsts) (both_runs (in_order (acts_of firsts)) (loop (in_order (acts_of parts)) m body u)))) (counting_after 1 d) (counting_after 1 d)) (held_run k o)
      (turn_steady (entering (acts_of firsts) (both_runs (in_order (acts_of firsts)) (loop (in_order (acts_of parts)) m body (step_run step)))) d d
      (entering_steady firsts (both_runs (in_order (acts_of firsts)) (loop (in_order (acts_of parts)) m body (step_run step)))
      (counts_both (in_order (acts_of firsts)) (counts_in_order firsts) c) (counts_both (in_order (acts_of firsts)) (counts_in_order firsts) c)
      (both_steady (in_order (acts_of firsts)) (loop (in_order (acts_of parts)) m body (step_run step)) (counts_in_order firsts) (counts_in_order firsts) c c
      (parts_grow firsts (row_steady k first)) (in_order_steady firsts (row_steady k first))
      (loop_steady parts (option_price cond) m (counted_kind k s) step (row_steady k before) (steady_part (counted_kind k s) (normal_kind_grows k s) (kind_steady k s)) (held_steady k o)))))))
  kind_steady k tree.Break = turn_steady (ends by_break) (only (tally 1 0)) (only (tally 1 0)) (only_steady (ends by_break) (tally 1 0))
  kind_steady k tree.Continue = turn_steady (ends by_continue) (only (tally 1 0)) (only (tally 1 0)) (only_steady (ends by_continue) (tally 1 0))
  kind_steady k (tree.Return e) = let t = tally 1 (option_price e) in turn_steady (returned (meant_if_any k e)) (only t) (only t) (only_steady (returned (meant_if_any k e)) t)
  kind_steady k tree.Empty = turn_steady nothing (only (tally 0 0)) (only (tally 0 0)) (only_steady nothing (tally 0 0))

  held_steady : (k : Objects) (o : Held-NormalStmtKind-If-3) → IsSteadyStep (counted_if_any k o)
  held_steady k None' = tt
  held_steady k (Some' b (more_of-NormalStmt s at end_of-NormalStmt)) = steady_part (counted_kind k s) (normal_kind_grows k s) (kind_steady k s)

  row_steady : (k : Objects) {n : Count} (row : Row_of-NormalStmt n) → AreSteady (row_counted k row)
  row_steady k end_of-NormalStmt = tt
  row_steady k (more_of-NormalStmt s at row) = (normal_kind_grows k s, kind_steady k s, row_steady k row)

-- ---- whole normal forms

list_steady : (k : Objects) (xs : List NormalStmt) → AreSteady (map (counted k) xs)
list_steady k [] = tt
list_steady k (x ∷ xs) = (normal_kind_grows k x.kind, kind_steady k x.kind, list_steady k xs)

pub list_acts : (k : Objects) (xs : List NormalStmt) → acts_of (map (counted k) xs) ≡ map (normal_act k) xs
list_acts k [] = refl
list_acts k (x ∷ xs) = ap (λ u. normal_act k x ∷ u) (list_acts k xs)

pub statement_steady : StatementsKeepCosts
statement_steady k x s n m o = kind_steady k x.kind s n m o

tally_steady : (k : Normal) (p : Profile) (i : Inputs) (n m : ℕ) → IsOver (normal_run k p i n).how → normal_tally k p i (n + m) ≡ normal_tally k p i n
tally_steady k p i n m o =
    let objs = normal_objects p k in
    let parts = map (counted objs) k.body in
    let c = counts_entering parts (counts_in_order parts) in
    let s = opening objs i in
    let over = kernel_end_over k.result k.at (normal_body_run objs k.body s n).how o in
    turn_steady (block (acts_of parts)) c c
    (entering_steady parts (in_order (acts_of parts)) (counts_in_order parts) (counts_in_order parts) (in_order_steady parts (list_steady objs k.body)))
    s n m
    (subst (λ (u : List Act). IsOver (turn (block u) s n).how) (sym (list_acts objs k.body)) over)

pub costs_one : CostsAreOne
costs_one k q i j l c d a b =
    let both : normal_tally k q i (a.bound + b.bound) ≡ normal_tally k q i a.bound = tally_steady k q i a.bound b.bound a.over in
    let more : normal_tally k q i (b.bound + a.bound) ≡ normal_tally k q i b.bound = tally_steady k q i b.bound a.bound b.over in
    let order : a.bound + b.bound ≡ b.bound + a.bound = omega arith in
    let same : normal_tally k q i a.bound ≡ normal_tally k q i b.bound = sym both ∙ ap (λ n. normal_tally k q i n) order ∙ more in
    (sym a.all_jumps ∙ ap (λ t. t.jumps) same ∙ b.all_jumps, sym a.whole_price ∙ ap (λ t. t.price) same ∙ b.whole_price)
