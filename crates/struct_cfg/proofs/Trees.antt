-- Every statement of a lawful normal form is followed by its blocks.
use Rattle.std.proofs.Common.{◌≡◌, ℕ, ◌+◌, List, [], ◌∷◌, length, Option, Some, None, refl, sym, ◌∙◌, ap, subst, arith}
use Rattle.std.specs.Prelude.{false, ℤ, IsTrue, flat_map, All}
use mathlib.Core.Former.{Count}
use Rattle.el_base.specs.declared.ty.Ty.{Ty}
use Rattle.el_base.specs.Numbers.{IsInRange}
use Rattle.c_ast.specs.declared.typed.ArrayOf.{ArrayOf}
use Rattle.c_ast.specs.declared.typed.TypedExpr.{TypedExpr}
use Rattle.c_ast.specs.declared.normal.NormalStmtKind.{NormalStmtKind, Row_of-NormalStmt, end_of-NormalStmt, more_of-NormalStmt, Held-NormalStmtKind-If-3}
use Rattle.c_ast.specs.declared.normal.NormalStmtKind as step
use Rattle.ir.specs.declared.cfg.CfgJump.TheVariants.{Go, Two, Return}
use Rattle.ir.specs.Visits.{Visit}
use Rattle.c_meaning.specs.Stores.{Store, unset_vars}
use Rattle.c_meaning.specs.Expressions.{meaning}
use Rattle.c_meaning.specs.Runs.{How, normally, by_break, by_continue, by_return, undefined, out_of_turns, Run, ends, both_runs, branch, looped, loop}
use Rattle.c_meaning.specs.Types.{conv}
use Rattle.c_meaning.specs.Statements.{Act, entering, in_order, block, part, nothing, run_if_any, condition, assigned, declared_run, returned, meant_target, meant_if_any}
use Rattle.c_meaning.specs.Normals.{normal_kind_act, normal_act_if_any, normal_row_acts}
use Rattle.c_meaning.specs.Counts.{tally, Counting, counting, only, Counted, run_of, counts_both, counts_in_order, acts_of, counts_branch, counts_looped, counts_part, step_run, step_counts, counts_loop, counts_entering, counts_if_any, option_price, assignment_price, expr_price, kind_counts, counted_if_any, row_counted}
use Rattle.c_meaning.specs.Sizes.{closes, closes_held, closes_step, closes_row}
use Rattle.c_meaning.specs.Lawful.{LawfulNormalExpr, IsElement, LawfulNormalStmt, LawfulNormalStmtHeld, LawfulNormalStmts, LawfulReturn, LawfulOption}
use Rattle.struct_cfg.specs.declared.draft.Draft.{Draft}
use Rattle.struct_cfg.specs.Drafts.{here, close}
use Rattle.struct_cfg.specs.Lowering.{with_expr, value_of, with_condition, condition_of, assign_to, declare, loop_parts, lower, lower_held, lower_step, lower_row}
use Rattle.struct_cfg.specs.Shares.{GivesStore}
use Rattle.c_meaning.specs.Quiet.{Quiet, QuietHeld, QuietRow}
use Rattle.struct_cfg.specs.Places.{Setting, Spot, spot, entry, count, Frame, Follow}
use Rattle.struct_cfg.proofs.Walks.{Does, ends_do, turn_does, both_do}
use Rattle.struct_cfg.proofs.Blocks.{Stands, ExprLaw, goes}
use Rattle.struct_cfg.proofs.Loops.{Picks, Loop, branch_does, part_goes, owing_less, looped_does, loop_does, entered, in_loop, no_loop, quiet, not_false}
use Rattle.struct_cfg.proofs.Lays.{Holds, before_close, stands_last, loop_grown, grown_step, here_close, grown_kind, grown_held, grown_row, grown_close}
use Rattle.struct_cfg.proofs.Leaves.{assign_does, declare_does, return_does, return_none_does, picks, picks_always, unset_all}

acts_are : (k : _) {n : Count} (row : Row_of-NormalStmt n) → acts_of (row_counted k row) ≡ normal_row_acts k row
acts_are k end_of-NormalStmt = refl
acts_are k (more_of-NormalStmt s at row) = ap (λ u. normal_kind_act k s ∷ u) (acts_are k row)

held_run : (k : _) (o : Held-NormalStmtKind-If-3) → step_run (counted_if_any k o) ≡ run_if_any (normal_act_if_any k o)
held_run k step.None' = refl
held_run k (step.Some' b (more_of-NormalStmt s at end_of-NormalStmt)) = refl

-- what the trees need of a setting: the law of each lawful expression and of stores, and that a number of a type is its own conversion
pub record Leaves (o : Setting) : Type 0 where
  pub law : (e : TypedExpr) → LawfulNormalExpr o.objects e → ExprLaw o.objects e
  pub stores : (env : List ℕ) (a : ℕ) (is : List TypedExpr) (e : TypedExpr) → IsElement o.objects a (length is) e.ty → All (LawfulNormalExpr o.objects) is → LawfulNormalExpr o.objects e → GivesStore o.objects env a is e
  pub conv_same : (t : Ty) (x : ℤ) → IsInRange t x → conv t x ≡ x

module _ (o : Setting) (leaves : Leaves o) where
  abbrev arrays : List ArrayOf
  arrays = o.objects.arrays

  abbrev counted_kind : NormalStmtKind → Counted
  counted_kind x = record { act = normal_kind_act o.objects x; counts = kind_counts o.objects x }

  -- ---- places

  opened : (d : Draft) (j : _) (b : ℕ) → length d.env ≡ count o → here d + 1 ≡ b → spot (close j d) ≡ entry (count o) b
  opened d j b n e = ap (λ l. record { block = l; steps = []; env = (close j d).env }) (here_close j d ∙ e) ∙ ap (λ m. entry m b) n

  from_entry : (g h : ℕ) (f : Frame) (d : Draft) (j : _) (b : ℕ) (q : Spot) (a : Run) (c : Counting) → length d.env ≡ count o → here d + 1 ≡ b → Does o g h f (spot (close j d)) q a c → Does o g h f (entry (count o) b) q a c
  from_entry g h f d j b q a c n e z = subst (λ p. Does o g h f p q a c) (opened d j b n e) z

  to_close : (g h : ℕ) (f : Frame) (d : Draft) (j : _) (b : ℕ) (p : Spot) (a : Run) (c : Counting) → length d.env ≡ count o → here d + 1 ≡ b → Does o g h f p (entry (count o) b) a c → Does o g h f p (spot (close j d)) a c
  to_close g h f d j b p a c n e z = subst (λ q. Does o g h f p q a c) (sym (opened d j b n e)) z

  -- ---- frames: what ends in no loop, or without a return, is followed in every frame

  unlooped_at : (g h : ℕ) (f : Frame) (p q : Spot) (w : How) (v : Visit) (s : Store) (j l : ℕ) → Follow o g h (no_loop o f) p v q w s j l → Follow o g h f p v q w s j l
  unlooped_at g h f p q normally v s j l z = z
  unlooped_at g h f p q by_break v s j l z = absurd (not_false o z.0)
  unlooped_at g h f p q by_continue v s j l z = absurd (not_false o z.0)
  unlooped_at g h f p q (by_return r) v s j l z = z
  unlooped_at g h f p q (undefined at) v s j l z = tt
  unlooped_at g h f p q out_of_turns v s j l z = tt

  unlooped : (g h : ℕ) (f : Frame) (p q : Spot) (a : Run) (c : Counting) → Does o g h (no_loop o f) p q a c → Does o g h f p q a c
  unlooped g h f p q a c z v s m at = unlooped_at g h f p q (a s m).how v (a s m).store (c s m).jumps (c s m).price (z v s m at)

  quiet_at : (f : Frame) (p q : Spot) (w : How) (v : Visit) (s : Store) (j l : ℕ) → Follow o 0 0 (quiet o f) p v q w s j l → Follow o 0 1 (no_loop o f) p v q w s j l
  quiet_at f p q normally v s j l z = z
  quiet_at f p q (undefined at) v s j l z = tt
  quiet_at f p q out_of_turns v s j l z = tt
  quiet_at f p q w v s j l z = absurd (not_false o z.0)

  quietly : (f : Frame) (p q : Spot) (a : Run) (c : Counting) → Does o 0 0 (quiet o f) p q a c → Does o 0 1 (no_loop o f) p q a c
  quietly f p q a c z v s m at = quiet_at f p q (a s m).how v (a s m).store (c s m).jumps (c s m).price (z v s m at)

  -- ---- lists of statements, one after another and in a scope

  entering_does : (g h : ℕ) (f : Frame) (p q : Spot) (parts : List Counted) (a : Run) (c : Counting) → Does o g h f p q a c → Does o g h f p q (entering (acts_of parts) a) (counts_entering parts c)
  entering_does g h f p q parts a c z v s m at =
      let xs = flat_map (λ (x : Act). x.declares) (acts_of parts) in z v (unset_vars xs s) m (unset_all o p v xs s at)

  part_does : (g h : ℕ) (f : Frame) (p q : Spot) (a : Counted) → Does o g h f p q (run_of a) a.counts → Does o g h f p q (part a.act) (counts_part a)
  part_does g h f p q a z = entering_does g h f p q (a ∷ []) (run_of a) a.counts z

  return_leaf : (f : Frame) (e : Option TypedExpr) (d : Draft) (q : Spot) → LawfulReturn (LawfulNormalExpr o.objects) o.result e → IsTrue f.free → Holds o.graph (lower arrays f.break_to f.continue_to (step.Return e) d).blocks → (r : Option Ty) → o.result ≡ r
      → LawfulReturn (LawfulNormalExpr o.objects) r e → Does o 0 0 f (spot d) q (returned (meant_if_any o.objects e)) (only (tally 1 (option_price e)))
  return_leaf f None d q l free h r is lr = return_none_does o f d q free (stands_last o.graph d (Return None) h)
  return_leaf f (Some e) d q l free h None is lr = absurd lr
  return_leaf f (Some e) d q l free h (Some t) is lr = return_does o f e d q free (is ∙ ap Some (sym lr.0)) (stands_last o.graph (with_expr arrays e d) (Return (Some (value_of arrays e d))) h) (leaves.law e lr.1)

  -- a step of a for, with the jump after it
  abbrev StepDoes : Frame → Held-NormalStmtKind-If-3 → Draft → ℕ → ℕ → Type 0
  StepDoes f s d from to = Does o 0 1 (no_loop o f) (entry (count o) from) (entry (count o) to) (step_run (counted_if_any o.objects s)) (step_counts (counted_if_any o.objects s))

  cond_picks : (x : ℕ) (before : Draft → Draft) (cond : Option TypedExpr) (body : Draft → Draft) (d : Draft) → LawfulOption (LawfulNormalExpr o.objects) cond
      → Holds o.graph (loop_parts arrays x before cond body d).blocks → ((e : Draft) → Holds o.graph (body e).blocks → Holds o.graph e.blocks) → Picks o (spot (before d)) (condition (meant_if_any o.objects cond)) (here (before d) + 1) x (option_price cond)
  cond_picks x before None body d l h back = let j = Go (here (before d) + 1) in picks_always o (before d) (here (before d) + 1) x (stands_last o.graph (before d) j (back (close j (before d)) h))
  cond_picks x before (Some e) body d l h back =
      let j = Two (condition_of arrays e (before d)) (here (before d) + 1) x in
      picks o e (before d) (here (before d) + 1) x (leaves.law e l) (stands_last o.graph (with_condition arrays e (before d)) j (back (close j (with_condition arrays e (before d))) h))

  begun_holds : (x : ℕ) (before : Draft → Draft) (cond : Option TypedExpr) (body : Draft → Draft) (d : Draft) → ((e : Draft) → Holds o.graph (body e).blocks → Holds o.graph e.blocks) → Holds o.graph (loop_parts arrays x before cond body d).blocks → Holds o.graph (before d).blocks
  begun_holds x before None body d back h = let j = Go (here (before d) + 1) in before_close o.graph (before d) j (back (close j (before d)) h)
  begun_holds x before (Some e) body d back h = let j = Two (condition_of arrays e (before d)) (here (before d) + 1) x in before_close o.graph (with_condition arrays e (before d)) j (back (close j (with_condition arrays e (before d))) h)

  -- the draft in which the body of a loop begins
  abbrev body_begins : ℕ → (Draft → Draft) → Option TypedExpr → Draft → Draft
  body_begins x before None d = close (Go (here (before d) + 1)) (before d)
  body_begins x before (Some e) d = close (Two (condition_of arrays e (before d)) (here (before d) + 1) x) (with_condition arrays e (before d))

  begun_is : (x : ℕ) (before : Draft → Draft) (cond : Option TypedExpr) (body : Draft → Draft) (d : Draft) → loop_parts arrays x before cond body d ≡ body (body_begins x before cond d)
  begun_is x before None body d = refl
  begun_is x before (Some e) body d = refl

  begins_at : (x : ℕ) (before : Draft → Draft) (cond : Option TypedExpr) (d : Draft) → length (before d).env ≡ count o → spot (body_begins x before cond d) ≡ entry (count o) (here (before d) + 1)
  begins_at x before None d n = opened (before d) (Go (here (before d) + 1)) (here (before d) + 1) n refl
  begins_at x before (Some e) d n = opened (with_condition arrays e (before d)) (Two (condition_of arrays e (before d)) (here (before d) + 1) x) (here (before d) + 1) n refl

  begins_env : (x : ℕ) (before : Draft → Draft) (cond : Option TypedExpr) (d : Draft) → length (before d).env ≡ count o → length (body_begins x before cond d).env ≡ count o
  begins_env x before None d n = let g = grown_close (Go (here (before d) + 1)) (before d) in g.env ∙ n
  begins_env x before (Some e) d n = let g = grown_close (Two (condition_of arrays e (before d)) (here (before d) + 1) x) (with_condition arrays e (before d)) in g.env ∙ n

  -- what is followed of a statement in a frame, from every draft, and of the statements before a condition, from a draft
  abbrev KindDoes : Frame → NormalStmtKind → Type 0
  KindDoes f s = (d : Draft) → length d.env ≡ count o → Holds o.graph (lower arrays f.break_to f.continue_to s d).blocks → Does o 0 0 f (spot d) (spot (lower arrays f.break_to f.continue_to s d)) (normal_kind_act o.objects s).run (kind_counts o.objects s)

  abbrev RowDoes : Frame → {n : Count} → Row_of-NormalStmt n → Draft → Type 0
  RowDoes f before d = length d.env ≡ count o → Holds o.graph (lower_row arrays f.break_to f.continue_to before d).blocks → Does o 0 0 (quiet o f) (spot d) (spot (lower_row arrays f.break_to f.continue_to before d)) (in_order (acts_of (row_counted o.objects before))) (counts_in_order (row_counted o.objects before))

  -- a loop from its condition on, whose body leads by continue to the block `to`
  loop_from : (f : Frame) {n : Count} (before : Row_of-NormalStmt n) (cond : Option TypedExpr) (s : NormalStmtKind) (head exit to : ℕ) (st : Option Counted) (d0 : Draft) → length d0.env ≡ count o → here d0 + 1 ≡ head
      → LawfulOption (LawfulNormalExpr o.objects) cond → RowDoes f before (close (Go head) d0) → KindDoes (in_loop o f exit to) s
      → (let e = loop_parts arrays exit (lower_row arrays f.break_to f.continue_to before) cond (lower arrays exit to s) (close (Go head) d0) in Holds o.graph e.blocks → Stands o.graph e (Go to)
      → Does o 0 1 (no_loop o f) (entry (count o) to) (entry (count o) head) (step_run st) (step_counts st)
      → (let parts = row_counted o.objects before in Does o 1 1 (no_loop o f) (entry (count o) head) (entry (count o) exit) (loop (in_order (acts_of parts)) (condition (meant_if_any o.objects cond)) (part (normal_kind_act o.objects s)) (step_run st)) (counts_loop parts (option_price cond) (condition (meant_if_any o.objects cond)) (counted_kind s) st)))
  loop_from f before cond s head exit to st d0 l at wc rows body_does h stands stepped =
      let x = f.break_to in let y = f.continue_to in
      let d1 = close (Go head) d0 in
      let ahead = lower_row arrays x y before in
      let d2 = ahead d1 in
      let d3 = body_begins exit ahead cond d1 in
      let d4 = lower arrays exit to s d3 in
      let parts = row_counted o.objects before in
      let m = condition (meant_if_any o.objects cond) in
      let body = counted_kind s in
      let is : loop_parts arrays exit ahead cond (lower arrays exit to s) d1 ≡ d4 = begun_is exit ahead cond (lower arrays exit to s) d1 in
      let h4 : Holds o.graph d4.blocks = subst (λ (u : Draft). Holds o.graph u.blocks) is h in
      let back : (e : Draft) → Holds o.graph (lower arrays exit to s e).blocks → Holds o.graph e.blocks = λ e h. (grown_kind arrays exit to s e).kept o.graph h in
      let h1 = begun_holds exit ahead cond (lower arrays exit to s) d1 back h in
      let g1 = grown_close (Go head) d0 in
      let g2 = grown_row arrays x y before d1 in
      let l1 : length d1.env ≡ count o = g1.env ∙ l in
      let l2 : length d2.env ≡ count o = g2.env ∙ l1 in
      let l3 : length d3.env ≡ count o = begins_env exit ahead cond d1 l2 in
      loop_does o f head (here d2 + 1) exit to (spot d2) d4 (option_price cond) parts m body st (record {
        first = quietly f (entry (count o) head) (spot d2) (in_order (acts_of parts)) (counts_in_order parts) (from_entry 0 0 (quiet o f) d0 (Go head) head (spot d2) (in_order (acts_of parts)) (counts_in_order parts) l at (rows l1 h1));
        picks = cond_picks exit ahead cond (lower arrays exit to s) d1 wc h back;
        inside = subst (λ p. Does o 0 0 (in_loop o f exit to) p (spot d4) (part body.act) (counts_part body)) (begins_at exit ahead cond d1 l2) (part_does 0 0 (in_loop o f exit to) (spot d3) (spot d4) body (body_does d3 l3 h4));
        stands = subst (λ (u : Draft). Stands o.graph u (Go to)) is stands;
        stepped = stepped;
      })

  -- a loop without a step, from the jump to its condition on
  stepless : (f : Frame) {n : Count} (before : Row_of-NormalStmt n) (cond : Option TypedExpr) (s : NormalStmtKind) (exit : ℕ) (d0 : Draft) → length d0.env ≡ count o → LawfulOption (LawfulNormalExpr o.objects) cond
      → RowDoes f before (close (Go (here d0 + 1)) d0) → KindDoes (in_loop o f exit (here d0 + 1)) s → here d0 + 1 + closes_row before + 1 + closes s + 1 ≡ exit
      → (let head = here d0 + 1 in let parts = row_counted o.objects before in let m = condition (meant_if_any o.objects cond) in
      let e = loop_parts arrays exit (lower_row arrays f.break_to f.continue_to before) cond (lower arrays exit head s) (close (Go head) d0) in
      Holds o.graph (close (Go head) e).blocks
      → Does o 0 0 f (spot d0) (spot (close (Go head) e)) (loop (in_order (acts_of parts)) m (part (normal_kind_act o.objects s)) nothing) (counts_loop parts (option_price cond) m (counted_kind s) None))
  stepless f before cond s exit d0 l wc rows body_does at h =
      let head = here d0 + 1 in
      let ahead = lower_row arrays f.break_to f.continue_to before in
      let d1 = close (Go head) d0 in
      let e = loop_parts arrays exit ahead cond (lower arrays exit head s) d1 in
      let parts = row_counted o.objects before in
      let m = condition (meant_if_any o.objects cond) in
      let he = before_close o.graph e (Go head) h in
      let g1 = grown_close (Go head) d0 in
      let g2 = loop_grown arrays exit ahead (closes_row before) cond (lower arrays exit head s) (closes s) d1 (grown_row arrays f.break_to f.continue_to before) (grown_kind arrays exit head s) in
      let c = counts_loop parts (option_price cond) m (counted_kind s) None in
      let again = loop (in_order (acts_of parts)) m (part (normal_kind_act o.objects s)) nothing in
      let all = loop_from f before cond s head exit head None d0 l refl wc rows body_does he (stands_last o.graph e (Go head) h) (ends_do o 1 (no_loop o f) (entry (count o) head)) in
      to_close 0 0 f e (Go head) exit (spot d0) again c (g2.env ∙ g1.env ∙ l) (omega (arith, g1.blocks, g2.blocks, at)) (entered o f d0 head (entry (count o) exit) again c (stands_last o.graph d0 (Go head) (g2.kept o.graph he)) all)

  mutual
    pub kind_does : (f : Frame) (k : NormalStmtKind) (d : Draft) → length d.env ≡ count o → LawfulNormalStmt o.objects o.result f.loop k → Quiet f.free k → Holds o.graph (lower arrays f.break_to f.continue_to k d).blocks
        → Does o 0 0 f (spot d) (spot (lower arrays f.break_to f.continue_to k d)) (normal_kind_act o.objects k).run (kind_counts o.objects k)
    kind_does f (step.Block' n row) d l w q h =
        let parts = row_counted o.objects row in
        let c = counts_in_order parts in
        let p = spot d in
        let r = spot (lower_row arrays f.break_to f.continue_to row d) in
        turn_does o 0 0 f p r (block (normal_row_acts o.objects row)) (counts_entering parts c)
        (subst (λ (u : List Act). Does o 0 0 f p r (block u) (counts_entering parts c)) (acts_are o.objects row)
        (entering_does 0 0 f p r parts (in_order (acts_of parts)) c (row_does f row d l w q h)))
    kind_does f (step.Declare v init) d l w q h = turn_does o 0 0 f (spot d) (spot (declare arrays v init d)) (declared_run o.objects v (meant_if_any o.objects init)) (only (tally 0 (option_price init))) (declare_does o leaves.conv_same leaves.law f v init d w)
    kind_does f (step.Assign target e) d l w q h =
        turn_does o 0 0 f (spot d) (spot (assign_to arrays target.to target.indices e d)) (assigned o.objects (meant_target o.objects target) (meaning o.objects e)) (only (tally 0 (assignment_price target e))) (assign_does o leaves.conv_same leaves.law leaves.stores f target.to target.at target.indices e d w)
    kind_does f (step.If' n before cond b (more_of-NormalStmt s at end_of-NormalStmt) i) d l w q h =
        let x = f.break_to in let y = f.continue_to in
        let d1 = lower_row arrays x y before d in
        let first = here d1 + 1 in
        let second = here d1 + 1 + closes s + 1 in
        let join = second + closes_held i + 1 in
        let j = Two (condition_of arrays cond d1) first second in
        let d2 = close j (with_condition arrays cond d1) in
        let d3 = lower arrays x y s d2 in
        let d4 = close (Go join) d3 in
        let d5 = lower_held arrays x y i d4 in
        let parts = row_counted o.objects before in
        let m = meaning o.objects cond in
        let yes_run = part (normal_kind_act o.objects s) in
        let no_run = run_if_any (normal_act_if_any o.objects i) in
        let yes_counts = counts_part (counted_kind s) in
        let no_counts = counts_if_any (counted_if_any o.objects i) in
        let c = counts_branch parts (expr_price cond) m yes_counts no_counts in
        let h5 = before_close o.graph d5 (Go join) h in
        let h4 = (grown_held arrays x y i d4).kept o.graph h5 in
        let h3 = before_close o.graph d3 (Go join) h4 in
        let h2 = (grown_kind arrays x y s d2).kept o.graph h3 in
        let h1 = before_close o.graph (with_condition arrays cond d1) j h2 in
        let g1 = grown_row arrays x y before d in
        let g2 = grown_close j (with_condition arrays cond d1) in
        let g3 = grown_kind arrays x y s d2 in
        let g4 = grown_close (Go join) d3 in
        let g5 = grown_held arrays x y i d4 in
        let l1 : length d1.env ≡ count o = g1.env ∙ l in
        let l2 : length d2.env ≡ count o = g2.env ∙ l1 in
        let l3 : length d3.env ≡ count o = g3.env ∙ l2 in
        let l4 : length d4.env ≡ count o = g4.env ∙ l3 in
        let l5 : length d5.env ≡ count o = g5.env ∙ l4 in
        let at3 : here d3 + 1 ≡ second = omega (arith, g2.blocks, g3.blocks) in
        let at5 : here d5 + 1 ≡ join = omega (arith, g4.blocks, g5.blocks, at3) in
        let yes_part : Does o 0 0 f (entry (count o) first) (entry (count o) join) yes_run (counting (tally 1 0) yes_counts) =
        owing_less o 0 1 0 (omega arith) f (entry (count o) first) (entry (count o) join) yes_run (counting (tally 1 0) yes_counts)
        (part_goes o 0 f (entry (count o) first) d3 join yes_run yes_counts (from_entry 0 0 f (with_condition arrays cond d1) j first (spot d3) yes_run yes_counts l1 refl (part_does 0 0 f (spot d2) (spot d3) (counted_kind s) (kind_does f s d2 l2 w.2 q.1 h3))) (stands_last o.graph d3 (Go join) h4)) in
        let no_part : Does o 0 0 f (entry (count o) second) (entry (count o) join) no_run (counting (tally 1 0) no_counts) =
        owing_less o 0 1 0 (omega arith) f (entry (count o) second) (entry (count o) join) no_run (counting (tally 1 0) no_counts)
        (part_goes o 0 f (entry (count o) second) d5 join no_run no_counts (from_entry 0 0 f d3 (Go join) second (spot d5) no_run no_counts l3 at3 (held_does f i d4 l4 w.3 q.2 h5)) (stands_last o.graph d5 (Go join) h)) in
        let whole = branch_does o 0 0 f (spot d) (spot d1) (entry (count o) join) first second (expr_price cond) parts yes_run no_run yes_counts no_counts m
        (row_does f before d l w.0 q.0 h1) (picks o cond d1 first second (leaves.law cond w.1) (stands_last o.graph (with_condition arrays cond d1) j h2)) yes_part no_part in
        turn_does o 0 0 f (spot d) (spot (close (Go join) d5)) (branch (in_order (normal_row_acts o.objects before)) m yes_run no_run) c
        (subst (λ (u : List Act). Does o 0 0 f (spot d) (spot (close (Go join) d5)) (branch (in_order u) m yes_run no_run) c) (acts_are o.objects before)
        (to_close 0 0 f d5 (Go join) join (spot d) (branch (in_order (acts_of parts)) m yes_run no_run) c l5 at5 whole))
    kind_does f (step.While' n before cond b (more_of-NormalStmt s at end_of-NormalStmt)) d l w q h =
        let head = here d + 1 in
        let exit = head + closes_row before + 1 + closes s + 1 in
        let d0 = close (Go head) d in
        let end = close (Go head) (loop_parts arrays exit (lower_row arrays f.break_to f.continue_to before) (Some cond) (lower arrays exit head s) d0) in
        let run : List Act → Run = λ u. loop (in_order u) (meaning o.objects cond) (part (normal_kind_act o.objects s)) nothing in
        let c = counts_loop (row_counted o.objects before) (expr_price cond) (meaning o.objects cond) (counted_kind s) None in
        turn_does o 0 0 f (spot d) (spot end) (run (normal_row_acts o.objects before)) c
        (subst (λ (u : List Act). Does o 0 0 f (spot d) (spot end) (run u) c) (acts_are o.objects before)
        (stepless f before (Some cond) s exit d l w.1 (λ l0 h1. row_does (quiet o f) before d0 l0 w.0 q.0 h1) (λ a la ha. kind_does (in_loop o f exit head) s a la w.2 q.1 ha) refl h))
    kind_does f (step.DoWhile' b (more_of-NormalStmt s at end_of-NormalStmt) n before cond) d l w q h =
        let x = f.break_to in let y = f.continue_to in
        let first = here d + 1 in
        let head = first + closes s + 1 in
        let exit = head + closes_row before + 1 in
        let d1 = close (Go first) d in
        let d2 = lower arrays exit head s d1 in
        let d3 = close (Go head) d2 in
        let d4 = lower_row arrays x y before d3 in
        let j = Two (condition_of arrays cond d4) first exit in
        let parts = row_counted o.objects before in
        let m = meaning o.objects cond in
        let body = counted_kind s in
        let c = counts_loop parts (expr_price cond) m body None in
        let e = counting (tally 1 0) (counts_looped body c) in
        let h4 = before_close o.graph (with_condition arrays cond d4) j h in
        let h3 = (grown_row arrays x y before d3).kept o.graph h4 in
        let h2 = before_close o.graph d2 (Go head) h3 in
        let h1 = (grown_kind arrays exit head s d1).kept o.graph h2 in
        let g1 = grown_close (Go first) d in
        let g2 = grown_kind arrays exit head s d1 in
        let g3 = grown_close (Go head) d2 in
        let g4 = grown_row arrays x y before d3 in
        let l1 : length d1.env ≡ count o = g1.env ∙ l in
        let l2 : length d2.env ≡ count o = g2.env ∙ l1 in
        let l3 : length d3.env ≡ count o = g3.env ∙ l2 in
        let l4 : length d4.env ≡ count o = g4.env ∙ l3 in
        let at2 : here d2 + 1 ≡ head = omega (arith, g1.blocks, g2.blocks) in
        let at4 : here d4 + 1 ≡ exit = omega (arith, g3.blocks, g4.blocks, at2) in
        let inside = from_entry 0 0 (in_loop o f exit head) d (Go first) first (spot d2) (part body.act) (counts_part body) l refl (part_does 0 0 (in_loop o f exit head) (spot d1) (spot d2) body (kind_does (in_loop o f exit head) s d1 l1 w.0 q.0 h2)) in
        let lp : Loop o f head first exit head (spot d4) d2 (expr_price cond) parts m body None = record {
          first = quietly f (entry (count o) head) (spot d4) (in_order (acts_of parts)) (counts_in_order parts) (from_entry 0 0 (quiet o f) d2 (Go head) head (spot d4) (in_order (acts_of parts)) (counts_in_order parts) l2 at2 (row_does (quiet o f) before d3 l3 w.1 q.1 h4));
          picks = picks o cond d4 first exit (leaves.law cond w.2) (stands_last o.graph (with_condition arrays cond d4) j h);
          inside = inside;
          stands = stands_last o.graph d2 (Go head) h3;
          stepped = ends_do o 1 (no_loop o f) (entry (count o) head);
        } in
        let again = loop (in_order (acts_of parts)) m (part body.act) nothing in
        let whole = entered o f d first (entry (count o) exit) (looped (part body.act) again) e (stands_last o.graph d (Go first) h1)
        (looped_does o f exit head d2 (entry (count o) first) body again c inside (stands_last o.graph d2 (Go head) h3) (loop_does o f head first exit head (spot d4) d2 (expr_price cond) parts m body None lp)) in
        turn_does o 0 0 f (spot d) (spot (close j (with_condition arrays cond d4))) (looped (part body.act) (loop (in_order (normal_row_acts o.objects before)) m (part body.act) nothing)) e
        (subst (λ (u : List Act). Does o 0 0 f (spot d) (spot (close j (with_condition arrays cond d4))) (looped (part body.act) (loop (in_order u) m (part body.act) nothing)) e) (acts_are o.objects before)
        (to_close 0 0 f (with_condition arrays cond d4) j exit (spot d) (looped (part body.act) again) e l4 at4 whole))
    kind_does f (step.For' n first z before cond i b (more_of-NormalStmt s at end_of-NormalStmt)) d l w q h =
        let x = f.break_to in let y = f.continue_to in
        let d0 = lower_row arrays x y first d in
        let head = here d0 + 1 in
        let after = head + closes_row before + 1 + closes s + 1 in
        let exit = after + closes_step i in
        let d1 = close (Go head) d0 in
        let firsts = row_counted o.objects first in
        let parts = row_counted o.objects before in
        let m = condition (meant_if_any o.objects cond) in
        let body = counted_kind s in
        let st = counted_if_any o.objects i in
        let c = counts_loop parts (option_price cond) m body st in
        let e = counts_both (in_order (acts_of firsts)) (counts_in_order firsts) c in
        let again = loop (in_order (acts_of parts)) m (part body.act) (step_run st) in
        let g0 = grown_row arrays x y first d in
        let l0 : length d0.env ≡ count o = g0.env ∙ l in
        let h1 : Holds o.graph d1.blocks = (grown_step arrays x y head i after (λ to. loop_parts arrays exit (lower_row arrays x y before) cond (lower arrays exit to s) d1) d1 (closes_row before + 1 + closes s)
        (λ to. loop_grown arrays exit (lower_row arrays x y before) (closes_row before) cond (lower arrays exit to s) (closes s) d1 (grown_row arrays x y before) (grown_kind arrays exit to s))).kept o.graph h in
        let h0 = before_close o.graph d0 (Go head) h1 in
        let end = lower_step arrays x y head i (λ to. loop_parts arrays exit (lower_row arrays x y before) cond (lower arrays exit to s) d1) after in
        let ran = unlooped 0 0 f (spot d) (spot d0) (in_order (acts_of firsts)) (counts_in_order firsts) (row_does (no_loop o f) first d l w.0 q.0 h0) in
        let whole = both_do o 0 0 f (spot d) (spot d0) (spot end) (in_order (acts_of firsts)) again (counts_in_order firsts) c ran (for_does f before cond s i d0 l0 w.2 w.4 q.2 (λ l2 h2. row_does (quiet o f) before d1 l2 w.1 q.1 h2) (λ a t d2 l2 h2. kind_does (in_loop o f a t) s d2 l2 w.5 q.3 h2) h1 h) in
        turn_does o 0 0 f (spot d) (spot end) (entering (normal_row_acts o.objects first) (both_runs (in_order (normal_row_acts o.objects first)) (loop (in_order (normal_row_acts o.objects before)) m (part body.act) (run_if_any (normal_act_if_any o.objects i))))) (counts_entering firsts e)
        (subst (λ (u : List Act). Does o 0 0 f (spot d) (spot end) (entering u (both_runs (in_order u) (loop (in_order (normal_row_acts o.objects before)) m (part body.act) (run_if_any (normal_act_if_any o.objects i))))) (counts_entering firsts e)) (acts_are o.objects first)
        (subst (λ (u : List Act). Does o 0 0 f (spot d) (spot end) (entering (acts_of firsts) (both_runs (in_order (acts_of firsts)) (loop (in_order u) m (part body.act) (run_if_any (normal_act_if_any o.objects i))))) (counts_entering firsts e)) (acts_are o.objects before)
        (subst (λ (u : Run). Does o 0 0 f (spot d) (spot end) (entering (acts_of firsts) (both_runs (in_order (acts_of firsts)) (loop (in_order (acts_of parts)) m (part body.act) u))) (counts_entering firsts e)) (held_run o.objects i)
        (entering_does 0 0 f (spot d) (spot end) firsts (both_runs (in_order (acts_of firsts)) again) e whole))))
    kind_does f step.Break d l w q h = turn_does o 0 0 f (spot d) (spot (close (Go f.break_to) d)) (ends by_break) (only (tally 1 0)) (λ v s m at. (w, goes o d v s f.break_to at (stands_last o.graph d (Go f.break_to) h)))
    kind_does f step.Continue d l w q h = turn_does o 0 0 f (spot d) (spot (close (Go f.continue_to) d)) (ends by_continue) (only (tally 1 0)) (λ v s m at. (w, goes o d v s f.continue_to at (stands_last o.graph d (Go f.continue_to) h)))
    kind_does f (step.Return e) d l w q h = turn_does o 0 0 f (spot d) (spot (lower arrays f.break_to f.continue_to (step.Return e) d)) (returned (meant_if_any o.objects e)) (only (tally 1 (option_price e))) (return_leaf f e d (spot (lower arrays f.break_to f.continue_to (step.Return e) d)) w q h o.result refl w)
    kind_does f step.Empty d l w q h = turn_does o 0 0 f (spot d) (spot d) nothing (only (tally 0 0)) (ends_do o 0 f (spot d))

    for_does : (f : Frame) {n : Count} (before : Row_of-NormalStmt n) (cond : Option TypedExpr) (s : NormalStmtKind) (i : Held-NormalStmtKind-If-3) (d0 : Draft) → length d0.env ≡ count o
        → LawfulOption (LawfulNormalExpr o.objects) cond → LawfulNormalStmtHeld o.objects o.result false i → QuietHeld f.free i → RowDoes f before (close (Go (here d0 + 1)) d0) → ((exit to : ℕ) → KindDoes (in_loop o f exit to) s)
        → (let head = here d0 + 1 in let after = head + closes_row before + 1 + closes s + 1 in let exit = after + closes_step i in
        let e = lower_step arrays f.break_to f.continue_to head i (λ to. loop_parts arrays exit (lower_row arrays f.break_to f.continue_to before) cond (lower arrays exit to s) (close (Go head) d0)) after in
        let parts = row_counted o.objects before in let st = counted_if_any o.objects i in
        Holds o.graph (close (Go head) d0).blocks → Holds o.graph e.blocks
        → Does o 0 0 f (spot d0) (spot e) (loop (in_order (acts_of parts)) (condition (meant_if_any o.objects cond)) (part (normal_kind_act o.objects s)) (step_run st)) (counts_loop parts (option_price cond) (condition (meant_if_any o.objects cond)) (counted_kind s) st))
    for_does f before cond s step.None' d0 l wc wi qi rows body_does h1 h =
        let exit = here d0 + 1 + closes_row before + 1 + closes s + 1 + 0 in stepless f before cond s exit d0 l wc rows (body_does exit (here d0 + 1)) (omega arith) h
    for_does f before cond s (step.Some' b (more_of-NormalStmt t at end_of-NormalStmt)) d0 l wc wi qi rows body_does h1 h =
        let x = f.break_to in let y = f.continue_to in
        let head = here d0 + 1 in
        let after = head + closes_row before + 1 + closes s + 1 in
        let exit = after + (closes t + 1) in
        let d1 = close (Go head) d0 in
        let ahead = lower_row arrays x y before in
        let e = loop_parts arrays exit ahead cond (lower arrays exit after s) d1 in
        let d5 = close (Go after) e in
        let d6 = lower arrays x y t d5 in
        let parts = row_counted o.objects before in
        let m = condition (meant_if_any o.objects cond) in
        let body = counted_kind s in
        let st = counted_kind t in
        let h6 = before_close o.graph d6 (Go head) h in
        let h5 = (grown_kind arrays x y t d5).kept o.graph h6 in
        let he = before_close o.graph e (Go after) h5 in
        let g1 = grown_close (Go head) d0 in
        let g2 = loop_grown arrays exit ahead (closes_row before) cond (lower arrays exit after s) (closes s) d1 (grown_row arrays x y before) (grown_kind arrays exit after s) in
        let g5 = grown_close (Go after) e in
        let g6 = grown_kind arrays x y t d5 in
        let le : length e.env ≡ count o = g2.env ∙ g1.env ∙ l in
        let l5 : length d5.env ≡ count o = g5.env ∙ le in
        let at : here e + 1 ≡ after = omega (arith, g1.blocks, g2.blocks) in
        let c = counts_loop parts (option_price cond) m body (Some st) in
        let again = loop (in_order (acts_of parts)) m (part body.act) (part st.act) in
        let stepped = part_goes o 0 (no_loop o f) (entry (count o) after) d6 head (part st.act) (counts_part st) (from_entry 0 0 (no_loop o f) e (Go after) after (spot d6) (part st.act) (counts_part st) le at (part_does 0 0 (no_loop o f) (spot d5) (spot d6) st (kind_does (no_loop o f) t d5 l5 wi qi h6))) (stands_last o.graph d6 (Go head) h) in
        let all = loop_from f before cond s head exit after (Some st) d0 l refl wc rows (body_does exit after) he (stands_last o.graph e (Go after) h5) stepped in
        to_close 0 0 f d6 (Go head) exit (spot d0) again c (g6.env ∙ l5) (omega (arith, g5.blocks, g6.blocks, at)) (entered o f d0 head (entry (count o) exit) again c (stands_last o.graph d0 (Go head) h1) all)

    pub held_does : (f : Frame) (i : Held-NormalStmtKind-If-3) (d : Draft) → length d.env ≡ count o → LawfulNormalStmtHeld o.objects o.result f.loop i → QuietHeld f.free i → Holds o.graph (lower_held arrays f.break_to f.continue_to i d).blocks
        → Does o 0 0 f (spot d) (spot (lower_held arrays f.break_to f.continue_to i d)) (run_if_any (normal_act_if_any o.objects i)) (counts_if_any (counted_if_any o.objects i))
    held_does f step.None' d l w q h = ends_do o 0 f (spot d)
    held_does f (step.Some' b (more_of-NormalStmt s at end_of-NormalStmt)) d l w q h = part_does 0 0 f (spot d) (spot (lower arrays f.break_to f.continue_to s d)) (counted_kind s) (kind_does f s d l w q h)

    pub row_does : (f : Frame) {n : Count} (row : Row_of-NormalStmt n) (d : Draft) → length d.env ≡ count o → LawfulNormalStmts o.objects o.result f.loop row → QuietRow f.free row → Holds o.graph (lower_row arrays f.break_to f.continue_to row d).blocks
        → Does o 0 0 f (spot d) (spot (lower_row arrays f.break_to f.continue_to row d)) (in_order (acts_of (row_counted o.objects row))) (counts_in_order (row_counted o.objects row))
    row_does f end_of-NormalStmt d l w q h = ends_do o 0 f (spot d)
    row_does f (more_of-NormalStmt s at row) d l w q h =
        let x = f.break_to in let y = f.continue_to in
        let d1 = lower arrays x y s d in
        let parts = row_counted o.objects row in
        let g1 = grown_kind arrays x y s d in
        both_do o 0 0 f (spot d) (spot d1) (spot (lower_row arrays x y row d1)) (normal_kind_act o.objects s).run (in_order (acts_of parts)) (kind_counts o.objects s) (counts_in_order parts)
        (kind_does f s d l w.0 q.0 ((grown_row arrays x y row d1).kept o.graph h)) (row_does f row d1 (g1.env ∙ l) w.1 q.1 h)
