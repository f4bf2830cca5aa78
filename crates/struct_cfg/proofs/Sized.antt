-- How many steps and accesses the blocks of statements have: at most as many as their sizes say.
use Rattle.std.proofs.Common.{◌≡◌, ℕ, ◌+◌, ◌≤◌, List, [], ◌∷◌, length, Option, Some, None, refl, ap, arith}
use Rattle.std.specs.Prelude.{sum_by}
use Rattle.std.proofs.lemmas.List.Sums.{sum_by-cons, sum_by-append}
use mathlib.Core.Former.{Count}
use Rattle.el_base.specs.declared.ty.Ty.{Ty}
use Rattle.el_base.specs.Widths.{ty_width}
use Rattle.c_ast.specs.declared.typed.ArrayOf.{ArrayOf}
use Rattle.c_ast.specs.declared.typed.Object.{Object}
use Rattle.c_ast.specs.declared.typed.Object.TheVariants as object
use Rattle.c_ast.specs.declared.typed.TypedExpr.{TypedExpr}
use Rattle.c_ast.specs.declared.typed.TypedTarget.{TypedTarget}
use Rattle.c_ast.specs.declared.normal.Normal.{Normal}
use Rattle.c_ast.specs.declared.normal.NormalStmt.{NormalStmt}
use Rattle.c_ast.specs.declared.normal.NormalStmtKind.{NormalStmtKind, Row_of-NormalStmt, end_of-NormalStmt, more_of-NormalStmt, Held-NormalStmtKind-If-3}
use Rattle.c_ast.specs.declared.normal.NormalStmtKind as step
use Rattle.ir.specs.declared.instr.Instr.{Instr}
use Rattle.ir.specs.declared.instr.Instr.TheVariants.{Const}
use Rattle.ir.specs.declared.cfg.CfgBlock.{CfgBlock}
use Rattle.ir.specs.declared.cfg.CfgJump.{CfgJump}
use Rattle.ir.specs.declared.cfg.CfgJump.TheVariants.{Go, Two, Return}
use Rattle.ir.specs.Accesses.{accesses_in}
use Rattle.c_meaning.specs.Counts.{expr_price, assignment_price}
use Rattle.c_meaning.specs.Sizes.{closes, closes_held, closes_step, closes_row, steps, steps_held, steps_row, accesses, accesses_held, accesses_row, expr_reads, object_writes, target_accesses, form_sizes}
use Rattle.struct_cfg.specs.declared.draft.Draft.{Draft}
use Rattle.struct_cfg.specs.Drafts.{here, next_value, with_steps, closed, close}
use Rattle.struct_cfg.specs.Exprs.{expr_laying, condition_laying, store_laying}
use Rattle.struct_cfg.specs.Lowering.{with_expr, value_of, with_condition, condition_of, assign_to, declare, returning, loop_parts, lower, lower_held, lower_step, lower_row}
use Rattle.struct_cfg.specs.Lists.{lower_all}
use Rattle.struct_cfg.specs.Kernels.{empty, finish, form_graph}
use Rattle.struct_cfg.specs.Runs.{CfgSizes}
use Rattle.struct_cfg.proofs.Bounds.{Adding, AtMost, steps_adding, accesses_adding, kind_cheap, kind_reads}
use Rattle.struct_cfg.proofs.Stores.{store_cheap, store_reads, condition_cheap, condition_reads}
use Rattle.struct_cfg.proofs.Formed.{form_blocks}

-- a number of lists of steps for each kind of statement, which bounds what is laid for it
pub record TreeCost (c : List Instr → ℕ) : Type 0 where
  pub adding : Adding c
  pub kind : NormalStmtKind → ℕ
  pub row : {n : Count} → Row_of-NormalStmt n → ℕ
  pub held : Held-NormalStmtKind-If-3 → ℕ
  pub expr : TypedExpr → ℕ
  pub cond : TypedExpr → ℕ
  pub target : TypedTarget → TypedExpr → ℕ
  pub expr_most : (arrays : List ArrayOf) (env : List ℕ) (e : TypedExpr) → AtMost c (expr_laying arrays env e) (expr e)
  pub cond_most : (arrays : List ArrayOf) (env : List ℕ) (e : TypedExpr) → AtMost c (condition_laying arrays env e) (cond e)
  pub target_var : (t : TypedTarget) (e : TypedExpr) → expr e ≤ target t e
  pub target_most : (arrays : List ArrayOf) (env : List ℕ) (a : ℕ) (t : TypedTarget) (e : TypedExpr) → t.to ≡ object.Array a → AtMost c (store_laying arrays env a t.indices e) (target t e)
  pub row_end : row end_of-NormalStmt ≡ 0
  pub row_more : (s : NormalStmtKind) (at : _) {n : Count} (rest : Row_of-NormalStmt n) → row (more_of-NormalStmt s at rest) ≡ kind s + row rest
  pub held_none : held step.None' ≡ 0
  pub held_some : (b : _) (s : NormalStmtKind) (at : _) → held (step.Some' b (more_of-NormalStmt s at end_of-NormalStmt)) ≡ kind s
  pub block : (n : _) (r : _) → kind (step.Block' n r) ≡ row r
  pub declared : (v : _) (e : TypedExpr) → kind (step.Declare v (Some e)) ≡ expr e
  pub assigned : (t : TypedTarget) (e : TypedExpr) → kind (step.Assign t e) ≡ target t e
  pub choice : (n : _) (before : _) (e : TypedExpr) (b : _) (s : NormalStmtKind) (at : _) (o : Held-NormalStmtKind-If-3)
      → kind (step.If' n before e b (more_of-NormalStmt s at end_of-NormalStmt) o) ≡ row before + cond e + kind s + held o
  pub while_loop : (n : _) (before : _) (e : TypedExpr) (b : _) (s : NormalStmtKind) (at : _) → kind (step.While' n before e b (more_of-NormalStmt s at end_of-NormalStmt)) ≡ row before + cond e + kind s
  pub do_loop : (n : _) (before : _) (e : TypedExpr) (b : _) (s : NormalStmtKind) (at : _) → kind (step.DoWhile' b (more_of-NormalStmt s at end_of-NormalStmt) n before e) ≡ kind s + row before + cond e
  pub for_some : (n : _) (first : _) (m : _) (before : _) (e : TypedExpr) (o : Held-NormalStmtKind-If-3) (b : _) (s : NormalStmtKind) (at : _)
      → kind (step.For' n first m before (Some e) o b (more_of-NormalStmt s at end_of-NormalStmt)) ≡ row first + row before + cond e + kind s + held o
  pub for_none : (n : _) (first : _) (m : _) (before : _) (o : Held-NormalStmtKind-If-3) (b : _) (s : NormalStmtKind) (at : _)
      → row first + row before + kind s + held o ≤ kind (step.For' n first m before None o b (more_of-NormalStmt s at end_of-NormalStmt))
  pub returned : (e : TypedExpr) → kind (step.Return (Some e)) ≡ expr e

module _ (c : List Instr → ℕ) (t : TreeCost c) (arrays : List ArrayOf) where
  abbrev pub of_blocks : List CfgBlock → ℕ
  of_blocks bs = sum_by (λ (b : CfgBlock). c b.steps) bs

  abbrev pub all_laid : Draft → ℕ
  all_laid d = of_blocks d.blocks + c d.steps

  -- a draft has at most so many more
  pub record More (d e : Draft) (n : ℕ) : Type 0 where
    pub by : all_laid e ≤ all_laid d + n

  more_then : {d e f : Draft} {m n : ℕ} → More d e m → More e f n → More d f (m + n)
  more_then a b = record { by = omega (arith, a.by, b.by) }

  more_as : {d e : Draft} {m : ℕ} (n : ℕ) → More d e m → m ≤ n → More d e n
  more_as n a h = record { by = omega (arith, a.by, h) }

  more_same : (d : Draft) (n : ℕ) → More d d n
  more_same d n = record { by = omega arith }

  pub more_close : (j : CfgJump) (d : Draft) → More d (close j d) 0
  more_close j d =
      let f : CfgBlock → ℕ = λ b. c b.steps in
      let a = sum_by-append f d.blocks (closed j d ∷ []) in
      let b = sum_by-cons f (closed j d) [] in
      let none = t.adding.none in
      record { by = omega (arith, a, b, none) }

  more_steps : (is : List Instr) (n : ℕ) (d : Draft) → c is ≤ n → More d (with_steps is d) n
  more_steps is n d le = let b = t.adding.both d.steps is in record { by = omega (arith, b) }

  more_expr : (e : TypedExpr) (d : Draft) → More d (with_expr arrays e d) (t.expr e)
  more_expr e d = more_steps (expr_laying arrays d.env e (next_value d)).steps (t.expr e) d (t.expr_most arrays d.env e (next_value d))

  more_cond : (e : TypedExpr) (d : Draft) → More d (with_condition arrays e d) (t.cond e)
  more_cond e d = more_steps (condition_laying arrays d.env e (next_value d)).steps (t.cond e) d (t.cond_most arrays d.env e (next_value d))

  more_declare : (v : ℕ) (e : Option TypedExpr) (d : Draft) → More d (declare arrays v e d) (t.kind (step.Declare v e))
  more_declare v None d = more_same d (t.kind (step.Declare v None))
  more_declare v (Some e) d = let a = more_expr e d in record { by = omega (arith, a.by, t.declared v e) }

  more_assign : (to : Object) (target : TypedTarget) (e : TypedExpr) (d : Draft) → target.to ≡ to → More d (assign_to arrays to target.indices e d) (t.target target e)
  more_assign (object.Var v) target e d is = let a = more_expr e d in let b = t.target_var target e in record { by = omega (arith, a.by, b) }
  more_assign (object.Array a) target e d is = more_steps (store_laying arrays d.env a target.indices e (next_value d)).steps (t.target target e) d (t.target_most arrays d.env a target e is (next_value d))

  more_return : (e : Option TypedExpr) (d : Draft) → More d (returning arrays e d) (t.kind (step.Return e))
  more_return None d = let a = more_close (Return None) d in record { by = omega (arith, a.by) }
  more_return (Some e) d = more_as _ (more_then (more_expr e d) (more_close (Return (Some (value_of arrays e d))) (with_expr arrays e d))) (omega (arith, t.returned e))

  -- a condition, with which the block ends
  more_two : (j : CfgJump) (e : TypedExpr) (d : Draft) → More d (close j (with_condition arrays e d)) (t.cond e)
  more_two j e d = more_as _ (more_then (more_cond e d) (more_close j (with_condition arrays e d))) (omega arith)

  abbrev if_any : Option TypedExpr → ℕ
  if_any None = 0
  if_any (Some e) = t.cond e

  -- a loop from its condition to the end of its body
  more_loop : (x y exit : ℕ) {n : Count} (before : Row_of-NormalStmt n) (cond : Option TypedExpr) (s : NormalStmtKind) (to : ℕ) (d : Draft) → More d (lower_row arrays x y before d) (t.row before) → ((e : Draft) → More e (lower arrays exit to s e) (t.kind s))
      → More d (loop_parts arrays exit (lower_row arrays x y before) cond (lower arrays exit to s) d) (t.row before + if_any cond + t.kind s)
  more_loop x y exit before None s to d a b =
      let d1 = lower_row arrays x y before d in
      let j = Go (here d1 + 1) in
      more_as _ (more_then a (more_then (more_close j d1) (b (close j d1)))) (omega arith)
  more_loop x y exit before (Some e) s to d a b =
      let d1 = lower_row arrays x y before d in
      let j = Two (condition_of arrays e d1) (here d1 + 1) exit in
      more_as _ (more_then a (more_then (more_two j e d1) (b (close j (with_condition arrays e d1))))) (omega arith)

  for_most : (n : _) (first : _) (m : _) (before : _) (cond : Option TypedExpr) (o : Held-NormalStmtKind-If-3) (p : _) (s : NormalStmtKind) (at : _)
      → t.row first + (0 + (t.row before + if_any cond + t.kind s + t.held o)) ≤ t.kind (step.For' n first m before cond o p (more_of-NormalStmt s at end_of-NormalStmt))
  for_most n first m before None o p s at = omega (arith, t.for_none n first m before o p s at)
  for_most n first m before (Some e) o p s at = omega (arith, t.for_some n first m before e o p s at)

  mutual
    pub more_kind : (x y : ℕ) (k : NormalStmtKind) (d : Draft) → More d (lower arrays x y k d) (t.kind k)
    more_kind x y (step.Block' n row) d = let a = more_row x y row d in record { by = omega (arith, a.by, t.block n row) }
    more_kind x y (step.Declare v e) d = more_declare v e d
    more_kind x y (step.Assign target e) d = let a = more_assign target.to target e d refl in record { by = omega (arith, a.by, t.assigned target e) }
    more_kind x y (step.If' n before cond p (more_of-NormalStmt s at end_of-NormalStmt) o) d =
        let d1 = lower_row arrays x y before d in
        let second = here d1 + 1 + closes s + 1 in
        let join = second + closes_held o + 1 in
        let j = Two (condition_of arrays cond d1) (here d1 + 1) second in
        let d2 = close j (with_condition arrays cond d1) in
        let d3 = lower arrays x y s d2 in
        let d4 = close (Go join) d3 in
        let d5 = lower_held arrays x y o d4 in
        more_as _ (more_then (more_row x y before d) (more_then (more_two j cond d1) (more_then (more_kind x y s d2)
        (more_then (more_close (Go join) d3) (more_then (more_held x y o d4) (more_close (Go join) d5)))))) (omega (arith, t.choice n before cond p s at o))
    more_kind x y (step.While' n before cond p (more_of-NormalStmt s at end_of-NormalStmt)) d =
        let head = here d + 1 in
        let exit = head + closes_row before + 1 + closes s + 1 in
        let d0 = close (Go head) d in
        more_as _ (more_then (more_close (Go head) d) (more_then (more_loop x y exit before (Some cond) s head d0 (more_row x y before d0) (more_kind exit head s))
        (more_close (Go head) (loop_parts arrays exit (lower_row arrays x y before) (Some cond) (lower arrays exit head s) d0)))) (omega (arith, t.while_loop n before cond p s at))
    more_kind x y (step.DoWhile' p (more_of-NormalStmt s at end_of-NormalStmt) n before cond) d =
        let first = here d + 1 in
        let head = first + closes s + 1 in
        let exit = head + closes_row before + 1 in
        let d1 = close (Go first) d in
        let d2 = lower arrays exit head s d1 in
        let d3 = close (Go head) d2 in
        let d4 = lower_row arrays x y before d3 in
        more_as _ (more_then (more_close (Go first) d) (more_then (more_kind exit head s d1) (more_then (more_close (Go head) d2)
        (more_then (more_row x y before d3) (more_two (Two (condition_of arrays cond d4) first exit) cond d4))))) (omega (arith, t.do_loop n before cond p s at))
    more_kind x y (step.For' n first m before cond o p (more_of-NormalStmt s at end_of-NormalStmt)) d =
        let d0 = lower_row arrays x y first d in
        let head = here d0 + 1 in
        let after = head + closes_row before + 1 + closes s + 1 in
        let exit = after + closes_step o in
        let d1 = close (Go head) d0 in
        more_as _ (more_then (more_row x y first d) (more_then (more_close (Go head) d0)
        (more_step x y head o after (λ to. loop_parts arrays exit (lower_row arrays x y before) cond (lower arrays exit to s) d1) d1 (t.row before + if_any cond + t.kind s)
        (λ to. more_loop x y exit before cond s to d1 (more_row x y before d1) (more_kind exit to s))))) (for_most n first m before cond o p s at)
    more_kind x y step.Break d = let a = more_close (Go x) d in record { by = omega (arith, a.by) }
    more_kind x y step.Continue d = let a = more_close (Go y) d in record { by = omega (arith, a.by) }
    more_kind x y (step.Return e) d = more_return e d
    more_kind x y step.Empty d = more_same d (t.kind step.Empty)

    more_held : (x y : ℕ) (o : Held-NormalStmtKind-If-3) (d : Draft) → More d (lower_held arrays x y o d) (t.held o)
    more_held x y step.None' d = more_same d (t.held step.None')
    more_held x y (step.Some' p (more_of-NormalStmt s at end_of-NormalStmt)) d = let a = more_kind x y s d in record { by = omega (arith, a.by, t.held_some p s at) }

    more_step : (x y head : ℕ) (o : Held-NormalStmtKind-If-3) (after : ℕ) (body : ℕ → Draft) (d : Draft) (n : ℕ) → ((to : ℕ) → More d (body to) n) → More d (lower_step arrays x y head o body after) (n + t.held o)
    more_step x y head step.None' after body d n a = let b = a head in let e = more_close (Go head) (body head) in record { by = omega (arith, b.by, e.by) }
    more_step x y head (step.Some' p (more_of-NormalStmt s at end_of-NormalStmt)) after body d n a =
        let d1 = close (Go after) (body after) in
        more_as _ (more_then (a after) (more_then (more_close (Go after) (body after)) (more_then (more_kind x y s d1) (more_close (Go head) (lower arrays x y s d1))))) (omega (arith, t.held_some p s at))

    more_row : (x y : ℕ) {n : Count} (row : Row_of-NormalStmt n) (d : Draft) → More d (lower_row arrays x y row d) (t.row row)
    more_row x y end_of-NormalStmt d = more_same d (t.row end_of-NormalStmt)
    more_row x y (more_of-NormalStmt s at row) d = more_as _ (more_then (more_kind x y s d) (more_row x y row (lower arrays x y s d))) (omega (arith, t.row_more s at row))

  more_all : (ss : List NormalStmt) (d : Draft) → More d (lower_all arrays 0 0 ss d) (sum_by (λ (s : NormalStmt). t.kind s.kind) ss)
  more_all [] d = more_same d (sum_by (λ (s : NormalStmt). t.kind s.kind) [])
  more_all (s ∷ ss) d = more_as _ (more_then (more_kind 0 0 s.kind d) (more_all ss (lower arrays 0 0 s.kind d))) (omega (arith, sum_by-cons (λ (s : NormalStmt). t.kind s.kind) s ss))

  more_finish : (r : Option Ty) (n : ℕ) (d : Draft) → ((w m : ℕ) → c (Const w m ∷ []) ≤ n) → More d (finish r d) n
  more_finish None n d h = let a = more_close (Return None) d in record { by = omega (arith, a.by) }
  more_finish (Some u) n d h =
      let i = Const (ty_width u) 0 ∷ [] in
      more_as _ (more_then (more_steps i n d (h (ty_width u) 0)) (more_close (Return (Some (next_value d))) (with_steps i d))) (omega arith)

  more_whole : (r : Option Ty) (n m : ℕ) (body : List NormalStmt) → ((w m : ℕ) → c (Const w m ∷ []) ≤ n) → of_blocks (finish r (lower_all arrays 0 0 body (empty m))).blocks ≤ sum_by (λ (s : NormalStmt). t.kind s.kind) body + n
  more_whole r n m body h =
      let d = lower_all arrays 0 0 body (empty m) in
      let e = finish r d in
      let a = more_then (more_all body (empty m)) (more_finish r n d h) in
      let all : of_blocks e.blocks + c e.steps ≤ 0 + c [] + (sum_by (λ (s : NormalStmt). t.kind s.kind) body + n) = a.by in
      omega (arith, t.adding.none)

unfoldable pub steps_cost : TreeCost length
steps_cost = record {
  adding = steps_adding;
  kind = steps;
  row = steps_row;
  held = steps_held;
  expr = expr_price;
  cond = λ e. expr_price e + 2;
  target = assignment_price;
  expr_most = λ as_of env e. kind_cheap as_of env e.kind e.ty;
  cond_most = condition_cheap;
  target_var = λ t e. omega arith;
  target_most = λ as_of env a t e is. store_cheap as_of env a t.indices e;
  row_end = refl;
  row_more = λ s at rest. refl;
  held_none = refl;
  held_some = λ b s at. refl;
  block = λ n r. refl;
  declared = λ v e. refl;
  assigned = λ t e. refl;
  choice = λ n before e b s at o. refl;
  while_loop = λ n before e b s at. refl;
  do_loop = λ n before e b s at. refl;
  for_some = λ n first m before e o b s at. refl;
  for_none = λ n first m before o b s at. omega arith;
  returned = λ e. refl;
}

accesses_cost : TreeCost accesses_in
accesses_cost = record {
  adding = accesses_adding;
  kind = accesses;
  row = accesses_row;
  held = accesses_held;
  expr = expr_reads;
  cond = expr_reads;
  target = λ t e. target_accesses t + expr_reads e;
  expr_most = λ as_of env e. kind_reads as_of env e.kind e.ty;
  cond_most = condition_reads;
  target_var = λ t e. omega arith;
  target_most = λ as_of env a t e is n. let h = store_reads as_of env a t.indices e n in let w : object_writes t.to ≡ 1 = ap object_writes is in omega (arith, h, w);
  row_end = refl;
  row_more = λ s at rest. refl;
  held_none = refl;
  held_some = λ b s at. refl;
  block = λ n r. refl;
  declared = λ v e. refl;
  assigned = λ t e. refl;
  choice = λ n before e b s at o. refl;
  while_loop = λ n before e b s at. refl;
  do_loop = λ n before e b s at. refl;
  for_some = λ n first m before e o b s at. refl;
  for_none = λ n first m before o b s at. omega arith;
  returned = λ e. refl;
}

pub sizes_kept : (f : Normal) → CfgSizes (form_graph f) (form_sizes f)
unfolding steps_cost accesses_cost
sizes_kept f =
    let a : sum_by (λ (b : CfgBlock). length b.steps) (form_graph f).blocks ≤ (form_sizes f).steps + 1 = more_whole length steps_cost f.arrays f.result 1 (length f.vars) f.body (λ w m. omega arith) in
    let b : sum_by (λ (b : CfgBlock). accesses_in b.steps) (form_graph f).blocks ≤ (form_sizes f).accesses + 0 = more_whole accesses_in accesses_cost f.arrays f.result 0 (length f.vars) f.body (λ w m. omega arith) in
    record {
      blocks = form_blocks f;
      steps = omega (arith, a);
      accesses = omega (arith, b);
    }
