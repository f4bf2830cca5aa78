-- The sizes of the statements that are made for one of the kernel: at most four blocks, variables counted as four each, thirteen steps and one access for each node.
use Rattle.std.proofs.Common.{◌≡◌, ℕ, ◌+◌, ◌*◌, ◌≤◌, List, [], ◌∷◌, ◌++◌, length, Option, Some, None, refl, arith, length-append}
use Rattle.std.specs.Prelude.{Bool, true, false, sum_by, All}
use Rattle.std.proofs.lemmas.List.Sums.{sum_by-cons}
use Rattle.std.proofs.lemmas.List.Elements.{All-head, All-tail}
use mathlib.Core.Former.{Count}
use Rattle.el_base.specs.declared.span.Span.{Span}
use Rattle.el_base.specs.declared.ty.Ty.{Ty}
use Rattle.el_base.specs.declared.ty.Ty.TheVariants.{I32}
use Rattle.c_ast.specs.Casts.{of_type}
use Rattle.c_ast.specs.Nodes.{typed_kind_nodes, typed_row_nodes, typed_expr_nodes, typed_exprs_nodes, typed_opt_nodes, act_nodes, held_act_nodes, acts_nodes, typed_stmt_nodes, typed_stmts_nodes}
use Rattle.c_ast.specs.ResultTypes.{joint_type, result_type}
use Rattle.c_ast.specs.declared.tree.Binary.{Binary}
use Rattle.c_ast.specs.declared.typed.Object.{Object}
use Rattle.c_ast.specs.declared.typed.Object.TheVariants as object
use Rattle.c_ast.specs.declared.typed.TypedTarget.{TypedTarget}
use Rattle.c_ast.specs.declared.typed.TypedExpr.{TypedExpr}
use Rattle.c_ast.specs.declared.typed.TypedExprKind.{TypedExprKind, Row_of-TypedExpr, end_of-TypedExpr, more_of-TypedExpr}
use Rattle.c_ast.specs.declared.typed.TypedExprKind as kinds
use Rattle.c_ast.specs.declared.typed.TypedExprKind.TheVariants as expr
use Rattle.c_ast.specs.declared.typed.TypedStmt.{TypedStmt}
use Rattle.c_ast.specs.declared.typed.TypedStmtKind.{TypedStmtKind, Row_of-TypedStmt, end_of-TypedStmt, more_of-TypedStmt, Held-TypedStmtKind-If-2}
use Rattle.c_ast.specs.declared.typed.TypedStmtKind as tree
use Rattle.c_ast.specs.declared.normal.NormalStmt.{NormalStmt}
use Rattle.c_ast.specs.declared.normal.NormalStmtKind.{NormalStmtKind}
use Rattle.c_ast.specs.declared.normal.NormalStmtKind.TheVariants as normal
use Rattle.c_meaning.specs.Stores.{Objects}
use Rattle.c_meaning.specs.Statements.{object_type, step_operator}
use Rattle.c_meaning.specs.Counts.{kind_price, expr_price, option_price}
use Rattle.c_meaning.specs.Lawful.{LawfulExpr, LawfulOption, LawfulReturn, LawfulStmt, LawfulStmtHeld, LawfulStmts, IsObject, object_vars, stmt_vars_of, stmt_vars_held, stmt_vars_row, all_vars}
use Rattle.c_meaning.specs.Sizes.{Sizes, reads, reads_row, expr_reads, option_reads, object_writes}
use Rattle.c_meaning.specs.PartLaws.{SizesBy, blocks_of, steps_of, accesses_of, blocks_if_any, blocks_of_step, steps_if_any, accesses_if_any}
use Rattle.c_meaning.proofs.PartsOfNumbers.{price_number}
use Rattle.c_meaning.proofs.PartsOfSizes.{sizes_block, sizes_declaration, sizes_assignment, sizes_choice, sizes_while_loop, sizes_do_loop, sizes_for_loop, sizes_leaving, sizes_continuing, sizes_returning, sizes_empty, reading_number, reading_variable, reading_element, reading_cast, reading_binary}
use Rattle.c_meaning.proofs.FewVars.{object_few}
use Rattle.c_norm.specs.Expand.{Out, whole, decided_by, expand_expr, rest_of, expand_all, set_all}
use Rattle.c_norm.specs.Forms.{normal_at, block_of, optional, rest_if_any, object_kind, cast_to, new_value, target_with, compound, assignment_form, step_form, MadeIfAny, form_of, held_form, row_form, all_forms}
use Rattle.c_norm.proofs.Costs.{kind_cost}
use Rattle.c_norm.proofs.Dimensions.{FewDimensions, at_most_three}
use Rattle.c_norm.proofs.Targets.{expr_bounded, costs_bounded, target_price_is, new_price}
use Rattle.c_norm.proofs.SizedExprs.{by_sizes, own_sizes, one_sizes, append_sizes, block_sizes, elements_are, sized, all_sized, set_sized}

-- ---- an expression reads at most as many elements as it has nodes

mutual
  kind_reads : (e : TypedExprKind) → reads e ≤ typed_kind_nodes e
  kind_reads (kinds.Number n) = omega arith
  kind_reads (kinds.Var v) = omega arith
  kind_reads (kinds.Element' a n row) = let r = row_reads row in omega arith
  kind_reads (kinds.Unary' op b (more_of-TypedExpr e t at end_of-TypedExpr)) = let i = kind_reads e in omega arith
  kind_reads (kinds.Cast' true b (more_of-TypedExpr e t at end_of-TypedExpr)) = kind_reads e
  kind_reads (kinds.Cast' false b (more_of-TypedExpr e t at end_of-TypedExpr)) = let i = kind_reads e in omega arith
  kind_reads (kinds.Binary' op b (more_of-TypedExpr e t at end_of-TypedExpr) b2 (more_of-TypedExpr e2 t2 at2 end_of-TypedExpr)) = let i = kind_reads e in let j = kind_reads e2 in omega arith
  kind_reads (kinds.Choose' b (more_of-TypedExpr e t at end_of-TypedExpr) b2 (more_of-TypedExpr e2 t2 at2 end_of-TypedExpr) b3 (more_of-TypedExpr e3 t3 at3 end_of-TypedExpr)) =
      let i = kind_reads e in let j = kind_reads e2 in let l = kind_reads e3 in omega arith

  row_reads : {n : Count} (row : Row_of-TypedExpr n) → reads_row row ≤ typed_row_nodes row
  row_reads end_of-TypedExpr = omega arith
  row_reads (more_of-TypedExpr e t at row) = let i = kind_reads e in let j = row_reads row in omega arith

all_read : (es : List TypedExpr) → sum_by expr_reads es ≤ typed_exprs_nodes es
all_read [] = omega arith
all_read (e ∷ es) = let i = kind_reads e.kind in let j = all_read es in let p = sum_by-cons expr_reads e es in let q = sum_by-cons typed_expr_nodes e es in omega arith

-- ---- what is made for a statement of n nodes that declares or assigns d variables

pub record StmtSized (n d : ℕ) (stmts : List NormalStmt) (types : List Ty) : Type 0 where
  pub blocks : blocks_of stmts + 4 * (length types + d) ≤ 4 * n
  pub steps : steps_of stmts ≤ 13 * n
  pub accesses : accesses_of stmts ≤ n

-- what may be absent, as a part of if, or as the step of a for, which ends one block more
record HeldSized (n d : ℕ) (o : MadeIfAny) : Type 0 where
  blocks : blocks_if_any o.stmt + 4 * (length o.types + d) ≤ 4 * n
  stepping : blocks_of_step o.stmt ≤ blocks_if_any o.stmt + 1
  steps : steps_if_any o.stmt ≤ 13 * n
  accesses : accesses_if_any o.stmt ≤ n

-- an expression that may be absent
record OptionSized (n : ℕ) (o : Out) (rest : Option TypedExpr) : Type 0 where
  types : 2 * length o.types ≤ n
  blocks : blocks_of o.before ≡ 3 * length o.types
  steps : steps_of o.before + option_price rest ≤ 13 * n
  accesses : accesses_of o.before + option_reads rest ≤ n

-- settings, and one statement of sizes z
made_sized : (before : List NormalStmt) (kind : NormalStmtKind) (at : Span) (types : List Ty) (n d : ℕ) (z : Sizes) → SizesBy kind z → blocks_of before + z.blocks + 4 * (length types + d) ≤ 4 * n → steps_of before + z.steps ≤ 13 * n → accesses_of before + z.accesses ≤ n
    → StmtSized n d (before ++ normal_at kind at ∷ []) types
made_sized before kind at types n d z e p q r =
    let x = append_sizes before (normal_at kind at ∷ []) (blocks_of before) (steps_of before) (accesses_of before) z.blocks z.steps z.accesses (own_sizes before) (one_sizes (normal_at kind at) z.blocks z.steps z.accesses (by_sizes kind z e)) in
    record { blocks = let i = x.blocks in omega arith; steps = let i = x.steps in omega arith; accesses = let i = x.accesses in omega arith }

-- one statement alone
one_sized : (kind : NormalStmtKind) (at : Span) (types : List Ty) (n d : ℕ) (z : Sizes) → SizesBy kind z → z.blocks + 4 * (length types + d) ≤ 4 * n → z.steps ≤ 13 * n → z.accesses ≤ n → StmtSized n d (normal_at kind at ∷ []) types
one_sized kind at types n d z e p q r = made_sized [] kind at types n d z e (omega arith) (omega arith) (omega arith)

new_reads : (d : Option Bool) (op : Binary) (t j : Ty) (old e : TypedExpr) (s : Span) → expr_reads (new_value d op t j old e s) ≤ expr_reads old + expr_reads e
new_reads None op t j old e s =
    let b = of_type (expr.Binary op (cast_to j old) e) (result_type op j) s in
    let p = elements_are (reading_cast false b) in
    let q = elements_are (reading_binary op (cast_to j old) e) in
    let r = elements_are (reading_cast false old) in
    omega arith
new_reads (Some x) op t j old e s = let p = elements_are (reading_number 0) in omega arith

object_reads : (to : Object) (exprs : List TypedExpr) → sum_by expr_reads exprs ≡ 0 → reads (object_kind to exprs) ≡ object_writes to
object_reads (object.Var v) exprs h = elements_are (reading_variable v)
object_reads (object.Array a) exprs h = let p = elements_are (reading_element a exprs) in omega arith

writes_few : (to : Object) → object_writes to ≤ 1
writes_few (object.Var v) = omega arith
writes_few (object.Array a) = omega arith

module _ (k : Objects) (flat : FewDimensions k) (result : Option Ty) where
  option_sized : (e : Option TypedExpr) (f : ℕ) → LawfulOption (LawfulExpr k) e → OptionSized (typed_opt_nodes e) (optional f e) (rest_if_any (optional f e) e)
  option_sized None f h = record { types = omega arith; blocks = refl; steps = omega arith; accesses = omega arith }
  option_sized (Some e) f h =
      let x = sized e.kind e.ty e.at f in
      let b = expr_bounded k e h in
      let r = kind_reads e.kind in
      record { types = let u = x.types in omega arith; blocks = x.blocks; steps = let u = x.steps in omega arith; accesses = let u = x.accesses in omega arith }

  declare_sized : (v : ℕ) (e : Option TypedExpr) (f : ℕ) (s : Span) → LawfulOption (LawfulExpr k) e → StmtSized (1 + typed_opt_nodes e) 1 (form_of k f (tree.Declare v e) s).stmts (form_of k f (tree.Declare v e) s).types
  declare_sized v e f s h =
      let o = optional f e in
      let rest = rest_if_any o e in
      let x = option_sized e f h in
      made_sized o.before (normal.Declare v rest) s o.types (1 + typed_opt_nodes e) 1 _ (sizes_declaration v rest)
      (let u = x.types in let w = x.blocks in omega arith) (let u = x.steps in omega arith) (let u = x.accesses in omega arith)

  return_sized : (e : Option TypedExpr) (f : ℕ) (s : Span) → LawfulOption (LawfulExpr k) e → StmtSized (1 + typed_opt_nodes e) 0 (form_of k f (tree.Return e) s).stmts (form_of k f (tree.Return e) s).types
  return_sized e f s h =
      let o = optional f e in
      let rest = rest_if_any o e in
      let x = option_sized e f h in
      made_sized o.before (normal.Return rest) s o.types (1 + typed_opt_nodes e) 0 _ (sizes_returning rest)
      (let u = x.types in let w = x.blocks in omega arith) (let u = x.steps in omega arith) (let u = x.accesses in omega arith)

  plain_sized : (target : TypedTarget) (e : TypedExpr) (f : ℕ) (s : Span) → All (LawfulExpr k) target.indices → LawfulExpr k e
      → StmtSized (2 + typed_exprs_nodes target.indices + typed_expr_nodes e) (length (object_vars target.to)) (assignment_form k f target None e s).stmts (assignment_form k f target None e s).types
  plain_sized target e f s hi he =
      let i = expand_all f target.indices in
      let g = f + length i.types in
      let o = expand_expr g e in
      let to = target_with target i.exprs in
      let rest = rest_of o e in
      let x = all_sized target.indices f in
      let y = sized e.kind e.ty e.at g in
      let z = append_sizes i.before o.before (blocks_of i.before) (steps_of i.before) (accesses_of i.before) (blocks_of o.before) (steps_of o.before) (accesses_of o.before) (own_sizes i.before) (own_sizes o.before) in
      let l = length-append i.types o.types in
      let few = object_few target.to in
      let writes = writes_few target.to in
      let ci = costs_bounded k target.indices hi in
      let ce = expr_bounded k e he in
      let tp = target_price_is i.exprs in
      let ri = all_read target.indices in
      let re = kind_reads e.kind in
      made_sized (i.before ++ o.before) (normal.Assign to rest) s (i.types ++ o.types) (2 + typed_exprs_nodes target.indices + typed_expr_nodes e) (length (object_vars target.to)) _ (sizes_assignment to rest)
      (let u = x.blocks in let w = y.blocks in let v = z.blocks in let m = x.types in let n = y.types in omega arith) (let u = x.steps in let w = y.steps in let v = z.steps in omega arith) (let u = x.accesses in let w = y.accesses in let v = z.accesses in omega arith)

  -- m, c and r: the nodes, the cost and the reads of the value that is joined
  compound_sized : (target : TypedTarget) (op : Binary) (t j : Ty) (o : Out) (e : TypedExpr) (f : ℕ) (s : Span) (m c r : ℕ) → length target.indices ≤ 3 → All (LawfulExpr k) target.indices
      → 2 * length o.types ≤ m → blocks_of o.before ≡ 3 * length o.types → steps_of o.before + kind_price o.kind ≤ c → accesses_of o.before + reads o.kind ≤ r → c ≤ 13 * m + 16 → r ≤ m
      → StmtSized (2 + typed_exprs_nodes target.indices + m) (length (object_vars target.to)) (compound (set_all f target.indices) target op t j o e s).stmts (compound (set_all f target.indices) target op t j o e s).types
  compound_sized target op t j o e f s m c r three hi types blocks cheap few_reads cost reading =
      let i = set_all f target.indices in
      let to = target_with target i.exprs in
      let rest = rest_of o e in
      let old = of_type (object_kind target.to i.exprs) t target.at in
      let new = new_value (decided_by op) op t j old rest s in
      let x = set_sized target.indices f in
      let z = append_sizes i.before o.before (blocks_of i.before) (steps_of i.before) (accesses_of i.before) (blocks_of o.before) (steps_of o.before) (accesses_of o.before) (own_sizes i.before) (own_sizes o.before) in
      let l = length-append i.types o.types in
      let few = object_few target.to in
      let writes = writes_few target.to in
      let ci = costs_bounded k target.indices hi in
      let tp = target_price_is i.exprs in
      let np = new_price op (decided_by op) t j target.to i.exprs (length target.indices) target.at rest s refl x.price in
      let nr = new_reads (decided_by op) op t j old rest s in
      let or = object_reads target.to i.exprs x.reads in
      let ri = all_read target.indices in
      made_sized (i.before ++ o.before) (normal.Assign to new) s (i.types ++ o.types) (2 + typed_exprs_nodes target.indices + m) (length (object_vars target.to)) _ (sizes_assignment to new)
      (let u = x.blocks in let v = z.blocks in omega arith) (let u = x.steps in let v = z.steps in let w = x.price in omega arith) (let u = x.accesses in let v = z.accesses in let w = x.reads in omega arith)

  assign_sized : (loop : Bool) (target : TypedTarget) (op : Option Binary) (e : TypedExpr) (f : ℕ) (s : Span) → LawfulStmt k result loop (tree.Assign target op e)
      → StmtSized (2 + typed_exprs_nodes target.indices + typed_expr_nodes e) (length (object_vars target.to)) (assignment_form k f target op e s).stmts (assignment_form k f target op e s).types
  assign_sized loop target None e f s h = plain_sized target e f s h.1.1 h.3
  assign_sized loop target (Some op) e f s h =
      let g = f + length (set_all f target.indices).types in
      let t = object_type k target.to in
      let x = sized e.kind e.ty e.at g in
      compound_sized target op t (joint_type op t e.ty) (expand_expr g e) e f s (typed_expr_nodes e) (kind_cost e.kind) (reads e.kind) (at_most_three k flat target.to (length target.indices) h.0 h.1.0) h.1.1
      (let u = x.types in omega arith) x.blocks x.steps x.accesses (let b = expr_bounded k e h.3 in omega arith) (kind_reads e.kind)

  step_sized : (target : TypedTarget) (op : Binary) (f : ℕ) (s : Span) → (h : (t : Ty) × (IsObject k target.to (length target.indices) t × All (LawfulExpr k) target.indices))
      → StmtSized (2 + typed_exprs_nodes target.indices + 0) (length (object_vars target.to)) (step_form k f target op s).stmts (step_form k f target op s).types
  step_sized target op f s h =
      let t = object_type k target.to in
      let j = joint_type op t I32 in
      let p = price_number 1 in
      let q = elements_are (reading_number 1) in
      compound_sized target op t j (whole (expr.Number 1)) (of_type (expr.Number 1) j s) f s 0 1 0 (at_most_three k flat target.to (length target.indices) h.0 h.1.0) h.1.1 (omega arith) refl (omega arith) (omega arith) (omega arith) (omega arith)

  three_types : (xs ys zs : List Ty) → length (xs ++ (ys ++ zs)) ≡ length xs + length ys + length zs
  three_types xs ys zs = let p = length-append xs (ys ++ zs) in let q = length-append ys zs in omega arith

  more_stmts : (n m d e : ℕ) (xs ys : List NormalStmt) (ts us : List Ty) (vs ws : List ℕ) → length vs ≡ d → length ws ≡ e → StmtSized n d xs ts → StmtSized m e ys us → StmtSized (n + m) (length (vs ++ ws)) (xs ++ ys) (ts ++ us)
  more_stmts n m d e xs ys ts us vs ws ld le h i =
      let z = append_sizes xs ys (blocks_of xs) (steps_of xs) (accesses_of xs) (blocks_of ys) (steps_of ys) (accesses_of ys) (own_sizes xs) (own_sizes ys) in
      let l = length-append ts us in
      let q = length-append vs ws in
      omega arith

  -- the same number of nodes and of variables, written otherwise
  resized : (n m d e : ℕ) (ss : List NormalStmt) (ts : List Ty) → n ≡ m → d ≡ e → StmtSized n d ss ts → StmtSized m e ss ts
  resized n m d e ss ts p q h = record { blocks = let a = h.blocks in omega arith; steps = let a = h.steps in omega arith; accesses = let a = h.accesses in omega arith }

  no_stmts : StmtSized 0 0 [] []
  no_stmts = record { blocks = omega arith; steps = omega arith; accesses = omega arith }

  condition_few : (f : ℕ) (e : TypedExpr) → LawfulExpr k e → steps_of (expand_expr f e).before + expr_price (rest_of (expand_expr f e) e) + 2 ≤ 13 * typed_expr_nodes e
  condition_few f e h = let x = sized e.kind e.ty e.at f in let u = x.steps in let b = expr_bounded k e h in omega arith

  returned : (r : Option Ty) (e : Option TypedExpr) → LawfulReturn (LawfulExpr k) r e → LawfulOption (LawfulExpr k) e
  returned None None h = tt
  returned None (Some e) h = absurd h
  returned (Some t) None h = absurd h
  returned (Some t) (Some e) h = h.1

  mutual
    pub stmt_sized : (x : TypedStmtKind) (loop : Bool) (s : Span) (f : ℕ) → LawfulStmt k result loop x → StmtSized (act_nodes x) (length (stmt_vars_of x)) (form_of k f x s).stmts (form_of k f x s).types
    stmt_sized (tree.Block' n row) loop s f h =
        let b = row_form k f row in
        let x = stmts_sized row loop f h in
        one_sized (normal.Block b.stmts) s b.types (1 + acts_nodes row) (length (stmt_vars_row row)) _ (sizes_block b.stmts) (omega arith) (omega arith) (omega arith)
    stmt_sized (tree.Declare v None) loop s f h = declare_sized v None f s tt
    stmt_sized (tree.Declare v (Some e)) loop s f h = declare_sized v (Some e) f s h.1
    stmt_sized (tree.Assign target op e) loop s f h =
        resized (2 + typed_exprs_nodes target.indices + typed_expr_nodes e) (act_nodes (tree.Assign target op e)) (length (object_vars target.to)) (length (object_vars target.to)) (assignment_form k f target op e s).stmts (assignment_form k f target op e s).types (omega arith) refl (assign_sized loop target op e f s h)
    stmt_sized (tree.Step target up) loop s f h =
        resized (2 + typed_exprs_nodes target.indices + 0) (act_nodes (tree.Step target up)) (length (object_vars target.to)) (length (object_vars target.to)) (step_form k f target (step_operator up) s).stmts (step_form k f target (step_operator up) s).types (omega arith) refl (step_sized target (step_operator up) f s h)
    stmt_sized (tree.If' cond b (more_of-TypedStmt x at end_of-TypedStmt) o) loop s f h =
        let c = expand_expr f cond in
        let g = f + length c.types in
        let y = form_of k g x at in
        let n = held_form k (g + length y.types) o in
        let few = condition_few f cond h.0 in
        let hc = option_sized (Some cond) f h.0 in
        let hy = stmt_sized x loop at g h.1 in
        let ho = held_sized o loop (g + length y.types) h.2 in
        let p = block_sizes y.stmts in
        let w = three_types c.types y.types n.types in
        let l = length-append (stmt_vars_of x) (stmt_vars_held o) in
        one_sized _ s _ _ _ _ (sizes_choice c.before (rest_of c cond) (block_of y at) n.stmt) (omega arith) (omega arith) (omega arith)
    stmt_sized (tree.While' cond b (more_of-TypedStmt x at end_of-TypedStmt)) loop s f h =
        let c = expand_expr f cond in
        let y = form_of k (f + length c.types) x at in
        let few = condition_few f cond h.0 in
        let hc = option_sized (Some cond) f h.0 in
        let hy = stmt_sized x true at (f + length c.types) h.1 in
        let p = block_sizes y.stmts in
        let w = length-append c.types y.types in
        one_sized _ s _ _ _ _ (sizes_while_loop c.before (rest_of c cond) (block_of y at)) (omega arith) (omega arith) (omega arith)
    stmt_sized (tree.DoWhile' b (more_of-TypedStmt x at end_of-TypedStmt) cond) loop s f h =
        let y = form_of k f x at in
        let g = f + length y.types in
        let c = expand_expr g cond in
        let few = condition_few g cond h.1 in
        let hc = option_sized (Some cond) g h.1 in
        let hy = stmt_sized x true at f h.0 in
        let p = block_sizes y.stmts in
        let w = length-append y.types c.types in
        one_sized _ s _ _ _ _ (sizes_do_loop (block_of y at) c.before (rest_of c cond)) (omega arith) (omega arith) (omega arith)
    stmt_sized (tree.For' n first cond o b (more_of-TypedStmt x at end_of-TypedStmt)) loop s f h =
        let i = row_form k f first in
        let g = f + length i.types in
        let c = optional g cond in
        let g2 = g + length c.types in
        let p = held_form k g2 o in
        let g3 = g2 + length p.types in
        let y = form_of k g3 x at in
        let hi = stmts_sized first false f h.0 in
        let hc = option_sized cond g h.1 in
        let ho = held_sized o false g2 h.2 in
        let hy = stmt_sized x true at g3 h.3 in
        let q = block_sizes y.stmts in
        let w = length-append i.types (c.types ++ (p.types ++ y.types)) in
        let w2 = three_types c.types p.types y.types in
        let l = length-append (stmt_vars_row first ++ stmt_vars_held o) (stmt_vars_of x) in
        let l2 = length-append (stmt_vars_row first) (stmt_vars_held o) in
        one_sized _ s _ _ _ _ (sizes_for_loop i.stmts c.before (rest_if_any c cond) p.stmt (block_of y at)) (omega arith) (omega arith) (omega arith)
    stmt_sized tree.Break loop s f h = one_sized normal.Break s [] 1 0 _ sizes_leaving (omega arith) (omega arith) (omega arith)
    stmt_sized tree.Continue loop s f h = one_sized normal.Continue s [] 1 0 _ sizes_continuing (omega arith) (omega arith) (omega arith)
    stmt_sized (tree.Return e) loop s f h = return_sized e f s (returned result e h)
    stmt_sized tree.Empty loop s f h = one_sized normal.Empty s [] 1 0 _ sizes_empty (omega arith) (omega arith) (omega arith)

    held_sized : (o : Held-TypedStmtKind-If-2) (loop : Bool) (f : ℕ) → LawfulStmtHeld k result loop o → HeldSized (held_act_nodes o) (length (stmt_vars_held o)) (held_form k f o)
    held_sized tree.None' loop f h = record { blocks = omega arith; stepping = omega arith; steps = omega arith; accesses = omega arith }
    held_sized (tree.Some' b (more_of-TypedStmt x at end_of-TypedStmt)) loop f h =
        let y = form_of k f x at in
        let p = block_sizes y.stmts in
        let i = stmt_sized x loop at f h in
        record { blocks = omega arith; stepping = omega arith; steps = omega arith; accesses = omega arith }

    stmts_sized : {n : Count} (row : Row_of-TypedStmt n) (loop : Bool) (f : ℕ) → LawfulStmts k result loop row → StmtSized (acts_nodes row) (length (stmt_vars_row row)) (row_form k f row).stmts (row_form k f row).types
    stmts_sized end_of-TypedStmt loop f h = no_stmts
    stmts_sized (more_of-TypedStmt x at row) loop f h =
        let y = form_of k f x at in
        let g = f + length y.types in
        let r = row_form k g row in
        more_stmts (act_nodes x) (acts_nodes row) (length (stmt_vars_of x)) (length (stmt_vars_row row)) y.stmts r.stmts y.types r.types (stmt_vars_of x) (stmt_vars_row row) refl refl (stmt_sized x loop at f h.0) (stmts_sized row loop g h.1)

  -- the statements of a kernel's block
  pub body_sized : (xs : List TypedStmt) (f : ℕ) → All (λ x. LawfulStmt k result false x.kind) xs → StmtSized (typed_stmts_nodes xs) (length (all_vars xs)) (all_forms k f xs).stmts (all_forms k f xs).types
  body_sized [] f h = no_stmts
  body_sized (x ∷ xs) f h =
      let y = form_of k f x.kind x.at in
      let g = f + length y.types in
      let r = all_forms k g xs in
      let all = length (stmt_vars_of x.kind ++ all_vars xs) in
      resized (act_nodes x.kind + typed_stmts_nodes xs) (typed_stmts_nodes (x ∷ xs)) all all (y.stmts ++ r.stmts) (y.types ++ r.types) (let q = sum_by-cons typed_stmt_nodes x xs in omega arith) refl
      (more_stmts (act_nodes x.kind) (typed_stmts_nodes xs) (length (stmt_vars_of x.kind)) (length (all_vars xs)) y.stmts r.stmts y.types r.types (stmt_vars_of x.kind) (all_vars xs) refl refl
      (stmt_sized x.kind false x.at f (All-head (λ x. LawfulStmt k result false x.kind) x xs h)) (body_sized xs g (All-tail (λ x. LawfulStmt k result false x.kind) x xs h)))
