-- Statements by their parts, as the code takes them apart: the blocks that they close, their steps, and what is laid for them.
use Rattle.std.proofs.Common.{◌≡◌, ℕ, ◌+◌, List, [], ◌∷◌, Option, Some, None, refl, ap, ◌∙◌, arith}
use denote.Hole.Carrier.{hidden}
use Rattle.c_ast.specs.declared.typed.ArrayOf.{ArrayOf}
use Rattle.c_ast.specs.declared.typed.TypedExpr.{TypedExpr}
use Rattle.c_ast.specs.declared.normal.NormalStmt.{NormalStmt}
use Rattle.c_ast.specs.declared.normal.NormalStmtKind.{NormalStmtKind}
use Rattle.c_ast.specs.declared.normal.NormalStmtKind.TheVariants as normal
use Rattle.c_ast.specs.declared.normal.NormalStmtKind.TheBlock.{shape-the_row-NormalStmt-0, hidden-the_row-NormalStmt-0, shape-the_row-NormalStmt-1, hidden-the_row-NormalStmt-1, back-NormalStmtKind-If-3}
use Rattle.ir.specs.declared.cfg.CfgJump.TheVariants.{Go}
use Rattle.c_meaning.specs.Counts.{expr_price, option_price}
use Rattle.c_meaning.specs.Sizes.{closes, closes_row, closes_held, steps}
use Rattle.struct_cfg.specs.declared.draft.Draft.{Draft}
use Rattle.struct_cfg.specs.Drafts.{here, close}
use Rattle.struct_cfg.specs.Lowering.{if_parts, lower, lower_row, lower_held}
use Rattle.c_meaning.specs.PartLaws.{blocks_of, blocks_if_any, blocks_of_step, steps_of, steps_if_any}
use Rattle.c_meaning.proofs.PartsOfSizes.{rows_close, rows_step, held_closes, step_closes, held_steps}
use Rattle.struct_cfg.specs.Lists.{lower_all, lower_any, branched, entered, lower_if, lower_while, lower_do, lower_for, again_in, stepped}

-- ---- blocks that are closed

pub closes_block : (k : NormalStmtKind) (ss : List NormalStmt) → k ≡ normal.Block ss → closes k ≡ blocks_of ss
unfolding shape-the_row-NormalStmt-0 hidden-the_row-NormalStmt-0 shape-the_row-NormalStmt-1 hidden-the_row-NormalStmt-1 hidden
closes_block k ss is = ap closes is ∙ rows_close ss

pub closes_if : (k : NormalStmtKind) (before : List NormalStmt) (c : TypedExpr) (s : NormalStmt) (o : Option NormalStmt) → k ≡ normal.If before c s o → closes k ≡ blocks_of before + 1 + closes s.kind + 1 + blocks_if_any o + 1
unfolding shape-the_row-NormalStmt-0 hidden-the_row-NormalStmt-0 shape-the_row-NormalStmt-1 hidden-the_row-NormalStmt-1 hidden
closes_if k before c s o is = ap closes is ∙ omega (arith, rows_close before, held_closes o)

pub closes_while : (k : NormalStmtKind) (before : List NormalStmt) (c : TypedExpr) (s : NormalStmt) → k ≡ normal.While before c s → closes k ≡ 1 + blocks_of before + 1 + closes s.kind + 1
unfolding shape-the_row-NormalStmt-0 hidden-the_row-NormalStmt-0 shape-the_row-NormalStmt-1 hidden-the_row-NormalStmt-1 hidden
closes_while k before c s is = ap closes is ∙ omega (arith, rows_close before)

pub closes_do : (k : NormalStmtKind) (s : NormalStmt) (before : List NormalStmt) (c : TypedExpr) → k ≡ normal.DoWhile s before c → closes k ≡ 1 + closes s.kind + 1 + blocks_of before + 1
unfolding shape-the_row-NormalStmt-0 hidden-the_row-NormalStmt-0 shape-the_row-NormalStmt-1 hidden-the_row-NormalStmt-1 hidden
closes_do k s before c is = ap closes is ∙ omega (arith, rows_close before)

pub closes_for : (k : NormalStmtKind) (first before : List NormalStmt) (c : Option TypedExpr) (o : Option NormalStmt) (s : NormalStmt) → k ≡ normal.For first before c o s → closes k ≡ blocks_of first + 1 + blocks_of before + 1 + closes s.kind + 1 + blocks_of_step o
unfolding shape-the_row-NormalStmt-0 hidden-the_row-NormalStmt-0 shape-the_row-NormalStmt-1 hidden-the_row-NormalStmt-1 hidden
closes_for k first before c o s is = ap closes is ∙ omega (arith, rows_close first, rows_close before, step_closes o)

-- ---- steps

pub steps_block : (k : NormalStmtKind) (ss : List NormalStmt) → k ≡ normal.Block ss → steps k ≡ steps_of ss
unfolding shape-the_row-NormalStmt-0 hidden-the_row-NormalStmt-0 shape-the_row-NormalStmt-1 hidden-the_row-NormalStmt-1 hidden
steps_block k ss is = ap steps is ∙ rows_step ss

pub steps_if : (k : NormalStmtKind) (before : List NormalStmt) (c : TypedExpr) (s : NormalStmt) (o : Option NormalStmt) → k ≡ normal.If before c s o → steps k ≡ steps_of before + (expr_price c + 2) + steps s.kind + steps_if_any o
unfolding shape-the_row-NormalStmt-0 hidden-the_row-NormalStmt-0 shape-the_row-NormalStmt-1 hidden-the_row-NormalStmt-1 hidden
steps_if k before c s o is = ap steps is ∙ omega (arith, rows_step before, held_steps o)

pub steps_while : (k : NormalStmtKind) (before : List NormalStmt) (c : TypedExpr) (s : NormalStmt) → k ≡ normal.While before c s → steps k ≡ steps_of before + (expr_price c + 2) + steps s.kind
unfolding shape-the_row-NormalStmt-0 hidden-the_row-NormalStmt-0 shape-the_row-NormalStmt-1 hidden-the_row-NormalStmt-1 hidden
steps_while k before c s is = ap steps is ∙ omega (arith, rows_step before)

pub steps_do : (k : NormalStmtKind) (s : NormalStmt) (before : List NormalStmt) (c : TypedExpr) → k ≡ normal.DoWhile s before c → steps k ≡ steps s.kind + steps_of before + (expr_price c + 2)
unfolding shape-the_row-NormalStmt-0 hidden-the_row-NormalStmt-0 shape-the_row-NormalStmt-1 hidden-the_row-NormalStmt-1 hidden
steps_do k s before c is = ap steps is ∙ omega (arith, rows_step before)

pub steps_for : (k : NormalStmtKind) (first before : List NormalStmt) (c : Option TypedExpr) (o : Option NormalStmt) (s : NormalStmt) → k ≡ normal.For first before c o s → steps k ≡ steps_of first + steps_of before + (option_price c + 2) + steps s.kind + steps_if_any o
unfolding shape-the_row-NormalStmt-0 hidden-the_row-NormalStmt-0 shape-the_row-NormalStmt-1 hidden-the_row-NormalStmt-1 hidden
steps_for k first before c o s is = ap steps is ∙ omega (arith, rows_step first, rows_step before, held_steps o)

-- ---- drafts

module _ (arrays : List ArrayOf) (x y : ℕ) where
  row_lowers : (ss : List NormalStmt) (d : Draft) → lower_row arrays x y (hidden-the_row-NormalStmt-0 ss) d ≡ lower_all arrays x y ss d
  unfolding shape-the_row-NormalStmt-0 hidden-the_row-NormalStmt-0 shape-the_row-NormalStmt-1 hidden-the_row-NormalStmt-1 hidden
  row_lowers [] d = refl
  row_lowers (s ∷ ss) d = row_lowers ss (lower arrays x y s.kind d)

  held_lowers : (o : Option NormalStmt) (d : Draft) → lower_held arrays x y (back-NormalStmtKind-If-3 o) d ≡ lower_any arrays x y o d
  unfolding shape-the_row-NormalStmt-0 hidden-the_row-NormalStmt-0 shape-the_row-NormalStmt-1 hidden-the_row-NormalStmt-1 hidden
  held_lowers None d = refl
  held_lowers (Some s) d = refl

  pub lower_block : (k : NormalStmtKind) (ss : List NormalStmt) (d : Draft) → k ≡ normal.Block ss → lower arrays x y k d ≡ lower_all arrays x y ss d
  unfolding shape-the_row-NormalStmt-0 hidden-the_row-NormalStmt-0 shape-the_row-NormalStmt-1 hidden-the_row-NormalStmt-1 hidden
  lower_block k ss d is = ap (λ k. lower arrays x y k d) is ∙ row_lowers ss d

  -- an if by the draft after what stands before its condition, by the blocks of its second part, and by that part
  abbrev if_shape : TypedExpr → NormalStmt → Draft → ℕ → (Draft → Draft) → Draft
  if_shape c s e n no_part = if_parts arrays (λ d. e) c (closes s.kind) (lower arrays x y s.kind) n no_part e

  pub if_is : (k : NormalStmtKind) (before : List NormalStmt) (c : TypedExpr) (s : NormalStmt) (o : Option NormalStmt) (d : Draft) → k ≡ normal.If before c s o → lower arrays x y k d ≡ lower_if arrays x y before c s o d
  unfolding shape-the_row-NormalStmt-0 hidden-the_row-NormalStmt-0 shape-the_row-NormalStmt-1 hidden-the_row-NormalStmt-1 hidden
  if_is k before c s o d is =
      let e = lower_all arrays x y before d in
      let second = here e + 1 + closes s.kind + 1 in
      let join = second + blocks_if_any o + 1 in
      ap (λ k. lower arrays x y k d) is
      ∙ ap (λ e. if_shape c s e (closes_held (back-NormalStmtKind-If-3 o)) (lower_held arrays x y (back-NormalStmtKind-If-3 o))) (row_lowers before d)
      ∙ ap (λ n. if_shape c s e n (lower_held arrays x y (back-NormalStmtKind-If-3 o))) (held_closes o)
      ∙ ap (λ d. close (Go join) d) (held_lowers o (close (Go join) (lower arrays x y s.kind (branched arrays c (here e + 1) second e))))

  abbrev while_shape : TypedExpr → NormalStmt → ℕ → (Draft → Draft) → Draft → Draft
  while_shape c s n before d =
      let head = here d + 1 in
      let exit = head + n + 1 + closes s.kind + 1 in
      let e = before (close (Go head) d) in
      close (Go head) (lower arrays exit head s.kind (branched arrays c (here e + 1) exit e))

  pub while_is : (k : NormalStmtKind) (before : List NormalStmt) (c : TypedExpr) (s : NormalStmt) (d : Draft) → k ≡ normal.While before c s → lower arrays x y k d ≡ lower_while arrays x y before c s d
  unfolding shape-the_row-NormalStmt-0 hidden-the_row-NormalStmt-0 shape-the_row-NormalStmt-1 hidden-the_row-NormalStmt-1 hidden
  while_is k before c s d is =
      let head = here d + 1 in
      let exit = head + blocks_of before + 1 + closes s.kind + 1 in
      ap (λ k. lower arrays x y k d) is
      ∙ ap (λ n. while_shape c s n (lower_row arrays x y (hidden-the_row-NormalStmt-0 before)) d) (rows_close before)
      ∙ ap (λ e. close (Go head) (lower arrays exit head s.kind (branched arrays c (here e + 1) exit e))) (row_lowers before (close (Go head) d))

  abbrev do_shape : TypedExpr → NormalStmt → ℕ → (Draft → Draft) → Draft → Draft
  do_shape c s n before d =
      let first = here d + 1 in
      let head = first + closes s.kind + 1 in
      let exit = head + n + 1 in
      branched arrays c first exit (before (close (Go head) (lower arrays exit head s.kind (close (Go first) d))))

  pub do_is : (k : NormalStmtKind) (s : NormalStmt) (before : List NormalStmt) (c : TypedExpr) (d : Draft) → k ≡ normal.DoWhile s before c → lower arrays x y k d ≡ lower_do arrays x y s before c d
  unfolding shape-the_row-NormalStmt-0 hidden-the_row-NormalStmt-0 shape-the_row-NormalStmt-1 hidden-the_row-NormalStmt-1 hidden
  do_is k s before c d is =
      let first = here d + 1 in
      let head = first + closes s.kind + 1 in
      let exit = head + blocks_of before + 1 in
      ap (λ k. lower arrays x y k d) is
      ∙ ap (λ n. do_shape c s n (lower_row arrays x y (hidden-the_row-NormalStmt-0 before)) d) (rows_close before)
      ∙ ap (λ e. branched arrays c first exit e) (row_lowers before (close (Go head) (lower arrays exit head s.kind (close (Go first) d))))

  -- a for by the draft after its first part, by the blocks of what stands before its condition, and by what that makes
  abbrev for_shape : Option TypedExpr → Option NormalStmt → NormalStmt → Draft → ℕ → (Draft → Draft) → Draft
  for_shape c o s d n before =
      let head = here d + 1 in
      let after = head + n + 1 + closes s.kind + 1 in
      let exit = after + blocks_of_step o in
      close (Go head) (stepped arrays x y o after (lower arrays exit (again_in o head after) s.kind (entered arrays c exit (before (close (Go head) d)))))

  for_rows : (first before : List NormalStmt) (c : Option TypedExpr) (o : Option NormalStmt) (s : NormalStmt) (d : Draft)
      → lower arrays x y (normal.For first before c o s) d ≡ for_shape c o s (lower_row arrays x y (hidden-the_row-NormalStmt-0 first) d) (closes_row (hidden-the_row-NormalStmt-0 before)) (lower_row arrays x y (hidden-the_row-NormalStmt-0 before))
  unfolding shape-the_row-NormalStmt-0 hidden-the_row-NormalStmt-0 shape-the_row-NormalStmt-1 hidden-the_row-NormalStmt-1 hidden
  for_rows first before None None s d = refl
  for_rows first before None (Some o) s d = refl
  for_rows first before (Some c) None s d = refl
  for_rows first before (Some c) (Some o) s d = refl

  pub for_is : (k : NormalStmtKind) (first before : List NormalStmt) (c : Option TypedExpr) (o : Option NormalStmt) (s : NormalStmt) (d : Draft) → k ≡ normal.For first before c o s
      → lower arrays x y k d ≡ lower_for arrays x y before c o s (lower_all arrays x y first d)
  for_is k first before c o s d is =
      let row = hidden-the_row-NormalStmt-0 before in
      let d0 = lower_all arrays x y first d in
      let head = here d0 + 1 in
      let after = head + blocks_of before + 1 + closes s.kind + 1 in
      let exit = after + blocks_of_step o in
      ap (λ k. lower arrays x y k d) is
      ∙ for_rows first before c o s d
      ∙ ap (λ e. for_shape c o s e (closes_row row) (lower_row arrays x y row)) (row_lowers first d)
      ∙ ap (λ n. for_shape c o s d0 n (lower_row arrays x y row)) (rows_close before)
      ∙ ap (λ e. close (Go head) (stepped arrays x y o after (lower arrays exit (again_in o head after) s.kind (entered arrays c exit e)))) (row_lowers before (close (Go head) d0))
