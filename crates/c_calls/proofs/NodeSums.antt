-- The tree without calls has as many nodes as the sums say.
use Rattle.std.proofs.Common.{◌≡◌, ℕ, zero, suc, ◌+◌, ◌≤◌, List, [], ◌∷◌, ◌++◌, length, Option, Some, None, refl, ◌∙◌, ap, arith}
use Rattle.std.specs.Prelude.{true, false, slice_get, sum_by}
use Rattle.std.proofs.lemmas.List.Sums.{sum_by-cons, sum_by-append}
use mathlib.Core.Former.{Count}
use Rattle.el_base.specs.declared.span.Span.{Span}
use Rattle.c_ast.specs.Casts.{of_type, act_at}
use Rattle.c_ast.specs.Nodes.{typed_kind_nodes, typed_expr_nodes, typed_exprs_nodes, typed_opt_nodes, act_nodes, typed_stmt_nodes, typed_stmts_nodes, typed_held_nodes, params_nodes}
use Rattle.c_ast.specs.declared.typed.TypedExpr.{TypedExpr}
use Rattle.c_ast.specs.declared.typed.TypedStmt.{TypedStmt}
use Rattle.c_ast.specs.declared.typed.TypedStmtKind.{TypedStmtKind, more_of-TypedStmt, end_of-TypedStmt}
use Rattle.c_ast.specs.declared.typed.TypedStmtKind as raw
use Rattle.c_ast.specs.declared.typed.TypedStmtKind.TheVariants as stmt
use Rattle.c_ast.proofs.TypedNodeEquations.{typed_number, typed_var, typed_element, typed_unary, typed_implied, typed_written, typed_binary, typed_choice, act_block, act_declaration, act_assignment, act_stepping, act_choice, act_while_loop, act_do_loop, act_for_loop, act_leaving, act_continuing, act_returning, act_empty}
use Rattle.c_ast.specs.declared.program.ProgExpr.{ProgExpr}
use Rattle.c_ast.specs.declared.program.ProgExprKind.{ProgExprKind, Row_of-ProgExpr, end_of-ProgExpr, more_of-ProgExpr}
use Rattle.c_ast.specs.declared.program.ProgExprKind as tree
use Rattle.c_ast.specs.declared.program.ProgStmt.{ProgStmt}
use Rattle.c_ast.specs.declared.program.ProgStmtKind.{ProgStmtKind, Row_of-ProgStmt, end_of-ProgStmt, more_of-ProgStmt, Held-ProgStmtKind-If-2}
use Rattle.c_ast.specs.declared.program.ProgStmtKind as act
use Rattle.c_ast.specs.declared.program.TypedHelper.{TypedHelper}
use Rattle.c_calls.specs.Inlined.{Writing, written_by, inline_expr, inline_row, inline_of, rest_of, inline_all, inline_option, behind, target_to, inline_stmt, inline_held, inline_stmts, inline_list, declaring, fresh_target, writing, writings}
use Rattle.c_calls.specs.Counts.{rest_nodes, rest_row_nodes, argument_nodes, call_nodes, calls_nodes, calls_row_nodes, rest_expr_nodes, calls_expr_nodes, rest_option_nodes, calls_option_nodes, rest_target_nodes, calls_target_nodes, behind_nodes, inlined_stmt_nodes, inlined_held_nodes, inlined_row_nodes, inlined_list_nodes, block_nodes, blocks_nodes, InlinedHasNodes}

-- ---- what is left of expressions

mutual
  rest_is : (ws : List Writing) (b f : ℕ) (e : ProgExprKind) (s : Span) → typed_kind_nodes (inline_expr ws b f e s).kind ≡ rest_nodes e
  rest_is ws b f (tree.Number n) s = typed_number n
  rest_is ws b f (tree.Var v) s = typed_var (b + v)
  rest_is ws b f (tree.Element' a n row) s = typed_element a (inline_row ws b f row).exprs ∙ ap (λ n. 1 + n) (rest_row_is ws b f row)
  rest_is ws b f (tree.Unary' op x (more_of-ProgExpr e t at end_of-ProgExpr)) s = typed_unary op (of_type (inline_expr ws b f e at).kind t at) ∙ ap (λ n. 1 + n) (rest_is ws b f e at)
  rest_is ws b f (tree.Cast' true x (more_of-ProgExpr e t at end_of-ProgExpr)) s = typed_implied (of_type (inline_expr ws b f e at).kind t at) ∙ rest_is ws b f e at
  rest_is ws b f (tree.Cast' false x (more_of-ProgExpr e t at end_of-ProgExpr)) s = typed_written (of_type (inline_expr ws b f e at).kind t at) ∙ ap (λ n. 1 + n) (rest_is ws b f e at)
  rest_is ws b f (tree.Binary' op x (more_of-ProgExpr e t at end_of-ProgExpr) x2 (more_of-ProgExpr e2 t2 at2 end_of-ProgExpr)) s =
      let o = inline_expr ws b f e at in
      let g = f + length o.types in
      let o2 = inline_expr ws b g e2 at2 in
      typed_binary op (of_type o.kind t at) (of_type o2.kind t2 at2)
      ∙ omega (arith, rest_is ws b f e at, rest_is ws b g e2 at2)
  rest_is ws b f (tree.Choose' x (more_of-ProgExpr e t at end_of-ProgExpr) x2 (more_of-ProgExpr e2 t2 at2 end_of-ProgExpr) x3 (more_of-ProgExpr e3 t3 at3 end_of-ProgExpr)) s =
      let o = inline_expr ws b f e at in
      let g = f + length o.types in
      let o2 = inline_expr ws b g e2 at2 in
      let h = g + length o2.types in
      let o3 = inline_expr ws b h e3 at3 in
      typed_choice (of_type o.kind t at) (of_type o2.kind t2 at2) (of_type o3.kind t3 at3)
      ∙ omega (arith, rest_is ws b f e at, rest_is ws b g e2 at2, rest_is ws b h e3 at3)
  rest_is ws b f (tree.Call' h n row) s = let o = inline_row ws b f row in typed_var (written_by (slice_get ws h) (f + length o.types) o.exprs s).fresh

  rest_row_is : (ws : List Writing) (b f : ℕ) {n : Count} (row : Row_of-ProgExpr n) → typed_exprs_nodes (inline_row ws b f row).exprs ≡ rest_row_nodes row
  rest_row_is ws b f end_of-ProgExpr = refl
  rest_row_is ws b f (more_of-ProgExpr e t at row) =
      let o = inline_expr ws b f e at in
      let g = f + length o.types in
      sum_by-cons typed_expr_nodes (of_type o.kind t at) (inline_row ws b g row).exprs
      ∙ omega (arith, rest_is ws b f e at, rest_row_is ws b g row)

-- the declarations of parameters, with these as their values
abbrev given_nodes : List TypedExpr → ℕ
given_nodes [] = 0
given_nodes (e ∷ es) = 1 + typed_expr_nodes e + given_nodes es

given_is : (ws : List Writing) (b f : ℕ) {n : Count} (row : Row_of-ProgExpr n) → given_nodes (inline_row ws b f row).exprs ≡ argument_nodes row
given_is ws b f end_of-ProgExpr = refl
given_is ws b f (more_of-ProgExpr e t at row) =
    let o = inline_expr ws b f e at in
    omega (arith, rest_is ws b f e at, given_is ws b (f + length o.types) row)

declaring_is : (v : ℕ) (es : List TypedExpr) (s : Span) → typed_stmts_nodes (declaring v es s) ≡ given_nodes es
declaring_is v [] s = refl
declaring_is v (e ∷ es) s =
    sum_by-cons typed_stmt_nodes (act_at (stmt.Declare v (Some e)) s) (declaring (v + 1) es s)
    ∙ omega (arith, act_declaration v (Some e), declaring_is (v + 1) es s)

-- ---- the blocks of calls

-- each block of a call has so many nodes beside the declarations of its parameters
abbrev IsCounted : Writing → ℕ → Type 0
IsCounted w n = (f : ℕ) (es : List TypedExpr) (s : Span) → typed_stmt_nodes (w f es s).block ≡ n + given_nodes es

abbrev AreCounted : List Writing → List ℕ → Type 0
AreCounted [] [] = Unit {0}
AreCounted [] (n ∷ ns) = ⊥
AreCounted (w ∷ ws) [] = ⊥
AreCounted (w ∷ ws) (n ∷ ns) = IsCounted w n × AreCounted ws ns

counted_more : (ws : List Writing) (ns : List ℕ) (w : Writing) (n : ℕ) → AreCounted ws ns → IsCounted w n → AreCounted (ws ++ w ∷ []) (ns ++ n ∷ [])
counted_more [] [] w n c h = (h, tt)
counted_more [] (m ∷ ms) w n c h = absurd c
counted_more (v ∷ vs) [] w n c h = absurd c
counted_more (v ∷ vs) (m ∷ ms) w n c h = (c.0, counted_more vs ms w n c.1 h)

call_is : (ws : List Writing) (ns : List ℕ) → AreCounted ws ns → (h f : ℕ) (es : List TypedExpr) (s : Span) → typed_stmt_nodes (written_by (slice_get ws h) f es s).block ≡ call_nodes (slice_get ns h) (given_nodes es)
call_is [] [] c h f es s = act_empty
call_is [] (m ∷ ms) c h f es s = absurd c
call_is (v ∷ vs) [] c h f es s = absurd c
call_is (v ∷ vs) (m ∷ ms) c zero f es s = c.0 f es s
call_is (v ∷ vs) (m ∷ ms) c (suc h) f es s = call_is vs ms c.1 h f es s

stmts_append : (xs ys : List TypedStmt) → typed_stmts_nodes (xs ++ ys) ≡ typed_stmts_nodes xs + typed_stmts_nodes ys
stmts_append xs ys = sum_by-append typed_stmt_nodes xs ys

module _ (ws : List Writing) (ns : List ℕ) (counted : AreCounted ws ns) where
  mutual
    blocks_are : (b f : ℕ) (e : ProgExprKind) (s : Span) → typed_stmts_nodes (inline_expr ws b f e s).before ≡ calls_nodes ns e
    blocks_are b f (tree.Number n) s = refl
    blocks_are b f (tree.Var v) s = refl
    blocks_are b f (tree.Element' a n row) s = row_blocks_are b f row
    blocks_are b f (tree.Unary' op x (more_of-ProgExpr e t at end_of-ProgExpr)) s = blocks_are b f e at
    blocks_are b f (tree.Cast' implied x (more_of-ProgExpr e t at end_of-ProgExpr)) s = blocks_are b f e at
    blocks_are b f (tree.Binary' op x (more_of-ProgExpr e t at end_of-ProgExpr) x2 (more_of-ProgExpr e2 t2 at2 end_of-ProgExpr)) s =
        let o = inline_expr ws b f e at in
        let g = f + length o.types in
        stmts_append o.before (inline_expr ws b g e2 at2).before
        ∙ omega (arith, blocks_are b f e at, blocks_are b g e2 at2)
    blocks_are b f (tree.Choose' x (more_of-ProgExpr e t at end_of-ProgExpr) x2 (more_of-ProgExpr e2 t2 at2 end_of-ProgExpr) x3 (more_of-ProgExpr e3 t3 at3 end_of-ProgExpr)) s =
        let o = inline_expr ws b f e at in
        let g = f + length o.types in
        let o2 = inline_expr ws b g e2 at2 in
        let h = g + length o2.types in
        let o3 = inline_expr ws b h e3 at3 in
        stmts_append o.before (o2.before ++ o3.before)
        ∙ omega (arith, blocks_are b f e at, blocks_are b g e2 at2, blocks_are b h e3 at3, stmts_append o2.before o3.before)
    blocks_are b f (tree.Call' h n row) s =
        let o = inline_row ws b f row in
        let w = written_by (slice_get ws h) (f + length o.types) o.exprs s in
        stmts_append o.before (w.block ∷ [])
        ∙ omega (arith, row_blocks_are b f row, call_is ws ns counted h (f + length o.types) o.exprs s ∙ ap (λ m. call_nodes (slice_get ns h) m) (given_is ws b f row), sum_by-cons typed_stmt_nodes w.block [])

    row_blocks_are : (b f : ℕ) {n : Count} (row : Row_of-ProgExpr n) → typed_stmts_nodes (inline_row ws b f row).before ≡ calls_row_nodes ns row
    row_blocks_are b f end_of-ProgExpr = refl
    row_blocks_are b f (more_of-ProgExpr e t at row) =
        let o = inline_expr ws b f e at in
        let g = f + length o.types in
        stmts_append o.before (inline_row ws b g row).before
        ∙ omega (arith, blocks_are b f e at, row_blocks_are b g row)

  all_rest : (b f : ℕ) (es : List ProgExpr) → typed_exprs_nodes (inline_all ws b f es).exprs ≡ sum_by rest_expr_nodes es
  all_rest b f [] = refl
  all_rest b f (e ∷ es) =
      let o = inline_of ws b f e in
      let g = f + length o.types in
      sum_by-cons typed_expr_nodes (rest_of o e) (inline_all ws b g es).exprs
      ∙ omega (arith, rest_is ws b f e.kind e.at, all_rest b g es, sum_by-cons rest_expr_nodes e es)

  all_blocks : (b f : ℕ) (es : List ProgExpr) → typed_stmts_nodes (inline_all ws b f es).before ≡ sum_by (calls_expr_nodes ns) es
  all_blocks b f [] = refl
  all_blocks b f (e ∷ es) =
      let o = inline_of ws b f e in
      let g = f + length o.types in
      stmts_append o.before (inline_all ws b g es).before
      ∙ omega (arith, blocks_are b f e.kind e.at, all_blocks b g es, sum_by-cons (calls_expr_nodes ns) e es)

  option_rest : (b f : ℕ) (o : Option ProgExpr) → typed_opt_nodes (inline_option ws b f o).expr ≡ rest_option_nodes o
  option_rest b f None = refl
  option_rest b f (Some e) = rest_is ws b f e.kind e.at

  option_blocks : (b f : ℕ) (o : Option ProgExpr) → typed_stmts_nodes (inline_option ws b f o).before ≡ calls_option_nodes ns o
  option_blocks b f None = refl
  option_blocks b f (Some e) = blocks_are b f e.kind e.at

-- ---- statements behind blocks

-- no statement has 0 nodes
act_some : (s : TypedStmtKind) → 1 ≤ act_nodes s
act_some (raw.If' e b (more_of-TypedStmt s at end_of-TypedStmt) o) = omega arith
act_some (raw.While' e b (more_of-TypedStmt s at end_of-TypedStmt)) = omega arith
act_some (raw.DoWhile' b (more_of-TypedStmt s at end_of-TypedStmt) e) = omega arith
act_some (raw.For' n row e o b (more_of-TypedStmt s at end_of-TypedStmt)) = omega arith
act_some s = omega arith

behind_some : (blocks own : ℕ) → 1 ≤ blocks → behind_nodes blocks own ≡ 1 + (blocks + own)
behind_some zero own le = absurd (omega arith)
behind_some (suc blocks) own le = refl

behind_own : (before : List TypedStmt) (kind : TypedStmtKind) (s : Span) → act_nodes (behind before kind s) ≡ behind_nodes (typed_stmts_nodes before) (act_nodes kind)
behind_own [] kind s = refl
behind_own (c ∷ cs) kind s =
    let last = act_at kind s in
    let sum = sum_by-cons typed_stmt_nodes c cs in
    let more = stmts_append (c ∷ cs) (last ∷ []) in
    let one = sum_by-cons typed_stmt_nodes last [] in
    let some = act_some c.kind in
    let le : 1 ≤ typed_stmts_nodes (c ∷ cs) = omega arith in
    let whole = behind_some (typed_stmts_nodes (c ∷ cs)) (act_nodes kind) le in
    act_block ((c ∷ cs) ++ last ∷ []) ∙ omega arith

behind_is : (before : List TypedStmt) (kind : TypedStmtKind) (s : Span) (blocks own : ℕ) → typed_stmts_nodes before ≡ blocks → act_nodes kind ≡ own → act_nodes (behind before kind s) ≡ behind_nodes blocks own
behind_is before kind s blocks own b o = behind_own before kind s ∙ ap (λ n. behind_nodes n (act_nodes kind)) b ∙ ap (λ n. behind_nodes blocks n) o

-- ---- statements

module _ (ws : List Writing) (ns : List ℕ) (counted : AreCounted ws ns) where
  mutual
    stmt_is : (b f : ℕ) (a : ProgStmtKind) (s : Span) → act_nodes (inline_stmt ws b f a s).kind ≡ inlined_stmt_nodes ns a
    stmt_is b f (act.Block' n row) s = act_block (inline_stmts ws b f row).stmts ∙ ap (λ n. 1 + n) (stmts_are b f row)
    stmt_is b f (act.Declare v init) s =
        let o = inline_option ws b f init in
        behind_is o.before (stmt.Declare (b + v) o.expr) s (calls_option_nodes ns init) (1 + rest_option_nodes init) (option_blocks ws ns counted b f init)
        (act_declaration (b + v) o.expr ∙ ap (λ n. 1 + n) (option_rest ws ns counted b f init))
    stmt_is b f (act.Assign target op e) s =
        let i = inline_all ws b f target.indices in
        let g = f + length i.types in
        let o = inline_of ws b g e in
        let to = target_to b target i.exprs in
        let i_rest = all_rest ws ns counted b f target.indices in
        let i_blocks = all_blocks ws ns counted b f target.indices in
        let e_rest = rest_is ws b g e.kind e.at in
        let e_blocks = blocks_are ws ns counted b g e.kind e.at in
        behind_is (i.before ++ o.before) (stmt.Assign to op (rest_of o e)) s (calls_target_nodes ns target + calls_expr_nodes ns e) (1 + rest_target_nodes target + rest_expr_nodes e)
        (stmts_append i.before o.before ∙ omega arith) (act_assignment to op (rest_of o e) ∙ omega arith)
    stmt_is b f (act.Step target up) s =
        let i = inline_all ws b f target.indices in
        let to = target_to b target i.exprs in
        behind_is i.before (stmt.Step to up) s (calls_target_nodes ns target) (1 + rest_target_nodes target) (all_blocks ws ns counted b f target.indices) (act_stepping to up
        ∙ omega (arith, all_rest ws ns counted b f target.indices))
    stmt_is b f (act.If' cond x (more_of-ProgStmt a at end_of-ProgStmt) held) s =
        let o = inline_of ws b f cond in
        let g = f + length o.types in
        let y = inline_stmt ws b g a at in
        let z = inline_held ws b (g + length y.types) held in
        behind_is o.before (stmt.If (rest_of o cond) (act_at y.kind at) z.stmt) s (calls_expr_nodes ns cond) (1 + rest_expr_nodes cond + inlined_stmt_nodes ns a + inlined_held_nodes ns held)
        (blocks_are ws ns counted b f cond.kind cond.at) (act_choice (rest_of o cond) (act_at y.kind at) z.stmt
        ∙ omega (arith, rest_is ws b f cond.kind cond.at, stmt_is b g a at, held_is b (g + length y.types) held))
    stmt_is b f (act.While' cond x (more_of-ProgStmt a at end_of-ProgStmt)) s =
        let o = inline_of ws b f cond in
        let g = f + length o.types in
        act_while_loop (rest_of o cond) (act_at (inline_stmt ws b g a at).kind at)
        ∙ omega (arith, rest_is ws b f cond.kind cond.at, stmt_is b g a at)
    stmt_is b f (act.DoWhile' x (more_of-ProgStmt a at end_of-ProgStmt) cond) s =
        let y = inline_stmt ws b f a at in
        let g = f + length y.types in
        act_do_loop (act_at y.kind at) (rest_of (inline_of ws b g cond) cond)
        ∙ omega (arith, stmt_is b f a at, rest_is ws b g cond.kind cond.at)
    stmt_is b f (act.For' n first cond held x (more_of-ProgStmt a at end_of-ProgStmt)) s =
        let i = inline_stmts ws b f first in
        let g = f + length i.types in
        let o = inline_option ws b g cond in
        let h = g + length o.types in
        let z = inline_held ws b h held in
        let j = h + length z.types in
        let y = inline_stmt ws b j a at in
        act_for_loop i.stmts o.expr z.stmt (act_at y.kind at)
        ∙ omega (arith, stmts_are b f first, option_rest ws ns counted b g cond, held_is b h held, stmt_is b j a at)
    stmt_is b f act.Break s = act_leaving
    stmt_is b f act.Continue s = act_continuing
    stmt_is b f (act.Return e) s =
        let o = inline_option ws b f e in
        behind_is o.before (stmt.Return o.expr) s (calls_option_nodes ns e) (1 + rest_option_nodes e) (option_blocks ws ns counted b f e) (act_returning o.expr ∙ ap (λ n. 1 + n) (option_rest ws ns counted b f e))
    stmt_is b f act.Empty s = act_empty

    held_is : (b f : ℕ) (o : Held-ProgStmtKind-If-2) → typed_held_nodes (inline_held ws b f o).stmt ≡ inlined_held_nodes ns o
    held_is b f act.None' = refl
    held_is b f (act.Some' x (more_of-ProgStmt a at end_of-ProgStmt)) = stmt_is b f a at

    stmts_are : (b f : ℕ) {n : Count} (row : Row_of-ProgStmt n) → typed_stmts_nodes (inline_stmts ws b f row).stmts ≡ inlined_row_nodes ns row
    stmts_are b f end_of-ProgStmt = refl
    stmts_are b f (more_of-ProgStmt a at row) =
        let y = inline_stmt ws b f a at in
        let g = f + length y.types in
        sum_by-cons typed_stmt_nodes (act_at y.kind at) (inline_stmts ws b g row).stmts
        ∙ omega (arith, stmt_is b f a at, stmts_are b g row)

  list_is : (b f : ℕ) (ss : List ProgStmt) → typed_stmts_nodes (inline_list ws b f ss).stmts ≡ inlined_list_nodes ns ss
  list_is b f [] = refl
  list_is b f (a ∷ rest) =
      let y = inline_stmt ws b f a.kind a.at in
      let g = f + length y.types in
      sum_by-cons typed_stmt_nodes (act_at y.kind a.at) (inline_list ws b g rest).stmts
      ∙ omega (arith, stmt_is b f a.kind a.at, list_is b g rest, sum_by-cons (λ (s : ProgStmt). inlined_stmt_nodes ns s.kind) a rest)

  -- ---- helpers

  helper_is : (h : TypedHelper) → IsCounted (writing ws h) (block_nodes ns h)
  helper_is h f es s =
      let v = f + length h.vars in
      let i = inline_list ws f (v + 1) h.body in
      let g = v + 1 + length i.types in
      let o = inline_of ws f g h.value in
      let assign = stmt.Assign (fresh_target v s) None (rest_of o h.value) in
      let last = act_at (behind o.before assign s) s in
      let value = rest_is ws f g h.value.kind h.value.at in
      let own : act_nodes assign ≡ 2 + rest_expr_nodes h.value = act_assignment (fresh_target v s) None (rest_of o h.value) ∙ omega arith in
      let behind = behind_is o.before assign s (calls_expr_nodes ns h.value) (2 + rest_expr_nodes h.value) (blocks_are ws ns counted f g h.value.kind h.value.at) own in
      let given = declaring_is f es s in
      let body = list_is f (v + 1) h.body in
      let one = sum_by-cons typed_stmt_nodes last [] in
      let two = stmts_append i.stmts (last ∷ []) in
      let three = stmts_append (declaring f es s) (i.stmts ++ last ∷ []) in
      act_block (declaring f es s ++ (i.stmts ++ last ∷ [])) ∙ omega arith

helpers_are : (hs : List TypedHelper) (ws : List Writing) (ns : List ℕ) → AreCounted ws ns → AreCounted (writings ws hs) (blocks_nodes ns hs)
helpers_are [] ws ns counted = counted
helpers_are (h ∷ hs) ws ns counted = helpers_are hs (ws ++ writing ws h ∷ []) (ns ++ block_nodes ns h ∷ []) (counted_more ws ns (writing ws h) (block_nodes ns h) counted (helper_is ws ns counted h))

-- ---- programs

pub inlined_nodes_are_counted : InlinedHasNodes
inlined_nodes_are_counted P =
    ap (λ n. 1 + params_nodes P.kernel.params + (1 + n)) (list_is (writings [] P.helpers) (blocks_nodes [] P.helpers) (helpers_are P.helpers [] [] tt) 0 (length P.kernel.vars) P.kernel.body)
