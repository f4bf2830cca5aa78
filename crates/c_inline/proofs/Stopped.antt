-- Counts over the numbers of helpers' blocks, where these stop at 2^64 - 1 too.
use Rattle.std.proofs.Common.{◌≡◌, ℕ, suc, ◌+◌, ◌-◌, ◌^◌, ◌<◌, List, [], ◌∷◌, ◌++◌, length, map, min, take, get_or, refl, sym, ◌∙◌, ap, arith}
use Rattle.std.specs.Prelude.{slice_get, sum_by, option_map, Option, Some, None}
use Rattle.std.proofs.lemmas.Option.{slice_get-map}
use mathlib.Core.Former.{Count}
use Rattle.std.proofs.Math.Seq.{take-suc}
use Rattle.std.proofs.lemmas.List.Sums.{sum_by-cons}
use Rattle.c_ast.specs.declared.program.ProgExpr.{ProgExpr}
use Rattle.c_ast.specs.declared.program.ProgExprKind.{ProgExprKind, Row_of-ProgExpr, end_of-ProgExpr, more_of-ProgExpr}
use Rattle.c_ast.specs.declared.program.ProgExprKind as tree
use Rattle.c_ast.specs.declared.program.ProgStmt.{ProgStmt}
use Rattle.c_ast.specs.declared.program.ProgStmtKind.{ProgStmtKind, Row_of-ProgStmt, end_of-ProgStmt, more_of-ProgStmt, Held-ProgStmtKind-If-2}
use Rattle.c_ast.specs.declared.program.ProgStmtKind as act
use Rattle.c_ast.specs.declared.program.TypedHelper.{TypedHelper}
use Rattle.c_calls.specs.Counts.{rest_expr_nodes, rest_option_nodes, rest_target_nodes, argument_nodes, call_nodes, calls_nodes, calls_row_nodes, calls_expr_nodes, calls_option_nodes, behind_nodes, inlined_stmt_nodes, inlined_held_nodes, inlined_row_nodes, inlined_list_nodes, block_nodes, blocks_nodes}
use Rattle.c_inline.specs.Code.{at_most_u64, stmt_nodes}
use Rattle.c_inline.proofs.CountParts.{behind_stops}

-- equal as far as they are counted
abbrev pub Alike : ℕ → ℕ → Type 0
Alike a b = min a (2 ^ 64 - 1) ≡ min b (2 ^ 64 - 1)

behind_alike : (a a2 x x2 : ℕ) → Alike a a2 → Alike x x2 → Alike (behind_nodes a x) (behind_nodes a2 x2)
behind_alike a a2 x x2 p q = sym (behind_stops a x) ∙ ap (λ n. min (behind_nodes n (min x (2 ^ 64 - 1))) (2 ^ 64 - 1)) p ∙ ap (λ n. min (behind_nodes (min a2 (2 ^ 64 - 1)) n) (2 ^ 64 - 1)) q ∙ behind_stops a2 x2

option_call_stops : (o : Option ℕ) (a : ℕ) → Alike (call_nodes (option_map at_most_u64 o) a) (call_nodes o a)
option_call_stops None a = refl
option_call_stops (Some n) a = omega arith

get_stops : (ns : List ℕ) (h a : ℕ) → Alike (call_nodes (slice_get (map at_most_u64 ns) h) a) (call_nodes (slice_get ns h) a)
get_stops ns h a = ap (λ o. min (call_nodes o a) (2 ^ 64 - 1)) (slice_get-map at_most_u64 ns h) ∙ option_call_stops (slice_get ns h) a

mutual
  calls_stop : (ns : List ℕ) (e : ProgExprKind) → Alike (calls_nodes (map at_most_u64 ns) e) (calls_nodes ns e)
  calls_stop ns (tree.Number n) = refl
  calls_stop ns (tree.Var v) = refl
  calls_stop ns (tree.Element' a n row) = row_stops ns row
  calls_stop ns (tree.Unary' op b (more_of-ProgExpr e t at end_of-ProgExpr)) = calls_stop ns e
  calls_stop ns (tree.Cast' implied b (more_of-ProgExpr e t at end_of-ProgExpr)) = calls_stop ns e
  calls_stop ns (tree.Binary' op b (more_of-ProgExpr e t at end_of-ProgExpr) b2 (more_of-ProgExpr e2 t2 at2 end_of-ProgExpr)) = omega (arith, calls_stop ns e, calls_stop ns e2)
  calls_stop ns (tree.Choose' b (more_of-ProgExpr e t at end_of-ProgExpr) b2 (more_of-ProgExpr e2 t2 at2 end_of-ProgExpr) b3 (more_of-ProgExpr e3 t3 at3 end_of-ProgExpr)) = omega (arith, calls_stop ns e, calls_stop ns e2, calls_stop ns e3)
  calls_stop ns (tree.Call' h n row) = omega (arith, row_stops ns row, get_stops ns h (argument_nodes row))

  row_stops : (ns : List ℕ) {n : Count} (row : Row_of-ProgExpr n) → Alike (calls_row_nodes (map at_most_u64 ns) row) (calls_row_nodes ns row)
  row_stops ns end_of-ProgExpr = refl
  row_stops ns (more_of-ProgExpr e t at row) = omega (arith, calls_stop ns e, row_stops ns row)

option_stops : (ns : List ℕ) (e : Option ProgExpr) → Alike (calls_option_nodes (map at_most_u64 ns) e) (calls_option_nodes ns e)
option_stops ns None = refl
option_stops ns (Some e) = calls_stop ns e.kind

all_stop : (ns : List ℕ) (es : List ProgExpr) → Alike (sum_by (calls_expr_nodes (map at_most_u64 ns)) es) (sum_by (calls_expr_nodes ns) es)
all_stop ns [] = refl
all_stop ns (e ∷ es) = omega (arith, calls_stop ns e.kind, all_stop ns es, sum_by-cons (calls_expr_nodes (map at_most_u64 ns)) e es, sum_by-cons (calls_expr_nodes ns) e es)

mutual
  stmt_stops : (ns : List ℕ) (s : ProgStmtKind) → Alike (inlined_stmt_nodes (map at_most_u64 ns) s) (inlined_stmt_nodes ns s)
  stmt_stops ns (act.Block' n row) = omega (arith, stmts_stop ns row)
  stmt_stops ns (act.Declare v init) = behind_alike (calls_option_nodes (map at_most_u64 ns) init) (calls_option_nodes ns init) (1 + rest_option_nodes init) (1 + rest_option_nodes init) (option_stops ns init) refl
  stmt_stops ns (act.Assign target op e) =
      let ms = map at_most_u64 ns in
      behind_alike (sum_by (calls_expr_nodes ms) target.indices + calls_expr_nodes ms e) (sum_by (calls_expr_nodes ns) target.indices + calls_expr_nodes ns e) (1 + rest_target_nodes target + rest_expr_nodes e) (1 + rest_target_nodes target + rest_expr_nodes e)
      (omega (arith, all_stop ns target.indices, calls_stop ns e.kind)) refl
  stmt_stops ns (act.Step target up) =
      behind_alike (sum_by (calls_expr_nodes (map at_most_u64 ns)) target.indices) (sum_by (calls_expr_nodes ns) target.indices) (1 + rest_target_nodes target) (1 + rest_target_nodes target) (all_stop ns target.indices) refl
  stmt_stops ns (act.If' cond b (more_of-ProgStmt s at end_of-ProgStmt) o) =
      let ms = map at_most_u64 ns in
      behind_alike (calls_expr_nodes ms cond) (calls_expr_nodes ns cond) (1 + rest_expr_nodes cond + inlined_stmt_nodes ms s + inlined_held_nodes ms o) (1 + rest_expr_nodes cond + inlined_stmt_nodes ns s + inlined_held_nodes ns o)
      (calls_stop ns cond.kind) (omega (arith, stmt_stops ns s, held_stops ns o))
  stmt_stops ns (act.While' cond b (more_of-ProgStmt s at end_of-ProgStmt)) = omega (arith, stmt_stops ns s)
  stmt_stops ns (act.DoWhile' b (more_of-ProgStmt s at end_of-ProgStmt) cond) = omega (arith, stmt_stops ns s)
  stmt_stops ns (act.For' n first cond step b (more_of-ProgStmt s at end_of-ProgStmt)) = omega (arith, stmts_stop ns first, held_stops ns step, stmt_stops ns s)
  stmt_stops ns act.Break = refl
  stmt_stops ns act.Continue = refl
  stmt_stops ns (act.Return e) = behind_alike (calls_option_nodes (map at_most_u64 ns) e) (calls_option_nodes ns e) (1 + rest_option_nodes e) (1 + rest_option_nodes e) (option_stops ns e) refl
  stmt_stops ns act.Empty = refl

  held_stops : (ns : List ℕ) (o : Held-ProgStmtKind-If-2) → Alike (inlined_held_nodes (map at_most_u64 ns) o) (inlined_held_nodes ns o)
  held_stops ns act.None' = refl
  held_stops ns (act.Some' b (more_of-ProgStmt s at end_of-ProgStmt)) = stmt_stops ns s

  stmts_stop : (ns : List ℕ) {n : Count} (row : Row_of-ProgStmt n) → Alike (inlined_row_nodes (map at_most_u64 ns) row) (inlined_row_nodes ns row)
  stmts_stop ns end_of-ProgStmt = refl
  stmts_stop ns (more_of-ProgStmt s at row) = omega (arith, stmt_stops ns s, stmts_stop ns row)

pub list_stops : (ns : List ℕ) (ss : List ProgStmt) → Alike (inlined_list_nodes (map at_most_u64 ns) ss) (inlined_list_nodes ns ss)
list_stops ns [] = refl
list_stops ns (s ∷ ss) = omega (arith, stmt_stops ns s.kind, list_stops ns ss, sum_by-cons (stmt_nodes (map at_most_u64 ns)) s ss, sum_by-cons (stmt_nodes ns) s ss)

pub block_stops : (ns : List ℕ) (h : TypedHelper) → Alike (block_nodes (map at_most_u64 ns) h) (block_nodes ns h)
block_stops ns h =
    let ms = map at_most_u64 ns in
    omega (arith, list_stops ns h.body, behind_alike (calls_expr_nodes ms h.value) (calls_expr_nodes ns h.value) (2 + rest_expr_nodes h.value) (2 + rest_expr_nodes h.value) (calls_stop ns h.value.kind) refl)

-- ---- helper by helper

map_snoc : (f : ℕ → ℕ) (ns : List ℕ) (n : ℕ) → map f (ns ++ n ∷ []) ≡ map f ns ++ f n ∷ []
map_snoc f [] n = refl
map_snoc f (m ∷ ns) n = ap (λ l. f m ∷ l) (map_snoc f ns n)

blocks_snoc : (ns : List ℕ) (hs : List TypedHelper) (h : TypedHelper) → blocks_nodes ns (hs ++ h ∷ []) ≡ blocks_nodes ns hs ++ block_nodes (blocks_nodes ns hs) h ∷ []
blocks_snoc ns [] h = refl
blocks_snoc ns (g ∷ hs) h = blocks_snoc (ns ++ block_nodes ns g ∷ []) hs h

pub next_block : (hs : List TypedHelper) (h : TypedHelper) (bs bs2 : List ℕ) (n : ℕ) → bs ≡ map at_most_u64 (blocks_nodes [] hs) → n ≡ min (block_nodes bs h) (2 ^ 64 - 1) → bs2 ≡ bs ++ n ∷ [] → bs2 ≡ map at_most_u64 (blocks_nodes [] (hs ++ h ∷ []))
next_block hs h bs bs2 n e en e2 =
    let ns = blocks_nodes [] hs in
    e2 ∙ ap (λ l. l ++ n ∷ []) e ∙ ap (λ i. map at_most_u64 ns ++ i ∷ []) (en ∙ ap (λ l. min (block_nodes l h) (2 ^ 64 - 1)) e ∙ block_stops ns h) ∙ sym (map_snoc at_most_u64 ns (block_nodes ns h)) ∙ ap (map at_most_u64) (sym (blocks_snoc [] hs h))

-- the helpers up to one, and it
pub taken_next : {A : Type 0} (xs : List A) (i : ℕ) (x : A) → i < length xs → x ≡ get_or xs i x → take (i + 1) xs ≡ take i xs ++ x ∷ []
taken_next xs i x lt is = (let e : i + 1 ≡ suc i = omega arith in ap (λ n. take n xs) e) ∙ take-suc xs i x lt ∙ ap (λ y. take i xs ++ y ∷ []) (sym is)

pub block_next : (hs : List TypedHelper) (i : ℕ) (h : TypedHelper) (bs bs2 : List ℕ) (n : ℕ) → i < length hs → h ≡ get_or hs i h → bs ≡ map at_most_u64 (blocks_nodes [] (take i hs)) → n ≡ min (block_nodes bs h) (2 ^ 64 - 1) → bs2 ≡ bs ++ n ∷ []
    → bs2 ≡ map at_most_u64 (blocks_nodes [] (take (i + 1) hs))
block_next hs i h bs bs2 n lt is e en e2 = next_block (take i hs) h bs bs2 n e en e2 ∙ ap (λ l. map at_most_u64 (blocks_nodes [] l)) (sym (taken_next hs i h lt is))

-- the whole program
pub nodes_stop : (ns : List ℕ) (ss : List ProgStmt) (bs : List ℕ) (n : ℕ) → bs ≡ map at_most_u64 ns → n ≡ min (inlined_list_nodes bs ss) (2 ^ 64 - 1) → n ≡ min (inlined_list_nodes ns ss) (2 ^ 64 - 1)
nodes_stop ns ss bs n e h = h ∙ ap (λ l. min (inlined_list_nodes l ss) (2 ^ 64 - 1)) e ∙ list_stops ns ss
