-- Sizes and what an expression reads, by the parts of trees.
use Rattle.std.proofs.Common.{◌≡◌, ℕ, ◌+◌, List, [], ◌∷◌, ◌++◌, Option, Some, None, refl, ap}
use Rattle.std.specs.Prelude.{Bool, sum_by, flat_map}
use Rattle.c_ast.specs.declared.tree.Unary.{Unary}
use Rattle.c_ast.specs.declared.tree.Binary.{Binary}
use Rattle.c_ast.specs.declared.typed.TypedExpr.{TypedExpr}
use Rattle.c_ast.specs.declared.typed.TypedExprKind.TheVariants as expr
use Rattle.c_ast.specs.declared.typed.TypedExprKind.TheBlock.{hidden-the_row-TypedExpr-0}
use Rattle.c_ast.specs.declared.typed.TypedTarget.{TypedTarget}
use Rattle.c_ast.specs.declared.normal.NormalStmt.{NormalStmt}
use Rattle.c_ast.specs.declared.normal.NormalStmtKind.TheVariants as normal
use Rattle.c_ast.specs.declared.normal.NormalStmtKind.TheBlock.{hidden-the_row-NormalStmt-0, back-NormalStmtKind-If-3}
use Rattle.c_meaning.specs.Counts.{expr_price, option_price, assignment_price}
use Rattle.c_meaning.specs.Reads.{vars_read_row, expr_vars}
use Rattle.c_meaning.specs.Sizes.{closes, closes_held, closes_step, closes_row, steps, steps_held, steps_row, reads_row, expr_reads, option_reads, target_accesses, accesses, accesses_held, accesses_row}
use Rattle.c_meaning.specs.PartLaws.{sizes, blocks_of, steps_of, accesses_of, blocks_if_any, blocks_of_step, steps_if_any, accesses_if_any, reading, SizesBy, ReadingBy}
use Rattle.std.proofs.lemmas.List.Recursion.{is_sum_by}
use Rattle.c_meaning.proofs.TreeRows.{typed_expr_rows, normal_rows}

pub rows_close : (ss : List NormalStmt) → closes_row (hidden-the_row-NormalStmt-0 ss) ≡ blocks_of ss
rows_close ss = unfold normal_rows in is_sum_by (λ us. closes_row (hidden-the_row-NormalStmt-0 us)) (λ s. closes s.kind) refl (λ s us. refl) ss

pub rows_step : (ss : List NormalStmt) → steps_row (hidden-the_row-NormalStmt-0 ss) ≡ steps_of ss
rows_step ss = unfold normal_rows in is_sum_by (λ us. steps_row (hidden-the_row-NormalStmt-0 us)) (λ s. steps s.kind) refl (λ s us. refl) ss

rows_access : (ss : List NormalStmt) → accesses_row (hidden-the_row-NormalStmt-0 ss) ≡ accesses_of ss
rows_access ss = unfold normal_rows in is_sum_by (λ us. accesses_row (hidden-the_row-NormalStmt-0 us)) (λ s. accesses s.kind) refl (λ s us. refl) ss

pub held_closes : (o : Option NormalStmt) → closes_held (back-NormalStmtKind-If-3 o) ≡ blocks_if_any o
unfolding normal_rows
held_closes None = refl
held_closes (Some s) = refl

pub step_closes : (o : Option NormalStmt) → closes_step (back-NormalStmtKind-If-3 o) ≡ blocks_of_step o
unfolding normal_rows
step_closes None = refl
step_closes (Some s) = refl

pub held_steps : (o : Option NormalStmt) → steps_held (back-NormalStmtKind-If-3 o) ≡ steps_if_any o
unfolding normal_rows
held_steps None = refl
held_steps (Some s) = refl

held_accesses : (o : Option NormalStmt) → accesses_held (back-NormalStmtKind-If-3 o) ≡ accesses_if_any o
unfolding normal_rows
held_accesses None = refl
held_accesses (Some s) = refl

block_size : {a b c d e f : ℕ} → a ≡ b → c ≡ d → e ≡ f → sizes a c e ≡ sizes b d f
block_size p q r = cc

if_size : {a b o p c d q r e f u v : ℕ} (x y z m n : ℕ) → a ≡ b → o ≡ p → c ≡ d → q ≡ r → e ≡ f → u ≡ v → sizes (a + 1 + x + 1 + o + 1) (c + y + z + q) (e + m + n + u) ≡ sizes (b + 1 + x + 1 + p + 1) (d + y + z + r) (f + m + n + v)
if_size x y z m n h i j k l w = cc

while_size : {a b c d e f : ℕ} (x y z m n : ℕ) → a ≡ b → c ≡ d → e ≡ f → sizes (1 + a + 1 + x + 1) (c + y + z) (e + m + n) ≡ sizes (1 + b + 1 + x + 1) (d + y + z) (f + m + n)
while_size x y z m n p q r = cc

do_size : {a b c d e f : ℕ} (x y z m n : ℕ) → a ≡ b → c ≡ d → e ≡ f → sizes (1 + x + 1 + a + 1) (z + c + y) (n + e + m) ≡ sizes (1 + x + 1 + b + 1) (z + d + y) (n + f + m)
do_size x y z m n p q r = cc

for_size : {a b a2 b2 o p c d c2 d2 q r e f e2 f2 u v : ℕ} (x y z m n : ℕ) → a ≡ b → a2 ≡ b2 → o ≡ p → c ≡ d → c2 ≡ d2 → q ≡ r → e ≡ f → e2 ≡ f2 → u ≡ v
    → sizes (a + 1 + a2 + 1 + x + 1 + o) (c + c2 + y + z + q) (e + e2 + m + n + u) ≡ sizes (b + 1 + b2 + 1 + x + 1 + p) (d + d2 + y + z + r) (f + f2 + m + n + v)
for_size x y z m n g h i j k l s t w = cc

element_reads : {a b : ℕ} {vs ws : List ℕ} → a ≡ b → vs ≡ ws → reading (1 + a) vs ≡ reading (1 + b) ws
element_reads p q = cc

pub exprs_read : (es : List TypedExpr) → reads_row (hidden-the_row-TypedExpr-0 es) ≡ sum_by expr_reads es
exprs_read es = unfold typed_expr_rows in is_sum_by (λ us. reads_row (hidden-the_row-TypedExpr-0 us)) expr_reads refl (λ e us. refl) es

pub exprs_vars : (es : List TypedExpr) → vars_read_row (hidden-the_row-TypedExpr-0 es) ≡ flat_map expr_vars es
unfolding typed_expr_rows
exprs_vars [] = refl
exprs_vars (e ∷ es) = ap (λ u. expr_vars e ++ u) (exprs_vars es)

pub sizes_block : (ss : List NormalStmt) → SizesBy (normal.Block ss) (sizes (blocks_of ss) (steps_of ss) (accesses_of ss))
sizes_block ss = unfold normal_rows in block_size (rows_close ss) (rows_step ss) (rows_access ss)

pub sizes_declaration : (v : ℕ) (e : Option TypedExpr) → SizesBy (normal.Declare v e) (sizes 0 (option_price e) (option_reads e))
sizes_declaration v e = unfold normal_rows in refl

pub sizes_assignment : (t : TypedTarget) (e : TypedExpr) → SizesBy (normal.Assign t e) (sizes 0 (assignment_price t e) (target_accesses t + expr_reads e))
sizes_assignment t e = unfold normal_rows in refl

pub sizes_choice : (b : List NormalStmt) (c : TypedExpr) (s : NormalStmt) (o : Option NormalStmt) → SizesBy (normal.If b c s o) (sizes (blocks_of b + 1 + closes s.kind + 1 + blocks_if_any o + 1) (steps_of b + (expr_price c + 2) + steps s.kind + steps_if_any o) (accesses_of b + expr_reads c + accesses s.kind + accesses_if_any o))
sizes_choice b c s o = unfold normal_rows in if_size (closes s.kind) (expr_price c + 2) (steps s.kind) (expr_reads c) (accesses s.kind) (rows_close b) (held_closes o) (rows_step b) (held_steps o) (rows_access b) (held_accesses o)

pub sizes_while_loop : (b : List NormalStmt) (c : TypedExpr) (s : NormalStmt) → SizesBy (normal.While b c s) (sizes (1 + blocks_of b + 1 + closes s.kind + 1) (steps_of b + (expr_price c + 2) + steps s.kind) (accesses_of b + expr_reads c + accesses s.kind))
sizes_while_loop b c s = unfold normal_rows in while_size (closes s.kind) (expr_price c + 2) (steps s.kind) (expr_reads c) (accesses s.kind) (rows_close b) (rows_step b) (rows_access b)

pub sizes_do_loop : (s : NormalStmt) (b : List NormalStmt) (c : TypedExpr) → SizesBy (normal.DoWhile s b c) (sizes (1 + closes s.kind + 1 + blocks_of b + 1) (steps s.kind + steps_of b + (expr_price c + 2)) (accesses s.kind + accesses_of b + expr_reads c))
sizes_do_loop s b c = unfold normal_rows in do_size (closes s.kind) (expr_price c + 2) (steps s.kind) (expr_reads c) (accesses s.kind) (rows_close b) (rows_step b) (rows_access b)

pub sizes_for_loop : (f b : List NormalStmt) (c : Option TypedExpr) (o : Option NormalStmt) (s : NormalStmt) → SizesBy (normal.For f b c o s) (sizes (blocks_of f + 1 + blocks_of b + 1 + closes s.kind + 1 + blocks_of_step o) (steps_of f + steps_of b + (option_price c + 2) + steps s.kind + steps_if_any o) (accesses_of f + accesses_of b + option_reads c + accesses s.kind + accesses_if_any o))
sizes_for_loop f b c o s = unfold normal_rows in for_size (closes s.kind) (option_price c + 2) (steps s.kind) (option_reads c) (accesses s.kind) (rows_close f) (rows_close b) (step_closes o) (rows_step f) (rows_step b) (held_steps o) (rows_access f) (rows_access b) (held_accesses o)

pub sizes_leaving : SizesBy normal.Break (sizes 1 0 0)
sizes_leaving = unfold normal_rows in refl

pub sizes_continuing : SizesBy normal.Continue (sizes 1 0 0)
sizes_continuing = unfold normal_rows in refl

pub sizes_returning : (e : Option TypedExpr) → SizesBy (normal.Return e) (sizes 1 (option_price e) (option_reads e))
sizes_returning e = unfold normal_rows in refl

pub sizes_empty : SizesBy normal.Empty (sizes 0 0 0)
sizes_empty = unfold normal_rows in refl

pub reading_number : (n : ℕ) → ReadingBy (expr.Number n) (reading 0 [])
reading_number n = unfold typed_expr_rows in refl

pub reading_variable : (v : ℕ) → ReadingBy (expr.Var v) (reading 0 (v ∷ []))
reading_variable v = unfold typed_expr_rows in refl

pub reading_element : (a : ℕ) (es : List TypedExpr) → ReadingBy (expr.Element a es) (reading (1 + sum_by expr_reads es) (flat_map expr_vars es))
reading_element a es = unfold typed_expr_rows in element_reads (exprs_read es) (exprs_vars es)

pub reading_unary : (op : Unary) (e : TypedExpr) → ReadingBy (expr.Unary op e) (reading (expr_reads e) (expr_vars e))
reading_unary op e = unfold typed_expr_rows in refl

pub reading_cast : (implied : Bool) (e : TypedExpr) → ReadingBy (expr.Cast implied e) (reading (expr_reads e) (expr_vars e))
reading_cast implied e = unfold typed_expr_rows in refl

pub reading_binary : (op : Binary) (a b : TypedExpr) → ReadingBy (expr.Binary op a b) (reading (expr_reads a + expr_reads b) (expr_vars a ++ expr_vars b))
reading_binary op a b = unfold typed_expr_rows in refl

pub reading_choice : (c a b : TypedExpr) → ReadingBy (expr.Choose c a b) (reading (expr_reads c + expr_reads a + expr_reads b) (expr_vars c ++ (expr_vars a ++ expr_vars b)))
reading_choice c a b = unfold typed_expr_rows in refl

pub ruleset sizes_of_parts = (
  sizes_block,
  sizes_declaration,
  sizes_assignment,
  sizes_choice,
  sizes_while_loop,
  sizes_do_loop,
  sizes_for_loop,
  sizes_leaving,
  sizes_continuing,
  sizes_returning,
  sizes_empty,
)

pub ruleset readings_of_parts = (
  exprs_read,
  exprs_vars,
  reading_number,
  reading_variable,
  reading_element,
  reading_unary,
  reading_cast,
  reading_binary,
  reading_choice,
)
