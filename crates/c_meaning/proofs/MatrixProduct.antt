-- The product of two 4 by 4 matrices: its tree, the nodes of it, its typed tree, and the turns that this takes.
use Rattle.std.proofs.Common.{◌≡◌, ℕ, ◌+◌, List, [], ◌∷◌, map, Option, Some, None, refl, rules}
use Rattle.std.specs.Prelude.{Bool, true, pos, codes, option_map, sum as list_sum}
use Rattle.el_base.specs.declared.ty.Ty.TheVariants.{I32}
use Rattle.c_ast.specs.declared.tree.Binary.TheVariants as op
use Rattle.c_ast.specs.declared.tree.Target.{Target}
use Rattle.c_ast.specs.declared.tree.Expr.{Expr}
use Rattle.c_ast.specs.declared.tree.ExprKind.{ExprKind}
use Rattle.c_ast.specs.declared.tree.ExprKind.TheVariants as tree_expr
use Rattle.c_ast.specs.declared.tree.Stmt.{Stmt}
use Rattle.c_ast.specs.declared.tree.StmtKind.{StmtKind}
use Rattle.c_ast.specs.declared.tree.StmtKind.TheVariants as tree_stmt
use Rattle.c_ast.specs.declared.tree.Tree.{Tree}
use Rattle.c_ast.specs.Nodes.{expr_nodes, opt_nodes, target_nodes, counted, stmt_nodes, tree_nodes}
use Rattle.c_ast.specs.declared.tree.Expr as expr_type
use Rattle.c_ast.specs.declared.tree.ExprKind as expr_kind
use Rattle.c_ast.specs.declared.tree.Stmt as stmt_type
use Rattle.c_ast.specs.declared.tree.StmtKind as stmt_kind
use Rattle.el_base.specs.declared.ty.Ty.{Ty}
use Rattle.c_ast.specs.declared.tree.Binary.{Binary}
use Rattle.c_ast.specs.declared.typed.TypedExpr.{TypedExpr}
use Rattle.c_ast.specs.declared.typed.TypedStmt.{TypedStmt}
use Rattle.c_ast.specs.declared.typed.TypedStmtKind.TheVariants as stmt
use Rattle.c_ast.specs.declared.typed.Typed.{Typed}
use Rattle.c_meaning.specs.declared.profile.Profile.TheVariants.{Plain}
use Rattle.c_meaning.specs.Statements.{Ends}
use Rattle.c_meaning.proofs.Elaboration.{cast_tree}
use Rattle.c_meaning.proofs.Build.{number_of, var_of, element_of, two_of, stmt_of, to_var, to_element, array_named, array_of_named, kernel, inputs, here}
use Rattle.c_meaning.proofs.TreeRows.{expr_rows, stmt_rows, typed_rows}

abbrev v : ℕ → TypedExpr
v i = var_of I32 i

abbrev up_to_four : ℕ → TypedStmt → TypedStmt
up_to_four i body = stmt_of (stmt.For (stmt_of (stmt.Declare i (Some (number_of I32 0))) ∷ []) (Some (two_of op.Lt I32 (v i) (number_of I32 4))) (Some (stmt_of (stmt.Step (to_var i) true))) body)

abbrev square : List ℕ
square = 4 ∷ 4 ∷ []

-- for i, for j: s = 0; for k: s += a[i][k] * b[k][j]; c[i][j] = s
abbrev product : Typed
product = kernel None (array_named (codes "a") I32 square ∷ array_named (codes "b") I32 square ∷ array_named (codes "c") I32 square ∷ []) (I32 ∷ I32 ∷ I32 ∷ I32 ∷ [])
    (array_of_named (codes "a") I32 square ∷ array_of_named (codes "b") I32 square ∷ array_of_named (codes "c") I32 square ∷ [])
    (up_to_four 0 (up_to_four 1 (stmt_of (stmt.Block
    (stmt_of (stmt.Declare 2 (Some (number_of I32 0)))
    ∷ up_to_four 3 (stmt_of (stmt.Assign (to_var 2) (Some op.Add) (two_of op.Mul I32 (element_of I32 0 (v 0 ∷ v 3 ∷ [])) (element_of I32 1 (v 3 ∷ v 1 ∷ [])))))
    ∷ stmt_of (stmt.Assign (to_element 2 (v 0 ∷ v 1 ∷ [])) None (v 2)) ∷ [])))) ∷ [])

product_ends : Ends product Plain (inputs ([]) ((pos 1 ∷ pos 2 ∷ pos 3 ∷ pos 4 ∷ pos 5 ∷ pos 6 ∷ pos 7 ∷ pos 8 ∷ pos 9 ∷ pos 10 ∷ pos 11 ∷ pos 12 ∷ pos 13 ∷ pos 14 ∷ pos 15 ∷ pos 16 ∷ []) ∷ (pos 1 ∷ pos 1 ∷ pos 1 ∷ pos 1 ∷ pos 1 ∷ pos 1 ∷ pos 1 ∷ pos 1 ∷ pos 1 ∷ pos 1 ∷ pos 1 ∷ pos 1 ∷ pos 1 ∷ pos 1 ∷ pos 1 ∷ pos 1 ∷ []) ∷ (pos 0 ∷ pos 0 ∷ pos 0 ∷ pos 0 ∷ pos 0 ∷ pos 0 ∷ pos 0 ∷ pos 0 ∷ pos 0 ∷ pos 0 ∷ pos 0 ∷ pos 0 ∷ pos 0 ∷ pos 0 ∷ pos 0 ∷ pos 0 ∷ []) ∷ [])) ((pos 1 ∷ pos 2 ∷ pos 3 ∷ pos 4 ∷ pos 5 ∷ pos 6 ∷ pos 7 ∷ pos 8 ∷ pos 9 ∷ pos 10 ∷ pos 11 ∷ pos 12 ∷ pos 13 ∷ pos 14 ∷ pos 15 ∷ pos 16 ∷ []) ∷ (pos 1 ∷ pos 1 ∷ pos 1 ∷ pos 1 ∷ pos 1 ∷ pos 1 ∷ pos 1 ∷ pos 1 ∷ pos 1 ∷ pos 1 ∷ pos 1 ∷ pos 1 ∷ pos 1 ∷ pos 1 ∷ pos 1 ∷ pos 1 ∷ []) ∷ (pos 10 ∷ pos 10 ∷ pos 10 ∷ pos 10 ∷ pos 26 ∷ pos 26 ∷ pos 26 ∷ pos 26 ∷ pos 42 ∷ pos 42 ∷ pos 42 ∷ pos 42 ∷ pos 58 ∷ pos 58 ∷ pos 58 ∷ pos 58 ∷ []) ∷ []) (None) 344
product_ends = unfold typed_rows in record { bound = 344; all_turns = refl; arrays = refl; result = refl }

-- ---- the tree

abbrev an_expr : ExprKind → Expr
an_expr k = record { kind = k; at = here }

abbrev a_stmt : StmtKind → Stmt
a_stmt k = record { kind = k; at = here }

abbrev read : List ℕ → Expr
read x = an_expr (tree_expr.Name x)

abbrev number : ℕ → Expr
number n = an_expr (tree_expr.Number n I32)

abbrev element : List ℕ → Expr → Expr → Expr
element x i j = an_expr (tree_expr.Element x (i ∷ j ∷ []))

abbrev target : List ℕ → List Expr → Target
target x is = record { name = x; at = here; indices = is }

abbrev count_up : List ℕ → Stmt → Stmt
count_up x body = a_stmt (tree_stmt.For (a_stmt (tree_stmt.Declare x I32 (Some (number 0))) ∷ []) (Some (an_expr (tree_expr.Binary op.Lt (read x) (number 4)))) (Some (a_stmt (tree_stmt.Step (target x []) true))) body)

abbrev clear_sum : Stmt
clear_sum = a_stmt (tree_stmt.Declare (codes "s") I32 (Some (number 0)))

abbrev sum_of_products : Stmt
sum_of_products = a_stmt (tree_stmt.Assign (target (codes "s") []) (Some op.Add) (an_expr (tree_expr.Binary op.Mul (element (codes "a") (read (codes "i")) (read (codes "k"))) (element (codes "b") (read (codes "k")) (read (codes "j"))))))

abbrev store_sum : Stmt
store_sum = a_stmt (tree_stmt.Assign (target (codes "c") (read (codes "i") ∷ read (codes "j") ∷ [])) None (read (codes "s")))

-- void f(int32_t a[4][4], int32_t b[4][4], int32_t c[4][4]) {
--   for (int i = 0; i < 4; i++) for (int j = 0; j < 4; j++) { int32_t s = 0; for (int k = 0; k < 4; k++) s += a[i][k] * b[k][j]; c[i][j] = s; } }
abbrev product_tree : Tree
product_tree = record {
  name = codes "f";
  at = here;
  result = None;
  params = array_named (codes "a") I32 square ∷ array_named (codes "b") I32 square ∷ array_named (codes "c") I32 square ∷ [];
  body = count_up (codes "i") (count_up (codes "j") (a_stmt (tree_stmt.Block (clear_sum ∷ count_up (codes "k") sum_of_products ∷ store_sum ∷ [])))) ∷ [];
}

-- the typed tree above is that of this tree
product_is : cast_tree product_tree ≡ product
product_is = unfold expr_rows stmt_rows typed_rows in refl

-- ---- its nodes

name_nodes : (x : List ℕ) → expr_nodes (read x) ≡ 1
name_nodes x = search (rules, expr_kind.the_lemmas, expr_type.the_lemmas)

number_nodes : (n : ℕ) → expr_nodes (number n) ≡ 1
number_nodes n = search (rules, expr_kind.the_lemmas, expr_type.the_lemmas)

binary_nodes : (o : Binary) (a b : Expr) → expr_nodes (an_expr (tree_expr.Binary o a b)) ≡ 1 + expr_nodes a + expr_nodes b
binary_nodes o a b = search (rules, expr_kind.the_lemmas, expr_type.the_lemmas)

element_nodes : (x : List ℕ) (es : List Expr) → expr_nodes (an_expr (tree_expr.Element x es)) ≡ 1 + list_sum (map expr_nodes es)
element_nodes x es = search (rules, expr_kind.the_lemmas, expr_type.the_lemmas)

declare_nodes : (x : List ℕ) (t : Ty) (e : Option Expr) → stmt_nodes (a_stmt (tree_stmt.Declare x t e)) ≡ 1 + opt_nodes e
declare_nodes x t e = search (rules, stmt_kind.the_lemmas, stmt_type.the_lemmas)

assign_nodes : (t : Target) (o : Option Binary) (e : Expr) → stmt_nodes (a_stmt (tree_stmt.Assign t o e)) ≡ 1 + target_nodes t + expr_nodes e
assign_nodes t o e = search (rules, stmt_kind.the_lemmas, stmt_type.the_lemmas)

step_nodes : (t : Target) (up : Bool) → stmt_nodes (a_stmt (tree_stmt.Step t up)) ≡ 1 + target_nodes t
step_nodes t up = search (rules, stmt_kind.the_lemmas, stmt_type.the_lemmas)

block_nodes : (ss : List Stmt) → stmt_nodes (a_stmt (tree_stmt.Block ss)) ≡ 1 + list_sum (map stmt_nodes ss)
block_nodes ss = search (rules, stmt_kind.the_lemmas, stmt_type.the_lemmas)

for_nodes : (f : List Stmt) (c : Option Expr) (o : Option Stmt) (b : Stmt) → stmt_nodes (a_stmt (tree_stmt.For f c o b)) ≡ 1 + list_sum (map stmt_nodes f) + opt_nodes c + counted (option_map stmt_nodes o) + stmt_nodes b
for_nodes f c o b = search (rules, stmt_kind.the_lemmas, stmt_type.the_lemmas)

-- a loop that counts up has eight nodes besides its body
count_up_nodes : (x : List ℕ) (b : Stmt) → stmt_nodes (count_up x b) ≡ 8 + stmt_nodes b
count_up_nodes x b = simp (for_nodes, declare_nodes, step_nodes, binary_nodes, name_nodes, number_nodes)

sum_nodes : stmt_nodes sum_of_products ≡ 9
sum_nodes = simp (assign_nodes, binary_nodes, element_nodes, name_nodes)

store_nodes : stmt_nodes store_sum ≡ 5
store_nodes = simp (assign_nodes, name_nodes)

clear_nodes : stmt_nodes clear_sum ≡ 2
clear_nodes = simp (declare_nodes, number_nodes)

product_nodes : tree_nodes product_tree ≡ 52
product_nodes = simp (count_up_nodes, block_nodes, sum_nodes, store_nodes, clear_nodes)
