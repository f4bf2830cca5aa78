-- The program of a bench's kernel keeps the typing rules, and becomes its typed tree, of 23 nodes.
use Rattle.std.proofs.Common.{◌≡◌, ℕ, ◌<◌, List, [], ◌∷◌, true, false, Some, None, refl, sym, ◌∙◌, subst, arith}
use Rattle.std.proofs.lemmas.List.Elements.{All-nil, All-cons}
use Rattle.std.specs.Prelude.{codes, IsSome}
use denote.Hole.Carrier.{hidden}
use Rattle.c_ast.specs.declared.tree.ExprKind.TheBlock.{shape-the_row-Expr-0, hidden-the_row-Expr-0, shape-the_row-Expr-1, hidden-the_row-Expr-1}
use Rattle.c_ast.specs.declared.tree.StmtKind.TheBlock.{shape-the_row-Stmt-0, hidden-the_row-Stmt-0, shape-the_row-Stmt-1, hidden-the_row-Stmt-1}
use Rattle.c_ast.specs.declared.typed.TypedExprKind.TheBlock.{shape-the_row-TypedExpr-0, hidden-the_row-TypedExpr-0, shape-the_row-TypedExpr-1, hidden-the_row-TypedExpr-1}
use Rattle.c_ast.specs.declared.typed.TypedStmtKind.TheBlock.{shape-the_row-TypedStmt-0, hidden-the_row-TypedStmt-0, shape-the_row-TypedStmt-1, hidden-the_row-TypedStmt-1}
use Rattle.c_ast.specs.declared.program.ProgExprKind.TheBlock.{shape-the_row-ProgExpr-0, hidden-the_row-ProgExpr-0, shape-the_row-ProgExpr-1, hidden-the_row-ProgExpr-1}
use Rattle.c_ast.specs.declared.program.ProgStmtKind.TheBlock.{shape-the_row-ProgStmt-0, hidden-the_row-ProgStmt-0, shape-the_row-ProgStmt-1, hidden-the_row-ProgStmt-1}
use Rattle.c_ast.specs.Nodes.{typed_nodes}
use Rattle.c_ast.specs.Programs.{StandsAt, CallsStandStmt, TypingProgram}
use Rattle.c_ast.specs.Typing.{Names, a_scalar, an_array, a_helper, sort_of, scope_of, with_name, IsUsable, TypingParams, TypingExpr, TypingList, Typing}
use Rattle.c_ast.specs.Casts.{Casts}
use Rattle.c_calls.specs.Inlined.{Inlined}
use Rattle.c_calls.proofs.CastOnce.{cast_program}
use Rattle.c_meaning.proofs.Elaboration.{cast_tree}
use Rattle.c_meaning.proofs.Existence.{tree_casts}
use Rattle.kernel_bench.specs.Histogram.{hist_params, place_expr, for_stmt, hist_tree, hist_program, hist}

-- a name that stands for a scalar is used without an index, one that stands for an array of one dimension with one
scalar_usable : (names : Names) (x : List ℕ) → sort_of names x ≡ Some a_scalar → IsUsable names x 0
scalar_usable names x h = record {
  rule_20_declared = subst IsSome (sym h) refl;
  rule_22_scalar_has_none = λ e. refl;
  rule_23_array_has_some = λ n e. absurd (no_array n (sym h ∙ e));
  rule_24_one_for_each = λ n e some. absurd (no_array n (sym h ∙ e));
  rule_23_no_helper = λ n e. no_helper n (sym h ∙ e);
}
  where
    no_array : (n : ℕ) → Some a_scalar ≡ Some (an_array n) → ⊥
    no_array n e = cc

    no_helper : (n : ℕ) → Some a_scalar ≡ Some (a_helper n) → ⊥
    no_helper n e = cc

array_usable : (names : Names) (x : List ℕ) → sort_of names x ≡ Some (an_array 1) → IsUsable names x 1
array_usable names x h = record {
  rule_20_declared = subst IsSome (sym h) refl;
  rule_22_scalar_has_none = λ e. absurd (no_scalar (sym h ∙ e));
  rule_23_array_has_some = λ n e. omega arith;
  rule_24_one_for_each = λ n e some. one n (sym h ∙ e);
  rule_23_no_helper = λ n e. no_helper n (sym h ∙ e);
}
  where
    no_scalar : Some (an_array 1) ≡ Some a_scalar → ⊥
    no_scalar e = cc

    one : (n : ℕ) → Some (an_array 1) ≡ Some (an_array n) → 1 ≡ n
    one n e = cc

    no_helper : (n : ℕ) → Some (an_array 1) ≡ Some (a_helper n) → ⊥
    no_helper n e = cc

-- ---- in whatever scopes outside of the kernel's

module _ (outer : Names) where
  -- the names in the loop's scope, and in its body's
  abbrev in_loop : Names
  in_loop = with_name (codes "i") ([] ∷ scope_of hist_params [] ∷ outer)

  abbrev in_body : Names
  in_body = [] ∷ in_loop

  body_keeps : TypingList (for_stmt ∷ []) None false (scope_of hist_params [] ∷ outer)
  unfolding shape-the_row-Expr-0 hidden-the_row-Expr-0 shape-the_row-Expr-1 hidden-the_row-Expr-1 shape-the_row-Stmt-0 hidden-the_row-Stmt-0 shape-the_row-Stmt-1 hidden-the_row-Stmt-1 hidden
  body_keeps = (
    (
      ((refl, tt), tt),
      (scalar_usable in_loop (codes "i") refl, scalar_usable in_loop (codes "n") refl),
      (scalar_usable ([] ∷ in_loop) (codes "i") refl, All-nil (TypingExpr ([] ∷ in_loop))),
      (
        (array_usable in_body (codes "h") refl, All-cons (TypingExpr in_body) place_expr [] (array_usable in_body (codes "x") refl, (scalar_usable in_body (codes "i") refl, tt)) (All-nil (TypingExpr in_body))),
        (array_usable in_body (codes "w") refl, (scalar_usable in_body (codes "i") refl, tt)),
      ),
    ),
    tt,
  )

params_keep : TypingParams hist_params [] 0
params_keep = (
  record { rule_21_new = refl; rule_24_dimensions = omega arith; rule_25_no_zero = All-nil (λ d. 0 < d); rule_25_elements = omega arith },
  (
    record { rule_21_new = refl; rule_24_dimensions = omega arith; rule_25_no_zero = All-cons (λ d. 0 < d) 1024 [] (omega arith) (All-nil (λ d. 0 < d)); rule_25_elements = omega arith },
    (
      record { rule_21_new = refl; rule_24_dimensions = omega arith; rule_25_no_zero = All-cons (λ d. 0 < d) 1024 [] (omega arith) (All-nil (λ d. 0 < d)); rule_25_elements = omega arith },
      (record { rule_21_new = refl; rule_24_dimensions = omega arith; rule_25_no_zero = All-cons (λ d. 0 < d) 64 [] (omega arith) (All-nil (λ d. 0 < d)); rule_25_elements = omega arith }, tt),
    ),
  ),
)

-- ---- the tree by itself, of which its number of nodes is known

typing : Typing hist_tree
typing = record { params_keep = params_keep; body_keeps = body_keeps [] }

cast_is : cast_tree hist_tree ≡ hist
unfolding shape-the_row-Expr-0 hidden-the_row-Expr-0 shape-the_row-Expr-1 hidden-the_row-Expr-1 shape-the_row-Stmt-0 hidden-the_row-Stmt-0 shape-the_row-Stmt-1 hidden-the_row-Stmt-1 shape-the_row-TypedExpr-0 hidden-the_row-TypedExpr-0 shape-the_row-TypedExpr-1 hidden-the_row-TypedExpr-1 shape-the_row-TypedStmt-0 hidden-the_row-TypedStmt-0 shape-the_row-TypedStmt-1 hidden-the_row-TypedStmt-1 hidden
cast_is = refl

pub casts : Casts hist_tree hist
casts = subst (Casts hist_tree) cast_is (tree_casts hist_tree typing)

-- ---- the program

-- there is no call
calls_stand : CallsStandStmt for_stmt.kind
unfolding shape-the_row-Expr-0 hidden-the_row-Expr-0 shape-the_row-Expr-1 hidden-the_row-Expr-1 shape-the_row-Stmt-0 hidden-the_row-Stmt-0 shape-the_row-Stmt-1 hidden-the_row-Stmt-1 hidden
calls_stand = ((tt, tt), (tt, tt), All-nil (StandsAt true), (All-cons (StandsAt true) place_expr [] (tt, tt) (All-nil (StandsAt true)), (tt, tt)))

pub program_typing : TypingProgram hist_program
program_typing = record {
  helpers_keep = tt;
  rule_21_new = refl;
  params_keep = params_keep;
  body_keeps = body_keeps ([] ∷ []);
  rule_28 = All-cons (λ s. CallsStandStmt s.kind) for_stmt [] calls_stand (All-nil (λ s. CallsStandStmt s.kind));
}

pub inlined_is : Inlined (cast_program hist_program) hist
unfolding shape-the_row-Expr-0 hidden-the_row-Expr-0 shape-the_row-Expr-1 hidden-the_row-Expr-1 shape-the_row-Stmt-0 hidden-the_row-Stmt-0 shape-the_row-Stmt-1 hidden-the_row-Stmt-1 shape-the_row-TypedExpr-0 hidden-the_row-TypedExpr-0 shape-the_row-TypedExpr-1 hidden-the_row-TypedExpr-1 shape-the_row-TypedStmt-0 hidden-the_row-TypedStmt-0 shape-the_row-TypedStmt-1 hidden-the_row-TypedStmt-1 shape-the_row-ProgExpr-0 hidden-the_row-ProgExpr-0 shape-the_row-ProgExpr-1 hidden-the_row-ProgExpr-1 shape-the_row-ProgStmt-0 hidden-the_row-ProgStmt-0 shape-the_row-ProgStmt-1 hidden-the_row-ProgStmt-1 hidden
inlined_is = refl

pub nodes : typed_nodes hist ≡ 23
unfolding shape-the_row-TypedExpr-0 hidden-the_row-TypedExpr-0 shape-the_row-TypedExpr-1 hidden-the_row-TypedExpr-1 shape-the_row-TypedStmt-0 hidden-the_row-TypedStmt-0 shape-the_row-TypedStmt-1 hidden-the_row-TypedStmt-1 hidden
nodes = refl
