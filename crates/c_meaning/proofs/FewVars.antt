-- A lawful tree has fewer variables than nodes: each is a parameter, or is declared or assigned by a statement of its own.
use Rattle.std.proofs.Common.{◌≡◌, ℕ, zero, suc, ◌+◌, ◌-◌, ◌<◌, ◌≤◌, ◌⊎◌, inl, inr, min, List, [], ◌∷◌, ◌++◌, length, arith}
use Rattle.std.specs.Prelude.{slice_index_or}
use Rattle.std.specs.List.{Contains}
use Rattle.std.proofs.lemmas.List.{length-append}
use Rattle.std.proofs.lemmas.List.Sums.{sum_by-cons}
use mathlib.Core.Former.{Count}
use Rattle.el_base.specs.declared.ty.Ty.{Ty}
use Rattle.c_ast.specs.declared.tree.Param.{Param}
use Rattle.c_ast.specs.declared.typed.Object.{Object}
use Rattle.c_ast.specs.declared.typed.Object.TheVariants as object
use Rattle.c_ast.specs.declared.typed.TypedStmt.{TypedStmt}
use Rattle.c_ast.specs.declared.typed.TypedStmtKind.{TypedStmtKind, Row_of-TypedStmt, end_of-TypedStmt, more_of-TypedStmt, Held-TypedStmtKind-If-2}
use Rattle.c_ast.specs.declared.typed.TypedStmtKind as act
use Rattle.c_ast.specs.declared.typed.Typed.{Typed}
use Rattle.c_ast.specs.Nodes.{param_nodes, params_nodes, act_nodes, held_act_nodes, acts_nodes, typed_stmt_nodes, typed_stmts_nodes, typed_nodes}
use Rattle.c_meaning.specs.Stores.{scalar_type, scalar_types}
use Rattle.c_meaning.specs.Lawful.{object_vars, stmt_vars_of, stmt_vars_held, stmt_vars_row, all_vars, Lawful}

-- ---- numbers of a list

-- how many numbers of a list are below n
below : ℕ → List ℕ → ℕ
below n [] = 0
below n (x ∷ xs) = min 1 (n - x) + below n xs

below-length : (n : ℕ) (xs : List ℕ) → below n xs ≤ length xs
unfolding below
below-length n [] = omega arith
below-length n (x ∷ xs) = omega (arith, below-length n xs)

below-more : (n : ℕ) (xs : List ℕ) → below n xs ≤ below (suc n) xs
unfolding below
below-more n [] = omega arith
below-more n (x ∷ xs) = omega (arith, below-more n xs)

below-found : (n : ℕ) (xs : List ℕ) (k : ℕ) → k < length xs → slice_index_or xs k n ≡ n → below n xs + 1 ≤ below (suc n) xs
unfolding below
below-found n [] k lt is = omega (arith, lt)
below-found n (x ∷ xs) zero lt is = omega (arith, is, below-more n xs)
below-found n (x ∷ xs) (suc k) lt is = omega (arith, below-found n xs k (omega (arith, lt)) is)

-- where each number below n is below s or in the list, the list has the rest
few_below : (n s : ℕ) (used : List ℕ) → ((v : ℕ) → v < n → (v < s) ⊎ Contains used v) → n ≤ s + below n used
unfolding below
few_below zero s used each = omega arith
few_below (suc n) s used each =
    elim (each n (omega arith)) [
      | inl lt ↦ omega (arith, lt)
      | inr found ↦ omega (arith, few_below n s used (λ v lt. each v (omega (arith, lt))), below-found n used found.0 found.1 found.2)
    ]

-- ---- statements

pub object_few : (o : Object) → length (object_vars o) ≤ 1
object_few (object.Var v) = omega arith
object_few (object.Array a) = omega arith

mutual
  stmt_few : (s : TypedStmtKind) → length (stmt_vars_of s) ≤ act_nodes s
  stmt_few (act.Block' n row) = omega (arith, row_few row)
  stmt_few (act.Declare v e) = omega arith
  stmt_few (act.Assign target op e) = omega (arith, object_few target.to)
  stmt_few (act.Step target up) = omega (arith, object_few target.to)
  stmt_few (act.If' e b (more_of-TypedStmt s at end_of-TypedStmt) o) = omega (arith, length-append (stmt_vars_of s) (stmt_vars_held o), stmt_few s, held_few o)
  stmt_few (act.While' e b (more_of-TypedStmt s at end_of-TypedStmt)) = omega (arith, stmt_few s)
  stmt_few (act.DoWhile' b (more_of-TypedStmt s at end_of-TypedStmt) e) = omega (arith, stmt_few s)
  stmt_few (act.For' n row e o b (more_of-TypedStmt s at end_of-TypedStmt)) =
      omega (arith, length-append (stmt_vars_row row ++ stmt_vars_held o) (stmt_vars_of s), length-append (stmt_vars_row row) (stmt_vars_held o), row_few row, held_few o, stmt_few s)
  stmt_few act.Break = omega arith
  stmt_few act.Continue = omega arith
  stmt_few (act.Return e) = omega arith
  stmt_few act.Empty = omega arith

  held_few : (o : Held-TypedStmtKind-If-2) → length (stmt_vars_held o) ≤ held_act_nodes o
  held_few act.None' = omega arith
  held_few (act.Some' b (more_of-TypedStmt s at end_of-TypedStmt)) = stmt_few s

  row_few : {n : Count} (row : Row_of-TypedStmt n) → length (stmt_vars_row row) ≤ acts_nodes row
  row_few end_of-TypedStmt = omega arith
  row_few (more_of-TypedStmt s at row) = omega (arith, length-append (stmt_vars_of s) (stmt_vars_row row), stmt_few s, row_few row)

all_few : (ss : List TypedStmt) → length (all_vars ss) ≤ typed_stmts_nodes ss
all_few [] = omega arith
all_few (s ∷ ss) = omega (arith, length-append (stmt_vars_of s.kind) (all_vars ss), sum_by-cons typed_stmt_nodes s ss, stmt_few s.kind, all_few ss)

scalar_one : (ds : List ℕ) (t : Ty) → length (scalar_type ds t) ≤ 1
scalar_one [] t = omega arith
scalar_one (d ∷ ds) t = omega arith

pub scalar_few : (ps : List Param) → length (scalar_types ps) ≤ params_nodes ps
scalar_few [] = omega arith
scalar_few (p ∷ ps) = omega (arith, length-append (scalar_type p.dims p.ty) (scalar_types ps), scalar_one p.dims p.ty, sum_by-cons param_nodes p ps, scalar_few ps)

pub few_vars : (k : Typed) → Lawful k → length k.vars + 2 ≤ typed_nodes k
few_vars k lawful =
    omega (arith, few_below (length k.vars) (length (scalar_types k.params)) (all_vars k.body) lawful.used, below-length (length k.vars) (all_vars k.body), all_few k.body, scalar_few k.params)
