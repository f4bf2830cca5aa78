-- The arrays that a kernel assigns to.
use Rattle.std.specs.Prelude.{ℕ, List, [], ◌∷◌, ◌++◌}
use Rattle.std.specs.List.{Contains, flat_map}
use mathlib.Core.Former.{Count}
use Rattle.c_ast.specs.declared.typed.Object.{Object}
use Rattle.c_ast.specs.declared.typed.Object.TheVariants as object
use Rattle.c_ast.specs.declared.typed.Typed.{Typed}
use Rattle.c_ast.specs.declared.typed.TypedStmt.{TypedStmt}
use Rattle.c_ast.specs.declared.typed.TypedStmtKind.{TypedStmtKind, Row_of-TypedStmt, end_of-TypedStmt, more_of-TypedStmt, Held-TypedStmtKind-If-2}
use Rattle.c_ast.specs.declared.typed.TypedStmtKind as tree

-- an element of an array is of that array, and a variable of none
abbrev pub array_of : Object → List ℕ
array_of (object.Var v) = []
array_of (object.Array a) = a ∷ []

-- of a statement and all its parts, of a for the step last: the array of each target of =, of an operator with =, of ++ and of --
abbrev mutual
  pub kind_targets : TypedStmtKind → List ℕ
  kind_targets (tree.Block' n row) = row_targets row
  kind_targets (tree.Declare v init) = []
  kind_targets (tree.Assign target op e) = array_of target.to
  kind_targets (tree.Step target up) = array_of target.to
  kind_targets (tree.If' cond b (more_of-TypedStmt s at end_of-TypedStmt) no_part) = kind_targets s ++ held_targets no_part
  kind_targets (tree.While' cond b (more_of-TypedStmt s at end_of-TypedStmt)) = kind_targets s
  kind_targets (tree.DoWhile' b (more_of-TypedStmt s at end_of-TypedStmt) cond) = kind_targets s
  kind_targets (tree.For' n first cond step b (more_of-TypedStmt s at end_of-TypedStmt)) = row_targets first ++ (kind_targets s ++ held_targets step)
  kind_targets tree.Break = []
  kind_targets tree.Continue = []
  kind_targets (tree.Return e) = []
  kind_targets tree.Empty = []

  pub held_targets : Held-TypedStmtKind-If-2 → List ℕ
  held_targets tree.None' = []
  held_targets (tree.Some' b (more_of-TypedStmt s at end_of-TypedStmt)) = kind_targets s

  pub row_targets : {n : Count} → Row_of-TypedStmt n → List ℕ
  row_targets end_of-TypedStmt = []
  row_targets (more_of-TypedStmt s at row) = kind_targets s ++ row_targets row

abbrev pub stmts_targets : List TypedStmt → List ℕ
stmts_targets ss = flat_map (λ (s : TypedStmt). kind_targets s.kind) ss

-- of a whole kernel
abbrev pub targets_of : Typed → List ℕ
targets_of k = stmts_targets k.body

-- some assignment of the kernel, also one with an operator, a ++ or a --, has an element of the array as its target
abbrev pub IsAssignedTo : Typed → ℕ → Type 0
IsAssignedTo k a = Contains (targets_of k) a
