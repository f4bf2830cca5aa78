-- The faults of a worked kernel: void f(int32_t a, int32_t a) { b = a[0]; }
use Rattle.std.proofs.Common.{◌≡◌, ℕ, ◌+◌, [], ◌∷◌, None, Some, refl}
use denote.Hole.Carrier.{hidden}
use Rattle.el_base.specs.declared.span.Span.{Span}
use Rattle.el_base.specs.declared.ty.Ty.TheVariants.{I32}
use Rattle.c_ast.specs.declared.tree.ExprKind.TheVariants as expr
use Rattle.c_ast.specs.declared.tree.ExprKind.TheBlock.{shape-the_row-Expr-0, hidden-the_row-Expr-0, shape-the_row-Expr-1, hidden-the_row-Expr-1}
use Rattle.c_ast.specs.declared.tree.StmtKind.TheVariants as stmt
use Rattle.c_ast.specs.declared.tree.Expr.{Expr}
use Rattle.c_ast.specs.declared.tree.Stmt.{Stmt}
use Rattle.c_ast.specs.declared.tree.Target.{Target}
use Rattle.c_ast.specs.declared.tree.Param.{Param}
use Rattle.c_ast.specs.declared.tree.Tree.{Tree}
use Rattle.c_types.specs.declared.fault.Rule.TheVariants as rule
use Rattle.c_types.specs.Places.{fault, first_of}
use Rattle.c_types.specs.Faults.{tree_faults}

-- so many bytes of the first line
abbrev place : ℕ → ℕ → Span
place start long = record { start = start; end = start + long; line = 1; column = start + 1 }

abbrev zero_at : Expr
zero_at = record { kind = expr.Number 0 I32; at = place 37 1 }

abbrev element : Expr
element = record { kind = expr.Element (97 ∷ []) (zero_at ∷ []); at = place 35 4 }

abbrev to_b : Target
to_b = record { name = 98 ∷ []; at = place 31 1; indices = [] }

abbrev assignment : Stmt
assignment = record { kind = stmt.Assign to_b None element; at = place 31 8 }

abbrev param : ℕ → Param
param start = record { name = 97 ∷ []; at = place start 1; ty = I32; dims = [] }

abbrev kernel : Tree
kernel = record { name = 102 ∷ []; at = place 5 1; result = None; params = param 15 ∷ param 26 ∷ []; body = assignment ∷ [] }

-- the second a is declared again, b is not declared, and a is no array
three_faults : tree_faults kernel ≡ fault rule.Redeclared (place 26 1) ∷ fault rule.Undeclared (place 31 1) ∷ fault rule.NotArray (place 35 1) ∷ []
unfolding shape-the_row-Expr-0 hidden-the_row-Expr-0 shape-the_row-Expr-1 hidden-the_row-Expr-1 hidden
three_faults = refl

first_fault : first_of (tree_faults kernel) ≡ Some (fault rule.Redeclared (place 26 1))
unfolding shape-the_row-Expr-0 hidden-the_row-Expr-0 shape-the_row-Expr-1 hidden-the_row-Expr-1 hidden
first_fault = refl
