-- Typed trees written by hand, all at one place, for worked kernels.
use Rattle.std.proofs.Common.{ℕ, List, [], Option}
use Rattle.std.specs.Prelude.{Bool, codes, ℤ}
use Rattle.el_base.specs.declared.span.Span.{Span}
use Rattle.el_base.specs.declared.ty.Ty.{Ty}
use Rattle.c_ast.specs.declared.tree.Param.{Param}
use Rattle.c_ast.specs.declared.tree.Binary.{Binary}
use Rattle.c_ast.specs.declared.typed.ArrayOf.{ArrayOf}
use Rattle.c_ast.specs.declared.typed.Object.TheVariants as object
use Rattle.c_ast.specs.declared.typed.TypedTarget.{TypedTarget}
use Rattle.c_ast.specs.declared.typed.TypedExpr.{TypedExpr}
use Rattle.c_ast.specs.declared.typed.TypedExprKind.{TypedExprKind}
use Rattle.c_ast.specs.declared.typed.TypedExprKind.TheVariants as expr
use Rattle.c_ast.specs.declared.typed.TypedStmt.{TypedStmt}
use Rattle.c_ast.specs.declared.typed.TypedStmtKind.{TypedStmtKind}
use Rattle.c_ast.specs.declared.typed.Typed.{Typed}
use Rattle.c_ast.specs.declared.tree.Unary.TheVariants.{Minus}
use Rattle.c_meaning.specs.Stores.{Inputs}

abbrev pub here : Span
here = record { start = 0; end = 0; line = 1; column = 1 }

abbrev pub of_kind : TypedExprKind → Ty → TypedExpr
of_kind k t = record { kind = k; ty = t; at = here }

abbrev pub number_of : Ty → ℕ → TypedExpr
number_of t n = of_kind (expr.Number n) t

abbrev pub var_of : Ty → ℕ → TypedExpr
var_of t v = of_kind (expr.Var v) t

abbrev pub element_of : Ty → ℕ → List TypedExpr → TypedExpr
element_of t a is = of_kind (expr.Element a is) t

abbrev pub two_of : Binary → Ty → TypedExpr → TypedExpr → TypedExpr
two_of op t a b = of_kind (expr.Binary op a b) t

abbrev pub cast_to : Ty → Bool → TypedExpr → TypedExpr
cast_to t implied a = of_kind (expr.Cast implied a) t

abbrev pub stmt_of : TypedStmtKind → TypedStmt
stmt_of k = record { kind = k; at = here }

abbrev pub to_var : ℕ → TypedTarget
to_var v = record { to = object.Var v; at = here; indices = [] }

abbrev pub to_element : ℕ → List TypedExpr → TypedTarget
to_element a is = record { to = object.Array a; at = here; indices = is }

abbrev pub scalar : Ty → Param
scalar t = record { name = codes "x"; at = here; ty = t; dims = [] }

abbrev pub array : Ty → List ℕ → Param
array t ds = record { name = codes "a"; at = here; ty = t; dims = ds }

abbrev pub array_of : Ty → List ℕ → ArrayOf
array_of t ds = record { name = codes "a"; ty = t; dims = ds }

-- arrays with names of their own
abbrev pub array_named : List ℕ → Ty → List ℕ → Param
array_named x t ds = record { name = x; at = here; ty = t; dims = ds }

abbrev pub array_of_named : List ℕ → Ty → List ℕ → ArrayOf
array_of_named x t ds = record { name = x; ty = t; dims = ds }

-- a kernel, with its result, parameters, variables, arrays and block
abbrev pub kernel : Option Ty → List Param → List Ty → List ArrayOf → List TypedStmt → Typed
kernel r ps vs as_of body = record { name = codes "f"; at = here; result = r; params = ps; vars = vs; arrays = as_of; body = body }

abbrev pub minus_of : Ty → TypedExpr → TypedExpr
minus_of t a = of_kind (expr.Unary Minus a) t

abbrev pub choose_of : Ty → TypedExpr → TypedExpr → TypedExpr → TypedExpr
choose_of t a b c = of_kind (expr.Choose a b c) t

abbrev pub inputs : List ℤ → List (List ℤ) → Inputs
inputs scalars arrays = record { scalars = scalars; arrays = arrays }
