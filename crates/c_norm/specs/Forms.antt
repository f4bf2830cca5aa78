-- The normal form of a kernel, as a function of its typed tree: each statement becomes a list of statements, and each part of if and of a loop a block.
use Rattle.std.specs.Prelude.{ℕ, ◌+◌, List, [], ◌∷◌, ◌++◌, length, Bool, false, Option, Some, None}
use mathlib.Core.Former.{Count}
use Rattle.el_base.specs.declared.span.Span.{Span}
use Rattle.el_base.specs.declared.ty.Ty.{Ty}
use Rattle.el_base.specs.declared.ty.Ty.TheVariants.{I32}
use Rattle.c_ast.specs.declared.tree.Binary.{Binary as BinaryOp}
use Rattle.c_ast.specs.declared.typed.Object.{Object}
use Rattle.c_ast.specs.declared.typed.Object.TheVariants as object
use Rattle.c_ast.specs.declared.typed.TypedTarget.{TypedTarget}
use Rattle.c_ast.specs.declared.typed.TypedExpr.{TypedExpr}
use Rattle.c_ast.specs.declared.typed.TypedExprKind.{TypedExprKind}
use Rattle.c_ast.specs.declared.typed.TypedExprKind.TheVariants as expr
use Rattle.c_ast.specs.declared.typed.TypedStmt.{TypedStmt}
use Rattle.c_ast.specs.declared.typed.TypedStmtKind.{TypedStmtKind, Row_of-TypedStmt, end_of-TypedStmt, more_of-TypedStmt, Held-TypedStmtKind-If-2}
use Rattle.c_ast.specs.declared.typed.TypedStmtKind as act
use Rattle.c_ast.specs.declared.normal.NormalStmt.{NormalStmt}
use Rattle.c_ast.specs.declared.normal.NormalStmtKind.{NormalStmtKind}
use Rattle.c_ast.specs.declared.normal.NormalStmtKind.TheVariants as normal
use Rattle.c_ast.specs.Casts.{of_type}
use Rattle.c_ast.specs.ResultTypes.{joint_type, result_type}
use Rattle.c_meaning.specs.Stores.{Objects}
use Rattle.c_meaning.specs.Statements.{object_type, step_operator}
use Rattle.c_norm.specs.Expand.{Out, Outs, whole, decided_by, expand_expr, rest_of, expand_all, set_all}

-- the statements that one is made of, and the types of the variables that are made for them
pub record Made : Type 0 where
  pub stmts : List NormalStmt
  pub types : List Ty

abbrev pub normal_at : NormalStmtKind → Span → NormalStmt
normal_at kind s = record { kind = kind; at = s }

-- what is set first, and one statement
abbrev pub made : List NormalStmt → NormalStmtKind → Span → List Ty → Made
made before kind s types = record { stmts = before ++ normal_at kind s ∷ []; types = types }

-- a part of if, the body of a loop or the step of a for is a block
abbrev pub block_of : Made → Span → NormalStmt
block_of m s = normal_at (normal.Block m.stmts) s

-- what may be absent
abbrev pub optional : ℕ → Option TypedExpr → Out
optional f None = whole (expr.Number 0)
optional f (Some e) = expand_expr f e

abbrev pub rest_if_any : Out → Option TypedExpr → Option TypedExpr
rest_if_any o None = None
rest_if_any o (Some e) = Some (rest_of o e)

-- ---- assignments

-- an object as an expression
abbrev pub object_kind : Object → List TypedExpr → TypedExprKind
object_kind (object.Var v) indices = expr.Var v
object_kind (object.Array a) indices = expr.Element a indices

-- a conversion that is written
abbrev pub cast_to : Ty → TypedExpr → TypedExpr
cast_to t e = of_type (expr.Cast false e) t e.at

-- The new value of an object of type t: the old one and a value are joined in the type j, and the result is converted. An operator that needs not both operands is none of an assignment: it is undefined there, and 0 is assigned.
abbrev pub new_value : Option Bool → BinaryOp → Ty → Ty → TypedExpr → TypedExpr → Span → TypedExpr
new_value None op t j old e s = cast_to t (of_type (expr.Binary op (cast_to j old) e) (result_type op j) s)
new_value (Some d) op t j old e s = of_type (expr.Number 0) t s

abbrev pub target_with : TypedTarget → List TypedExpr → TypedTarget
target_with target indices = record { to = target.to; at = target.at; indices = indices }

-- target op= value: each index is set to a variable first, so that it is evaluated once; o is the value's expansion
abbrev pub compound : Outs → TypedTarget → BinaryOp → Ty → Ty → Out → TypedExpr → Span → Made
compound i target op t j o e s =
    made (i.before ++ o.before) (normal.Assign (target_with target i.exprs) (new_value (decided_by op) op t j (of_type (object_kind target.to i.exprs) t target.at) (rest_of o e) s)) s (i.types ++ o.types)

abbrev pub assignment_form : Objects → ℕ → TypedTarget → Option BinaryOp → TypedExpr → Span → Made
assignment_form k f target None e s =
    let i = expand_all f target.indices in
    let o = expand_expr (f + length i.types) e in
    made (i.before ++ o.before) (normal.Assign (target_with target i.exprs) (rest_of o e)) s (i.types ++ o.types)
assignment_form k f target (Some op) e s =
    let i = set_all f target.indices in
    let t = object_type k target.to in
    compound i target op t (joint_type op t e.ty) (expand_expr (f + length i.types) e) e s

-- target++ and target-- are target += 1 and target -= 1, with the 1 in the joint type
abbrev pub step_form : Objects → ℕ → TypedTarget → BinaryOp → Span → Made
step_form k f target op s =
    let t = object_type k target.to in
    let j = joint_type op t I32 in
    compound (set_all f target.indices) target op t j (whole (expr.Number 1)) (of_type (expr.Number 1) j s) s

-- ---- statements

pub record MadeIfAny : Type 0 where
  pub stmt : Option NormalStmt
  pub types : List Ty

abbrev mutual
  -- The variables that are made are numbered from f on.
  pub form_of : Objects → ℕ → TypedStmtKind → Span → Made
  form_of k f (act.Block' n row) s = let b = row_form k f row in record { stmts = normal_at (normal.Block b.stmts) s ∷ []; types = b.types }
  form_of k f (act.Declare v init) s = let o = optional f init in made o.before (normal.Declare v (rest_if_any o init)) s o.types
  form_of k f (act.Assign target op e) s = assignment_form k f target op e s
  form_of k f (act.Step target up) s = step_form k f target (step_operator up) s
  form_of k f (act.If' cond b (more_of-TypedStmt x at end_of-TypedStmt) no_part) s =
      let c = expand_expr f cond in
      let y = form_of k (f + length c.types) x at in
      let n = held_form k (f + length c.types + length y.types) no_part in
      record { stmts = normal_at (normal.If c.before (rest_of c cond) (block_of y at) n.stmt) s ∷ []; types = c.types ++ (y.types ++ n.types) }
  form_of k f (act.While' cond b (more_of-TypedStmt x at end_of-TypedStmt)) s =
      let c = expand_expr f cond in
      let y = form_of k (f + length c.types) x at in
      record { stmts = normal_at (normal.While c.before (rest_of c cond) (block_of y at)) s ∷ []; types = c.types ++ y.types }
  form_of k f (act.DoWhile' b (more_of-TypedStmt x at end_of-TypedStmt) cond) s =
      let y = form_of k f x at in
      let c = expand_expr (f + length y.types) cond in
      record { stmts = normal_at (normal.DoWhile (block_of y at) c.before (rest_of c cond)) s ∷ []; types = y.types ++ c.types }
  form_of k f (act.For' n first cond step b (more_of-TypedStmt x at end_of-TypedStmt)) s =
      let i = row_form k f first in
      let c = optional (f + length i.types) cond in
      let p = held_form k (f + length i.types + length c.types) step in
      let y = form_of k (f + length i.types + length c.types + length p.types) x at in
      record { stmts = normal_at (normal.For i.stmts c.before (rest_if_any c cond) p.stmt (block_of y at)) s ∷ []; types = i.types ++ (c.types ++ (p.types ++ y.types)) }
  form_of k f act.Break s = made [] normal.Break s []
  form_of k f act.Continue s = made [] normal.Continue s []
  form_of k f (act.Return e) s = let o = optional f e in made o.before (normal.Return (rest_if_any o e)) s o.types
  form_of k f act.Empty s = made [] normal.Empty s []

  pub held_form : Objects → ℕ → Held-TypedStmtKind-If-2 → MadeIfAny
  held_form k f act.None' = record { stmt = None; types = [] }
  held_form k f (act.Some' b (more_of-TypedStmt x at end_of-TypedStmt)) = let y = form_of k f x at in record { stmt = Some (block_of y at); types = y.types }

  pub row_form : Objects → ℕ → {n : Count} → Row_of-TypedStmt n → Made
  row_form k f end_of-TypedStmt = record { stmts = []; types = [] }
  row_form k f (more_of-TypedStmt x at row) =
      let y = form_of k f x at in
      let r = row_form k (f + length y.types) row in
      record { stmts = y.stmts ++ r.stmts; types = y.types ++ r.types }

abbrev pub all_forms : Objects → ℕ → List TypedStmt → Made
all_forms k f [] = record { stmts = []; types = [] }
all_forms k f (x ∷ xs) =
    let y = form_of k f x.kind x.at in
    let r = all_forms k (f + length y.types) xs in
    record { stmts = y.stmts ++ r.stmts; types = y.types ++ r.types }
