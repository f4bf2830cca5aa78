-- The kernel without calls that a program becomes. A statement with calls in its own expressions becomes a block: one block for each call, inner calls before outer ones and else from left to right, and then the statement, with a fresh variable in the place of each call.
-- A call's block declares the parameters with the arguments as their values, holds the helper's statements, and last assigns the helper's value to the fresh variable, which is not declared.
-- Each call has variables of its own, numbered after the kernel's: those of its helper in their order, then the fresh one, then those of the calls in its block.
use Rattle.std.specs.Prelude.{ℕ, ◌+◌, List, [], ◌∷◌, ◌++◌, length, slice_get, Option, Some, None, ◌≡◌}
use mathlib.Core.Former.{Count}
use Rattle.el_base.specs.declared.ty.Ty.{Ty}
use Rattle.el_base.specs.declared.span.Span.{Span}
use Rattle.c_ast.specs.declared.typed.Object.{Object}
use Rattle.c_ast.specs.declared.typed.Object.TheVariants as object
use Rattle.c_ast.specs.declared.typed.Typed.{Typed}
use Rattle.c_ast.specs.declared.typed.TypedTarget.{TypedTarget}
use Rattle.c_ast.specs.declared.typed.TypedExpr.{TypedExpr}
use Rattle.c_ast.specs.declared.typed.TypedExprKind.{TypedExprKind}
use Rattle.c_ast.specs.declared.typed.TypedExprKind.TheVariants as expr
use Rattle.c_ast.specs.declared.typed.TypedStmt.{TypedStmt}
use Rattle.c_ast.specs.declared.typed.TypedStmtKind.{TypedStmtKind}
use Rattle.c_ast.specs.declared.typed.TypedStmtKind.TheVariants as stmt
use Rattle.c_ast.specs.Casts.{of_type, act_at}
use Rattle.c_ast.specs.declared.program.ProgExpr.{ProgExpr}
use Rattle.c_ast.specs.declared.program.ProgExprKind.{ProgExprKind, Row_of-ProgExpr, end_of-ProgExpr, more_of-ProgExpr}
use Rattle.c_ast.specs.declared.program.ProgExprKind as tree
use Rattle.c_ast.specs.declared.program.ProgTarget.{ProgTarget}
use Rattle.c_ast.specs.declared.program.ProgStmt.{ProgStmt}
use Rattle.c_ast.specs.declared.program.ProgStmtKind.{ProgStmtKind, Row_of-ProgStmt, end_of-ProgStmt, more_of-ProgStmt, Held-ProgStmtKind-If-2}
use Rattle.c_ast.specs.declared.program.ProgStmtKind as act
use Rattle.c_ast.specs.declared.program.TypedHelper.{TypedHelper}
use Rattle.c_ast.specs.declared.program.TypedProgram.{TypedProgram}

-- ---- what is made of an expression

-- the blocks of its calls, what is left of it, and the types of the variables that are made, in order
pub record Out : Type 0 where
  pub before : List TypedStmt
  pub kind : TypedExprKind
  pub types : List Ty

-- of several expressions
pub record Outs : Type 0 where
  pub before : List TypedStmt
  pub exprs : List TypedExpr
  pub types : List Ty

abbrev pub whole : TypedExprKind → Out
whole kind = record { before = []; kind = kind; types = [] }

-- the block of a call, its fresh variable, and the types of its variables
pub record Written : Type 0 where
  pub block : TypedStmt
  pub fresh : ℕ
  pub types : List Ty

-- how the calls of a helper are written, from a number of variables, arguments and a place
abbrev pub Writing : Type 0
Writing = ℕ → List TypedExpr → Span → Written

abbrev pub written_by : Option Writing → Writing
written_by None f es s = record { block = act_at stmt.Empty s; fresh = f; types = [] }
written_by (Some w) f es s = w f es s

abbrev pub with_call : Outs → Written → Out
with_call o w = record { before = o.before ++ w.block ∷ []; kind = expr.Var w.fresh; types = o.types ++ w.types }

-- Of the variables, those of the statement's own helper are numbered from b on, and those that are made from f on.
abbrev mutual
  pub inline_expr : List Writing → ℕ → ℕ → ProgExprKind → Span → Out
  inline_expr ws b f (tree.Number n) s = whole (expr.Number n)
  inline_expr ws b f (tree.Var v) s = whole (expr.Var (b + v))
  inline_expr ws b f (tree.Element' a n row) s = let o = inline_row ws b f row in record { before = o.before; kind = expr.Element a o.exprs; types = o.types }
  inline_expr ws b f (tree.Unary' op x (more_of-ProgExpr e t at end_of-ProgExpr)) s =
      let o = inline_expr ws b f e at in record { before = o.before; kind = expr.Unary op (of_type o.kind t at); types = o.types }
  inline_expr ws b f (tree.Cast' implied x (more_of-ProgExpr e t at end_of-ProgExpr)) s =
      let o = inline_expr ws b f e at in record { before = o.before; kind = expr.Cast implied (of_type o.kind t at); types = o.types }
  inline_expr ws b f (tree.Binary' op x (more_of-ProgExpr e t at end_of-ProgExpr) x2 (more_of-ProgExpr e2 t2 at2 end_of-ProgExpr)) s =
      let o = inline_expr ws b f e at in
      let o2 = inline_expr ws b (f + length o.types) e2 at2 in
      record { before = o.before ++ o2.before; kind = expr.Binary op (of_type o.kind t at) (of_type o2.kind t2 at2); types = o.types ++ o2.types }
  inline_expr ws b f (tree.Choose' x (more_of-ProgExpr e t at end_of-ProgExpr) x2 (more_of-ProgExpr e2 t2 at2 end_of-ProgExpr) x3 (more_of-ProgExpr e3 t3 at3 end_of-ProgExpr)) s =
      let o = inline_expr ws b f e at in
      let o2 = inline_expr ws b (f + length o.types) e2 at2 in
      let o3 = inline_expr ws b (f + length o.types + length o2.types) e3 at3 in
      record { before = o.before ++ (o2.before ++ o3.before); kind = expr.Choose (of_type o.kind t at) (of_type o2.kind t2 at2) (of_type o3.kind t3 at3); types = o.types ++ (o2.types ++ o3.types) }
  inline_expr ws b f (tree.Call' h n row) s =
      let o = inline_row ws b f row in
      with_call o (written_by (slice_get ws h) (f + length o.types) o.exprs s)

  pub inline_row : List Writing → ℕ → ℕ → {n : Count} → Row_of-ProgExpr n → Outs
  inline_row ws b f end_of-ProgExpr = record { before = []; exprs = []; types = [] }
  inline_row ws b f (more_of-ProgExpr e t at row) =
      let o = inline_expr ws b f e at in
      let r = inline_row ws b (f + length o.types) row in
      record { before = o.before ++ r.before; exprs = of_type o.kind t at ∷ r.exprs; types = o.types ++ r.types }

abbrev pub inline_of : List Writing → ℕ → ℕ → ProgExpr → Out
inline_of ws b f e = inline_expr ws b f e.kind e.at

abbrev pub rest_of : Out → ProgExpr → TypedExpr
rest_of o e = of_type o.kind e.ty e.at

-- the same of a list
abbrev pub inline_all : List Writing → ℕ → ℕ → List ProgExpr → Outs
inline_all ws b f [] = record { before = []; exprs = []; types = [] }
inline_all ws b f (e ∷ es) =
    let o = inline_of ws b f e in
    let r = inline_all ws b (f + length o.types) es in
    record { before = o.before ++ r.before; exprs = rest_of o e ∷ r.exprs; types = o.types ++ r.types }

-- what may be absent
pub record OutOption : Type 0 where
  pub before : List TypedStmt
  pub expr : Option TypedExpr
  pub types : List Ty

abbrev pub inline_option : List Writing → ℕ → ℕ → Option ProgExpr → OutOption
inline_option ws b f None = record { before = []; expr = None; types = [] }
inline_option ws b f (Some e) = let o = inline_of ws b f e in record { before = o.before; expr = Some (rest_of o e); types = o.types }

-- ---- what is made of a statement

-- the statement, and the types of the variables that are made
pub record OutStmt : Type 0 where
  pub kind : TypedStmtKind
  pub types : List Ty

pub record OutStmts : Type 0 where
  pub stmts : List TypedStmt
  pub types : List Ty

pub record OutHeld : Type 0 where
  pub stmt : Option TypedStmt
  pub types : List Ty

-- a statement behind the blocks of its calls, where there are any
abbrev pub behind : List TypedStmt → TypedStmtKind → Span → TypedStmtKind
behind [] kind s = kind
behind (c ∷ cs) kind s = stmt.Block ((c ∷ cs) ++ act_at kind s ∷ [])

abbrev pub moved : ℕ → Object → Object
moved b (object.Var v) = object.Var (b + v)
moved b (object.Array a) = object.Array a

abbrev pub target_to : ℕ → ProgTarget → List TypedExpr → TypedTarget
target_to b target es = record { to = moved b target.to; at = target.at; indices = es }

abbrev mutual
  pub inline_stmt : List Writing → ℕ → ℕ → ProgStmtKind → Span → OutStmt
  inline_stmt ws b f (act.Block' n row) s = let o = inline_stmts ws b f row in record { kind = stmt.Block o.stmts; types = o.types }
  inline_stmt ws b f (act.Declare v init) s = let o = inline_option ws b f init in record { kind = behind o.before (stmt.Declare (b + v) o.expr) s; types = o.types }
  inline_stmt ws b f (act.Assign target op e) s =
      let i = inline_all ws b f target.indices in
      let o = inline_of ws b (f + length i.types) e in
      record { kind = behind (i.before ++ o.before) (stmt.Assign (target_to b target i.exprs) op (rest_of o e)) s; types = i.types ++ o.types }
  inline_stmt ws b f (act.Step target up) s =
      let i = inline_all ws b f target.indices in
      record { kind = behind i.before (stmt.Step (target_to b target i.exprs) up) s; types = i.types }
  inline_stmt ws b f (act.If' cond x (more_of-ProgStmt a at end_of-ProgStmt) held) s =
      let o = inline_of ws b f cond in
      let y = inline_stmt ws b (f + length o.types) a at in
      let z = inline_held ws b (f + length o.types + length y.types) held in
      record { kind = behind o.before (stmt.If (rest_of o cond) (act_at y.kind at) z.stmt) s; types = o.types ++ (y.types ++ z.types) }
  -- no call stands in the condition of a loop
  inline_stmt ws b f (act.While' cond x (more_of-ProgStmt a at end_of-ProgStmt)) s =
      let o = inline_of ws b f cond in
      let y = inline_stmt ws b (f + length o.types) a at in
      record { kind = stmt.While (rest_of o cond) (act_at y.kind at); types = o.types ++ y.types }
  inline_stmt ws b f (act.DoWhile' x (more_of-ProgStmt a at end_of-ProgStmt) cond) s =
      let y = inline_stmt ws b f a at in
      let o = inline_of ws b (f + length y.types) cond in
      record { kind = stmt.DoWhile (act_at y.kind at) (rest_of o cond); types = y.types ++ o.types }
  inline_stmt ws b f (act.For' n first cond held x (more_of-ProgStmt a at end_of-ProgStmt)) s =
      let i = inline_stmts ws b f first in
      let o = inline_option ws b (f + length i.types) cond in
      let z = inline_held ws b (f + length i.types + length o.types) held in
      let y = inline_stmt ws b (f + length i.types + length o.types + length z.types) a at in
      record { kind = stmt.For i.stmts o.expr z.stmt (act_at y.kind at); types = i.types ++ (o.types ++ (z.types ++ y.types)) }
  inline_stmt ws b f act.Break s = record { kind = stmt.Break; types = [] }
  inline_stmt ws b f act.Continue s = record { kind = stmt.Continue; types = [] }
  inline_stmt ws b f (act.Return e) s = let o = inline_option ws b f e in record { kind = behind o.before (stmt.Return o.expr) s; types = o.types }
  inline_stmt ws b f act.Empty s = record { kind = stmt.Empty; types = [] }

  pub inline_held : List Writing → ℕ → ℕ → Held-ProgStmtKind-If-2 → OutHeld
  inline_held ws b f act.None' = record { stmt = None; types = [] }
  inline_held ws b f (act.Some' x (more_of-ProgStmt a at end_of-ProgStmt)) = let y = inline_stmt ws b f a at in record { stmt = Some (act_at y.kind at); types = y.types }

  pub inline_stmts : List Writing → ℕ → ℕ → {n : Count} → Row_of-ProgStmt n → OutStmts
  inline_stmts ws b f end_of-ProgStmt = record { stmts = []; types = [] }
  inline_stmts ws b f (more_of-ProgStmt a at row) =
      let y = inline_stmt ws b f a at in
      let r = inline_stmts ws b (f + length y.types) row in
      record { stmts = act_at y.kind at ∷ r.stmts; types = y.types ++ r.types }

abbrev pub inline_list : List Writing → ℕ → ℕ → List ProgStmt → OutStmts
inline_list ws b f [] = record { stmts = []; types = [] }
inline_list ws b f (a ∷ rest) =
    let y = inline_stmt ws b f a.kind a.at in
    let r = inline_list ws b (f + length y.types) rest in
    record { stmts = act_at y.kind a.at ∷ r.stmts; types = y.types ++ r.types }

-- ---- the block of a call

-- the parameters, with their arguments as values
abbrev pub declaring : ℕ → List TypedExpr → Span → List TypedStmt
declaring v [] s = []
declaring v (e ∷ es) s = act_at (stmt.Declare v (Some e)) s ∷ declaring (v + 1) es s

abbrev pub fresh_target : ℕ → Span → TypedTarget
fresh_target v s = record { to = object.Var v; at = s; indices = [] }

abbrev pub writing : List Writing → TypedHelper → Writing
writing ws h f es s =
    let v = f + length h.vars in
    let i = inline_list ws f (v + 1) h.body in
    let o = inline_of ws f (v + 1 + length i.types) h.value in
    record {
      block = act_at (stmt.Block (declaring f es s ++ (i.stmts ++ act_at (behind o.before (stmt.Assign (fresh_target v s) None (rest_of o h.value)) s) s ∷ []))) s;
      fresh = v;
      types = h.vars ++ h.result ∷ (i.types ++ o.types);
    }

abbrev pub writings : List Writing → List TypedHelper → List Writing
writings ws [] = ws
writings ws (h ∷ hs) = writings (ws ++ writing ws h ∷ []) hs

-- ---- programs

abbrev pub body_of : TypedProgram → OutStmts
body_of P = inline_list (writings [] P.helpers) 0 (length P.kernel.vars) P.kernel.body

abbrev pub inlined : TypedProgram → Typed
inlined P = record {
  name = P.kernel.name;
  at = P.kernel.at;
  result = P.kernel.result;
  params = P.kernel.params;
  vars = P.kernel.vars ++ (body_of P).types;
  arrays = P.kernel.arrays;
  body = (body_of P).stmts;
}

-- K is made of P
abbrev pub Inlined : TypedProgram → Typed → Type 0
Inlined P k = k ≡ inlined P
