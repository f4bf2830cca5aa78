-- What the walk over a program asks and makes: words that the contracts of private functions cite, and no other.
use Rattle.std.specs.Prelude.{◌≡◌, ℕ, ◌+◌, ◌≤◌, List, [], ◌∷◌, ◌++◌, length, slice_get, take, Option, Some, None}
use mathlib.Core.Former.{Count}
use Rattle.el_base.specs.declared.span.Span.{Span}
use Rattle.el_base.specs.declared.ty.Ty.{Ty}
use Rattle.el_base.specs.Limits.{IsNumbered}
use Rattle.c_ast.specs.declared.typed.Object.{Object}
use Rattle.c_ast.specs.declared.typed.Object.TheVariants as object
use Rattle.c_ast.specs.declared.typed.TypedExpr.{TypedExpr}
use Rattle.c_ast.specs.declared.typed.TypedStmt.{TypedStmt}
use Rattle.c_ast.specs.Casts.{of_type, act_at}
use Rattle.c_ast.specs.declared.program.ProgExpr.{ProgExpr}
use Rattle.c_ast.specs.declared.program.ProgExprKind.{ProgExprKind, Row_of-ProgExpr, end_of-ProgExpr, more_of-ProgExpr}
use Rattle.c_ast.specs.declared.program.ProgExprKind as tree
use Rattle.c_ast.specs.declared.program.ProgTarget.{ProgTarget}
use Rattle.c_ast.specs.declared.program.ProgStmt.{ProgStmt}
use Rattle.c_ast.specs.declared.program.ProgStmtKind.{ProgStmtKind, Row_of-ProgStmt, end_of-ProgStmt, more_of-ProgStmt, Held-ProgStmtKind-If-2}
use Rattle.c_ast.specs.declared.program.ProgStmtKind as act
use Rattle.c_ast.specs.declared.program.TypedHelper.{TypedHelper}
use Rattle.c_calls.specs.Lawful.{row_length}
use Rattle.c_calls.specs.Inlined.{writing, Out, Outs, OutOption, OutStmt, OutStmts, OutHeld, Writing, Written, inline_of, inline_all, inline_option, inline_stmt, inline_list, writings, written_by}

-- ---- numbers that fit

-- no more arguments than the called helper has variables
abbrev pub FewArguments : Option TypedHelper → ℕ → Type 0
FewArguments None n = Unit {0}
FewArguments (Some h) n = n ≤ length h.vars

-- with b added, the number of each variable is one of a `u32`
abbrev mutual
  pub KindNumbers : List TypedHelper → ℕ → ProgExprKind → Type 0
  KindNumbers hs b (tree.Number n) = Unit {0}
  KindNumbers hs b (tree.Var v) = IsNumbered (b + v)
  KindNumbers hs b (tree.Element' a n row) = RowNumbers hs b row
  KindNumbers hs b (tree.Unary' op x (more_of-ProgExpr e t at end_of-ProgExpr)) = KindNumbers hs b e
  KindNumbers hs b (tree.Cast' implied x (more_of-ProgExpr e t at end_of-ProgExpr)) = KindNumbers hs b e
  KindNumbers hs b (tree.Binary' op x (more_of-ProgExpr e t at end_of-ProgExpr) x2 (more_of-ProgExpr e2 t2 at2 end_of-ProgExpr)) = KindNumbers hs b e × KindNumbers hs b e2
  KindNumbers hs b (tree.Choose' x (more_of-ProgExpr e t at end_of-ProgExpr) x2 (more_of-ProgExpr e2 t2 at2 end_of-ProgExpr) x3 (more_of-ProgExpr e3 t3 at3 end_of-ProgExpr)) =
      KindNumbers hs b e × KindNumbers hs b e2 × KindNumbers hs b e3
  KindNumbers hs b (tree.Call' h n row) = FewArguments (slice_get hs h) (row_length row) × RowNumbers hs b row

  pub RowNumbers : List TypedHelper → ℕ → {n : Count} → Row_of-ProgExpr n → Type 0
  RowNumbers hs b end_of-ProgExpr = Unit {0}
  RowNumbers hs b (more_of-ProgExpr e t at row) = KindNumbers hs b e × RowNumbers hs b row

abbrev pub ExprNumbers : List TypedHelper → ℕ → ProgExpr → Type 0
ExprNumbers hs b e = KindNumbers hs b e.kind

abbrev pub ExprsNumbers : List TypedHelper → ℕ → List ProgExpr → Type 0
ExprsNumbers hs b [] = Unit {0}
ExprsNumbers hs b (e ∷ es) = ExprNumbers hs b e × ExprsNumbers hs b es

abbrev pub OptionNumbers : List TypedHelper → ℕ → Option ProgExpr → Type 0
OptionNumbers hs b None = Unit {0}
OptionNumbers hs b (Some e) = ExprNumbers hs b e

abbrev pub ObjectNumbers : ℕ → Object → Type 0
ObjectNumbers b (object.Var v) = IsNumbered (b + v)
ObjectNumbers b (object.Array a) = Unit {0}

abbrev pub TargetNumbers : List TypedHelper → ℕ → ProgTarget → Type 0
TargetNumbers hs b target = ObjectNumbers b target.to × ExprsNumbers hs b target.indices

abbrev mutual
  pub ActNumbers : List TypedHelper → ℕ → ProgStmtKind → Type 0
  ActNumbers hs b (act.Block' n row) = ActsNumbers hs b row
  ActNumbers hs b (act.Declare v init) = IsNumbered (b + v) × OptionNumbers hs b init
  ActNumbers hs b (act.Assign target op e) = TargetNumbers hs b target × ExprNumbers hs b e
  ActNumbers hs b (act.Step target up) = TargetNumbers hs b target
  ActNumbers hs b (act.If' cond x (more_of-ProgStmt s at end_of-ProgStmt) o) = ExprNumbers hs b cond × ActNumbers hs b s × HeldActNumbers hs b o
  ActNumbers hs b (act.While' cond x (more_of-ProgStmt s at end_of-ProgStmt)) = ExprNumbers hs b cond × ActNumbers hs b s
  ActNumbers hs b (act.DoWhile' x (more_of-ProgStmt s at end_of-ProgStmt) cond) = ActNumbers hs b s × ExprNumbers hs b cond
  ActNumbers hs b (act.For' n first cond o x (more_of-ProgStmt s at end_of-ProgStmt)) = ActsNumbers hs b first × OptionNumbers hs b cond × HeldActNumbers hs b o × ActNumbers hs b s
  ActNumbers hs b act.Break = Unit {0}
  ActNumbers hs b act.Continue = Unit {0}
  ActNumbers hs b (act.Return e) = OptionNumbers hs b e
  ActNumbers hs b act.Empty = Unit {0}

  pub HeldActNumbers : List TypedHelper → ℕ → Held-ProgStmtKind-If-2 → Type 0
  HeldActNumbers hs b act.None' = Unit {0}
  HeldActNumbers hs b (act.Some' x (more_of-ProgStmt s at end_of-ProgStmt)) = ActNumbers hs b s

  pub ActsNumbers : List TypedHelper → ℕ → {n : Count} → Row_of-ProgStmt n → Type 0
  ActsNumbers hs b end_of-ProgStmt = Unit {0}
  ActsNumbers hs b (more_of-ProgStmt s at row) = ActNumbers hs b s × ActsNumbers hs b row

abbrev pub StmtNumbers : List TypedHelper → ℕ → ProgStmt → Type 0
StmtNumbers hs b s = ActNumbers hs b s.kind

abbrev pub StmtsNumbers : List TypedHelper → ℕ → List ProgStmt → Type 0
StmtsNumbers hs b [] = Unit {0}
StmtsNumbers hs b (s ∷ ss) = StmtNumbers hs b s × StmtsNumbers hs b ss

abbrev pub HeldNumbers : List TypedHelper → ℕ → Option ProgStmt → Type 0
HeldNumbers hs b None = Unit {0}
HeldNumbers hs b (Some s) = StmtNumbers hs b s

-- wherever the variables of a helper fit, so do those that it names
abbrev pub HelperNumbers : List TypedHelper → TypedHelper → Type 0
HelperNumbers hs h = (b : ℕ) → IsNumbered (b + length h.vars) → StmtsNumbers hs b h.body × ExprNumbers hs b h.value

-- each helper behind those before it
abbrev pub AllNumbers : List TypedHelper → Type 0
AllNumbers hs = (i : ℕ) (h : TypedHelper) → slice_get hs i ≡ Some h → HelperNumbers (take i hs) h

-- so many variables more may be numbered
abbrev pub HasRoom : List Ty → ℕ → Type 0
HasRoom vars more = IsNumbered (length vars + more)

-- ---- what is made of the parts of a program, behind these helpers

abbrev pub writings_of : List TypedHelper → List Writing
writings_of hs = writings [] hs

abbrev pub out_of : List TypedHelper → ℕ → ℕ → ProgExpr → Out
out_of hs b f e = inline_of (writings_of hs) b f e

abbrev pub outs_of : List TypedHelper → ℕ → ℕ → List ProgExpr → Outs
outs_of hs b f es = inline_all (writings_of hs) b f es

abbrev pub option_of : List TypedHelper → ℕ → ℕ → Option ProgExpr → OutOption
option_of hs b f e = inline_option (writings_of hs) b f e

abbrev pub call_of : List TypedHelper → ℕ → ℕ → ℕ → List ProgExpr → Span → Written
call_of hs b f h es s = let o = outs_of hs b f es in written_by (slice_get (writings_of hs) h) (f + length o.types) o.exprs s

abbrev pub stmt_of : List TypedHelper → ℕ → ℕ → ProgStmt → OutStmt
stmt_of hs b f s = inline_stmt (writings_of hs) b f s.kind s.at

abbrev pub stmts_of : List TypedHelper → ℕ → ℕ → List ProgStmt → OutStmts
stmts_of hs b f ss = inline_list (writings_of hs) b f ss

abbrev pub held_of : List TypedHelper → ℕ → ℕ → Option ProgStmt → OutHeld
held_of hs b f None = record { stmt = None; types = [] }
held_of hs b f (Some s) = let y = stmt_of hs b f s in record { stmt = Some (act_at y.kind s.at); types = y.types }

-- ---- what a part asks: helpers and numbers that fit, and room for what is made

pub record ExprFits (hs : List TypedHelper) (b : ℕ) (vars : List Ty) (e : ProgExpr) : Type 0 where
  pub helpers : AllNumbers hs
  pub numbers : ExprNumbers hs b e
  pub room : HasRoom vars (length (out_of hs b (length vars) e).types)

pub record ExprsFit (hs : List TypedHelper) (b : ℕ) (vars : List Ty) (es : List ProgExpr) : Type 0 where
  pub helpers : AllNumbers hs
  pub numbers : ExprsNumbers hs b es
  pub room : HasRoom vars (length (outs_of hs b (length vars) es).types)

pub record OptionFits (hs : List TypedHelper) (b : ℕ) (vars : List Ty) (e : Option ProgExpr) : Type 0 where
  pub helpers : AllNumbers hs
  pub numbers : OptionNumbers hs b e
  pub room : HasRoom vars (length (option_of hs b (length vars) e).types)

pub record CallFits (hs : List TypedHelper) (b : ℕ) (vars : List Ty) (h : ℕ) (es : List ProgExpr) (s : Span) : Type 0 where
  pub helpers : AllNumbers hs
  pub few : FewArguments (slice_get hs h) (length es)
  pub numbers : ExprsNumbers hs b es
  pub room : HasRoom vars (length (outs_of hs b (length vars) es).types + length (call_of hs b (length vars) h es s).types)

pub record HelperFits (hs : List TypedHelper) (vars : List Ty) (h : TypedHelper) (es : List TypedExpr) (s : Span) : Type 0 where
  pub helpers : AllNumbers hs
  pub numbers : HelperNumbers hs h
  pub args : length es ≤ length h.vars
  pub room : HasRoom vars (length (writing (writings_of hs) h (length vars) es s).types)

pub record StmtFits (hs : List TypedHelper) (b : ℕ) (vars : List Ty) (s : ProgStmt) : Type 0 where
  pub helpers : AllNumbers hs
  pub numbers : StmtNumbers hs b s
  pub room : HasRoom vars (length (stmt_of hs b (length vars) s).types)

pub record StmtsFit (hs : List TypedHelper) (b : ℕ) (vars : List Ty) (ss : List ProgStmt) : Type 0 where
  pub helpers : AllNumbers hs
  pub numbers : StmtsNumbers hs b ss
  pub room : HasRoom vars (length (stmts_of hs b (length vars) ss).types)

pub record HeldFits (hs : List TypedHelper) (b : ℕ) (vars : List Ty) (s : Option ProgStmt) : Type 0 where
  pub helpers : AllNumbers hs
  pub numbers : HeldNumbers hs b s
  pub room : HasRoom vars (length (held_of hs b (length vars) s).types)

-- ---- what was made: the blocks of calls stand behind those that stood there, and the types of new variables behind those that were there

-- x is what is left, with a type and a place
pub record IsOut (o : Out) (ty : Ty) (at : Span) (before : List TypedStmt) (vars : List Ty) (before2 : List TypedStmt) (vars2 : List Ty) (x : TypedExpr) : Type 0 where
  pub rest : x ≡ of_type o.kind ty at
  pub set : before2 ≡ before ++ o.before
  pub made : vars2 ≡ vars ++ o.types

-- x is what is left of e
abbrev pub Makes : List TypedHelper → ℕ → ProgExpr → List TypedStmt → List Ty → List TypedStmt → List Ty → TypedExpr → Type 0
Makes hs b e before vars before2 vars2 x = IsOut (out_of hs b (length vars) e) e.ty e.at before vars before2 vars2 x

pub record AreOut (o : Outs) (before : List TypedStmt) (vars : List Ty) (before2 : List TypedStmt) (vars2 : List Ty) (xs : List TypedExpr) : Type 0 where
  pub rest : xs ≡ o.exprs
  pub set : before2 ≡ before ++ o.before
  pub made : vars2 ≡ vars ++ o.types

pub record IsOption (o : OutOption) (before : List TypedStmt) (vars : List Ty) (before2 : List TypedStmt) (vars2 : List Ty) (r : Option TypedExpr) : Type 0 where
  pub rest : r ≡ o.expr
  pub set : before2 ≡ before ++ o.before
  pub made : vars2 ≡ vars ++ o.types

-- the block of a call was made, and v is its fresh variable
pub record IsWritten (w : Written) (before : List TypedStmt) (vars : List Ty) (before2 : List TypedStmt) (vars2 : List Ty) (v : ℕ) : Type 0 where
  pub rest : v ≡ w.fresh
  pub set : before2 ≡ before ++ w.block ∷ []
  pub made : vars2 ≡ vars ++ w.types

-- the same behind what its arguments were made of
pub record IsCall (o : Outs) (w : Written) (before : List TypedStmt) (vars : List Ty) (before2 : List TypedStmt) (vars2 : List Ty) (v : ℕ) : Type 0 where
  pub rest : v ≡ w.fresh
  pub set : before2 ≡ before ++ (o.before ++ w.block ∷ [])
  pub made : vars2 ≡ vars ++ (o.types ++ w.types)

-- some of several expressions are done, and left is what the others make
pub record GoesOn (left all : Outs) (before0 : List TypedStmt) (vars0 : List Ty) (before : List TypedStmt) (vars : List Ty) (xs : List TypedExpr) : Type 0 where
  pub rest : xs ++ left.exprs ≡ all.exprs
  pub set : before ++ left.before ≡ before0 ++ all.before
  pub made : vars ++ left.types ≡ vars0 ++ all.types

pub record IsStmt (o : OutStmt) (at : Span) (vars vars2 : List Ty) (x : TypedStmt) : Type 0 where
  pub rest : x ≡ act_at o.kind at
  pub made : vars2 ≡ vars ++ o.types

-- s becomes x
abbrev pub Becomes : List TypedHelper → ℕ → ProgStmt → List Ty → List Ty → TypedStmt → Type 0
Becomes hs b s vars vars2 x = IsStmt (stmt_of hs b (length vars) s) s.at vars vars2 x

pub record IsHeld (o : OutHeld) (vars vars2 : List Ty) (r : Option TypedStmt) : Type 0 where
  pub rest : r ≡ o.stmt
  pub made : vars2 ≡ vars ++ o.types

pub record AreStmts (o : OutStmts) (out : List TypedStmt) (vars : List Ty) (out2 : List TypedStmt) (vars2 : List Ty) : Type 0 where
  pub set : out2 ≡ out ++ o.stmts
  pub made : vars2 ≡ vars ++ o.types

pub record StmtsGoOn (left all : OutStmts) (out0 : List TypedStmt) (vars0 : List Ty) (out : List TypedStmt) (vars : List Ty) : Type 0 where
  pub set : out ++ left.stmts ≡ out0 ++ all.stmts
  pub made : vars ++ left.types ≡ vars0 ++ all.types
