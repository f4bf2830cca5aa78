-- Which rules a tree breaks, and where: for each rule the places at which it is broken. A name that is declared twice in one scope keeps its first declaration there.
use Rattle.std.specs.Prelude.{ℕ, ◌+◌, List, [], ◌∷◌, ◌++◌, length, Bool, true, false, ◌||◌, not, nat_lt, nat_eq, if◌then◌else◌, Option, Some, None}
use Rattle.std.specs.List.{list_any}
use mathlib.Core.Former.{Count}
use Rattle.el_base.specs.declared.span.Span.{Span}
use Rattle.el_base.specs.declared.ty.Ty.{Ty}
use Rattle.el_base.specs.Limits.{max_dimensions, max_elements}
use Rattle.c_ast.specs.declared.tree.Tree.{Tree}
use Rattle.c_ast.specs.declared.tree.Param.{Param}
use Rattle.c_ast.specs.declared.tree.Target.{Target}
use Rattle.c_ast.specs.declared.tree.Expr.{Expr}
use Rattle.c_ast.specs.declared.tree.ExprKind.{ExprKind, Row_of-Expr, end_of-Expr, more_of-Expr}
use Rattle.c_ast.specs.declared.tree.ExprKind as expr
use Rattle.c_ast.specs.declared.tree.Stmt.{Stmt}
use Rattle.c_ast.specs.declared.tree.StmtKind.{StmtKind, Row_of-Stmt, end_of-Stmt, more_of-Stmt, Held-StmtKind-If-2}
use Rattle.c_ast.specs.declared.tree.StmtKind as stmt
use Rattle.c_ast.specs.Typing.{row_length, elements_of}
use Rattle.c_types.specs.declared.fault.Rule.{Rule}
use Rattle.c_types.specs.declared.fault.Rule.TheVariants as rule
use Rattle.c_types.specs.declared.fault.Fault.{Fault}
use Rattle.c_types.specs.declared.sort.Sort.{Sort}
use Rattle.c_types.specs.declared.sort.Sort.TheVariants as sort
use Rattle.c_types.specs.Places.{fault, first_bytes}
use Rattle.c_types.specs.Scopes.{declared_in, is_new_in, with_entry}

-- the names of each scope in force, the innermost scope first
abbrev pub Sorts : Type 0
Sorts = List (List (List ℕ × Sort))

-- ---- expressions

-- the rule that a use with so many indices breaks, if any
abbrev pub broken_by_use : Option Sort → ℕ → Option Rule
broken_by_use None n = Some rule.Undeclared
broken_by_use (Some sort.Scalar) n = if nat_eq n 0 then None else Some rule.NotArray
broken_by_use (Some (sort.Array d)) n = if nat_eq n 0 then Some rule.NotScalar else if nat_eq n d then None else Some rule.Dimensions
broken_by_use (Some (sort.Helper d)) n = Some rule.NotScalar

-- the rule that a call with so many arguments breaks, if any
abbrev pub broken_by_call : Option Sort → ℕ → Option Rule
broken_by_call None n = Some rule.Undeclared
broken_by_call (Some sort.Scalar) n = Some rule.NotHelper
broken_by_call (Some (sort.Array d)) n = Some rule.NotHelper
broken_by_call (Some (sort.Helper d)) n = if nat_eq n d then None else Some rule.Arguments

-- a rule that may be broken at a place
abbrev pub if_broken : Option Rule → Span → List Fault
if_broken None s = []
if_broken (Some r) s = fault r s ∷ []

-- a name is used with so many indices in a place that begins with it
abbrev pub use_faults : Sorts → List ℕ → ℕ → Span → List Fault
use_faults names x n at = if_broken (broken_by_use (declared_in names x) n) (first_bytes (length x) at)

abbrev pub call_faults : Sorts → List ℕ → ℕ → Span → List Fault
call_faults names x n at = if_broken (broken_by_call (declared_in names x) n) (first_bytes (length x) at)

abbrev mutual
  pub kind_faults : Sorts → ExprKind → Span → List Fault
  kind_faults names (expr.Number n t) at = []
  kind_faults names (expr.Name x) at = use_faults names x 0 at
  kind_faults names (expr.Element' x n row) at = use_faults names x (row_length row) at ++ row_faults names row
  kind_faults names (expr.Call' x n row) at = call_faults names x (row_length row) at ++ row_faults names row
  kind_faults names (expr.Unary' op b (more_of-Expr e s end_of-Expr)) at = kind_faults names e s
  kind_faults names (expr.Cast' t b (more_of-Expr e s end_of-Expr)) at = kind_faults names e s
  kind_faults names (expr.Binary' op b (more_of-Expr e s end_of-Expr) b2 (more_of-Expr e2 s2 end_of-Expr)) at = kind_faults names e s ++ kind_faults names e2 s2
  kind_faults names (expr.Choose' b (more_of-Expr e s end_of-Expr) b2 (more_of-Expr e2 s2 end_of-Expr) b3 (more_of-Expr e3 s3 end_of-Expr)) at =
      kind_faults names e s ++ (kind_faults names e2 s2 ++ kind_faults names e3 s3)

  pub row_faults : Sorts → {n : Count} → Row_of-Expr n → List Fault
  row_faults names end_of-Expr = []
  row_faults names (more_of-Expr e at row) = kind_faults names e at ++ row_faults names row

abbrev pub expr_faults : Sorts → Expr → List Fault
expr_faults names e = kind_faults names e.kind e.at

abbrev pub exprs_faults : Sorts → List Expr → List Fault
exprs_faults names [] = []
exprs_faults names (e ∷ es) = expr_faults names e ++ exprs_faults names es

abbrev pub option_faults : Sorts → Option Expr → List Fault
option_faults names None = []
option_faults names (Some e) = expr_faults names e

abbrev pub target_faults : Sorts → Target → List Fault
target_faults names t = use_faults names t.name (length t.indices) t.at ++ exprs_faults names t.indices

-- ---- statements

-- a rule that is broken at a place unless a condition holds
abbrev pub unless : Bool → Rule → Span → List Fault
unless true r s = []
unless false r s = fault r s ∷ []

-- a value is returned exactly where there is a result; the fault is at the word `return`
abbrev pub is_returnable : Option Ty → Option Expr → Bool
is_returnable None None = true
is_returnable (Some t) (Some e) = true
is_returnable None (Some e) = false
is_returnable (Some t) None = false

-- the names in force after a statement, and after several
abbrev pub sorts_after : Sorts → StmtKind → Sorts
sorts_after names (stmt.Declare x t e) = with_entry x sort.Scalar names
sorts_after names s = names

abbrev pub sorts_after_row : {n : Count} → Sorts → Row_of-Stmt n → Sorts
sorts_after_row names end_of-Stmt = names
sorts_after_row names (more_of-Stmt s at row) = sorts_after_row (sorts_after names s) row

abbrev pub sorts_after_all : Sorts → List Stmt → Sorts
sorts_after_all names [] = names
sorts_after_all names (s ∷ ss) = sorts_after_all (sorts_after names s.kind) ss

abbrev mutual
  -- a statement of a kernel with a result, in a loop or not; each statement inside a statement has a scope of its own (6.8.4, 6.8.5)
  pub act_faults : StmtKind → Span → Option Ty → Bool → Sorts → List Fault
  act_faults (stmt.Block' n row) at r loop names = acts_faults row r loop ([] ∷ names)
  act_faults (stmt.Declare x t e) at r loop names = unless (is_new_in names x) rule.Redeclared at ++ option_faults (with_entry x sort.Scalar names) e
  act_faults (stmt.Assign target op e) at r loop names = target_faults names target ++ expr_faults names e
  act_faults (stmt.Step target up) at r loop names = target_faults names target
  act_faults (stmt.If' e b (more_of-Stmt s a end_of-Stmt) o) at r loop names = expr_faults names e ++ (act_faults s a r loop ([] ∷ names) ++ held_faults o r loop names)
  act_faults (stmt.While' e b (more_of-Stmt s a end_of-Stmt)) at r loop names = expr_faults names e ++ act_faults s a r true ([] ∷ names)
  act_faults (stmt.DoWhile' b (more_of-Stmt s a end_of-Stmt) e) at r loop names = act_faults s a r true ([] ∷ names) ++ expr_faults names e
  act_faults (stmt.For' n row e o b (more_of-Stmt s a end_of-Stmt)) at r loop names =
      acts_faults row r false ([] ∷ names) ++ (option_faults (sorts_after_row ([] ∷ names) row) e
      ++ (held_faults o r false (sorts_after_row ([] ∷ names) row) ++ act_faults s a r true ([] ∷ sorts_after_row ([] ∷ names) row)))
  act_faults stmt.Break at r loop names = unless loop rule.OutsideLoop at
  act_faults stmt.Continue at r loop names = unless loop rule.OutsideLoop at
  act_faults (stmt.Return e) at r loop names = unless (is_returnable r e) rule.ReturnKind (first_bytes 6 at) ++ option_faults names e
  act_faults stmt.Empty at r loop names = []

  pub held_faults : Held-StmtKind-If-2 → Option Ty → Bool → Sorts → List Fault
  held_faults stmt.None' r loop names = []
  held_faults (stmt.Some' b (more_of-Stmt s a end_of-Stmt)) r loop names = act_faults s a r loop ([] ∷ names)

  pub acts_faults : {n : Count} → Row_of-Stmt n → Option Ty → Bool → Sorts → List Fault
  acts_faults end_of-Stmt r loop names = []
  acts_faults (more_of-Stmt s at row) r loop names = act_faults s at r loop names ++ acts_faults row r loop (sorts_after names s)

abbrev pub stmt_faults : Stmt → Option Ty → Bool → Sorts → List Fault
stmt_faults s r loop names = act_faults s.kind s.at r loop names

-- a statement inside a statement, which may be absent
abbrev pub inner_faults : Option Stmt → Option Ty → Bool → Sorts → List Fault
inner_faults None r loop names = []
inner_faults (Some s) r loop names = stmt_faults s r loop ([] ∷ names)

-- statements one after another
abbrev pub stmts_faults : List Stmt → Option Ty → Bool → Sorts → List Fault
stmts_faults [] r loop names = []
stmts_faults (s ∷ ss) r loop names = stmt_faults s r loop names ++ stmts_faults ss r loop (sorts_after names s.kind)

-- ---- parameters and kernels

abbrev pub sort_of_dims : List ℕ → Sort
sort_of_dims [] = sort.Scalar
sort_of_dims (d ∷ ds) = sort.Array (length (d ∷ ds))

-- a parameter that is new or not, where the arrays up to it have so many elements
abbrev pub param_faults : Param → Bool → ℕ → List Fault
param_faults p new elements =
    unless new rule.Redeclared p.at ++ (unless (not (nat_lt max_dimensions (length p.dims))) rule.Dimensions p.at
    ++ unless (not (list_any (λ d. nat_eq d 0) p.dims || nat_lt max_elements elements)) rule.Length p.at)

-- parameters after others, which declare names and whose arrays have so many elements
abbrev pub params_faults : List Param → Sorts → ℕ → List Fault
params_faults [] names elements = []
params_faults (p ∷ ps) names elements =
    param_faults p (is_new_in names p.name) (elements + elements_of p.dims)
    ++ params_faults ps (with_entry p.name (sort_of_dims p.dims) names) (elements + elements_of p.dims)

abbrev pub sorts_after_params : Sorts → List Param → Sorts
sorts_after_params names [] = names
sorts_after_params names (p ∷ ps) = sorts_after_params (with_entry p.name (sort_of_dims p.dims) names) ps

-- parameters and statements that share a scope, which has begun
abbrev pub block_faults : Sorts → List Param → List Stmt → Option Ty → List Fault
block_faults names ps ss r = params_faults ps names 0 ++ stmts_faults ss r false (sorts_after_params names ps)

-- the names in force at their end
abbrev pub sorts_at_end : Sorts → List Param → List Stmt → Sorts
sorts_at_end names ps ss = sorts_after_all (sorts_after_params names ps) ss

-- all faults of a tree; its parameters share the scope of its block
abbrev pub tree_faults : Tree → List Fault
tree_faults tree = params_faults tree.params ([] ∷ []) 0 ++ stmts_faults tree.body tree.result false (sorts_after_params ([] ∷ []) tree.params)
