-- What a kernel without helpers is cast to as a program, it is cast to as a tree.
use Rattle.std.proofs.Common.{◌≡◌, ℕ, Bool, true, false, List, [], length, Option, Some, None, refl, sym, ap, subst, ◌∙◌, if◌then◌else◌, arith}
use Rattle.std.specs.Prelude.{option_map}
use Rattle.el_base.specs.Limits.{IsNumbered}
use Rattle.el_base.specs.declared.span.Span.{Span}
use Rattle.el_base.specs.declared.ty.Ty.{Ty}
use Rattle.c_ast.specs.declared.tree.Unary.{Unary}
use Rattle.c_ast.specs.declared.tree.Binary.{Binary}
use Rattle.c_ast.specs.declared.tree.Target.{Target}
use Rattle.c_ast.specs.declared.tree.Expr.{Expr}
use Rattle.c_ast.specs.declared.tree.Stmt.{Stmt}
use Rattle.c_ast.specs.declared.tree.Helper.{Helper}
use Rattle.c_ast.specs.declared.tree.Tree.{Tree}
use Rattle.c_ast.specs.declared.program.ProgExpr.{ProgExpr, fold_out-ProgExpr}
use Rattle.c_ast.specs.declared.program.ProgExprKind.{ProgExprKind, fold-roll-ProgExprKind}
use Rattle.c_ast.specs.declared.program.ProgExprKind.TheVariants as prog
use Rattle.c_ast.specs.declared.program.ProgExprKind.TheOpen as layer
use Rattle.c_ast.specs.declared.program.ProgTarget.{ProgTarget}
use Rattle.c_ast.specs.declared.program.ProgStmt.{ProgStmt, fold_out-ProgStmt}
use Rattle.c_ast.specs.declared.program.ProgStmtKind.{ProgStmtKind, fold-roll-ProgStmtKind}
use Rattle.c_ast.specs.declared.program.ProgStmtKind.TheVariants as step
use Rattle.c_ast.specs.declared.program.ProgStmtKind.TheOpen as row
use Rattle.c_ast.specs.declared.program.ProgTree.{ProgTree}
use Rattle.c_ast.specs.declared.typed.Typed.{Typed}
use Rattle.c_ast.specs.declared.typed.TypedExpr.{TypedExpr}
use Rattle.c_ast.specs.declared.typed.TypedExprKind.{TypedExprKind}
use Rattle.c_ast.specs.declared.typed.TypedExprKind.TheVariants as typed
use Rattle.c_ast.specs.declared.typed.TypedStmt.{TypedStmt}
use Rattle.c_ast.specs.declared.typed.TypedStmtKind.{TypedStmtKind}
use Rattle.c_ast.specs.declared.typed.TypedStmtKind.TheVariants as act
use Rattle.c_ast.specs.Nodes.{tree_nodes}
use Rattle.c_ast.specs.Typing.{Typing}
use Rattle.c_ast.specs.ResultTypes.{promoted, usual, joint_type, result_type, unary_type}
use Rattle.c_ast.specs.Casts.{Context, of_type, same_type, converted, left_type, right_type, assigned_type, act_at, CastsExpr, CastsExprs, CastsTarget, CastsOption, CastsStmt, CastsHeld, CastsStmts, Casts}
use Rattle.c_ast.specs.Casts as one
use Rattle.c_ast.specs.ProgramCasts.{Known, prog_of, prog_converted, prog_at, CastsCallExpr, CastsCallExprs, CastsCallTarget, CastsCallOption, CastsCallStmt, CastsCallHeld, CastsCallStmts}
use Rattle.c_ast.specs.ProgramCasts as rule
use Rattle.c_types.specs.Laws.{alone}
use Rattle.c_types.specs.TypedParts.{expr_step, typed_kind, typed_expr, typed_exprs, typed_target, stmt_step, typed_act, typed_stmt, typed_stmts}
use Rattle.c_types.specs.ProgramContexts.{IsProgKernel}
use Rattle.c_types.specs.ProgramParts.{TypingKernelWith}
use Rattle.c_types.proofs.AloneKernels.{alone_keeps}
use Rattle.c_types.proofs.ProgramHelpers.{kernel_here}

-- ---- expressions, by their parts

pub whole : (e : ProgExpr) → typed_expr e ≡ of_type (typed_kind e.kind) e.ty e.at
whole e = fold_out-ProgExpr TypedExprKind TypedExpr expr_step (λ e. of_type e.kind e.ty e.at) e

of_kind : (k l : ProgExprKind) (m : TypedExprKind) (t : Ty) (s : Span) → l ≡ k → typed_kind l ≡ m → typed_expr (prog_of k t s) ≡ of_type m t s
of_kind k l m t s same is = whole (prog_of k t s) ∙ ap (λ k. of_type (typed_kind k) t s) (sym same) ∙ ap (λ m. of_type m t s) is

pub at_number : (n : ℕ) (t : Ty) (s : Span) → typed_expr (prog_of (prog.Number n) t s) ≡ of_type (typed.Number n) t s
at_number n t s = of_kind (prog.Number n) _ _ t s (prog.rolls-Number n) (fold-roll-ProgExprKind TypedExprKind TypedExpr expr_step (λ e. of_type e.kind e.ty e.at) (layer.Number n))

pub at_var : (v : ℕ) (t : Ty) (s : Span) → typed_expr (prog_of (prog.Var v) t s) ≡ of_type (typed.Var v) t s
at_var v t s = of_kind (prog.Var v) _ _ t s (prog.rolls-Var v) (fold-roll-ProgExprKind TypedExprKind TypedExpr expr_step (λ e. of_type e.kind e.ty e.at) (layer.Var v))

pub at_element : (a : ℕ) (es : List ProgExpr) (t : Ty) (s : Span) → typed_expr (prog_of (prog.Element a es) t s) ≡ of_type (typed.Element a (typed_exprs es)) t s
at_element a es t s = of_kind (prog.Element a es) _ _ t s (prog.rolls-Element a es) (fold-roll-ProgExprKind TypedExprKind TypedExpr expr_step (λ e. of_type e.kind e.ty e.at) (layer.Element a es))

pub at_unary : (op : Unary) (e : ProgExpr) (t : Ty) (s : Span) → typed_expr (prog_of (prog.Unary op e) t s) ≡ of_type (typed.Unary op (typed_expr e)) t s
at_unary op e t s = of_kind (prog.Unary op e) _ _ t s (prog.rolls-Unary op e) (fold-roll-ProgExprKind TypedExprKind TypedExpr expr_step (λ e. of_type e.kind e.ty e.at) (layer.Unary op e))

pub at_cast : (b : Bool) (e : ProgExpr) (t : Ty) (s : Span) → typed_expr (prog_of (prog.Cast b e) t s) ≡ of_type (typed.Cast b (typed_expr e)) t s
at_cast b e t s = of_kind (prog.Cast b e) _ _ t s (prog.rolls-Cast b e) (fold-roll-ProgExprKind TypedExprKind TypedExpr expr_step (λ e. of_type e.kind e.ty e.at) (layer.Cast b e))

pub at_binary : (op : Binary) (a b : ProgExpr) (t : Ty) (s : Span) → typed_expr (prog_of (prog.Binary op a b) t s) ≡ of_type (typed.Binary op (typed_expr a) (typed_expr b)) t s
at_binary op a b t s = of_kind (prog.Binary op a b) _ _ t s (prog.rolls-Binary op a b) (fold-roll-ProgExprKind TypedExprKind TypedExpr expr_step (λ e. of_type e.kind e.ty e.at) (layer.Binary op a b))

pub at_choice : (c a b : ProgExpr) (t : Ty) (s : Span) → typed_expr (prog_of (prog.Choose c a b) t s) ≡ of_type (typed.Choose (typed_expr c) (typed_expr a) (typed_expr b)) t s
at_choice c a b t s = of_kind (prog.Choose c a b) _ _ t s (prog.rolls-Choose c a b) (fold-roll-ProgExprKind TypedExprKind TypedExpr expr_step (λ e. of_type e.kind e.ty e.at) (layer.Choose c a b))

same_ty : (e : ProgExpr) → (typed_expr e).ty ≡ e.ty
same_ty e = ap (λ f. f.ty) (whole e)

same_at : (e : ProgExpr) → (typed_expr e).at ≡ e.at
same_at e = ap (λ f. f.at) (whole e)

abbrev converted_as : Ty → TypedExpr → Ty → Span → TypedExpr
converted_as t f u s = if same_type t u then f else of_type (typed.Cast true f) t s

converted_is : (t : Ty) (e : ProgExpr) → typed_expr (prog_converted t e) ≡ converted t (typed_expr e)
converted_is t e =
    by (same_type t e.ty) ∙ ap (λ u. converted_as t (typed_expr e) u e.at) (sym (same_ty e)) ∙ ap (λ s. converted_as t (typed_expr e) (typed_expr e).ty s) (sym (same_at e))
  where
    by : (b : Bool) → typed_expr (if b then e else prog_of (prog.Cast true e) t e.at) ≡ (if b then typed_expr e else of_type (typed.Cast true (typed_expr e)) t e.at)
    by true = refl
    by false = at_cast true e t e.at

-- ---- operators, with the casts that they imply

abbrev unary_as : Unary → TypedExpr → Ty → Span → TypedExpr
unary_as op f t s = of_type (typed.Unary op (converted (promoted t) f)) (unary_type op (promoted t)) s

unary_is : (op : Unary) (e : ProgExpr) (s : Span)
    → typed_expr (prog_of (prog.Unary op (prog_converted (promoted e.ty) e)) (unary_type op (promoted e.ty)) s) ≡ unary_as op (typed_expr e) (typed_expr e).ty s
unary_is op e s =
    at_unary op (prog_converted (promoted e.ty) e) (unary_type op (promoted e.ty)) s
    ∙ ap (λ f. of_type (typed.Unary op f) (unary_type op (promoted e.ty)) s) (converted_is (promoted e.ty) e)
    ∙ ap (λ t. unary_as op (typed_expr e) t s) (sym (same_ty e))

abbrev binary_as : Binary → TypedExpr → TypedExpr → Ty → Ty → Span → TypedExpr
binary_as op f g t u s = of_type (typed.Binary op (converted (left_type op t u) f) (converted (right_type op t u) g)) (result_type op (joint_type op t u)) s

binary_is : (op : Binary) (a b : ProgExpr) (s : Span)
    → typed_expr (prog_of (prog.Binary op (prog_converted (left_type op a.ty b.ty) a) (prog_converted (right_type op a.ty b.ty) b)) (result_type op (joint_type op a.ty b.ty)) s)
    ≡ binary_as op (typed_expr a) (typed_expr b) (typed_expr a).ty (typed_expr b).ty s
binary_is op a b s =
    let t : Ty = result_type op (joint_type op a.ty b.ty) in
    at_binary op (prog_converted (left_type op a.ty b.ty) a) (prog_converted (right_type op a.ty b.ty) b) t s
    ∙ ap (λ f. of_type (typed.Binary op f (typed_expr (prog_converted (right_type op a.ty b.ty) b))) t s) (converted_is (left_type op a.ty b.ty) a)
    ∙ ap (λ g. of_type (typed.Binary op (converted (left_type op a.ty b.ty) (typed_expr a)) g) t s) (converted_is (right_type op a.ty b.ty) b)
    ∙ ap (λ t. binary_as op (typed_expr a) (typed_expr b) t b.ty s) (sym (same_ty a))
    ∙ ap (λ u. binary_as op (typed_expr a) (typed_expr b) (typed_expr a).ty u s) (sym (same_ty b))

abbrev choice_as : TypedExpr → TypedExpr → TypedExpr → Ty → Ty → Span → TypedExpr
choice_as c f g t u s = of_type (typed.Choose c (converted (usual t u) f) (converted (usual t u) g)) (usual t u) s

choice_is : (c a b : ProgExpr) (s : Span)
    → typed_expr (prog_of (prog.Choose c (prog_converted (usual a.ty b.ty) a) (prog_converted (usual a.ty b.ty) b)) (usual a.ty b.ty) s)
    ≡ choice_as (typed_expr c) (typed_expr a) (typed_expr b) (typed_expr a).ty (typed_expr b).ty s
choice_is c a b s =
    let t : Ty = usual a.ty b.ty in
    at_choice c (prog_converted t a) (prog_converted t b) t s
    ∙ ap (λ f. of_type (typed.Choose (typed_expr c) f (typed_expr (prog_converted t b))) t s) (converted_is t a)
    ∙ ap (λ g. of_type (typed.Choose (typed_expr c) (converted t (typed_expr a)) g) t s) (converted_is t b)
    ∙ ap (λ t. choice_as (typed_expr c) (typed_expr a) (typed_expr b) t b.ty s) (sym (same_ty a))
    ∙ ap (λ u. choice_as (typed_expr c) (typed_expr a) (typed_expr b) (typed_expr a).ty u s) (sym (same_ty b))

made : {c : Context} {e : Expr} (f g : TypedExpr) → f ≡ g → CastsExpr c e g → CastsExpr c e f
made {c} {e} f g is h = subst (λ f. CastsExpr c e f) (sym is) h

pub no_helper : (k : ℕ × Known) → None ≡ Some k → ⊥
no_helper k h = absurd (cc)

mutual
  expr_casts : {c : Context} {e : Expr} {f : ProgExpr} → CastsCallExpr [] c e f → CastsExpr c e (typed_expr f)
  expr_casts (rule.number c n t s) = made _ _ (at_number n t s) (one.number c n t s)
  expr_casts (rule.name c x v t s h) = made _ _ (at_var v t s) (one.name c x v t s h)
  expr_casts (rule.element c x a t ds es fs s h hs) = made _ _ (at_element a fs t s) (one.element c x a t ds es (typed_exprs fs) s h (exprs_casts hs))
  expr_casts (rule.call c x j k es fs s h some long hs) = absurd (no_helper (j, k) some)
  expr_casts (rule.whole c x v t s h) = made _ _ (at_var v t s) (one.whole c x v t s h)
  expr_casts (rule.unary c op e f s h) = made _ _ (unary_is op f s) (one.unary c op e (typed_expr f) s (expr_casts h))
  expr_casts (rule.cast c t e f s h) = made _ _ (at_cast false f t s) (one.cast c t e (typed_expr f) s (expr_casts h))
  expr_casts (rule.binary c op e g f h s p q) = made _ _ (binary_is op f h s) (one.binary c op e g (typed_expr f) (typed_expr h) s (expr_casts p) (expr_casts q))
  expr_casts (rule.choose c e g i f h j s p q r) =
      made _ _ (choice_is f h j s) (one.choose c e g i (typed_expr f) (typed_expr h) (typed_expr j) s (expr_casts p) (expr_casts q) (expr_casts r))

  exprs_casts : {c : Context} {es : List Expr} {fs : List ProgExpr} → CastsCallExprs [] c es fs → CastsExprs c es (typed_exprs fs)
  exprs_casts (rule.no_more c) = one.no_more c
  exprs_casts (rule.one_more c e f es fs p q) = one.one_more c e (typed_expr f) es (typed_exprs fs) (expr_casts p) (exprs_casts q)

target_casts : {c : Context} {x : Target} {to : ProgTarget} {t : Ty} → CastsCallTarget [] c x to t → CastsTarget c x (typed_target to) t
target_casts (rule.to_var c x v t s h) = one.to_var c x v t s h
target_casts (rule.to_element c x a t ds e es fs s h hs) = one.to_element c x a t ds e es (typed_exprs fs) s h (exprs_casts hs)

option_casts : {c : Context} {e : Option Expr} {f : Option ProgExpr} → CastsCallOption [] c e f → CastsOption c e (option_map typed_expr f)
option_casts (rule.absent c) = one.absent c
option_casts (rule.present c e f h) = one.present c e (typed_expr f) (expr_casts h)

-- ---- statements, by their parts

pub whole_act : (a : ProgStmt) → typed_stmt a ≡ act_at (typed_act a.kind) a.at
whole_act a = fold_out-ProgStmt TypedStmtKind TypedStmt stmt_step (λ s. act_at s.kind s.at) a

of_act : (k l : ProgStmtKind) (m : TypedStmtKind) (s : Span) → l ≡ k → typed_act l ≡ m → typed_stmt (prog_at k s) ≡ act_at m s
of_act k l m s same is = whole_act (prog_at k s) ∙ ap (λ k. act_at (typed_act k) s) (sym same) ∙ ap (λ m. act_at m s) is

pub at_block : (ts : List ProgStmt) (s : Span) → typed_stmt (prog_at (step.Block ts) s) ≡ act_at (act.Block (typed_stmts ts)) s
at_block ts s = of_act (step.Block ts) _ _ s (step.rolls-Block ts) (fold-roll-ProgStmtKind TypedStmtKind TypedStmt stmt_step (λ s. act_at s.kind s.at) (row.Block ts))

pub at_declaration : (v : ℕ) (e : Option ProgExpr) (s : Span) → typed_stmt (prog_at (step.Declare v e) s) ≡ act_at (act.Declare v (option_map typed_expr e)) s
at_declaration v e s = of_act (step.Declare v e) _ _ s (step.rolls-Declare v e) (fold-roll-ProgStmtKind TypedStmtKind TypedStmt stmt_step (λ s. act_at s.kind s.at) (row.Declare v e))

pub at_assignment : (to : ProgTarget) (op : Option Binary) (e : ProgExpr) (s : Span) → typed_stmt (prog_at (step.Assign to op e) s) ≡ act_at (act.Assign (typed_target to) op (typed_expr e)) s
at_assignment to op e s = of_act (step.Assign to op e) _ _ s (step.rolls-Assign to op e) (fold-roll-ProgStmtKind TypedStmtKind TypedStmt stmt_step (λ s. act_at s.kind s.at) (row.Assign to op e))

pub at_step : (to : ProgTarget) (up : Bool) (s : Span) → typed_stmt (prog_at (step.Step to up) s) ≡ act_at (act.Step (typed_target to) up) s
at_step to up s = of_act (step.Step to up) _ _ s (step.rolls-Step to up) (fold-roll-ProgStmtKind TypedStmtKind TypedStmt stmt_step (λ s. act_at s.kind s.at) (row.Step to up))

pub at_if : (e : ProgExpr) (a : ProgStmt) (o : Option ProgStmt) (s : Span) → typed_stmt (prog_at (step.If e a o) s) ≡ act_at (act.If (typed_expr e) (typed_stmt a) (option_map typed_stmt o)) s
at_if e a None s = of_act (step.If e a None) _ _ s (step.rolls-If e a None) (fold-roll-ProgStmtKind TypedStmtKind TypedStmt stmt_step (λ s. act_at s.kind s.at) (row.If e a None))
at_if e a (Some b) s = of_act (step.If e a (Some b)) _ _ s (step.rolls-If e a (Some b)) (fold-roll-ProgStmtKind TypedStmtKind TypedStmt stmt_step (λ s. act_at s.kind s.at) (row.If e a (Some b)))

pub at_while : (e : ProgExpr) (a : ProgStmt) (s : Span) → typed_stmt (prog_at (step.While e a) s) ≡ act_at (act.While (typed_expr e) (typed_stmt a)) s
at_while e a s = of_act (step.While e a) _ _ s (step.rolls-While e a) (fold-roll-ProgStmtKind TypedStmtKind TypedStmt stmt_step (λ s. act_at s.kind s.at) (row.While e a))

pub at_do : (a : ProgStmt) (e : ProgExpr) (s : Span) → typed_stmt (prog_at (step.DoWhile a e) s) ≡ act_at (act.DoWhile (typed_stmt a) (typed_expr e)) s
at_do a e s = of_act (step.DoWhile a e) _ _ s (step.rolls-DoWhile a e) (fold-roll-ProgStmtKind TypedStmtKind TypedStmt stmt_step (λ s. act_at s.kind s.at) (row.DoWhile a e))

pub at_for : (ts : List ProgStmt) (e : Option ProgExpr) (o : Option ProgStmt) (a : ProgStmt) (s : Span) → typed_stmt (prog_at (step.For ts e o a) s) ≡ act_at (act.For (typed_stmts ts) (option_map typed_expr e) (option_map typed_stmt o) (typed_stmt a)) s
at_for ts e None a s = of_act (step.For ts e None a) _ _ s (step.rolls-For ts e None a) (fold-roll-ProgStmtKind TypedStmtKind TypedStmt stmt_step (λ s. act_at s.kind s.at) (row.For ts e None a))
at_for ts e (Some b) a s = of_act (step.For ts e (Some b) a) _ _ s (step.rolls-For ts e (Some b) a) (fold-roll-ProgStmtKind TypedStmtKind TypedStmt stmt_step (λ s. act_at s.kind s.at) (row.For ts e (Some b) a))

pub at_break : (s : Span) → typed_stmt (prog_at step.Break s) ≡ act_at act.Break s
at_break s = of_act step.Break _ _ s step.rolls-Break (fold-roll-ProgStmtKind TypedStmtKind TypedStmt stmt_step (λ s. act_at s.kind s.at) row.Break)

pub at_continue : (s : Span) → typed_stmt (prog_at step.Continue s) ≡ act_at act.Continue s
at_continue s = of_act step.Continue _ _ s step.rolls-Continue (fold-roll-ProgStmtKind TypedStmtKind TypedStmt stmt_step (λ s. act_at s.kind s.at) row.Continue)

pub at_return : (e : Option ProgExpr) (s : Span) → typed_stmt (prog_at (step.Return e) s) ≡ act_at (act.Return (option_map typed_expr e)) s
at_return e s = of_act (step.Return e) _ _ s (step.rolls-Return e) (fold-roll-ProgStmtKind TypedStmtKind TypedStmt stmt_step (λ s. act_at s.kind s.at) (row.Return e))

pub at_empty : (s : Span) → typed_stmt (prog_at step.Empty s) ≡ act_at act.Empty s
at_empty s = of_act step.Empty _ _ s step.rolls-Empty (fold-roll-ProgStmtKind TypedStmtKind TypedStmt stmt_step (λ s. act_at s.kind s.at) row.Empty)

abbrev assignment_as : ProgTarget → Option Binary → Ty → TypedExpr → Ty → Span → TypedStmt
assignment_as to op t f u s = act_at (act.Assign (typed_target to) op (converted (assigned_type op t u) f)) s

assignment_is : (to : ProgTarget) (op : Option Binary) (t : Ty) (e : ProgExpr) (s : Span)
    → typed_stmt (prog_at (step.Assign to op (prog_converted (assigned_type op t e.ty) e)) s) ≡ assignment_as to op t (typed_expr e) (typed_expr e).ty s
assignment_is to op t e s =
    at_assignment to op (prog_converted (assigned_type op t e.ty) e) s
    ∙ ap (λ f. act_at (act.Assign (typed_target to) op f) s) (converted_is (assigned_type op t e.ty) e)
    ∙ ap (λ u. assignment_as to op t (typed_expr e) u s) (sym (same_ty e))

does : {r : Option Ty} {c d : Context} {a : Stmt} (b k : TypedStmt) → b ≡ k → CastsStmt r c a k d → CastsStmt r c a b d
does {r} {c} {d} {a} b k is h = subst (λ b. CastsStmt r c a b d) (sym is) h

mutual
  stmt_casts : {r : Option Ty} {c d : Context} {a : Stmt} {b : ProgStmt} → CastsCallStmt [] r c a b d → CastsStmt r c a (typed_stmt b) d
  stmt_casts (rule.block r c d ss ts s h) = does _ _ (at_block ts s) (one.block r c d ss (typed_stmts ts) s (stmts_casts h))
  stmt_casts (rule.declare r c x t s) = does _ _ (at_declaration (length c.types) None s) (one.declare r c x t s)
  stmt_casts (rule.declare_value r c x t e f s h) =
      does _ _ (at_declaration (length c.types) (Some (prog_converted t f)) s ∙ ap (λ g. act_at (act.Declare (length c.types) (Some g)) s) (converted_is t f))
      (one.declare_value r c x t e (typed_expr f) s (expr_casts h))
  stmt_casts (rule.assign r c target to t op e f s h i) = does _ _ (assignment_is to op t f s) (one.assign r c target (typed_target to) t op e (typed_expr f) s (target_casts h) (expr_casts i))
  stmt_casts (rule.step r c target to t up s h) = does _ _ (at_step to up s) (one.step r c target (typed_target to) t up s (target_casts h))
  stmt_casts (rule.choice r c d d2 e f a b o p s h i j) =
      does _ _ (at_if f b p s) (one.choice r c d d2 e (typed_expr f) a (typed_stmt b) o (option_map typed_stmt p) s (expr_casts h) (stmt_casts i) (held_casts j))
  stmt_casts (rule.while_loop r c d e f a b s h i) = does _ _ (at_while f b s) (one.while_loop r c d e (typed_expr f) a (typed_stmt b) s (expr_casts h) (stmt_casts i))
  stmt_casts (rule.do_loop r c d e f a b s h i) = does _ _ (at_do b f s) (one.do_loop r c d e (typed_expr f) a (typed_stmt b) s (stmt_casts h) (expr_casts i))
  stmt_casts (rule.for_loop r c d d2 d3 ss ts e f o p a b s h i j k) =
      does _ _ (at_for ts f p b s)
      (one.for_loop r c d d2 d3 ss (typed_stmts ts) e (option_map typed_expr f) o (option_map typed_stmt p) a (typed_stmt b) s (stmts_casts h) (option_casts i) (held_casts j) (stmt_casts k))
  stmt_casts (rule.leaving r c s) = does _ _ (at_break s) (one.leaving r c s)
  stmt_casts (rule.continuing r c s) = does _ _ (at_continue s) (one.continuing r c s)
  stmt_casts (rule.return_nothing r c s) = does _ _ (at_return None s) (one.return_nothing r c s)
  stmt_casts (rule.return_value t c e f s h) =
      does _ _ (at_return (Some (prog_converted t f)) s ∙ ap (λ g. act_at (act.Return (Some g)) s) (converted_is t f)) (one.return_value t c e (typed_expr f) s (expr_casts h))
  stmt_casts (rule.empty r c s) = does _ _ (at_empty s) (one.empty r c s)

  held_casts : {r : Option Ty} {c d : Context} {o : Option Stmt} {p : Option ProgStmt} → CastsCallHeld [] r c o p d → CastsHeld r c o (option_map typed_stmt p) d
  held_casts (rule.no_statement r c) = one.no_statement r c
  held_casts (rule.a_statement r c d a b h) = one.a_statement r c d a (typed_stmt b) (stmt_casts h)

  stmts_casts : {r : Option Ty} {c d : Context} {ss : List Stmt} {ts : List ProgStmt} → CastsCallStmts [] r c ss ts d → CastsStmts r c ss (typed_stmts ts) d
  stmts_casts (rule.done r c) = one.done r c
  stmts_casts (rule.more r c d d2 a b ss ts h i) = one.more r c d d2 a (typed_stmt b) ss (typed_stmts ts) (stmt_casts h) (stmts_casts i)

-- ---- kernels

pub kernel_alone : (hs : List Helper) (tree : Tree) → hs ≡ [] → Typing tree → IsNumbered (tree_nodes tree) → TypingKernelWith hs tree
kernel_alone hs tree none keep few = kernel_here (alone tree) hs none ((alone_keeps tree).1 keep) (omega (arith, few))

pub tree_casts : (hs : List Helper) (tree : Tree) (k : ProgTree) (t : Typed) → hs ≡ [] → IsProgKernel hs tree k → t.name ≡ k.name → t.at ≡ k.at → t.result ≡ k.result → t.params ≡ k.params → t.vars ≡ k.vars
    → t.arrays ≡ k.arrays → t.body ≡ typed_stmts k.body → Casts tree t
tree_casts hs tree k t none h name at result params vars arrays body =
    let d : IsProgKernel [] tree k = subst (λ hs. IsProgKernel hs tree k) none h in
    record {
      same_name = name ∙ d.same_name;
      same_place = at ∙ d.same_place;
      same_result = result ∙ d.same_result;
      same_params = params ∙ d.same_params;
      arrays_are = arrays ∙ d.arrays_are;
      last = d.last;
      body_casts = subst (λ ts. CastsStmts tree.result (one.first_context tree.params) tree.body ts d.last) (sym body) (stmts_casts d.body_casts);
      vars_are = vars ∙ d.vars_are;
    }
