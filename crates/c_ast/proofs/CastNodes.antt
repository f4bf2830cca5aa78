-- A typed tree has as many nodes as the syntax tree that it is of: what is converted is an implied cast, which counts nothing.
use Rattle.std.proofs.Common.{◌≡◌, ℕ, ◌+◌, List, [], length, Bool, true, false, Option, Some, None, refl, ap, ◌∙◌, sym}
use Rattle.std.specs.Prelude.{if◌then◌else◌}
use Rattle.std.proofs.lemmas.List.Sums.{sum_by-cons}
use Rattle.el_base.specs.declared.ty.Ty.{Ty}
use Rattle.c_ast.specs.declared.tree.Expr.{Expr}
use Rattle.c_ast.specs.declared.tree.Target.{Target}
use Rattle.c_ast.specs.declared.tree.Stmt.{Stmt}
use Rattle.c_ast.specs.declared.tree.Tree.{Tree}
use Rattle.c_ast.specs.declared.typed.TypedExpr.{TypedExpr}
use Rattle.c_ast.specs.declared.typed.TypedExprKind.TheVariants as typed
use Rattle.c_ast.specs.declared.typed.TypedTarget.{TypedTarget}
use Rattle.c_ast.specs.declared.typed.TypedStmt.{TypedStmt}
use Rattle.c_ast.specs.declared.typed.Typed.{Typed}
use Rattle.c_ast.specs.Casts.{Context, of_type, same_type, converted, assigned_type, CastsExpr, CastsExprs, CastsTarget, CastsOption, CastsStmt, CastsHeld, CastsStmts, Casts}
use Rattle.c_ast.specs.Casts as casts
use Rattle.c_ast.specs.Nodes.{expr_nodes, exprs_nodes, opt_nodes, target_nodes, stmt_nodes, stmts_nodes, held_nodes, params_nodes, tree_nodes, typed_expr_nodes, typed_exprs_nodes, typed_opt_nodes, typed_target_nodes, typed_stmt_nodes, typed_stmts_nodes, typed_held_nodes, typed_nodes}
use Rattle.c_ast.proofs.NodeEquations.{expr_number, expr_name, expr_element, expr_unary, expr_cast, expr_binary, expr_choice, stmt_block, stmt_declaration, stmt_assignment, stmt_stepping, stmt_choice, stmt_while_loop, stmt_do_loop, stmt_for_loop, stmt_leaving, stmt_continuing, stmt_returning, stmt_empty}
use Rattle.c_ast.proofs.TypedNodeEquations.{typed_number, typed_var, typed_element, typed_unary, typed_implied, typed_written, typed_binary, typed_choice, act_block, act_declaration, act_assignment, act_stepping, act_choice, act_while_loop, act_do_loop, act_for_loop, act_leaving, act_continuing, act_returning, act_empty}

-- what is converted has the nodes of what it was
chosen : (b : Bool) (t : Ty) (f : TypedExpr) → typed_expr_nodes (if b then f else of_type (typed.Cast true f) t f.at) ≡ typed_expr_nodes f
chosen true t f = refl
chosen false t f = typed_implied f

pub converted_nodes : (t : Ty) (f : TypedExpr) → typed_expr_nodes (converted t f) ≡ typed_expr_nodes f
converted_nodes t f = chosen (same_type t f.ty) t f

two : (a b c d : ℕ) → a ≡ b → c ≡ d → 1 + a + c ≡ 1 + b + d
two a b c d p q = ap (λ n. 1 + n + c) p ∙ ap (λ n. 1 + b + n) q

three : (a b c d e f : ℕ) → a ≡ b → c ≡ d → e ≡ f → 1 + a + c + e ≡ 1 + b + d + f
three a b c d e f p q r = ap (λ n. n + e) (two a b c d p q) ∙ ap (λ n. 1 + b + d + n) r

four : (a b c d e f g h : ℕ) → a ≡ b → c ≡ d → e ≡ f → g ≡ h → 1 + a + c + e + g ≡ 1 + b + d + f + h
four a b c d e f g h p q r s = ap (λ n. n + g) (three a b c d e f p q r) ∙ ap (λ n. 1 + b + d + f + n) s

mutual
  pub expr_same : {c : Context} {e : Expr} {f : TypedExpr} → CastsExpr c e f → typed_expr_nodes f ≡ expr_nodes e
  expr_same (casts.number c n t s) = typed_number n ∙ sym (expr_number n t s)
  expr_same (casts.name c x v t s is) = typed_var v ∙ sym (expr_name x s)
  expr_same (casts.element c x a t ds es fs s is all) = typed_element a fs ∙ ap (λ n. 1 + n) (exprs_same all) ∙ sym (expr_element x es s)
  expr_same (casts.whole c x v t s is) = typed_var v ∙ sym (expr_element x [] s)
  expr_same (casts.unary c op e f s one) = typed_unary op _ ∙ ap (λ n. 1 + n) (converted_nodes _ f ∙ expr_same one) ∙ sym (expr_unary op e s)
  expr_same (casts.cast c t e f s one) = typed_written f ∙ ap (λ n. 1 + n) (expr_same one) ∙ sym (expr_cast t e s)
  expr_same (casts.binary c op e g f h s left right) = typed_binary op _ _ ∙ two _ _ _ _ (converted_nodes _ f ∙ expr_same left) (converted_nodes _ h ∙ expr_same right) ∙ sym (expr_binary op e g s)
  expr_same (casts.choose c e g i f h j s test left right) = typed_choice f _ _ ∙ three _ _ _ _ _ _ (expr_same test) (converted_nodes _ h ∙ expr_same left) (converted_nodes _ j ∙ expr_same right) ∙ sym (expr_choice e g i s)

  pub exprs_same : {c : Context} {es : List Expr} {fs : List TypedExpr} → CastsExprs c es fs → typed_exprs_nodes fs ≡ exprs_nodes es
  exprs_same (casts.no_more c) = refl
  exprs_same (casts.one_more c e f es fs one all) = sum_by-cons typed_expr_nodes f fs ∙ ap (λ n. n + typed_exprs_nodes fs) (expr_same one) ∙ ap (λ n. expr_nodes e + n) (exprs_same all) ∙ sym (sum_by-cons expr_nodes e es)

target_same : {c : Context} {x : Target} {y : TypedTarget} {t : Ty} → CastsTarget c x y t → typed_target_nodes y ≡ target_nodes x
target_same (casts.to_var c x v t s is) = refl
target_same (casts.to_element c x a t ds e es fs s is all) = ap (λ n. 1 + n) (exprs_same all)

opt_same : {c : Context} {e : Option Expr} {f : Option TypedExpr} → CastsOption c e f → typed_opt_nodes f ≡ opt_nodes e
opt_same (casts.absent c) = refl
opt_same (casts.present c e f one) = expr_same one

mutual
  pub stmt_same : {r : Option Ty} {c d : Context} {a : Stmt} {b : TypedStmt} → CastsStmt r c a b d → typed_stmt_nodes b ≡ stmt_nodes a
  stmt_same (casts.block r c d ss ts s all) = act_block ts ∙ ap (λ n. 1 + n) (stmts_same all) ∙ sym (stmt_block ss s)
  stmt_same (casts.declare r c x t s) = act_declaration (length c.types) None ∙ sym (stmt_declaration x t None s)
  stmt_same (casts.declare_value r c x t e f s one) = act_declaration (length c.types) (Some (converted t f)) ∙ ap (λ n. 1 + n) (converted_nodes t f ∙ expr_same one) ∙ sym (stmt_declaration x t (Some e) s)
  stmt_same (casts.assign r c target to t op e f s left one) = act_assignment to op (converted (assigned_type op t f.ty) f) ∙ two _ _ _ _ (target_same left) (converted_nodes (assigned_type op t f.ty) f ∙ expr_same one) ∙ sym (stmt_assignment target op e s)
  stmt_same (casts.step r c target to t up s left) = act_stepping to up ∙ ap (λ n. 1 + n) (target_same left) ∙ sym (stmt_stepping target up s)
  stmt_same (casts.choice r c d d2 e f a b o p s test left right) = act_choice f b p ∙ three _ _ _ _ _ _ (expr_same test) (stmt_same left) (held_same right) ∙ sym (stmt_choice e a o s)
  stmt_same (casts.while_loop r c d e f a b s test body) = act_while_loop f b ∙ two _ _ _ _ (expr_same test) (stmt_same body) ∙ sym (stmt_while_loop e a s)
  stmt_same (casts.do_loop r c d e f a b s body test) = act_do_loop b f ∙ two _ _ _ _ (stmt_same body) (expr_same test) ∙ sym (stmt_do_loop a e s)
  stmt_same (casts.for_loop r c d d2 d3 ss ts e f o p a b s first test step body) = act_for_loop ts f p b ∙ four _ _ _ _ _ _ _ _ (stmts_same first) (opt_same test) (held_same step) (stmt_same body) ∙ sym (stmt_for_loop ss e o a s)
  stmt_same (casts.leaving r c s) = act_leaving ∙ sym (stmt_leaving s)
  stmt_same (casts.continuing r c s) = act_continuing ∙ sym (stmt_continuing s)
  stmt_same (casts.return_nothing r c s) = act_returning None ∙ sym (stmt_returning None s)
  stmt_same (casts.return_value t c e f s one) = act_returning (Some (converted t f)) ∙ ap (λ n. 1 + n) (converted_nodes t f ∙ expr_same one) ∙ sym (stmt_returning (Some e) s)
  stmt_same (casts.empty r c s) = act_empty ∙ sym (stmt_empty s)

  held_same : {r : Option Ty} {c d : Context} {o : Option Stmt} {p : Option TypedStmt} → CastsHeld r c o p d → typed_held_nodes p ≡ held_nodes o
  held_same (casts.no_statement r c) = refl
  held_same (casts.a_statement r c d a b one) = stmt_same one

  pub stmts_same : {r : Option Ty} {c d : Context} {ss : List Stmt} {ts : List TypedStmt} → CastsStmts r c ss ts d → typed_stmts_nodes ts ≡ stmts_nodes ss
  stmts_same (casts.done r c) = refl
  stmts_same (casts.more r c d d2 a b ss ts one all) = sum_by-cons typed_stmt_nodes b ts ∙ ap (λ n. n + typed_stmts_nodes ts) (stmt_same one) ∙ ap (λ n. stmt_nodes a + n) (stmts_same all) ∙ sym (sum_by-cons stmt_nodes a ss)

pub tree_same : (tree : Tree) (k : Typed) → Casts tree k → typed_nodes k ≡ tree_nodes tree
tree_same tree k is = ap (λ ps. 1 + params_nodes ps + (1 + typed_stmts_nodes k.body)) is.same_params ∙ ap (λ n. 1 + params_nodes tree.params + (1 + n)) (stmts_same is.body_casts)
