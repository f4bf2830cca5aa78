-- After a statement of a program that is cast: the names in force are those of the rules, and for each variable that it declares it has a node.
use Rattle.std.proofs.Common.{◌≡◌, ℕ, ◌+◌, ◌≤◌, List, [], ◌∷◌, length, Option, Some, None, refl, ap, ◌∙◌, arith, length-append}
use Rattle.std.proofs.lemmas.List.Sums.{sum_by-cons}
use Rattle.el_base.specs.declared.ty.Ty.{Ty}
use Rattle.c_ast.specs.declared.tree.Stmt.{Stmt}
use Rattle.c_ast.specs.declared.tree.Helper.{Helper}
use Rattle.c_ast.specs.declared.program.ProgStmt.{ProgStmt}
use Rattle.c_ast.specs.Nodes.{stmt_nodes, stmts_nodes, held_nodes}
use Rattle.c_ast.specs.Typing.{with_name, names_after}
use Rattle.c_ast.specs.Programs.{names_after_list}
use Rattle.c_ast.specs.Casts.{Context, Scope, a_var, into_innermost}
use Rattle.c_ast.specs.ProgramCasts as rule
use Rattle.c_ast.specs.ProgramCasts.{CastsCallStmt, CastsCallHeld, CastsCallStmts}
use Rattle.c_ast.proofs.NodeEquations.{stmt_block, stmt_declaration, stmt_choice, stmt_while_loop, stmt_do_loop, stmt_for_loop}
use Rattle.c_types.specs.TypingParts.{names_as}
use Rattle.c_types.specs.ProgramContexts.{callees}
use Rattle.c_types.proofs.ProgramCastLemmas.{held_scopes}

pub entered : (x : List ℕ) (n : ℕ) (t : Ty) (ss : List Scope) → names_as (into_innermost (x, a_var n t) ss) ≡ with_name x (names_as ss)
entered x n t [] = refl
entered x n t (s ∷ ss) = refl

module _ (helpers : List Helper) where
  -- ---- names

  pub names_after_cast : {r : Option Ty} {c d : Context} {a : Stmt} {b : ProgStmt} → CastsCallStmt (callees helpers) r c a b d → names_as d.scopes ≡ names_after (names_as c.scopes) a.kind
  names_after_cast (rule.declare r c x t s) = entered x (length c.types) t c.scopes
  names_after_cast (rule.declare_value r c x t e f s h) = entered x (length c.types) t c.scopes
  names_after_cast (rule.choice r c d d2 e f a b o p s h i j) = ap names_as (held_scopes helpers j)
  names_after_cast _ = refl

  pub names_after_casts : {r : Option Ty} {c d : Context} {ss : List Stmt} {ts : List ProgStmt} → CastsCallStmts (callees helpers) r c ss ts d → names_as d.scopes ≡ names_after_list (names_as c.scopes) ss
  names_after_casts (rule.done r c) = refl
  names_after_casts (rule.more r c d d2 a b ss ts h i) = names_after_casts i ∙ ap (λ names. names_after_list names ss) (names_after_cast h)

  -- ---- variables

  mutual
    pub vars_after_cast : {r : Option Ty} {c d : Context} {a : Stmt} {b : ProgStmt} → CastsCallStmt (callees helpers) r c a b d → length d.types ≤ length c.types + stmt_nodes a
    vars_after_cast (rule.block r c d ss ts s h) = omega (arith, vars_after_casts h, stmt_block ss s)
    vars_after_cast (rule.declare r c x t s) = omega (arith, stmt_declaration x t None s, length-append c.types (t ∷ []))
    vars_after_cast (rule.declare_value r c x t e f s h) = omega (arith, stmt_declaration x t (Some e) s, length-append c.types (t ∷ []))
    vars_after_cast (rule.choice r c d d2 e f a b o p s h i j) = omega (arith, vars_after_cast i, vars_after_held j, stmt_choice e a o s)
    vars_after_cast (rule.while_loop r c d e f a b s h i) = omega (arith, vars_after_cast i, stmt_while_loop e a s)
    vars_after_cast (rule.do_loop r c d e f a b s h i) = omega (arith, vars_after_cast h, stmt_do_loop a e s)
    vars_after_cast (rule.for_loop r c d d2 d3 ss ts e f o p a b s h i j k) = omega (arith, vars_after_casts h, vars_after_held j, vars_after_cast k, stmt_for_loop ss e o a s)
    vars_after_cast _ = omega arith

    pub vars_after_held : {r : Option Ty} {c d : Context} {o : Option Stmt} {p : Option ProgStmt} → CastsCallHeld (callees helpers) r c o p d → length d.types ≤ length c.types + held_nodes o
    vars_after_held (rule.no_statement r c) = omega arith
    vars_after_held (rule.a_statement r c d a b h) = omega (arith, vars_after_cast h)

    pub vars_after_casts : {r : Option Ty} {c d : Context} {ss : List Stmt} {ts : List ProgStmt} → CastsCallStmts (callees helpers) r c ss ts d → length d.types ≤ length c.types + stmts_nodes ss
    vars_after_casts (rule.done r c) = omega arith
    vars_after_casts (rule.more r c d d2 a b ss ts h i) = omega (arith, vars_after_cast h, vars_after_casts i, sum_by-cons stmt_nodes a ss)
