-- What is used of the laws of whole trees: how each statement runs by its parts, and what is lawful of them.
use Rattle.std.specs.Prelude.{ℕ, List, [], map, Bool, true, false, All, Option, option_map}
use Rattle.c_ast.specs.declared.tree.Binary.{Binary}
use Rattle.c_ast.specs.declared.typed.TypedExpr.{TypedExpr}
use Rattle.c_ast.specs.declared.typed.TypedTarget.{TypedTarget}
use Rattle.c_ast.specs.declared.typed.TypedStmt.{TypedStmt}
use Rattle.c_ast.specs.declared.typed.TypedStmtKind.TheVariants as stmt
use Rattle.c_meaning.specs.Equations.{RunsBy}
use Rattle.c_meaning.specs.Expressions.{meaning}
use Rattle.c_meaning.specs.Statements.{act, a_block, a_declaration, an_assignment, a_step, an_if, a_while, a_do, a_for, a_break, a_continue, a_return, an_empty, meant_target, meant_if_any}
use Rattle.c_meaning.specs.Lawful.{LawfulExpr, LawfulAssignment, LawfulStep, LawfulDeclaration, LawfulOption, LawfulReturn}
use Rattle.c_meaning.specs.PartLaws.{IfAny, LawfulAt, LawfulStmtBy}

pub record PartLaws : Type 0 where
  pub block : (ss : List TypedStmt) → RunsBy (stmt.Block ss) (λ k. a_block (map (act k) ss))
  pub declaration : (v : ℕ) (e : Option TypedExpr) → RunsBy (stmt.Declare v e) (λ k. a_declaration v (meant_if_any k e))
  pub assignment : (t : TypedTarget) (op : Option Binary) (e : TypedExpr) → RunsBy (stmt.Assign t op e) (λ k. an_assignment (meant_target k t) op e.ty (meaning k e))
  pub stepping : (t : TypedTarget) (up : Bool) → RunsBy (stmt.Step t up) (λ k. a_step (meant_target k t) up)
  pub choice : (c : TypedExpr) (s : TypedStmt) (o : Option TypedStmt) → RunsBy (stmt.If c s o) (λ k. an_if [] (meaning k c) (act k s) (option_map (act k) o))
  pub while_loop : (c : TypedExpr) (s : TypedStmt) → RunsBy (stmt.While c s) (λ k. a_while [] (meaning k c) (act k s))
  pub do_loop : (s : TypedStmt) (c : TypedExpr) → RunsBy (stmt.DoWhile s c) (λ k. a_do (act k s) [] (meaning k c))
  pub for_loop : (f : List TypedStmt) (c : Option TypedExpr) (o : Option TypedStmt) (s : TypedStmt)
      → RunsBy (stmt.For f c o s) (λ k. a_for (map (act k) f) [] (meant_if_any k c) (option_map (act k) o) (act k s))
  pub leaving : RunsBy stmt.Break (λ k. a_break)
  pub continuing : RunsBy stmt.Continue (λ k. a_continue)
  pub returning : (e : Option TypedExpr) → RunsBy (stmt.Return e) (λ k. a_return (meant_if_any k e))
  pub empty : RunsBy stmt.Empty (λ k. an_empty)
  pub lawful_block : (ss : List TypedStmt) → LawfulStmtBy (stmt.Block ss) (λ k r l. All (LawfulAt k r l) ss)
  pub lawful_declaration : (v : ℕ) (e : Option TypedExpr) → LawfulStmtBy (stmt.Declare v e) (λ k r l. LawfulDeclaration k (LawfulExpr k) v e)
  pub lawful_assignment : (t : TypedTarget) (op : Option Binary) (e : TypedExpr) → LawfulStmtBy (stmt.Assign t op e) (λ k r l. LawfulAssignment k (LawfulExpr k) t op e)
  pub lawful_stepping : (t : TypedTarget) (up : Bool) → LawfulStmtBy (stmt.Step t up) (λ k r l. LawfulStep k (LawfulExpr k) t)
  pub lawful_choice : (c : TypedExpr) (s : TypedStmt) (o : Option TypedStmt) → LawfulStmtBy (stmt.If c s o) (λ k r l. LawfulExpr k c × LawfulAt k r l s × IfAny (LawfulAt k r l) o)
  pub lawful_while : (c : TypedExpr) (s : TypedStmt) → LawfulStmtBy (stmt.While c s) (λ k r l. LawfulExpr k c × LawfulAt k r true s)
  pub lawful_do : (s : TypedStmt) (c : TypedExpr) → LawfulStmtBy (stmt.DoWhile s c) (λ k r l. LawfulAt k r true s × LawfulExpr k c)
  pub lawful_for : (f : List TypedStmt) (c : Option TypedExpr) (o : Option TypedStmt) (s : TypedStmt)
      → LawfulStmtBy (stmt.For f c o s) (λ k r l. All (LawfulAt k r false) f × LawfulOption (LawfulExpr k) c × IfAny (LawfulAt k r false) o × LawfulAt k r true s)
  pub lawful_returning : (e : Option TypedExpr) → LawfulStmtBy (stmt.Return e) (λ k r l. LawfulReturn (LawfulExpr k) r e)
