-- Statements of each kind, by the runs of their parts.
use Rattle.std.proofs.Common.{◌≡◌, ℕ, suc, ◌+◌, List, [], map, Option, Some, None, refl, sym, ◌∙◌, ap, subst, arith}
use Rattle.std.specs.Prelude.{Bool, option_map}
use denote.Hole.Carrier.{hidden}
use Rattle.el_base.specs.declared.ty.Ty.{Ty}
use Rattle.c_ast.specs.declared.typed.TypedExpr.{TypedExpr}
use Rattle.c_ast.specs.declared.typed.TypedStmt.{TypedStmt}
use Rattle.c_ast.specs.declared.typed.TypedStmtKind.{TypedStmtKind}
use Rattle.c_ast.specs.declared.typed.TypedStmtKind.TheVariants as stmt
use Rattle.c_ast.specs.declared.typed.TypedStmtKind.TheBlock.{shape-the_row-TypedStmt-0, hidden-the_row-TypedStmt-0, shape-the_row-TypedStmt-1, hidden-the_row-TypedStmt-1}
use Rattle.c_meaning.specs.Stores.{Objects}
use Rattle.c_meaning.specs.Expressions.{Meaning}
use Rattle.c_meaning.specs.Runs.{Run, branch, rounds, loop}
use Rattle.c_meaning.specs.Statements.{act, part, in_order, nothing, entering, condition, run_if_any, meant_if_any}
use Rattle.c_meaning.specs.PartLaws.{IfAny, LawfulAt}
use Rattle.c_meaning.specs.Lawful.{LawfulStmt}
use Rattle.ref_interp.specs.declared.machine.Ending.{Ending}
use Rattle.ref_interp.specs.declared.machine.Ending.TheVariants as ending
use Rattle.ref_interp.specs.declared.machine.Test.TheVariants as test
use Rattle.ref_interp.specs.declared.machine.Machine.{Machine}
use Rattle.ref_interp.specs.Cells.{store_of}
use Rattle.ref_interp.specs.Machines.{run_on, CanRun, Ran, Tested}
use Rattle.ref_interp.specs.Statements.{Enters, for_loop}
use Rattle.ref_interp.proofs.Running.{still_can}

pub lawful_of : (k : Objects) (r : Option Ty) (l : Bool) (x y : TypedStmtKind) → x ≡ y → LawfulStmt k r l x → LawfulStmt k r l y
lawful_of k r l x y is h = subst (LawfulStmt k r l) is h

-- a block that was entered
pub entered_can : (k : Objects) (ss : List TypedStmt) (m m2 : Machine) → CanRun k m → Enters k ss m m2 → CanRun k m2
entered_can k ss m m2 can h = record { laws = can.laws; parts = can.parts; cells = h.cells; few = (let c = can.few in let l = h.left in omega (arith, c, l)) }

pub entered_run : (k : Objects) (r : Option Ty) (ss : List TypedStmt) (next : Run) (m m2 n : Machine) (e : Ending) → Enters k ss m m2 → Ran k r next m2 e n → Ran k r (entering (map (act k) ss) next) m e n
entered_run k r ss next m m2 n e en h = record {
  is = ap (λ s. next s m.left) (sym en.store) ∙ ap (next (store_of k m2.cells)) (sym en.left) ∙ h.is;
  cells = h.cells;
  few = h.few;
  given = h.given;
}

-- if
pub if_holds : (k : Objects) (r : Option Ty) (cond : Meaning) (a b : Run) (m m2 n : Machine) (e : Ending) → Tested k r cond m test.Holds m2 → Ran k r a m2 e n → Ran k r (branch (in_order []) cond a b) m e n
if_holds k r cond a b m m2 n e t h = record { is = t.is a b ∙ h.is; cells = h.cells; few = h.few; given = h.given }

pub if_fails : (k : Objects) (r : Option Ty) (cond : Meaning) (a b : Run) (m m2 n : Machine) (e : Ending) → Tested k r cond m test.Fails m2 → Ran k r b m2 e n → Ran k r (branch (in_order []) cond a b) m e n
if_fails k r cond a b m m2 n e t h = record { is = t.is a b ∙ h.is; cells = h.cells; few = h.few; given = h.given }

pub if_undefined : (k : Objects) (r : Option Ty) (cond : Meaning) (a b : Run) (m m2 : Machine) → CanRun k m → Tested k r cond m test.Undefined m2 → Ran k r (branch (in_order []) cond a b) m ending.Undefined m2
if_undefined k r cond a b m m2 can t = let c = still_can k m m2 can t.cells t.fewer in record { is = t.is a b; cells = c.cells; few = c.few; given = tt }

pub if_starved : (k : Objects) (r : Option Ty) (cond : Meaning) (a b : Run) (m m2 : Machine) → CanRun k m → Tested k r cond m test.OutOfTurns m2 → Ran k r (branch (in_order []) cond a b) m ending.OutOfTurns m2
if_starved k r cond a b m m2 can t = let c = still_can k m m2 can t.cells t.fewer in record { is = t.is a b; cells = c.cells; few = c.few; given = tt }

-- loops
pub loop_ran : (k : Objects) (r : Option Ty) (cond : Meaning) (body step : Run) (m n : Machine) (e : Ending) → Ran k r (rounds (m.left + 1) nothing cond body step) m e n → Ran k r (loop (in_order []) cond body step) m e n
loop_ran k r cond body step m n e h = record { is = ap (λ i. run_on k (rounds i nothing cond body step) m) (one_more m.left) ∙ h.is; cells = h.cells; few = h.few; given = h.given }
  where
    one_more : (i : ℕ) → suc i ≡ i + 1
    one_more i = omega arith

for_loop_of : (k : Objects) (f : List TypedStmt) (c : Option TypedExpr) (o : Option TypedStmt) (b : TypedStmt) (i : ℕ) → for_loop k (stmt.For f c o b) i ≡ rounds i nothing (condition (meant_if_any k c)) (part (act k b)) (run_if_any (option_map (act k) o))
unfolding shape-the_row-TypedStmt-0 hidden-the_row-TypedStmt-0 shape-the_row-TypedStmt-1 hidden-the_row-TypedStmt-1 hidden
for_loop_of k f c None b i = refl
for_loop_of k f c (Some s) b i = refl

pub for_loop_is : (k : Objects) (x : TypedStmtKind) (f : List TypedStmt) (c : Option TypedExpr) (o : Option TypedStmt) (b : TypedStmt) (i : ℕ) → x ≡ stmt.For f c o b → for_loop k x i ≡ rounds i nothing (condition (meant_if_any k c)) (part (act k b)) (run_if_any (option_map (act k) o))
for_loop_is k x f c o b i is = ap (λ x. for_loop k x i) is ∙ for_loop_of k f c o b i

-- the step of a for, which may be absent
pub some_step : (k : Objects) (r : Option Ty) (o : Option TypedStmt) (s : TypedStmt) (m n : Machine) (e : Ending) → o ≡ Some s → Ran k r (part (act k s)) m e n → Ran k r (run_if_any (option_map (act k) o)) m e n
some_step k r o s m n e is h = subst (λ o. Ran k r (run_if_any (option_map (act k) o)) m e n) (sym is) h

pub absent_step : (k : Objects) (r : Option Ty) (o : Option TypedStmt) (m : Machine) → o ≡ None → CanRun k m → Ran k r (run_if_any (option_map (act k) o)) m ending.Normally m
absent_step k r o m is can = subst (λ o. Ran k r (run_if_any (option_map (act k) o)) m ending.Normally m) (sym is) (record { is = refl; cells = can.cells; few = can.few; given = tt })

pub some_lawful : (k : Objects) (r : Option Ty) (l : Bool) (o : Option TypedStmt) (s : TypedStmt) → o ≡ Some s → IfAny (LawfulAt k r l) o → LawfulAt k r l s
some_lawful k r l o s is h = subst (IfAny (LawfulAt k r l)) is h
