-- What running statements gives.
use Rattle.std.specs.Prelude.{◌≡◌, ℕ, ◌+◌, List, map, flat_map, All, Bool, true, pos, Option, Some, None}
use Rattle.el_base.specs.declared.ty.Ty.{Ty}
use Rattle.el_base.specs.declared.ty.Ty.TheVariants.{I32}
use Rattle.c_ast.specs.declared.tree.Binary.{Binary}
use Rattle.c_ast.specs.declared.typed.TypedExpr.{TypedExpr}
use Rattle.c_ast.specs.declared.typed.TypedTarget.{TypedTarget}
use Rattle.c_ast.specs.declared.typed.TypedStmt.{TypedStmt}
use Rattle.c_ast.specs.declared.typed.TypedStmtKind.{TypedStmtKind, end_of-TypedStmt, more_of-TypedStmt}
use Rattle.c_ast.specs.declared.typed.TypedStmtKind as tree
use Rattle.c_ast.specs.declared.typed.TypedStmtKind.TheVariants as stmt
use Rattle.c_meaning.specs.Stores.{Objects, unset_vars}
use Rattle.c_meaning.specs.Expressions.{meaning, always}
use Rattle.c_meaning.specs.Runs.{Run, turn, rounds}
use Rattle.c_meaning.specs.Statements.{act, kind_act, act_if_any, does, part, in_order, nothing, condition, run_if_any, assigned, updated, declared_run, returned, meant_target, meant_if_any, step_operator}
use Rattle.c_meaning.specs.Lawful.{LawfulExpr, LawfulAssignment, LawfulStep, LawfulDeclaration, LawfulOption, LawfulReturn}
use Rattle.c_meaning.specs.PartLaws.{LawfulAt}
use Rattle.ref_interp.specs.declared.machine.Ending.{Ending}
use Rattle.ref_interp.specs.declared.machine.Test.{Test}
use Rattle.ref_interp.specs.declared.machine.Machine.{Machine}
use Rattle.ref_interp.specs.Cells.{AreCells, store_of}
use Rattle.ref_interp.specs.Machines.{CanRun, Ran, Tested}

abbrev pub ExecGives : Objects → Option Ty → TypedStmt → Machine → Ending → Machine → Type 0
ExecGives k r s old e new = (l : Bool) → LawfulAt k r l s → CanRun k old → Ran k r (does k s) old e new

-- a part of if, the body of a loop or the step of a for
abbrev pub PartGives : Objects → Option Ty → TypedStmt → Machine → Ending → Machine → Type 0
PartGives k r s old e new = (l : Bool) → LawfulAt k r l s → CanRun k old → Ran k r (part (act k s)) old e new

abbrev pub AllGive : Objects → Option Ty → List TypedStmt → Machine → Ending → Machine → Type 0
AllGive k r ss old e new = (l : Bool) → All (LawfulAt k r l) ss → CanRun k old → Ran k r (in_order (map (act k) ss)) old e new

-- the variables that statements declare themselves are unset, and nothing else changes
pub record Enters (k : Objects) (ss : List TypedStmt) (old new : Machine) : Type 0 where
  pub store : store_of k new.cells ≡ unset_vars (flat_map (λ a. a.declares) (map (act k) ss)) (store_of k old.cells)
  pub cells : AreCells k new.cells
  pub left : new.left ≡ old.left

abbrev pub EnterGives : Objects → List TypedStmt → Machine → Machine → Type 0
EnterGives k ss old new = CanRun k old → Enters k ss old new

abbrev pub TestGives : Objects → Option Ty → Option TypedExpr → Machine → Test → Machine → Type 0
TestGives k r c old t new = LawfulOption (LawfulExpr k) c → CanRun k old → Tested k r (condition (meant_if_any k c)) old t new

-- a while from its condition on: a round takes a turn, so one round more than there are turns is enough
abbrev pub RoundsGive : Objects → Option Ty → TypedStmt → TypedExpr → Machine → Ending → Machine → Type 0
RoundsGive k r s c old e new =
    LawfulAt k r true s → LawfulExpr k c → CanRun k old → Ran k r (rounds (old.left + 1) nothing (meaning k c) (part (act k s)) nothing) old e new

-- a for from its condition on, with at most so many rounds
abbrev pub for_loop : Objects → TypedStmtKind → ℕ → Run
for_loop k (tree.For' n first cond step b (more_of-TypedStmt s at end_of-TypedStmt)) i = rounds i nothing (condition (meant_if_any k cond)) (part (kind_act k s)) (run_if_any (act_if_any k step))
for_loop k (tree.Block' n row) i = nothing
for_loop k (tree.Declare v init) i = nothing
for_loop k (tree.Assign target op e) i = nothing
for_loop k (tree.Step target up) i = nothing
for_loop k (tree.If' cond b (more_of-TypedStmt s at end_of-TypedStmt) o) i = nothing
for_loop k (tree.While' cond b (more_of-TypedStmt s at end_of-TypedStmt)) i = nothing
for_loop k (tree.DoWhile' b (more_of-TypedStmt s at end_of-TypedStmt) cond) i = nothing
for_loop k tree.Break i = nothing
for_loop k tree.Continue i = nothing
for_loop k (tree.Return e) i = nothing
for_loop k tree.Empty i = nothing

abbrev pub ForGives : Objects → Option Ty → TypedStmt → Machine → Ending → Machine → Type 0
ForGives k r s old e new =
    (f : List TypedStmt) (c : Option TypedExpr) (o : Option TypedStmt) (b : TypedStmt) (l : Bool) → s.kind ≡ stmt.For f c o b → LawfulAt k r l s → CanRun k old
    → Ran k r (for_loop k s.kind (old.left + 1)) old e new

-- what a statement does after its turn
abbrev pub AfterTurn : Objects → Option Ty → TypedStmt → Machine → Ending → Machine → Type 0
AfterTurn k r s old e new = (run : Run) → (act k s).run ≡ turn run → Ran k r run old e new

abbrev pub IfGives : Objects → Option Ty → TypedStmt → Machine → Ending → Machine → Type 0
IfGives k r s old e new = (c : TypedExpr) (a : TypedStmt) (o : Option TypedStmt) (l : Bool) → s.kind ≡ stmt.If c a o → LawfulAt k r l s → CanRun k old → AfterTurn k r s old e new

abbrev pub LoopGives : Objects → Option Ty → TypedStmt → Machine → Ending → Machine → Type 0
LoopGives k r s old e new =
    (f : List TypedStmt) (c : Option TypedExpr) (o : Option TypedStmt) (b : TypedStmt) (l : Bool) → s.kind ≡ stmt.For f c o b → LawfulAt k r l s → CanRun k old → AfterTurn k r s old e new

abbrev pub DeclareGives : Objects → Option Ty → ℕ → Option TypedExpr → Machine → Ending → Machine → Type 0
DeclareGives k r v e old w new = LawfulDeclaration k (LawfulExpr k) v e → CanRun k old → Ran k r (declared_run k v (meant_if_any k e)) old w new

abbrev pub AssignGives : Objects → Option Ty → TypedTarget → TypedExpr → Machine → Ending → Machine → Type 0
AssignGives k r t e old w new = LawfulAssignment k (LawfulExpr k) t None e → CanRun k old → Ran k r (assigned k (meant_target k t) (meaning k e)) old w new

abbrev pub UpdatedGives : Objects → Option Ty → TypedTarget → Binary → TypedExpr → Machine → Ending → Machine → Type 0
UpdatedGives k r t op e old w new = LawfulAssignment k (LawfulExpr k) t (Some op) e → CanRun k old → Ran k r (updated k (meant_target k t) op e.ty (meaning k e)) old w new

abbrev pub StepGives : Objects → Option Ty → TypedTarget → Bool → Machine → Ending → Machine → Type 0
StepGives k r t up old w new = LawfulStep k (LawfulExpr k) t → CanRun k old → Ran k r (updated k (meant_target k t) (step_operator up) I32 (always (pos 1))) old w new

abbrev pub ReturnGives : Objects → Option Ty → Option TypedExpr → Machine → Ending → Machine → Type 0
ReturnGives k r e old w new = LawfulReturn (LawfulExpr k) r e → CanRun k old → Ran k r (returned (meant_if_any k e)) old w new
