-- What calls mean (ISO/IEC 9899:1999 6.5.2.2): each runs the body of its helper in a store of its own, by the meaning of statements, and then gives the value of the helper.
-- A run has a bound on its turns. The turns of a call are turns of the statement or condition that it stands in; a call that is not over within the bound uses more turns than there are.
use Rattle.std.specs.Prelude.{ℕ, suc, ◌-◌, List, [], ◌∷◌, ◌++◌, map, slice_get, option_map, pos, ℤ, Option, Some, None}
use mathlib.Core.Former.{Count}
use Rattle.el_base.specs.declared.ty.Ty.{Ty}
use Rattle.el_base.specs.declared.span.Span.{Span}
use Rattle.c_ast.specs.declared.tree.Param.{Param}
use Rattle.c_ast.specs.declared.typed.TypedExprKind.TheOpen.{Number, Var, Element, Unary, Cast, Binary, Choose}
use Rattle.c_meaning.specs.declared.profile.Profile.{Profile}
use Rattle.c_meaning.specs.Types.{conv}
use Rattle.c_meaning.specs.Stores.{Store, Objects, Inputs, opening}
use Rattle.c_meaning.specs.Expressions.{Val, undefined_value, value, Vals, undefined_values, values, Meaning, on_one, later, all_values, val_step}
use Rattle.c_meaning.specs.Runs.{How, normally, by_break, by_continue, by_return, undefined, out_of_turns, Ended, turn}
use Rattle.c_meaning.specs.Statements.{Act, MeantTarget, stmt_step, block, with_kernel_end, EndsBy, a_block, a_declaration, an_assignment, a_step, an_if, a_while, a_do, a_for, a_break, a_continue, a_return, an_empty}
use Rattle.c_ast.specs.declared.program.ProgExpr.{ProgExpr}
use Rattle.c_ast.specs.declared.program.ProgExprKind.{ProgExprKind, Row_of-ProgExpr, end_of-ProgExpr, more_of-ProgExpr}
use Rattle.c_ast.specs.declared.program.ProgExprKind as tree
use Rattle.c_ast.specs.declared.program.ProgTarget.{ProgTarget}
use Rattle.c_ast.specs.declared.program.ProgStmt.{ProgStmt}
use Rattle.c_ast.specs.declared.program.ProgStmtKind.{ProgStmtKind, Row_of-ProgStmt, end_of-ProgStmt, more_of-ProgStmt, Held-ProgStmtKind-If-2}
use Rattle.c_ast.specs.declared.program.ProgStmtKind as act
use Rattle.c_ast.specs.declared.program.TypedHelper.{TypedHelper}
use Rattle.c_ast.specs.declared.program.ProgTree.{ProgTree}
use Rattle.c_ast.specs.declared.program.TypedProgram.{TypedProgram}

-- ---- expressions

-- what a helper gives for the numbers of its arguments
abbrev pub Called : Type 0
Called = List ℤ → Val

-- a number without a helper has no meaning, and 0 stands there
abbrev pub called_by : Option Called → Called
called_by None zs = value (pos 0) 0
called_by (Some c) zs = c zs

-- a call after its arguments
abbrev pub called : Called → Vals → Val
called c (undefined_values p) = undefined_value p
called c (values zs t) = later t (c zs)

abbrev pub call_step : Called → List Meaning → Ty → Span → Meaning
call_step c args ty at s = called c (all_values args s)

abbrev mutual
  -- an expression where helpers give this
  pub prog_kind_meaning : Objects → List Called → ProgExprKind → Ty → Span → Meaning
  prog_kind_meaning k cs (tree.Number n) = val_step k (Number n)
  prog_kind_meaning k cs (tree.Var v) = val_step k (Var v)
  prog_kind_meaning k cs (tree.Element' a n row) = val_step k (Element a (prog_row_meanings k cs row))
  prog_kind_meaning k cs (tree.Unary' op b (more_of-ProgExpr e t at end_of-ProgExpr)) = val_step k (Unary op (prog_kind_meaning k cs e t at))
  prog_kind_meaning k cs (tree.Cast' implied b (more_of-ProgExpr e t at end_of-ProgExpr)) = val_step k (Cast implied (prog_kind_meaning k cs e t at))
  prog_kind_meaning k cs (tree.Binary' op b (more_of-ProgExpr e t at end_of-ProgExpr) b2 (more_of-ProgExpr e2 t2 at2 end_of-ProgExpr)) =
      val_step k (Binary op (prog_kind_meaning k cs e t at) (prog_kind_meaning k cs e2 t2 at2))
  prog_kind_meaning k cs (tree.Choose' b (more_of-ProgExpr e t at end_of-ProgExpr) b2 (more_of-ProgExpr e2 t2 at2 end_of-ProgExpr) b3 (more_of-ProgExpr e3 t3 at3 end_of-ProgExpr)) =
      val_step k (Choose (prog_kind_meaning k cs e t at) (prog_kind_meaning k cs e2 t2 at2) (prog_kind_meaning k cs e3 t3 at3))
  prog_kind_meaning k cs (tree.Call' h n row) = call_step (called_by (slice_get cs h)) (prog_row_meanings k cs row)

  pub prog_row_meanings : Objects → List Called → {n : Count} → Row_of-ProgExpr n → List Meaning
  prog_row_meanings k cs end_of-ProgExpr = []
  prog_row_meanings k cs (more_of-ProgExpr e t at row) = prog_kind_meaning k cs e t at ∷ prog_row_meanings k cs row

abbrev pub prog_meaning : Objects → List Called → ProgExpr → Meaning
prog_meaning k cs e = prog_kind_meaning k cs e.kind e.ty e.at

abbrev pub prog_if_any : Objects → List Called → Option ProgExpr → Option Meaning
prog_if_any k cs e = option_map (prog_meaning k cs) e

abbrev pub prog_target : Objects → List Called → ProgTarget → MeantTarget
prog_target k cs target = record { to = target.to; at = target.at; indices = map (prog_meaning k cs) target.indices }

-- ---- statements: those of a kernel without calls, over expressions that mean more

abbrev mutual
  pub prog_kind_act : Objects → List Called → ProgStmtKind → Act
  prog_kind_act k cs (act.Block' n row) = stmt_step k (a_block (prog_row_acts k cs row))
  prog_kind_act k cs (act.Declare v init) = stmt_step k (a_declaration v (prog_if_any k cs init))
  prog_kind_act k cs (act.Assign target op e) = stmt_step k (an_assignment (prog_target k cs target) op e.ty (prog_meaning k cs e))
  prog_kind_act k cs (act.Step target up) = stmt_step k (a_step (prog_target k cs target) up)
  prog_kind_act k cs (act.If' cond b (more_of-ProgStmt s at end_of-ProgStmt) o) = stmt_step k (an_if [] (prog_meaning k cs cond) (prog_kind_act k cs s) (prog_act_if_any k cs o))
  prog_kind_act k cs (act.While' cond b (more_of-ProgStmt s at end_of-ProgStmt)) = stmt_step k (a_while [] (prog_meaning k cs cond) (prog_kind_act k cs s))
  prog_kind_act k cs (act.DoWhile' b (more_of-ProgStmt s at end_of-ProgStmt) cond) = stmt_step k (a_do (prog_kind_act k cs s) [] (prog_meaning k cs cond))
  prog_kind_act k cs (act.For' n first cond step b (more_of-ProgStmt s at end_of-ProgStmt)) =
      stmt_step k (a_for (prog_row_acts k cs first) [] (prog_if_any k cs cond) (prog_act_if_any k cs step) (prog_kind_act k cs s))
  prog_kind_act k cs act.Break = stmt_step k a_break
  prog_kind_act k cs act.Continue = stmt_step k a_continue
  prog_kind_act k cs (act.Return e) = stmt_step k (a_return (prog_if_any k cs e))
  prog_kind_act k cs act.Empty = stmt_step k an_empty

  pub prog_act_if_any : Objects → List Called → Held-ProgStmtKind-If-2 → Option Act
  prog_act_if_any k cs act.None' = None
  prog_act_if_any k cs (act.Some' b (more_of-ProgStmt s at end_of-ProgStmt)) = Some (prog_kind_act k cs s)

  pub prog_row_acts : Objects → List Called → {n : Count} → Row_of-ProgStmt n → List Act
  prog_row_acts k cs end_of-ProgStmt = []
  prog_row_acts k cs (more_of-ProgStmt s at row) = prog_kind_act k cs s ∷ prog_row_acts k cs row

abbrev pub prog_act : Objects → List Called → ProgStmt → Act
prog_act k cs s = prog_kind_act k cs s.kind

abbrev pub prog_body : Objects → List Called → List ProgStmt → Store → ℕ → Ended
prog_body k cs body = turn (block (map (prog_act k cs) body))

-- ---- helpers

-- a helper has scalars alone
abbrev pub helper_objects : Profile → TypedHelper → Objects
helper_objects p h = record { profile = p; vars = h.vars; arrays = [] }

-- the arguments, converted to the types of the parameters
abbrev pub converted_to : List Param → List ℤ → List ℤ
converted_to [] zs = []
converted_to (q ∷ qs) [] = []
converted_to (q ∷ qs) (z ∷ zs) = conv q.ty z ∷ converted_to qs zs

-- the store of a call: the parameters are set, and all else is unset
abbrev pub call_store : Profile → TypedHelper → List ℤ → Store
call_store p h zs = opening (helper_objects p h) (record { scalars = converted_to h.params zs; arrays = [] })

-- the value of a helper whose body ended so, of n turns; no body of a lawful helper ends by break, continue or return
abbrev pub given_by : Ty → Span → ℕ → Meaning → How → Store → ℕ → Val
given_by t at n m normally s left = later (n - left) (on_one at (λ z. Some (conv t z)) (m s))
given_by t at n m by_break s left = undefined_value at
given_by t at n m by_continue s left = undefined_value at
given_by t at n m (by_return v) s left = undefined_value at
given_by t at n m (undefined p) s left = undefined_value p
given_by t at n m out_of_turns s left = value (pos 0) (suc n)

abbrev pub given_after : Ty → Span → ℕ → Meaning → Ended → Val
given_after t at n m e = given_by t at n m e.how e.store e.left

-- a helper within n turns, where the ones before it give this
abbrev pub helper_call : Profile → ℕ → List Called → TypedHelper → Called
helper_call p n cs h zs =
    let k = helper_objects p h in
    given_after h.result h.at n (prog_meaning k cs h.value) (prog_body k cs h.body (call_store p h zs) n)

abbrev pub helper_calls : Profile → ℕ → List Called → List TypedHelper → List Called
helper_calls p n cs [] = cs
helper_calls p n cs (h ∷ hs) = helper_calls p n (cs ++ helper_call p n cs h ∷ []) hs

-- ---- programs

abbrev pub prog_objects : Profile → ProgTree → Objects
prog_objects p k = record { profile = p; vars = k.vars; arrays = k.arrays }

-- how a program ends under a profile, within n turns
abbrev pub program_run : TypedProgram → Profile → Inputs → ℕ → Ended
program_run P p i n =
    let k = prog_objects p P.kernel in
    with_kernel_end P.kernel.result P.kernel.at (prog_body k (helper_calls p n [] P.helpers) P.kernel.body (opening k i) n)

-- under a profile P ends on the inputs without anything undefined: some bound on the turns of the whole run is enough
abbrev pub Calls : TypedProgram → Profile → Inputs → List (List ℤ) → Option ℤ → Type 0
Calls P p i out r = (t : ℕ) × EndsBy P.kernel.result (program_run P p i) out r t
