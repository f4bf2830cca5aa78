-- The meaning of normal forms: that of statements, with the statements before a condition, which run each time before it is evaluated.
use Rattle.std.specs.Prelude.{ℕ, List, [], ◌∷◌, map, ℤ, Option, Some, None}
use mathlib.Core.Former.{Count}
use Rattle.c_ast.specs.declared.normal.Normal.{Normal}
use Rattle.c_ast.specs.declared.normal.NormalStmt.{NormalStmt}
use Rattle.c_ast.specs.declared.normal.NormalStmtKind.{NormalStmtKind, Row_of-NormalStmt, end_of-NormalStmt, more_of-NormalStmt, Held-NormalStmtKind-If-3, None', Some'}
use Rattle.c_ast.specs.declared.normal.NormalStmtKind as tree
use Rattle.c_meaning.specs.declared.profile.Profile.{Profile}
use Rattle.c_meaning.specs.Stores.{Store, Objects, Inputs, opening}
use Rattle.c_meaning.specs.Expressions.{meaning}
use Rattle.c_meaning.specs.Runs.{Run, Ended, turn}
use Rattle.c_meaning.specs.Statements.{Act, block, a_block, a_declaration, an_assignment, an_if, a_while, a_do, a_for, a_break, a_continue, a_return, an_empty, stmt_step, meant_target, meant_if_any, with_kernel_end, EndsBy}

-- ---- whole trees: one layer after another

abbrev mutual
  pub normal_kind_act : Objects → NormalStmtKind → Act
  normal_kind_act k (tree.Block' n row) = stmt_step k (a_block (normal_row_acts k row))
  normal_kind_act k (tree.Declare v init) = stmt_step k (a_declaration v (meant_if_any k init))
  normal_kind_act k (tree.Assign target e) = stmt_step k (an_assignment (meant_target k target) None e.ty (meaning k e))
  normal_kind_act k (tree.If' n before cond b (more_of-NormalStmt s at end_of-NormalStmt) no_part) =
      stmt_step k (an_if (normal_row_acts k before) (meaning k cond) (normal_kind_act k s) (normal_act_if_any k no_part))
  normal_kind_act k (tree.While' n before cond b (more_of-NormalStmt s at end_of-NormalStmt)) =
      stmt_step k (a_while (normal_row_acts k before) (meaning k cond) (normal_kind_act k s))
  normal_kind_act k (tree.DoWhile' b (more_of-NormalStmt s at end_of-NormalStmt) n before cond) =
      stmt_step k (a_do (normal_kind_act k s) (normal_row_acts k before) (meaning k cond))
  normal_kind_act k (tree.For' n first m before cond step b (more_of-NormalStmt s at end_of-NormalStmt)) =
      stmt_step k (a_for (normal_row_acts k first) (normal_row_acts k before) (meant_if_any k cond) (normal_act_if_any k step) (normal_kind_act k s))
  normal_kind_act k tree.Break = stmt_step k a_break
  normal_kind_act k tree.Continue = stmt_step k a_continue
  normal_kind_act k (tree.Return e) = stmt_step k (a_return (meant_if_any k e))
  normal_kind_act k tree.Empty = stmt_step k an_empty

  pub normal_act_if_any : Objects → Held-NormalStmtKind-If-3 → Option Act
  normal_act_if_any k None' = None
  normal_act_if_any k (Some' b (more_of-NormalStmt s at end_of-NormalStmt)) = Some (normal_kind_act k s)

  pub normal_row_acts : Objects → {n : Count} → Row_of-NormalStmt n → List Act
  normal_row_acts k end_of-NormalStmt = []
  normal_row_acts k (more_of-NormalStmt s at row) = normal_kind_act k s ∷ normal_row_acts k row

abbrev pub normal_act : Objects → NormalStmt → Act
normal_act k s = normal_kind_act k s.kind

-- how a statement of a normal form ends from a store, within n turns
abbrev pub normal_does : Objects → NormalStmt → Store → ℕ → Ended
normal_does k s = (normal_act k s).run

abbrev pub normal_objects : Profile → Normal → Objects
normal_objects p k = record { profile = p; vars = k.vars; arrays = k.arrays }

abbrev pub normal_body_run : Objects → List NormalStmt → Run
normal_body_run k body = turn (block (map (normal_act k) body))

-- how a normal form ends under a profile, within n turns: its block runs from its opening store
abbrev pub normal_run : Normal → Profile → Inputs → ℕ → Ended
normal_run k p i n = with_kernel_end k.result k.at (normal_body_run (normal_objects p k) k.body (opening (normal_objects p k) i) n)

-- under a profile a normal form ends on the inputs in T turns without anything undefined
abbrev pub NormalEnds : Normal → Profile → Inputs → List (List ℤ) → Option ℤ → ℕ → Type 0
NormalEnds k p i out r turns = EndsBy k.result (normal_run k p i) out r turns
