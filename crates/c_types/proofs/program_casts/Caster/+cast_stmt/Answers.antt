use Rattle.std.proofs.Common.{length, take, refl, sym, ap, subst, rules, arith}
use Rattle.c_types.proofs.FirstFaults.{item_more}
use Rattle.c_types.proofs.ContextLemmas.{opening, leaving}
use Rattle.c_types.proofs.ProgramCastStatements.{act_made, block_arm, if_arm, while_arm, do_arm, for_arm, break_arm, continue_arm, empty_arm, inside_arm, none_held, one_held, held_is, no_stmts, one_more_stmt}
use Rattle.c_types.proofs.ProgramStatementParts.{assigned_target, assigned_value, stepped_target, returned_value, returned_type, block_part, declared_new, declared_value, if_cond, if_then, if_other, while_cond, while_body, do_cond, do_body, for_first, for_cond, for_step, for_body, first_item, other_items}
use Rattle.c_types.specs.ProgramContexts.{IsProgExpr}
use Rattle.c_ast.specs.declared.tree.StmtKind.TheViews.{the_lemmas}
use Rattle.c_types.proofs.program_casts.Caster.+cast_stmt.Goals as goal

pub cast_held-returns-in-None : goal.cast_held-returns-in-None
cast_held-returns-in-None t c = held_is c.args.self.now.helpers.now _ _ _ _ _ _ c.in-None.is (none_held c.args.self.now.helpers.now _ _)

pub cast_held-returns-in_ok-boxed-in-Some : goal.cast_held-returns-in_ok-boxed-in-Some
cast_held-returns-in_ok-boxed-in-Some t c =
    held_is c.args.self.now.helpers.now _ _ _ _ _ _ c.in-Some.is (one_held c.args.self.now.helpers.now _ _ _ _ _
    (inside_arm c.args.self.now.helpers.now c.args.self.now.returned c.args.known.now _ _ _ _ _ _ _ c.get.ensures
    (opening _ _ c.in_ok-enter-in-Some.ensures.scopes c.enter.ensures.types c.enter.ensures.some) c.in_ok-typed-in-Some.ensures
    (leaving _ _ c.leave.ensures.scopes c.leave.ensures.types) c.in_ok-boxed-in-Some.ensures))

pub cast_inside-returns : goal.cast_inside-returns
cast_inside-returns t c =
    inside_arm c.args.self.now.helpers.now c.args.self.now.returned c.args.known.now _ _ _ _ _ _ _ c.get.ensures
    (opening _ _ c.in_ok-enter.ensures.scopes c.enter.ensures.types c.enter.ensures.some) c.in_ok-typed.ensures (leaving _ _ c.leave.ensures.scopes c.leave.ensures.types) c.in_ok-boxed.ensures

pub cast_block-returns : goal.cast_block-returns
cast_block-returns t c =
    block_arm c.args.self.now.helpers.now c.args.self.now.returned c.args.known.now _ _ _ c.args.stmt.now _ _ _ _ c.requires.is c.as_slice.ensures
    (opening _ _ c.in_ok-enter.ensures.scopes c.enter.ensures.types c.enter.ensures.some) c.in_ok-stmts.ensures
    (leaving _ _ c.leave.ensures.scopes c.leave.ensures.types) c.act.ensures

pub cast_if-returns : goal.cast_if-returns
cast_if-returns t c =
    if_arm c.args.self.now.helpers.now c.args.self.now.returned c.args.known.now _ _ c.args.stmt.now _ _ _ _ _ _ _ c.requires.is (subst (IsProgExpr c.args.self.now.helpers.now c.args.known.now.scopes _) (sym c.into_inner-cond.ensures) c.in_ok-cond.ensures) c.in_ok-then.ensures c.in_ok-other.ensures c.act.ensures

pub cast_while-returns : goal.cast_while-returns
cast_while-returns t c =
    while_arm c.args.self.now.helpers.now c.args.self.now.returned c.args.known.now _ c.args.stmt.now _ _ _ _ _ c.requires.is (subst (IsProgExpr c.args.self.now.helpers.now c.args.known.now.scopes _) (sym c.into_inner-cond.ensures) c.in_ok-cond.ensures) c.in_ok-body.ensures c.act.ensures

pub cast_do-returns : goal.cast_do-returns
cast_do-returns t c =
    do_arm c.args.self.now.helpers.now c.args.self.now.returned c.args.known.now _ c.args.stmt.now _ _ _ _ _ c.requires.is (subst (IsProgExpr c.args.self.now.helpers.now c.args.known.now.scopes _) (sym c.into_inner-cond.ensures) c.in_ok-cond.ensures) c.in_ok-body.ensures c.act.ensures

pub cast_for-returns : goal.cast_for-returns
cast_for-returns t c =
    for_arm c.args.self.now.helpers.now c.args.self.now.returned c.args.known.now _ _ _ _ _ c.args.stmt.now _ _ _ _ _ _ _ _ _ _ c.requires.is c.as_slice.ensures
    (opening _ _ c.in_ok-enter.ensures.scopes c.enter.ensures.types c.enter.ensures.some) c.in_ok-first.ensures c.in_ok-cond.ensures
    c.in_ok-step.ensures c.in_ok-body.ensures (leaving _ _ c.leave.ensures.scopes c.leave.ensures.types) c.act.ensures

pub cast_stmt-returns-in-Break : goal.cast_stmt-returns-in-Break
cast_stmt-returns-in-Break t c = break_arm c.args.self.now.helpers.now c.args.self.now.returned c.args.known.now c.args.stmt.now _ c.in-Break.is c.act-in-Break.ensures

pub cast_stmt-returns-in-Continue : goal.cast_stmt-returns-in-Continue
cast_stmt-returns-in-Continue t c = continue_arm c.args.self.now.helpers.now c.args.self.now.returned c.args.known.now c.args.stmt.now _ c.in-Continue.is c.act-in-Continue.ensures

pub cast_stmt-returns-in-Empty : goal.cast_stmt-returns-in-Empty
cast_stmt-returns-in-Empty t c = empty_arm c.args.self.now.helpers.now c.args.self.now.returned c.args.known.now c.args.stmt.now _ c.in-Empty.is c.act-in-Empty.ensures

pub cast_stmt-returns-in_ok-cast_declaration-in-Declare : goal.cast_stmt-returns-in_ok-cast_declaration-in-Declare
cast_stmt-returns-in_ok-cast_declaration-in-Declare t c =
    act_made c.args.self.now.helpers.now c.args.self.now.returned c.args.known.now _ c.args.stmt.now _ _ _ c.in-Declare.is c.in_ok-cast_declaration-in-Declare.ensures c.act.ensures

pub cast_stmt-returns-in_ok-cast_assignment-in-Assign : goal.cast_stmt-returns-in_ok-cast_assignment-in-Assign
cast_stmt-returns-in_ok-cast_assignment-in-Assign t c =
    act_made c.args.self.now.helpers.now c.args.self.now.returned c.args.known.now _ c.args.stmt.now _ _ _ c.in-Assign.is c.in_ok-cast_assignment-in-Assign.ensures c.act-in-Assign.ensures

pub cast_stmt-returns-in_ok-cast_step-in-Step : goal.cast_stmt-returns-in_ok-cast_step-in-Step
cast_stmt-returns-in_ok-cast_step-in-Step t c =
    act_made c.args.self.now.helpers.now c.args.self.now.returned c.args.known.now _ c.args.stmt.now _ _ _ c.in-Step.is c.in_ok-cast_step-in-Step.ensures c.act-in-Step.ensures

pub cast_stmts-loop-stmt-init : goal.cast_stmts-loop-stmt-init
cast_stmts-loop-stmt-init t c = record { casts = no_stmts c.args.self.now.helpers.now c.args.self.now.returned c.args.known.now _ c.new-items.ensures; others = c.requires }

pub cast_stmts-loop-stmt-preserved : goal.cast_stmts-loop-stmt-preserved
cast_stmts-loop-stmt-preserved t c =
    record {
      casts = one_more_stmt c.args.self.now.helpers.now c.args.self.now.returned c.args.known.now c.loop-stmt.known _ (take c.loop-stmt.stmt-index c.args.stmts.now) _ c.stmt-item.result c.loop-stmt.items _ _
          (item_more c.args.stmts.now c.loop-stmt.stmt-index c.stmt-item.result c.loop-stmt-test.true c.stmt-item.is) c.loop-stmt.invariant.casts c.in_ok-cast_stmt.ensures c.in_ok-push.ensures.ok;
      others = other_items c.args.self.now.helpers.now c.args.self.now.returned c.loop-stmt.known c.cast_stmt.new.known c.args.stmts.now c.loop-stmt.stmt-index c.stmt-item.result _ c.loop-stmt-test.true c.stmt-item.is c.loop-stmt.invariant.others
          c.in_ok-cast_stmt.ensures;
    }

pub cast_stmts-cast_stmt-requires : goal.cast_stmts-cast_stmt-requires
cast_stmts-cast_stmt-requires t c = (
  search (rules, the_lemmas),
  first_item c.args.self.now.helpers.now c.args.self.now.returned c.loop-stmt.known.scopes (length c.loop-stmt.known.types) c.args.stmts.now c.loop-stmt.stmt-index c.stmt-item.result c.loop-stmt-test.true c.stmt-item.is
      c.loop-stmt.invariant.others,
)

pub cast_stmt-cast_declaration-requires-clause-new : goal.cast_stmt-cast_declaration-requires-clause-new
cast_stmt-cast_declaration-requires-clause-new t c = declared_new c.args.self.now.helpers.now c.args.self.now.returned c.args.known.now.scopes (length c.args.known.now.types) c.args.stmt.now _ _ _ c.requires c.in-Declare.is

pub cast_stmt-cast_declaration-requires-clause-typing : goal.cast_stmt-cast_declaration-requires-clause-typing
cast_stmt-cast_declaration-requires-clause-typing t c =
    declared_value c.args.self.now.helpers.now c.args.self.now.returned c.args.known.now.scopes _ (length c.args.known.now.types) c.args.stmt.now _ _ _ c.requires c.in-Declare.is refl

pub cast_stmt-cast_assignment-requires-clause-target : goal.cast_stmt-cast_assignment-requires-clause-target
cast_stmt-cast_assignment-requires-clause-target t c = assigned_target c.args.self.now.helpers.now c.args.self.now.returned c.args.known.now.scopes (length c.args.known.now.types) c.args.stmt.now _ _ _ c.requires c.in-Assign.is

pub cast_stmt-cast_assignment-requires-clause-value : goal.cast_stmt-cast_assignment-requires-clause-value
cast_stmt-cast_assignment-requires-clause-value t c = assigned_value c.args.self.now.helpers.now c.args.self.now.returned c.args.known.now.scopes (length c.args.known.now.types) c.args.stmt.now _ _ _ c.requires c.in-Assign.is

pub cast_stmt-cast_step-requires : goal.cast_stmt-cast_step-requires
cast_stmt-cast_step-requires t c = stepped_target c.args.self.now.helpers.now c.args.self.now.returned c.args.known.now.scopes (length c.args.known.now.types) c.args.stmt.now _ _ c.requires c.in-Step.is

pub cast_stmt-cast_declaration-requires-clause-numbered : goal.cast_stmt-cast_declaration-requires-clause-numbered
cast_stmt-cast_declaration-requires-clause-numbered t c = omega (arith, c.requires.numbered)

pub cast_stmt-cast_return-requires-clause-typed : goal.cast_stmt-cast_return-requires-clause-typed
cast_stmt-cast_return-requires-clause-typed t c = returned_type c.args.self.now.helpers.now c.args.self.now.returned c.args.known.now.scopes (length c.args.known.now.types) c.args.stmt.now _ c.requires c.in-Return.is

pub cast_stmt-cast_return-requires-clause-typing : goal.cast_stmt-cast_return-requires-clause-typing
cast_stmt-cast_return-requires-clause-typing t c = returned_value c.args.self.now.helpers.now c.args.self.now.returned c.args.known.now.scopes (length c.args.known.now.types) c.args.stmt.now _ c.requires c.in-Return.is

pub cast_block-cast_stmts-requires : goal.cast_block-cast_stmts-requires
cast_block-cast_stmts-requires t c = (
  search (rules, the_lemmas),
  block_part c.args.self.now.helpers.now c.args.self.now.returned c.args.known.now.scopes _ (length c.args.known.now.types) _ c.args.stmt.now _ _ c.requires.typing c.requires.is c.as_slice.ensures
      c.in_ok-enter.ensures.scopes (ap length c.enter.ensures.types),
)

pub cast_if-cast_boxed-requires : goal.cast_if-cast_boxed-requires
cast_if-cast_boxed-requires t c = if_cond c.args.self.now.helpers.now c.args.self.now.returned c.args.known.now.scopes (length c.args.known.now.types) c.args.stmt.now _ _ _ c.requires.typing c.requires.is

pub cast_if-cast_inside-requires : goal.cast_if-cast_inside-requires
cast_if-cast_inside-requires t c = (search (rules, the_lemmas), if_then c.args.self.now.helpers.now c.args.self.now.returned c.args.known.now.scopes (length c.args.known.now.types) c.args.stmt.now _ _ _ c.requires.typing c.requires.is)

pub cast_if-cast_held-requires : goal.cast_if-cast_held-requires
cast_if-cast_held-requires t c =
    (search (rules, the_lemmas), if_other c.args.self.now.helpers.now c.args.self.now.returned c.args.known.now c.cast_inside.new.known c.args.stmt.now _ _ _ _ c.requires.typing c.requires.is c.in_ok-then.ensures)

pub cast_while-cast_boxed-requires : goal.cast_while-cast_boxed-requires
cast_while-cast_boxed-requires t c = while_cond c.args.self.now.helpers.now c.args.self.now.returned c.args.known.now.scopes (length c.args.known.now.types) c.args.stmt.now _ _ c.requires.typing c.requires.is

pub cast_while-cast_inside-requires : goal.cast_while-cast_inside-requires
cast_while-cast_inside-requires t c = (search (rules, the_lemmas), while_body c.args.self.now.helpers.now c.args.self.now.returned c.args.known.now.scopes (length c.args.known.now.types) c.args.stmt.now _ _ c.requires.typing c.requires.is)

pub cast_do-cast_boxed-requires : goal.cast_do-cast_boxed-requires
cast_do-cast_boxed-requires t c = do_cond c.args.self.now.helpers.now c.args.self.now.returned c.args.known.now.scopes (length c.args.known.now.types) c.args.stmt.now _ _ c.requires.typing c.requires.is

pub cast_do-cast_inside-requires : goal.cast_do-cast_inside-requires
cast_do-cast_inside-requires t c = (search (rules, the_lemmas), do_body c.args.self.now.helpers.now c.args.self.now.returned c.args.known.now.scopes (length c.args.known.now.types) c.args.stmt.now _ _ c.requires.typing c.requires.is)

pub cast_for-cast_stmts-requires : goal.cast_for-cast_stmts-requires
cast_for-cast_stmts-requires t c = (
  search (rules, the_lemmas),
  for_first c.args.self.now.helpers.now c.args.self.now.returned c.args.known.now _ _ c.args.stmt.now _ _ _ _ _ c.requires.typing c.requires.is c.as_slice.ensures c.in_ok-enter.ensures.scopes
      (ap length c.enter.ensures.types),
)

pub cast_for-cast_option-requires : goal.cast_for-cast_option-requires
cast_for-cast_option-requires t c =
    for_cond c.args.self.now.helpers.now c.args.self.now.returned c.args.known.now c.enter.new.self c.cast_stmts.new.known c.args.stmt.now _ _ _ _ _ _ c.requires.typing c.requires.is c.as_slice.ensures
    c.in_ok-enter.ensures.scopes c.enter.ensures.types c.in_ok-first.ensures

pub cast_for-cast_held-requires : goal.cast_for-cast_held-requires
cast_for-cast_held-requires t c = (
  search (rules, the_lemmas),
  for_step c.args.self.now.helpers.now c.args.self.now.returned c.args.known.now c.enter.new.self c.cast_stmts.new.known c.args.stmt.now _ _ _ _ _ _ c.requires.typing c.requires.is c.as_slice.ensures
      c.in_ok-enter.ensures.scopes c.enter.ensures.types c.in_ok-first.ensures,
)

pub cast_for-cast_inside-requires : goal.cast_for-cast_inside-requires
cast_for-cast_inside-requires t c = (
  search (rules, the_lemmas),
  for_body c.args.self.now.helpers.now c.args.self.now.returned c.args.known.now c.enter.new.self c.cast_stmts.new.known c.cast_held.new.known c.args.stmt.now _ _ _ _ _ _ _ c.requires.typing c.requires.is
      c.as_slice.ensures c.in_ok-enter.ensures.scopes c.enter.ensures.types c.in_ok-first.ensures c.in_ok-step.ensures,
)
