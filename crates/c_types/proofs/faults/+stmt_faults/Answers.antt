use Rattle.std.proofs.Common.{◌≡◌, ◌+◌, [], ◌∷◌, ◌++◌, take, sym, ap, ◌∙◌}
use Rattle.c_types.specs.Faults.{sorts_after}
use Rattle.c_types.proofs.FirstFaults.{item_more}
use Rattle.c_types.proofs.Arms.{after_inner, block_arm, block_scopes, if_arm, while_arm, do_arm, for_arm, for_scopes, one_more_stmt, one_more_after}
use Rattle.c_types.proofs.faults.+stmt_faults.Goals as goal

pub of_inner-returns-clause-scopes : goal.of_inner-returns-clause-scopes
of_inner-returns-clause-scopes t c = after_inner _ _ _ _ _ c.in_ok-enter.ensures.entered c.enter.ensures.some c.in_ok-fault.ensures.scopes c.leave.ensures

pub of_stmt-returns-in_ok-fault-in-Block-clause-fault : goal.of_stmt-returns-in_ok-fault-in-Block-clause-fault
of_stmt-returns-in_ok-fault-in-Block-clause-fault t c =
    block_arm _ _ _ _ _ _ _ _ c.in-Block.is c.as_slice.ensures c.in_ok-enter-in-Block.ensures.entered c.in_ok-fault-in-Block.ensures.fault

pub of_stmt-returns-in_ok-fault-in-Block-clause-scopes : goal.of_stmt-returns-in_ok-fault-in-Block-clause-scopes
of_stmt-returns-in_ok-fault-in-Block-clause-scopes t c =
    block_scopes c.args.stmt.now c.in-Block.body c.as_slice.result.now _ _ _ _ c.in-Block.is c.in_ok-enter-in-Block.ensures.entered c.enter.ensures.some c.in_ok-fault-in-Block.ensures.scopes c.leave.ensures

pub of_stmt-returns-in_ok-in_other-in-If-clause-scopes : goal.of_stmt-returns-in_ok-in_other-in-If-clause-scopes
of_stmt-returns-in_ok-in_other-in-If-clause-scopes t c = c.in_ok-in_other-in-If.ensures.scopes ∙ c.in_ok-in_then-in-If.ensures.scopes ∙ sym (ap (sorts_after c.args.scopes.now) c.in-If.is)

pub of_stmt-returns-in_ok-in_body-in-While-clause-scopes : goal.of_stmt-returns-in_ok-in_body-in-While-clause-scopes
of_stmt-returns-in_ok-in_body-in-While-clause-scopes t c = c.in_ok-in_body-in-While.ensures.scopes ∙ sym (ap (sorts_after c.args.scopes.now) c.in-While.is)

pub of_stmt-returns-in_ok-in_body-in-DoWhile-clause-scopes : goal.of_stmt-returns-in_ok-in_body-in-DoWhile-clause-scopes
of_stmt-returns-in_ok-in_body-in-DoWhile-clause-scopes t c = c.in_ok-in_body-in-DoWhile.ensures.scopes ∙ sym (ap (sorts_after c.args.scopes.now) c.in-DoWhile.is)

pub of_stmt-returns-in_ok-in_other-in-If-clause-fault : goal.of_stmt-returns-in_ok-in_other-in-If-clause-fault
of_stmt-returns-in_ok-in_other-in-If-clause-fault t c =
    if_arm c.args.stmt.now c.in-If.cond c.in-If.then c.in-If.other c.args.returned c.args.in_loop c.args.scopes.now c.of_inner.new.scopes c.of_inner.new.scopes _ _ _ _ _ c.in-If.is
    c.of_boxed-in_cond.ensures c.in_ok-in_then-in-If.ensures.fault c.in_ok-in_then-in-If.ensures.scopes c.in_ok-in_other-in-If.ensures.fault c.earlier-rest.ensures c.earlier-in-If.ensures

pub of_stmt-returns-in_ok-in_body-in-While-clause-fault : goal.of_stmt-returns-in_ok-in_body-in-While-clause-fault
of_stmt-returns-in_ok-in_body-in-While-clause-fault t c =
    while_arm c.args.stmt.now c.in-While.cond c.in-While.body c.args.returned c.args.in_loop c.args.scopes.now _ _ _ c.in-While.is
    c.of_boxed-in_cond-in-While.ensures c.in_ok-in_body-in-While.ensures.fault c.earlier-in-While.ensures

pub of_stmt-returns-in_ok-in_body-in-DoWhile-clause-fault : goal.of_stmt-returns-in_ok-in_body-in-DoWhile-clause-fault
of_stmt-returns-in_ok-in_body-in-DoWhile-clause-fault t c =
    do_arm c.args.stmt.now c.in-DoWhile.body c.in-DoWhile.cond c.args.returned c.args.in_loop c.args.scopes.now c.of_inner-in-DoWhile.new.scopes _ _ _ c.in-DoWhile.is
    c.in_ok-in_body-in-DoWhile.ensures.fault c.in_ok-in_body-in-DoWhile.ensures.scopes c.of_boxed-in_cond-in-DoWhile.ensures c.earlier-in-DoWhile.ensures

pub of_stmt-returns-in_ok-in_body-in-For-clause-fault : goal.of_stmt-returns-in_ok-in_body-in-For-clause-fault
of_stmt-returns-in_ok-in_body-in-For-clause-fault t c =
    for_arm c.args.stmt.now c.in-For.first c.as_slice-in-For.result.now c.in-For.cond c.in-For.step c.in-For.body c.args.returned c.args.in_loop c.args.scopes.now c.enter-in-For.new.self c.of_stmts-in-For.new.scopes c.of_held-in-For.new.scopes
    _ _ _ _ _ _ _ c.in-For.is c.as_slice-in-For.ensures c.in_ok-enter-in-For.ensures.entered c.in_ok-in_first-in-For.ensures.fault c.in_ok-in_first-in-For.ensures.scopes
    c.of_option-in_cond.ensures c.in_ok-in_step-in-For.ensures.fault c.in_ok-in_step-in-For.ensures.scopes c.in_ok-in_body-in-For.ensures.fault
    c.earlier-last.ensures c.earlier-rest-in-For.ensures c.earlier-in-For.ensures

pub of_stmt-returns-in_ok-in_body-in-For-clause-scopes : goal.of_stmt-returns-in_ok-in_body-in-For-clause-scopes
of_stmt-returns-in_ok-in_body-in-For-clause-scopes t c =
    for_scopes c.args.stmt.now c.in-For.first c.as_slice-in-For.result.now c.in-For.cond c.in-For.step c.in-For.body c.args.scopes.now c.enter-in-For.new.self c.of_stmts-in-For.new.scopes c.of_held-in-For.new.scopes c.of_inner-in-For.new.scopes _
    c.in-For.is c.in_ok-enter-in-For.ensures.entered c.enter-in-For.ensures.some c.in_ok-in_first-in-For.ensures.scopes c.in_ok-in_step-in-For.ensures.scopes c.in_ok-in_body-in-For.ensures.scopes c.leave-in-For.ensures

pub of_stmts-loop-stmt-preserved : goal.of_stmts-loop-stmt-preserved
of_stmts-loop-stmt-preserved t c =
    let more : take (c.loop-stmt.stmt-index + 1) c.args.stmts.now ≡ take c.loop-stmt.stmt-index c.args.stmts.now ++ c.stmt-item.result ∷ [] =
    item_more c.args.stmts.now c.loop-stmt.stmt-index c.stmt-item.result c.loop-stmt-test.true c.stmt-item.is in
    record {
      fault = one_more_stmt (take c.loop-stmt.stmt-index c.args.stmts.now) (take (c.loop-stmt.stmt-index + 1) c.args.stmts.now) c.stmt-item.result c.args.returned c.args.in_loop c.args.scopes.now c.loop-stmt.scopes
          c.loop-stmt.first c.in_ok-of_stmt.field-0 _ more c.loop-stmt.invariant.fault c.loop-stmt.invariant.scopes c.in_ok-of_stmt.ensures.fault c.earlier-first.ensures;
      scopes = one_more_after (take c.loop-stmt.stmt-index c.args.stmts.now) (take (c.loop-stmt.stmt-index + 1) c.args.stmts.now) c.stmt-item.result c.args.scopes.now c.loop-stmt.scopes _ more c.loop-stmt.invariant.scopes c.in_ok-of_stmt.ensures.scopes;
    }
