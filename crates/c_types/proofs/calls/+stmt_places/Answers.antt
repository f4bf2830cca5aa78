use Rattle.std.proofs.Common.{true, false, ◌++◌, ap, ◌∙◌, refl, take}
use Rattle.c_types.specs.Places.{first_of}
use Rattle.c_types.specs.CallPlaces.{expr_places, option_places, act_places, stmt_places, stmts_places, inner_places}
use Rattle.c_types.proofs.FirstFaults.{of_two, of_three, one_more, item_more}
use Rattle.c_types.proofs.CallLayers.{in_if, in_while, in_for}
use Rattle.c_types.proofs.calls.+stmt_places.Goals as goal

pub of_stmts-loop-stmt-preserved : goal.of_stmts-loop-stmt-preserved
of_stmts-loop-stmt-preserved t c =
    one_more stmts_places stmt_places refl (λ s ss. refl) (take c.loop-stmt.stmt-index c.args.stmts.now) _ c.stmt-item.result c.loop-stmt.first c.of_stmt.result _
    (item_more c.args.stmts.now c.loop-stmt.stmt-index c.stmt-item.result c.loop-stmt-test.true c.stmt-item.is) c.loop-stmt.invariant c.of_stmt.ensures c.earlier-first.ensures

pub of_stmt-returns-in-If : goal.of_stmt-returns-in-If
of_stmt-returns-in-If t c =
    of_three (expr_places true c.in-If.cond) (stmt_places c.in-If.then) (inner_places c.in-If.other) (stmt_places c.args.stmt.now) _ _ _ _ _
    (ap act_places c.in-If.is ∙ in_if c.in-If.cond c.in-If.then c.in-If.other)
    c.of_boxed-in_cond.ensures (c.of_stmt-in_then.ensures ∙ ap (λ s. first_of (stmt_places s)) c.get.ensures) c.of_held-in_other.ensures c.earlier-rest.ensures c.earlier-in-If.ensures

pub of_stmt-returns-in-While : goal.of_stmt-returns-in-While
of_stmt-returns-in-While t c =
    of_two (expr_places false c.in-While.cond) (stmt_places c.in-While.body) (stmt_places c.args.stmt.now) _ _ _ (ap act_places c.in-While.is ∙ in_while c.in-While.cond c.in-While.body)
    c.of_boxed-in_cond-in-While.ensures (c.of_stmt-in_body.ensures ∙ ap (λ s. first_of (stmt_places s)) c.get-in-While.ensures) c.earlier-in-While.ensures

pub of_stmt-returns-in-For : goal.of_stmt-returns-in-For
of_stmt-returns-in-For t c =
    of_two (stmts_places c.in-For.first) (option_places false c.in-For.cond ++ (inner_places c.in-For.step ++ stmt_places c.in-For.body)) (stmt_places c.args.stmt.now) _ _ _
    (ap act_places c.in-For.is ∙ in_for c.in-For.first c.in-For.cond c.in-For.step c.in-For.body)
    (c.of_stmts-in_first.ensures ∙ ap (λ ss. first_of (stmts_places ss)) c.as_slice-in-For.ensures)
    (of_three (option_places false c.in-For.cond) (inner_places c.in-For.step) (stmt_places c.in-For.body) (option_places false c.in-For.cond ++ (inner_places c.in-For.step ++ stmt_places c.in-For.body)) _ _ _ _ _ refl
    c.of_option-in_cond.ensures c.of_held-in_step.ensures (c.of_stmt-in_body-in-For.ensures ∙ ap (λ s. first_of (stmt_places s)) c.get-in-For.ensures) c.earlier-last.ensures c.earlier-rest-in-For.ensures)
    c.earlier-in-For.ensures
