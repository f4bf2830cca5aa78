use Rattle.std.proofs.Common.{false, refl, sym, ap, ◌∙◌, take}
use Rattle.c_ast.specs.Programs.{joins_both, where_whole}
use Rattle.c_types.specs.Places.{first_of}
use Rattle.c_types.specs.CallPlaces.{call_places, kind_places, expr_places, exprs_places}
use Rattle.c_types.proofs.FirstFaults.{of_two, of_three, one_more, item_more}
use Rattle.c_types.proofs.CallLayers.{in_element, in_call, in_binary, in_choice}
use Rattle.c_types.proofs.calls.+expr_places.Goals as goal

pub of_exprs-loop-expr-preserved : goal.of_exprs-loop-expr-preserved
of_exprs-loop-expr-preserved t c =
    one_more (exprs_places c.args.may) (expr_places c.args.may) refl (λ e es. refl) (take c.loop-expr.expr-index c.args.exprs.now) _ c.expr-item.result c.loop-expr.first c.of_expr.result _
    (item_more c.args.exprs.now c.loop-expr.expr-index c.expr-item.result c.loop-expr-test.true c.expr-item.is) c.loop-expr.invariant c.of_expr.ensures c.earlier-first.ensures

pub of_expr-returns-in-Element : goal.of_expr-returns-in-Element
of_expr-returns-in-Element t c =
    c.of_exprs.ensures ∙ ap (λ es. first_of (exprs_places c.args.may es)) c.as_slice.ensures
    ∙ sym (ap first_of (ap (λ k. kind_places c.args.may k c.args.expr.now.at) c.in-Element.is ∙ in_element c.args.may c.in-Element.name c.in-Element.indices c.args.expr.now.at))

pub of_expr-returns-in-Call : goal.of_expr-returns-in-Call
of_expr-returns-in-Call t c =
    of_two (call_places c.args.may c.in-Call.name c.args.expr.now.at) (exprs_places c.args.may c.in-Call.args) (expr_places c.args.may c.args.expr.now) _ _ _
    (ap (λ k. kind_places c.args.may k c.args.expr.now.at) c.in-Call.is ∙ in_call c.args.may c.in-Call.name c.in-Call.args c.args.expr.now.at)
    c.of_call-here.ensures (c.of_exprs-in_args.ensures ∙ ap (λ es. first_of (exprs_places c.args.may es)) c.as_slice-in-Call.ensures) c.earlier.ensures

pub of_expr-returns-in-Binary : goal.of_expr-returns-in-Binary
of_expr-returns-in-Binary t c =
    of_two (expr_places c.args.may c.in-Binary.left) (expr_places (where_whole (joins_both c.in-Binary.op) c.args.may) c.in-Binary.right) (expr_places c.args.may c.args.expr.now) _ _ _
    (ap (λ k. kind_places c.args.may k c.args.expr.now.at) c.in-Binary.is ∙ in_binary c.args.may c.in-Binary.op c.in-Binary.left c.in-Binary.right c.args.expr.now.at)
    (c.of_expr-in_left.ensures ∙ ap (λ e. first_of (expr_places c.args.may e)) c.get-in-Binary.ensures)
    (c.of_expr-in_right.ensures ∙ ap (λ e. first_of (expr_places c.may_in_right.result e)) c.get-in-Binary-2.ensures ∙ ap (λ b. first_of (expr_places b c.in-Binary.right)) c.may_in_right.ensures)
    c.earlier-in-Binary.ensures

pub of_expr-returns-in-Choose : goal.of_expr-returns-in-Choose
of_expr-returns-in-Choose t c =
    of_three (expr_places c.args.may c.in-Choose.cond) (expr_places false c.in-Choose.then) (expr_places false c.in-Choose.other) (expr_places c.args.may c.args.expr.now) _ _ _ _ _
    (ap (λ k. kind_places c.args.may k c.args.expr.now.at) c.in-Choose.is ∙ in_choice c.args.may c.in-Choose.cond c.in-Choose.then c.in-Choose.other c.args.expr.now.at)
    (c.of_expr-in_cond.ensures ∙ ap (λ e. first_of (expr_places c.args.may e)) c.get-in-Choose.ensures)
    (c.of_expr-in_then.ensures ∙ ap (λ e. first_of (expr_places false e)) c.get-in-Choose-2.ensures)
    (c.of_expr-in_other.ensures ∙ ap (λ e. first_of (expr_places false e)) c.get-in-Choose-3.ensures)
    c.earlier-sides.ensures c.earlier-in-Choose.ensures
