use Rattle.std.proofs.Common.{length, refl, ap, ◌∙◌, take}
use Rattle.c_types.specs.Places.{first_of}
use Rattle.c_types.specs.Faults.{use_faults, call_faults, kind_faults, expr_faults, exprs_faults}
use Rattle.c_types.proofs.FirstFaults.{of_two, of_three, one_more, item_more}
use Rattle.c_types.proofs.Layers.{in_element, in_call, in_binary, in_choice}
use Rattle.c_types.proofs.faults.+expr_faults.Goals as goal

pub of_exprs-loop-expr-preserved : goal.of_exprs-loop-expr-preserved
of_exprs-loop-expr-preserved t c =
    one_more (exprs_faults c.args.scopes.now) (expr_faults c.args.scopes.now) refl (λ e es. refl) (take c.loop-expr.expr-index c.args.exprs.now) _ c.expr-item.result c.loop-expr.first c.of_expr.result _
    (item_more c.args.exprs.now c.loop-expr.expr-index c.expr-item.result c.loop-expr-test.true c.expr-item.is) c.loop-expr.invariant c.of_expr.ensures c.earlier-first.ensures

pub of_expr-returns-in-Element : goal.of_expr-returns-in-Element
of_expr-returns-in-Element t c =
    of_two (use_faults c.args.scopes.now c.in-Element.name (length c.in-Element.indices) c.args.expr.now.at) (exprs_faults c.args.scopes.now c.in-Element.indices) (expr_faults c.args.scopes.now c.args.expr.now) _ _ _
    (ap (λ k. kind_faults c.args.scopes.now k c.args.expr.now.at) c.in-Element.is ∙ in_element c.args.scopes.now c.in-Element.name c.in-Element.indices c.args.expr.now.at)
    (c.of_use-fault.ensures ∙ ap (λ n. first_of (use_faults c.args.scopes.now c.in-Element.name n c.args.expr.now.at)) c.len.ensures)
    (c.of_exprs.ensures ∙ ap (λ es. first_of (exprs_faults c.args.scopes.now es)) c.as_slice.ensures)
    c.earlier.ensures

pub of_expr-returns-in-Call : goal.of_expr-returns-in-Call
of_expr-returns-in-Call t c =
    of_two (call_faults c.args.scopes.now c.in-Call.name (length c.in-Call.args) c.args.expr.now.at) (exprs_faults c.args.scopes.now c.in-Call.args) (expr_faults c.args.scopes.now c.args.expr.now) _ _ _
    (ap (λ k. kind_faults c.args.scopes.now k c.args.expr.now.at) c.in-Call.is ∙ in_call c.args.scopes.now c.in-Call.name c.in-Call.args c.args.expr.now.at)
    (c.of_call-fault.ensures ∙ ap (λ n. first_of (call_faults c.args.scopes.now c.in-Call.name n c.args.expr.now.at)) c.len-in-Call.ensures)
    (c.of_exprs-in-Call.ensures ∙ ap (λ es. first_of (exprs_faults c.args.scopes.now es)) c.as_slice-in-Call.ensures)
    c.earlier-in-Call.ensures

pub of_expr-returns-in-Binary : goal.of_expr-returns-in-Binary
of_expr-returns-in-Binary t c =
    of_two (expr_faults c.args.scopes.now c.in-Binary.left) (expr_faults c.args.scopes.now c.in-Binary.right) (expr_faults c.args.scopes.now c.args.expr.now) _ _ _
    (ap (λ k. kind_faults c.args.scopes.now k c.args.expr.now.at) c.in-Binary.is ∙ in_binary c.args.scopes.now c.in-Binary.field-0 c.in-Binary.left c.in-Binary.right c.args.expr.now.at)
    (c.of_expr-in_left.ensures ∙ ap (λ e. first_of (expr_faults c.args.scopes.now e)) c.get-in-Binary.ensures)
    (c.of_expr-in_right.ensures ∙ ap (λ e. first_of (expr_faults c.args.scopes.now e)) c.get-in-Binary-2.ensures)
    c.earlier-in-Binary.ensures

pub of_expr-returns-in-Choose : goal.of_expr-returns-in-Choose
of_expr-returns-in-Choose t c =
    of_three (expr_faults c.args.scopes.now c.in-Choose.cond) (expr_faults c.args.scopes.now c.in-Choose.then) (expr_faults c.args.scopes.now c.in-Choose.other) (expr_faults c.args.scopes.now c.args.expr.now) _ _ _ _ _
    (ap (λ k. kind_faults c.args.scopes.now k c.args.expr.now.at) c.in-Choose.is ∙ in_choice c.args.scopes.now c.in-Choose.cond c.in-Choose.then c.in-Choose.other c.args.expr.now.at)
    (c.of_expr-in_cond.ensures ∙ ap (λ e. first_of (expr_faults c.args.scopes.now e)) c.get-in-Choose.ensures)
    (c.of_expr-in_then.ensures ∙ ap (λ e. first_of (expr_faults c.args.scopes.now e)) c.get-in-Choose-2.ensures)
    (c.of_expr-in_other.ensures ∙ ap (λ e. first_of (expr_faults c.args.scopes.now e)) c.get-in-Choose-3.ensures)
    c.earlier-sides.ensures c.earlier-in-Choose.ensures
