use Rattle.std.proofs.Common.{◌∷◌, ◌++◌, [], length, arith, refl, ap, ◌∙◌}
use Rattle.std.proofs.lemmas.Option.{slice_get_past, slice_get_read}
use Rattle.c_inline.proofs.Weights.{weight_at, weights_of, stmts_weight, helper_weight, w_element, w_call, w_block, w_for}
use Rattle.c_inline.proofs.Tables.{weight_of}
use Rattle.c_inline.proofs.Parts.{is_element, is_binary, is_choice, is_call, is_block}
use Rattle.c_inline.proofs.Fits.{indices_fit, call_fits, helper_fits, body_fits, value_fits, inside_fits, first_fits, for_cond_fits, for_step_fits, for_body_fits}
use Rattle.c_inline.proofs.Joins.{element_makes, binary_makes, choice_makes, call_makes, none_called, some_called}
use Rattle.c_inline.proofs.StmtJoins.{block_becomes, if_becomes, for_becomes}
use Rattle.c_inline.proofs.walk.Inliner.+walk.Goals as goal

pub expr-exprs-requires : goal.expr-exprs-requires
expr-exprs-requires t c =
    let is = is_element c.args.e.now _ _ _ c.in-Element.is c.as_slice.ensures in (omega (arith, c.decreases, w_element (weights_of c.args.self.now.helpers.now) c.args.e.now _ _ is), indices_fit c.args.self.now.helpers.now c.args.self.now.base c.args.vars.now c.args.e.now _ _ is c.requires)

pub expr-call-requires : goal.expr-call-requires
expr-call-requires t c =
    let is = is_call c.args.e.now _ _ _ c.in-Call.is c.as_slice-in-Call.ensures in (omega (arith, c.decreases, w_call (weights_of c.args.self.now.helpers.now) c.args.e.now _ _ is), call_fits c.args.self.now.helpers.now c.args.self.now.base c.args.vars.now c.args.e.now _ _ _ is refl c.requires)

pub expr-returns-in_ok-indices-in-Element : goal.expr-returns-in_ok-indices-in-Element
expr-returns-in_ok-indices-in-Element t c =
    element_makes c.args.self.now.helpers.now c.args.self.now.base c.args.e.now _ _ _ c.args.before.now c.args.vars.now _ _ _ (is_element c.args.e.now _ _ _ c.in-Element.is c.as_slice.ensures) c.in_ok-indices-in-Element.ensures c.left_of-in-Element.ensures

pub expr-returns-in_ok-right-in-Binary : goal.expr-returns-in_ok-right-in-Binary
expr-returns-in_ok-right-in-Binary t c =
    binary_makes c.args.self.now.helpers.now c.args.self.now.base c.args.e.now _ _ _ _ _ c.args.before.now c.args.vars.now _ _ _ _ _ (is_binary c.args.e.now _ _ _ _ _ c.in-Binary.is c.get-in-Binary.ensures c.get-in-Binary-2.ensures) c.in_ok-left-in-Binary.ensures c.in_ok-right-in-Binary.ensures c.left_of-in-Binary.ensures

pub expr-returns-in_ok-other-in-Choose : goal.expr-returns-in_ok-other-in-Choose
expr-returns-in_ok-other-in-Choose t c =
    choice_makes c.args.self.now.helpers.now c.args.self.now.base c.args.e.now _ _ _ _ _ _ c.args.before.now c.args.vars.now _ _ _ _ _ _ _ (is_choice c.args.e.now _ _ _ _ _ _ c.in-Choose.is c.get-in-Choose.ensures c.get-in-Choose-2.ensures c.get-in-Choose-3.ensures) c.in_ok-cond-in-Choose.ensures c.in_ok-then-in-Choose.ensures c.in_ok-other-in-Choose.ensures c.left_of-in-Choose.ensures

pub expr-returns-in_ok-var-in-Call : goal.expr-returns-in_ok-var-in-Call
expr-returns-in_ok-var-in-Call t c =
    call_makes c.args.self.now.helpers.now c.args.self.now.base c.args.e.now _ _ _ _ c.args.before.now c.args.vars.now _ _ _ (is_call c.args.e.now _ _ _ c.in-Call.is c.as_slice-in-Call.ensures) refl c.in_ok-var-in-Call.ensures c.left_of-in-Call.ensures

pub call-returns-in-None : goal.call-returns-in-None
call-returns-in-None t c =
    none_called c.args.self.now.helpers.now c.args.self.now.base c.args.call.helper c.args.call.args.now _ c.args.call.at _ _ c.args.before.now c.args.vars.now _ _ _ (slice_get_past c.args.self.now.helpers.now c.args.call.helper c.in-None.ensures.lookup.3) c.in_ok-args.ensures c.next_var-var.ensures c.stmt_at.ensures c.in_ok-push-in-None.ensures.ok

pub call-written-requires : goal.call-written-requires
call-written-requires t c =
    let is = slice_get_read c.args.self.now.helpers.now (length c.args.self.now.helpers.now) c.args.call.helper c.in-Some.helper.now refl c.in-Some.ensures.lookup.3.0 (c.in-Some.ensures.lookup.3.1 c.in-Some.helper.now) in (omega (arith, c.decreases, ap weight_at (weight_of c.args.self.now.helpers.now _ _ is), ap (λ l. helper_weight (weights_of l) c.in-Some.helper.now) c.below.ensures), (c.next_var.ensures, helper_fits c.args.self.now.helpers.now _ c.args.self.now.base c.args.vars.now _ _ _ _ _ _ is c.below.ensures c.requires c.in_ok-args.ensures.made (c.as_slice.ensures ∙ c.in_ok-args.ensures.rest)))

pub call-returns : goal.call-returns
call-returns t c =
    let is = slice_get_read c.args.self.now.helpers.now (length c.args.self.now.helpers.now) c.args.call.helper c.in-Some.helper.now refl c.in-Some.ensures.lookup.3.0 (c.in-Some.ensures.lookup.3.1 c.in-Some.helper.now) in some_called c.args.self.now.helpers.now _ c.args.self.now.base c.args.call.helper c.in-Some.helper.now c.args.call.args.now _ _ c.args.call.at _ c.args.before.now c.args.vars.now _ _ _ _ is c.below.ensures c.in_ok-args.ensures c.as_slice.ensures c.in_ok-var-in-Some.ensures

pub written-stmts-requires : goal.written-stmts-requires
written-stmts-requires t c =
    (omega (arith, c.decreases, ap (stmts_weight (weights_of c.args.self.now.helpers.now)) c.as_slice-2.ensures), body_fits c.args.self.now.helpers.now _ c.args.vars.now _ c.args.helper.now _ c.args.args.now c.args.at c.requires.fits c.requires.base (c.in_ok-push.ensures.ok ∙ ap (λ l. l ++ c.args.helper.now.result ∷ []) (c.in_ok-add_types.ensures ∙ ap (λ l. c.args.vars.now ++ l) c.as_slice.ensures)) c.as_slice-2.ensures)

pub written-expr-requires : goal.written-expr-requires
written-expr-requires t c =
    (omega (arith, c.decreases), value_fits c.args.self.now.helpers.now _ c.args.vars.now _ _ c.args.helper.now _ c.args.args.now c.args.at c.requires.fits c.requires.base (c.in_ok-push.ensures.ok ∙ ap (λ l. l ++ c.args.helper.now.result ∷ []) (c.in_ok-add_types.ensures ∙ ap (λ l. c.args.vars.now ++ l) c.as_slice.ensures)) c.as_slice-2.ensures c.in_ok-stmts.ensures.made)

pub stmt-stmts-requires : goal.stmt-stmts-requires
stmt-stmts-requires t c =
    let is = is_block c.args.stmt.now _ _ c.in-Block.is c.as_slice.ensures in (omega (arith, c.decreases, w_block (weights_of c.args.self.now.helpers.now) c.args.stmt.now _ is), inside_fits c.args.self.now.helpers.now c.args.self.now.base c.args.vars.now c.args.stmt.now _ is c.requires)

pub stmt-returns-in_ok-stmts-in-Block : goal.stmt-returns-in_ok-stmts-in-Block
stmt-returns-in_ok-stmts-in-Block t c =
    block_becomes c.args.self.now.helpers.now c.args.self.now.base c.args.stmt.now _ _ _ _ c.args.vars.now _ _ c.in-Block.is c.as_slice.ensures c.new-made.ensures c.in_ok-stmts-in-Block.ensures c.stmt_at.ensures

pub choice-returns : goal.choice-returns
choice-returns t c =
    if_becomes c.args.self.now.helpers.now c.args.self.now.base c.args.stmt.now _ _ _ _ _ c.args.vars.now _ _ _ _ _ _ _ _ c.requires.is c.new-before.ensures c.in_ok-cond.ensures c.in_ok-then.ensures c.in_ok-other.ensures c.in_ok-kind.ensures c.stmt_at.ensures

pub for_loop-stmts-requires : goal.for_loop-stmts-requires
for_loop-stmts-requires t c =
    (omega (arith, c.decreases, w_for (weights_of c.args.self.now.helpers.now) c.args.stmt.now _ _ _ _ c.requires.is), first_fits c.args.self.now.helpers.now c.args.self.now.base c.args.vars.now c.args.stmt.now _ _ _ _ c.requires.is c.requires.fits)

pub for_loop-option-requires : goal.for_loop-option-requires
for_loop-option-requires t c =
    (omega (arith, c.decreases, w_for (weights_of c.args.self.now.helpers.now) c.args.stmt.now _ _ _ _ c.requires.is), for_cond_fits c.args.self.now.helpers.now c.args.self.now.base c.args.vars.now c.args.stmt.now _ _ _ _ c.requires.is c.requires.fits _ c.in_ok-stmts.ensures.made)

pub for_loop-held-requires : goal.for_loop-held-requires
for_loop-held-requires t c =
    (omega (arith, c.decreases, w_for (weights_of c.args.self.now.helpers.now) c.args.stmt.now _ _ _ _ c.requires.is), for_step_fits c.args.self.now.helpers.now c.args.self.now.base c.args.vars.now c.args.stmt.now _ _ _ _ c.requires.is c.requires.fits _ c.in_ok-stmts.ensures.made _ c.in_ok-cond.ensures.made)

pub for_loop-boxed_stmt-requires : goal.for_loop-boxed_stmt-requires
for_loop-boxed_stmt-requires t c =
    (omega (arith, c.decreases, w_for (weights_of c.args.self.now.helpers.now) c.args.stmt.now _ _ _ _ c.requires.is), for_body_fits c.args.self.now.helpers.now c.args.self.now.base c.args.vars.now c.args.stmt.now _ _ _ _ c.requires.is c.requires.fits _ c.in_ok-stmts.ensures.made _ c.in_ok-cond.ensures.made _ c.in_ok-step.ensures.made)

pub for_loop-returns : goal.for_loop-returns
for_loop-returns t c =
    for_becomes c.args.self.now.helpers.now c.args.self.now.base c.args.stmt.now _ _ _ _ _ _ _ _ c.args.vars.now _ _ _ _ _ _ _ _ c.requires.is c.new-opening.ensures c.in_ok-stmts.ensures c.in_ok-cond.ensures c.in_ok-step.ensures c.in_ok-body.ensures c.stmt_at.ensures
