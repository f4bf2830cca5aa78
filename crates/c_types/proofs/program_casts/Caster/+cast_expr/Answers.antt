use Rattle.std.proofs.Common.{length, take, sym, ap, subst, ◌∙◌, rules, arith}
use Rattle.std.proofs.lemmas.Result.{IfOk-weaker}
use Rattle.std.proofs.lemmas.List.{length-take-le}
use Rattle.c_types.proofs.FirstFaults.{item_more}
use Rattle.c_types.proofs.ProgramCastLemmas.{name_arm, element_arm, call_arm, callee_long, no_arguments, one_more_argument, number_arm, unary_arm, cast_arm, binary_arm, choose_arm, no_exprs, one_more_expr}
use Rattle.c_types.proofs.ProgramCastLemmas.{long_as}
use Rattle.c_types.proofs.ProgramExpressionParts.{name_use, call_use, item_typing, call_parts, element_use, element_parts, unary_part, cast_part, left_part, right_part, cond_part, then_part, other_part}
use Rattle.c_types.specs.ProgramContexts.{IsProgExpr}
use Rattle.c_ast.specs.declared.tree.Param.{Param}
use Rattle.c_ast.specs.ProgramCasts.{prog_converted}
use Rattle.c_ast.specs.declared.tree.ExprKind.TheViews.{the_lemmas}
use Rattle.c_types.proofs.program_casts.Caster.+cast_expr.Goals as goal

pub cast_expr-returns-in-Number : goal.cast_expr-returns-in-Number
cast_expr-returns-in-Number t c =
    IfOk-weaker c.prog_node.result _ _ (λ f made. number_arm c.args.self.now.helpers.now c.args.scopes.now c.args.expr.now _ _ f c.in-Number.is made) c.prog_node.ensures

pub cast_expr-returns-in_ok-arg-in-Unary : goal.cast_expr-returns-in_ok-arg-in-Unary
cast_expr-returns-in_ok-arg-in-Unary t c =
    IfOk-weaker c.unary.result _ _ (λ g made. unary_arm c.args.self.now.helpers.now c.args.scopes.now c.args.expr.now _ _ _ _ g c.in-Unary.is c.get.ensures c.in_ok-arg-in-Unary.ensures made) c.unary.ensures

pub cast_expr-returns-in_ok-arg-in-Cast : goal.cast_expr-returns-in_ok-arg-in-Cast
cast_expr-returns-in_ok-arg-in-Cast t c =
    IfOk-weaker c.cast.result _ _ (λ g made. cast_arm c.args.self.now.helpers.now c.args.scopes.now c.args.expr.now _ _ _ _ g c.in-Cast.is c.get-in-Cast.ensures c.in_ok-arg-in-Cast.ensures made) c.cast.ensures

pub cast_expr-returns-in_ok-right-in-Binary : goal.cast_expr-returns-in_ok-right-in-Binary
cast_expr-returns-in_ok-right-in-Binary t c =
    IfOk-weaker c.binary.result _ _ (λ g made. binary_arm c.args.self.now.helpers.now c.args.scopes.now c.args.expr.now _ _ _ _ _ _ _ g c.in-Binary.is c.get-in-Binary.ensures c.get-in-Binary-2.ensures
    c.in_ok-left-in-Binary.ensures c.in_ok-right-in-Binary.ensures made) c.binary.ensures

pub cast_expr-returns-in_ok-other-in-Choose : goal.cast_expr-returns-in_ok-other-in-Choose
cast_expr-returns-in_ok-other-in-Choose t c =
    IfOk-weaker c.choose.result _ _ (λ g made. choose_arm c.args.self.now.helpers.now c.args.scopes.now c.args.expr.now _ _ _ _ _ _ _ _ _ g c.in-Choose.is c.get-in-Choose.ensures c.get-in-Choose-2.ensures c.get-in-Choose-3.ensures
    c.in_ok-cond-in-Choose.ensures c.in_ok-then-in-Choose.ensures c.in_ok-other-in-Choose.ensures made) c.choose.ensures

pub cast_exprs-loop-expr-init : goal.cast_exprs-loop-expr-init
cast_exprs-loop-expr-init t c = no_exprs c.args.self.now.helpers.now c.args.scopes.now _ c.new-items.ensures

pub cast_exprs-loop-expr-preserved : goal.cast_exprs-loop-expr-preserved
cast_exprs-loop-expr-preserved t c =
    one_more_expr c.args.self.now.helpers.now c.args.scopes.now (take c.loop-expr.expr-index c.args.exprs.now) _ c.expr-item.result c.loop-expr.items _ _
    (item_more c.args.exprs.now c.loop-expr.expr-index c.expr-item.result c.loop-expr-test.true c.expr-item.is) c.loop-expr.invariant
    (subst (IsProgExpr c.args.self.now.helpers.now c.args.scopes.now c.expr-item.result) (sym c.into_inner.ensures) c.in_ok-cast_expr.ensures) c.in_ok-push.ensures.ok

pub cast_expr-cast_exprs-requires : goal.cast_expr-cast_exprs-requires
cast_expr-cast_exprs-requires t c = (search (rules, the_lemmas), element_parts c.args.self.now.helpers.now c.args.scopes.now c.args.expr.now _ _ c.as_slice.result.now c.requires c.in-Element.is c.as_slice.ensures)

pub cast_expr-cast_element-requires : goal.cast_expr-cast_element-requires
cast_expr-cast_element-requires t c =
    element_use c.args.self.now.helpers.now c.args.scopes.now c.args.expr.now c.in-Element.name c.in-Element.indices _ c.requires c.in-Element.is
    (long_as c.args.self.now.helpers.now c.args.scopes.now c.as_slice.result.now _ c.in_ok-indices-in-Element.ensures ∙ ap length c.as_slice.ensures)

pub cast_expr-cast_expr-requires : goal.cast_expr-cast_expr-requires
cast_expr-cast_expr-requires t c = (search (rules, the_lemmas), unary_part c.args.self.now.helpers.now c.args.scopes.now c.args.expr.now _ _ c.get.result.now c.requires c.in-Unary.is c.get.ensures)

pub cast_expr-cast_expr-requires-in-Cast : goal.cast_expr-cast_expr-requires-in-Cast
cast_expr-cast_expr-requires-in-Cast t c = (search (rules, the_lemmas), cast_part c.args.self.now.helpers.now c.args.scopes.now c.args.expr.now _ _ c.get-in-Cast.result.now c.requires c.in-Cast.is c.get-in-Cast.ensures)

pub cast_expr-cast_expr-requires-in-Binary : goal.cast_expr-cast_expr-requires-in-Binary
cast_expr-cast_expr-requires-in-Binary t c = (search (rules, the_lemmas), left_part c.args.self.now.helpers.now c.args.scopes.now c.args.expr.now _ _ _ c.get-in-Binary.result.now c.requires c.in-Binary.is c.get-in-Binary.ensures)

pub cast_expr-cast_expr-requires-in-Binary-2 : goal.cast_expr-cast_expr-requires-in-Binary-2
cast_expr-cast_expr-requires-in-Binary-2 t c = (search (rules, the_lemmas), right_part c.args.self.now.helpers.now c.args.scopes.now c.args.expr.now _ _ _ c.get-in-Binary-2.result.now c.requires c.in-Binary.is c.get-in-Binary-2.ensures)

pub cast_expr-cast_expr-requires-in-Choose : goal.cast_expr-cast_expr-requires-in-Choose
cast_expr-cast_expr-requires-in-Choose t c = (search (rules, the_lemmas), cond_part c.args.self.now.helpers.now c.args.scopes.now c.args.expr.now _ _ _ c.get-in-Choose.result.now c.requires c.in-Choose.is c.get-in-Choose.ensures)

pub cast_expr-cast_expr-requires-in-Choose-2 : goal.cast_expr-cast_expr-requires-in-Choose-2
cast_expr-cast_expr-requires-in-Choose-2 t c = (search (rules, the_lemmas), then_part c.args.self.now.helpers.now c.args.scopes.now c.args.expr.now _ _ _ c.get-in-Choose-2.result.now c.requires c.in-Choose.is c.get-in-Choose-2.ensures)

pub cast_expr-cast_expr-requires-in-Choose-3 : goal.cast_expr-cast_expr-requires-in-Choose-3
cast_expr-cast_expr-requires-in-Choose-3 t c = (search (rules, the_lemmas), other_part c.args.self.now.helpers.now c.args.scopes.now c.args.expr.now _ _ _ c.get-in-Choose-3.result.now c.requires c.in-Choose.is c.get-in-Choose-3.ensures)

pub cast_expr-returns-in-Name : goal.cast_expr-returns-in-Name
cast_expr-returns-in-Name t c = IfOk-weaker c.cast_name.result _ _ (λ f made. name_arm c.args.self.now.helpers.now c.args.scopes.now c.args.expr.now c.in-Name.name f c.in-Name.is made) c.cast_name.ensures

pub cast_expr-returns-in_ok-indices-in-Element : goal.cast_expr-returns-in_ok-indices-in-Element
cast_expr-returns-in_ok-indices-in-Element t c =
    IfOk-weaker c.cast_element.result _ _ (λ f made. element_arm c.args.self.now.helpers.now c.args.scopes.now c.args.expr.now _ _ _ _ f c.in-Element.is c.as_slice.ensures c.in_ok-indices-in-Element.ensures made) c.cast_element.ensures

pub cast_expr-returns-in_ok-args-in-Call : goal.cast_expr-returns-in_ok-args-in-Call
cast_expr-returns-in_ok-args-in-Call t c =
    let called = call_use c.args.self.now.helpers.now c.args.scopes.now c.args.expr.now c.in-Call.name c.in-Call.args c.requires c.in-Call.is in
    IfOk-weaker c.prog_node-in-Call.result _ _
    (λ g made. call_arm c.args.self.now.helpers.now c.args.scopes.now c.args.expr.now c.in-Call.name c.in-Call.args _ c.callee-helper.result.0 c.callee-helper.result.1.now _ _ g c.in-Call.is c.as_slice-in-Call.ensures called.undeclared c.callee-helper.ensures c.as_slice-params.ensures
    (callee_long c.args.self.now.helpers.now c.in-Call.name _ c.callee-helper.result.0 c.callee-helper.result.1.now called.callee c.callee-helper.ensures) c.in_ok-args-in-Call.ensures made) c.prog_node-in-Call.ensures

pub cast_expr-cast_name-requires : goal.cast_expr-cast_name-requires
cast_expr-cast_name-requires t c = name_use c.args.self.now.helpers.now c.args.scopes.now c.args.expr.now c.in-Name.name c.requires c.in-Name.is

pub cast_args-loop-place-init : goal.cast_args-loop-place-init
cast_args-loop-place-init t c = no_arguments c.args.self.now.helpers.now c.args.scopes.now c.args.params.now _ c.new-items.ensures

pub cast_args-loop-place-preserved : goal.cast_args-loop-place-preserved
cast_args-loop-place-preserved t c =
    one_more_argument c.args.self.now.helpers.now c.args.scopes.now c.args.params.now (take c.loop-place.place c.args.args.now) _ c.index-args-place.result c.loop-place.items _ _ _ c.loop-place.place c.index-params-place.result
    (item_more c.args.args.now c.loop-place.place c.index-args-place.result c.loop-place-test.true c.index-args-place.is)
    (length-take-le c.loop-place.place c.args.args.now (omega (arith, c.loop-place-test.true))) (omega (arith, c.loop-place-test.true, c.requires.one_for_each)) c.index-params-place.is c.loop-place.invariant
    c.in_ok-value.ensures (c.into_inner.ensures ∙ c.in_ok-arg.ensures ∙ ap (λ (p : Param). prog_converted p.ty c.in_ok-value.value) (sym c.index-params-place.is)) c.in_ok-push.ensures.ok

pub cast_expr-callee-helper-requires-clause-named : goal.cast_expr-callee-helper-requires-clause-named
cast_expr-callee-helper-requires-clause-named t c =
    let called = call_use c.args.self.now.helpers.now c.args.scopes.now c.args.expr.now c.in-Call.name c.in-Call.args c.requires c.in-Call.is in
    record { place = called.callee.place; callee = called.callee.callee; found = called.callee.found }

pub cast_exprs-cast_expr-requires : goal.cast_exprs-cast_expr-requires
cast_exprs-cast_expr-requires t c = (
  search (rules, the_lemmas),
  item_typing c.args.self.now.helpers.now c.args.scopes.now c.args.exprs.now c.loop-expr.expr-index c.expr-item.result c.requires c.loop-expr-test.true c.expr-item.is,
)

pub cast_args-cast_expr-requires : goal.cast_args-cast_expr-requires
cast_args-cast_expr-requires t c = (
  search (rules, the_lemmas),
  item_typing c.args.self.now.helpers.now c.args.scopes.now c.args.args.now c.loop-place.place c.index-args-place.result c.requires.typing c.loop-place-test.true c.index-args-place.is,
)

pub cast_expr-cast_args-requires : goal.cast_expr-cast_args-requires
cast_expr-cast_args-requires t c =
    let called = call_use c.args.self.now.helpers.now c.args.scopes.now c.args.expr.now c.in-Call.name c.in-Call.args c.requires c.in-Call.is in (
      search (rules, the_lemmas),
      (
        call_parts c.args.self.now.helpers.now c.args.scopes.now c.args.expr.now c.in-Call.name c.in-Call.args _ c.requires c.in-Call.is c.as_slice-in-Call.ensures,
        ap length c.as_slice-in-Call.ensures ∙ callee_long c.args.self.now.helpers.now c.in-Call.name _ c.callee-helper.result.0 c.callee-helper.result.1.now called.callee c.callee-helper.ensures
            ∙ sym (ap length c.as_slice-params.ensures),
      ),
    )
