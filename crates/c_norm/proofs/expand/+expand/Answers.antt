use Rattle.std.proofs.Common.{length, arith, rules, refl, sym, ap, ◌∙◌}
use Rattle.c_ast.specs.declared.typed.TypedExprKind.TheVariants as expr
use Rattle.c_ast.specs.declared.typed.TypedExprKind.TheViews.{the_lemmas}
use Rattle.c_ast.specs.Nodes.{typed_expr_nodes}
use Rattle.c_norm.specs.Expand.{expand_all}
use Rattle.c_norm.proofs.Coded.{few_expanded, few_expanded_all, left_is, whole_arm, element_arm, unary_arm, cast_arm, joined_arm, plain_arm, logical_arm, kept_arm, choice_arm, goes_first, part_room, room_next, expand_next, goes_end, nodes_element, nodes_unary, nodes_cast, nodes_binary, nodes_choice}
use Rattle.c_norm.proofs.expand.+expand.Goals as goal

pub expand-returns-clause-few : goal.expand-returns-clause-few
expand-returns-clause-few t c = few_expanded c.args.e.now c.args.before.now c.args.vars.now _ _ _ _ c.in_ok-rest.ensures

pub kind-returns-in-Number : goal.kind-returns-in-Number
kind-returns-in-Number t c = left_is c.args.e.now _ _ _ _ _ _ _ _ c.left_of.ensures refl (whole_arm c.args.e.now _ c.args.before.now c.args.vars.now c.in-Number.is refl refl)

pub kind-returns-in-Var : goal.kind-returns-in-Var
kind-returns-in-Var t c = left_is c.args.e.now _ _ _ _ _ _ _ _ c.left_of-in-Var.ensures refl (whole_arm c.args.e.now _ c.args.before.now c.args.vars.now c.in-Var.is refl refl)

pub kind-expand_all-requires : goal.kind-expand_all-requires
kind-expand_all-requires t c =
    (search (rules, the_lemmas), omega (arith, c.requires, nodes_element c.args.e.now c.in-Element.array c.as_slice.result.now (c.in-Element.is ∙ ap (expr.Element c.in-Element.array) (sym c.as_slice.ensures))))

pub kind-returns-in_ok-indices-in-Element : goal.kind-returns-in_ok-indices-in-Element
kind-returns-in_ok-indices-in-Element t c =
    left_is c.args.e.now _ _ _ _ _ _ _ _ c.left_of-in-Element.ensures refl (element_arm c.args.e.now _ _ _ c.args.before.now c.args.vars.now _ _ (c.in-Element.is ∙ ap (expr.Element c.in-Element.array) (sym c.as_slice.ensures)) c.in_ok-indices-in-Element.ensures.expanded)

pub kind-expand-requires : goal.kind-expand-requires
kind-expand-requires t c =
    (search (rules, the_lemmas), omega (arith, c.requires, nodes_unary c.args.e.now c.in-Unary.op c.get.result.now (c.in-Unary.is ∙ ap (expr.Unary c.in-Unary.op) (sym c.get.ensures))))

pub kind-returns-in_ok-arg-in-Unary : goal.kind-returns-in_ok-arg-in-Unary
kind-returns-in_ok-arg-in-Unary t c =
    left_is c.args.e.now _ _ _ _ _ _ _ _ c.left_of-in-Unary.ensures (ap (expr.Unary c.in-Unary.op) c.in_ok-arg-in-Unary.ensures)
    (unary_arm c.args.e.now _ _ _ _ c.args.before.now c.args.vars.now _ _ (c.in-Unary.is ∙ ap (expr.Unary c.in-Unary.op) (sym c.get.ensures)) c.in_ok-inner-in-Unary.ensures.expanded)

pub kind-expand-requires-in-Cast : goal.kind-expand-requires-in-Cast
kind-expand-requires-in-Cast t c =
    (search (rules, the_lemmas), omega (arith, c.requires, nodes_cast c.args.e.now c.in-Cast.implied c.get-in-Cast.result.now (c.in-Cast.is ∙ ap (expr.Cast c.in-Cast.implied) (sym c.get-in-Cast.ensures))))

pub kind-returns-in_ok-arg-in-Cast : goal.kind-returns-in_ok-arg-in-Cast
kind-returns-in_ok-arg-in-Cast t c =
    left_is c.args.e.now _ _ _ _ _ _ _ _ c.left_of-in-Cast.ensures (ap (expr.Cast c.in-Cast.implied) c.in_ok-arg-in-Cast.ensures)
    (cast_arm c.args.e.now _ _ _ _ c.args.before.now c.args.vars.now _ _ (c.in-Cast.is ∙ ap (expr.Cast c.in-Cast.implied) (sym c.get-in-Cast.ensures)) c.in_ok-inner-in-Cast.ensures.expanded)

pub kind-binary-requires : goal.kind-binary-requires
kind-binary-requires t c =
    let is = c.in-Binary.is ∙ ap (λ x. expr.Binary c.in-Binary.op x c.in-Binary.right) (sym c.get-in-Binary.ensures) ∙ ap (λ y. expr.Binary c.in-Binary.op c.get-in-Binary.result.now y) (sym c.get-in-Binary-2.ensures) in
    (search (rules, the_lemmas), (is, omega (arith, c.requires, nodes_binary c.args.e.now c.in-Binary.op c.get-in-Binary.result.now c.get-in-Binary-2.result.now is)))

pub kind-choose-requires : goal.kind-choose-requires
kind-choose-requires t c =
    let is = c.in-Choose.is ∙ ap (λ x. expr.Choose x c.in-Choose.then c.in-Choose.other) (sym c.get-in-Choose.ensures) ∙ ap (λ y. expr.Choose c.get-in-Choose.result.now y c.in-Choose.other) (sym c.get-in-Choose-2.ensures)
    ∙ ap (λ z. expr.Choose c.get-in-Choose.result.now c.get-in-Choose-2.result.now z) (sym c.get-in-Choose-3.ensures) in
    (search (rules, the_lemmas), (is, omega (arith, c.requires, nodes_choice c.args.e.now c.get-in-Choose.result.now c.get-in-Choose-2.result.now c.get-in-Choose-3.result.now is)))

pub binary-expand-requires : goal.binary-expand-requires
binary-expand-requires t c = (search (rules, the_lemmas), omega (arith, c.requires.room))

pub choose-expand-requires : goal.choose-expand-requires
choose-expand-requires t c = (search (rules, the_lemmas), omega (arith, c.requires.room))

pub expand_all-loop-e-init : goal.expand_all-loop-e-init
expand_all-loop-e-init t c = record { goes = goes_first (expand_all (length c.args.vars.now) c.args.exprs.now) c.args.before.now c.args.vars.now _ c.new-rests.ensures; room = omega arith }

pub expand_all-expand-requires : goal.expand_all-expand-requires
expand_all-expand-requires t c = (
  search (rules, the_lemmas),
  part_room typed_expr_nodes c.args.exprs.now c.loop-e.e-index c.e-item.result c.args.vars.now c.loop-e.vars c.loop-e-test.true c.e-item.is c.loop-e.invariant.room c.requires,
)

pub expand_all-loop-e-preserved : goal.expand_all-loop-e-preserved
expand_all-loop-e-preserved t c = record {
  goes = expand_next c.args.exprs.now c.loop-e.e-index c.e-item.result _ _ _ _ c.loop-e.vars _ _ _ _ _ _ c.loop-e-test.true c.e-item.is c.loop-e.invariant.goes c.in_ok-one.ensures.expanded c.in_ok-push.ensures.ok;
  room = room_next typed_expr_nodes c.args.exprs.now c.loop-e.e-index c.e-item.result c.args.vars.now c.loop-e.vars _ c.loop-e-test.true c.e-item.is c.loop-e.invariant.room (omega (arith, c.in_ok-one.ensures.few));
}

pub expand_all-returns-clause-expanded : goal.expand_all-returns-clause-expanded
expand_all-returns-clause-expanded t c = goes_end (expand_all (length c.loop-e.vars)) c.args.exprs.now c.loop-e.e-index _ _ _ _ _ _ refl (omega (arith, c.loop-e-test.false)) c.loop-e.invariant.goes

pub expand_all-returns-clause-few : goal.expand_all-returns-clause-few
expand_all-returns-clause-few t c = few_expanded_all c.args.exprs.now c.args.before.now c.args.vars.now _ _ _ (expand_all-returns-clause-expanded t c)

pub binary-returns-in_ok-kind-in-None : goal.binary-returns-in_ok-kind-in-None
binary-returns-in_ok-kind-in-None t c =
    left_is c.args.e.now _ _ _ _ _ _ _ _ (c.left_of.ensures) c.in_ok-kind-in-None.ensures
    (joined_arm c.args.e.now c.args.op _ _ _ _ _ _ _ c.args.before.now c.args.vars.now _ _ _ _ c.requires.is (sym c.decided_by.ensures ∙ c.in-None.is) c.in_ok-first.ensures.expanded c.in_ok-second-in-None.ensures.expanded c.neither_reads-plain.ensures)

pub binary-returns-then-plain : goal.binary-returns-then-plain
binary-returns-then-plain t c =
    left_is c.args.e.now _ _ _ _ _ _ _ _ c.left_of-then-plain.ensures c.in_ok-kind-in-Some.ensures
    (plain_arm c.args.e.now c.args.op _ _ _ _ _ _ c.args.before.now c.args.vars.now _ _ _ _ _ c.requires.is c.in_ok-first.ensures.expanded c.in_ok-second-in-Some.ensures.expanded (sym c.neither_reads-plain-in-Some.ensures ∙ c.if-plain.true))

pub binary-returns-in_ok-var-in-Some : goal.binary-returns-in_ok-var-in-Some
binary-returns-in_ok-var-in-Some t c =
    left_is c.args.e.now _ _ _ _ _ _ _ _ c.left_of-in-Some.ensures refl
    (logical_arm c.args.e.now c.args.op _ _ _ _ _ _ _ c.args.before.now c.args.vars.now _ _ _ _ _ _ _ _ _ _ c.requires.is (sym c.decided_by.ensures ∙ c.in-Some.is) c.in_ok-first.ensures.expanded c.new-inside.ensures c.in_ok-second-in-Some.ensures.expanded (sym c.neither_reads-plain-in-Some.ensures ∙ c.if-plain.false)
    c.in_ok-var-in-Some.ensures.number c.in_ok-var-in-Some.ensures.made refl refl c.in_ok-var-in-Some.ensures.set)

pub choose-returns-then-plain : goal.choose-returns-then-plain
choose-returns-then-plain t c =
    left_is c.args.e.now _ _ _ _ _ _ _ _ c.left_of.ensures c.in_ok-kind.ensures
    (kept_arm c.args.e.now _ _ _ _ _ _ _ _ _ c.args.before.now c.args.vars.now _ _ _ _ _ _ _ _ c.requires.is c.in_ok-test.ensures.expanded c.in_ok-first.ensures.expanded c.in_ok-second.ensures.expanded (sym c.neither_reads-plain.ensures ∙ c.if-plain.true))

pub choose-returns : goal.choose-returns
choose-returns t c =
    left_is c.args.e.now _ _ _ _ _ _ _ _ c.left_of-2.ensures refl
    (choice_arm c.args.e.now _ _ _ _ _ _ _ _ _ c.args.before.now c.args.vars.now _ _ _ _ _ _ _ _ _ _ _ c.requires.is c.in_ok-test.ensures.expanded c.new-inside.ensures c.in_ok-first.ensures.expanded c.new-inside_other.ensures c.in_ok-second.ensures.expanded
    (sym c.neither_reads-plain.ensures ∙ c.if-plain.false) c.in_ok-var.ensures.number c.in_ok-var.ensures.made c.in_ok-var.ensures.set)
