use Rattle.c_ast.specs.declared.typed.TypedExpr.{TypedExpr}
use Rattle.c_ast.specs.declared.typed.TypedExprKind.TheVariants as expr
use Rattle.c_ast.specs.declared.typed.TypedExprKind.TheViews.{the_lemmas}
use Rattle.std.proofs.Common.{◌≡◌, ◌∙◌, ◌<◌, Bool, IfOk, List, length, ap, sym, subst, arith, rules, refl}
use Rattle.std.proofs.lemmas.Grind.{common_steps}
use Rattle.std.proofs.lemmas.Result.{IfOk-weaker}
use Rattle.c_meaning.specs.Counts.{expr_price}
use Rattle.struct_cfg.specs.Code.{IsLaid, one_place}
use Rattle.struct_cfg.specs.Exprs.{piece}
use Rattle.struct_cfg.proofs.PlaceCode.{next_room, at_index, goes_next, goes_past, goes_end}
use Rattle.struct_cfg.proofs.exprs.Scope.+expr.Goals.{place-then-k-dims+in_ok-at, place-else-k-dims}
use Rattle.struct_cfg.proofs.ExprCode.{expr_few, unary_laid, cast_laid, binary_laid, choice_laid, element_laid, index_put, next_put, place_few, price_element, price_unary, price_cast, price_binary, price_choice}
use Rattle.struct_cfg.proofs.exprs.Scope.+expr.Goals as goal

pub expr-returns-clause-few : goal.expr-returns-clause-few
expr-returns-clause-few t c = expr_few c.args.self.now.arrays.now c.args.self.now.env.now c.args.e.now c.args.steps.now _ _ c.in_ok-value.ensures

pub kind-element-requires : goal.kind-element-requires
kind-element-requires t c =
    let is : c.args.e.now.kind ≡ expr.Element c.in-Element.array c.as_slice.result.now =
    c.in-Element.is
    ∙ ap (λ (xs : List TypedExpr). expr.Element c.in-Element.array xs) (sym c.as_slice.ensures) in
    (search (rules, the_lemmas), (is, omega (arith, price_element c.args.e.now _ _ is)))

pub kind-expr-requires : goal.kind-expr-requires
kind-expr-requires t c = (search (rules, the_lemmas), omega (arith, price_unary c.args.e.now _ _ c.in-Unary.is, ap expr_price c.get-arg.ensures))

pub kind-apply-requires : goal.kind-apply-requires
kind-apply-requires t c = omega (arith, price_unary c.args.e.now _ _ c.in-Unary.is, ap expr_price c.get-arg.ensures, c.in_ok-value-in-Unary.ensures.few)

pub kind-returns-in_ok-value-in-Unary : goal.kind-returns-in_ok-value-in-Unary
kind-returns-in_ok-value-in-Unary t c =
    let is : c.args.e.now.kind ≡ expr.Unary c.in-Unary.op c.get-arg.result.now = c.in-Unary.is ∙ ap (λ (x : TypedExpr). expr.Unary c.in-Unary.op x) (sym c.get-arg.ensures) in
    IfOk-weaker _ _ _ (λ u h. unary_laid c.args.self.now.arrays.now c.args.self.now.env.now c.args.e.now _ _ _ c.args.steps.now _ _ _ u is c.unary_operation.ensures c.in_ok-value-in-Unary.ensures.laid h) c.apply.ensures.laid

pub kind-expr-requires-in-Cast : goal.kind-expr-requires-in-Cast
kind-expr-requires-in-Cast t c = (search (rules, the_lemmas), omega (arith, price_cast c.args.e.now _ _ c.in-Cast.is, ap expr_price c.get-arg-in-Cast.ensures))

pub kind-convert-requires : goal.kind-convert-requires
kind-convert-requires t c = omega (arith, price_cast c.args.e.now _ _ c.in-Cast.is, ap expr_price c.get-arg-in-Cast.ensures, c.in_ok-value-in-Cast.ensures.few)

pub kind-returns-in_ok-value-in-Cast : goal.kind-returns-in_ok-value-in-Cast
kind-returns-in_ok-value-in-Cast t c =
    let is : c.args.e.now.kind ≡ expr.Cast c.in-Cast.implied c.get-arg-in-Cast.result.now = c.in-Cast.is ∙ ap (λ (x : TypedExpr). expr.Cast c.in-Cast.implied x) (sym c.get-arg-in-Cast.ensures) in
    IfOk-weaker _ _ _ (λ u h. cast_laid c.args.self.now.arrays.now c.args.self.now.env.now c.args.e.now _ _ c.args.steps.now _ _ _ u is c.in_ok-value-in-Cast.ensures.laid h) c.convert.ensures.laid

pub kind-expr-requires-in-Binary : goal.kind-expr-requires-in-Binary
kind-expr-requires-in-Binary t c = (search (rules, the_lemmas), omega (arith, price_binary c.args.e.now _ _ _ c.in-Binary.is, ap expr_price c.get-left.ensures))

pub kind-expr-requires-in-Binary-2 : goal.kind-expr-requires-in-Binary-2
kind-expr-requires-in-Binary-2 t c =
    (search (rules, the_lemmas), omega (arith, price_binary c.args.e.now _ _ _ c.in-Binary.is, ap expr_price c.get-left.ensures, ap expr_price c.get-right.ensures, c.in_ok-a-in-Binary.ensures.few))

pub kind-join-requires : goal.kind-join-requires
kind-join-requires t c =
    omega (arith, price_binary c.args.e.now _ _ _ c.in-Binary.is, ap expr_price c.get-left.ensures, ap expr_price c.get-right.ensures, c.in_ok-a-in-Binary.ensures.few, c.in_ok-b-in-Binary.ensures.few)

pub kind-returns-in_ok-b-in-Binary : goal.kind-returns-in_ok-b-in-Binary
kind-returns-in_ok-b-in-Binary t c =
    let is : c.args.e.now.kind ≡ expr.Binary c.in-Binary.op c.get-left.result.now c.get-right.result.now =
    c.in-Binary.is
    ∙ ap (λ (x : TypedExpr). expr.Binary c.in-Binary.op x c.in-Binary.right) (sym c.get-left.ensures)
    ∙ ap (λ (x : TypedExpr). expr.Binary c.in-Binary.op c.get-left.result.now x) (sym c.get-right.ensures) in
    IfOk-weaker _ _ _ (λ u h. binary_laid c.args.self.now.arrays.now c.args.self.now.env.now c.args.e.now _ _ _ _ _ c.args.steps.now _ _ _ _ _ u is c.of-left.ensures c.of-right.ensures c.in_ok-a-in-Binary.ensures.laid c.in_ok-b-in-Binary.ensures.laid h) c.join.ensures

pub kind-choose-requires : goal.kind-choose-requires
kind-choose-requires t c =
    let is : c.args.e.now.kind ≡ expr.Choose c.get.result.now c.get-in-Choose.result.now c.get-in-Choose-2.result.now =
    c.in-Choose.is
    ∙ ap (λ (x : TypedExpr). expr.Choose x c.in-Choose.yes c.in-Choose.no) (sym c.get.ensures)
    ∙ ap (λ (x : TypedExpr). expr.Choose c.get.result.now x c.in-Choose.no) (sym c.get-in-Choose.ensures)
    ∙ ap (λ (x : TypedExpr). expr.Choose c.get.result.now c.get-in-Choose.result.now x) (sym c.get-in-Choose-2.ensures) in
    (search (rules, the_lemmas), (is, omega (arith, price_choice c.args.e.now _ _ _ is)))

pub choose-returns : goal.choose-returns
choose-returns t c =
    choice_laid c.args.self.now.arrays.now c.args.self.now.env.now c.args.e.now c.args.parts.cond.now c.args.parts.yes.now c.args.parts.no.now _ c.args.steps.now _ _ _ _ _ _ _ _ _ _ c.requires.is c.width.ensures c.in_ok-test.ensures.laid c.in_ok-flag.ensures.laid c.in_ok-a.ensures.laid c.in_ok-b.ensures.laid c.in_ok-value.ensures.laid

pub element-returns : goal.element-returns
element-returns t c =
    element_laid c.args.self.now.arrays.now c.args.self.now.env.now c.args.e.now c.args.array c.args.indices.now _ c.args.steps.now _ _ _ _ c.requires.is c.dims_of.ensures c.in_ok-addr.ensures.laid c.in_ok-value.ensures.laid

pub index-returns-clause-laid : goal.index-returns-clause-laid
index-returns-clause-laid t c = index_put c.args.self.now.arrays.now c.args.self.now.env.now c.args.e.now c.args.steps.now _ _ _ _ c.in_ok-value.ensures.laid c.in_ok-wide.ensures.laid

pub next_place-returns-clause-laid : goal.next_place-returns-clause-laid
next_place-returns-clause-laid t c =
    next_put c.args.self.now.arrays.now c.args.self.now.env.now c.args.dim.at c.args.dim.size c.args.e.now c.args.steps.now _ _ _ _ _ _ _ _ c.in_ok-j.ensures.laid c.in_ok-width.ensures.laid c.in_ok-row.ensures.laid c.in_ok-place.ensures.laid

pub place-one_place-requires : goal.place-one_place-requires
place-one_place-requires t c =
    let more : c.loop-e.e-index < length c.args.indices.now = omega (arith, c.loop-e-test.true) in
    (search (rules, the_lemmas), next_room c.args.self.now.arrays.now c.args.self.now.env.now c.args.dims.now c.args.indices.now c.args.steps.now c.loop-e.e-index c.loop-e.k c.loop-e.at c.loop-e.steps c.e-item.result c.loop-e.invariant more c.e-item.is c.requires)

pub place-loop-e-preserved : goal.place-loop-e-preserved
place-loop-e-preserved t c =
    let more : c.loop-e.e-index < length c.args.indices.now = omega (arith, c.loop-e-test.true) in
    let is = at_index c.args.indices.now c.loop-e.e-index c.e-item.result more c.e-item.is in
    let some : 0 < length c.args.dims.now = grind (arith, common_steps) in
    elim c.if-k-dims.branch [
      | place-then-k-dims+in_ok-at w ↦ rw (w.k-is, w.at-is, w.steps-is) (goes_next c.args.self.now.arrays.now c.args.self.now.env.now c.args.dims.now c.args.indices.now c.e-item.result c.args.steps.now c.loop-e.steps _ c.loop-e.e-index c.loop-e.k c.loop-e.at _ _ _ refl w.if-k-dims.true refl is c.loop-e.invariant w.in_ok-at.ensures.laid w.in_ok-at.ensures.few)
      | place-else-k-dims w ↦ rw (w.k-is, w.at-is, w.steps-is) (goes_past c.args.self.now.arrays.now c.args.self.now.env.now c.args.dims.now c.args.indices.now c.e-item.result c.args.steps.now c.loop-e.steps c.loop-e.e-index c.loop-e.k c.loop-e.at some w.if-k-dims.false is c.loop-e.invariant)
    ]

pub place-returns-clause-laid : goal.place-returns-clause-laid
place-returns-clause-laid t c =
    let some : 0 < length c.args.indices.now = grind (arith, common_steps) in
    goes_end c.args.self.now.arrays.now c.args.self.now.env.now c.args.dims.now c.args.indices.now c.args.steps.now c.loop-e.steps c.loop-e.e-index c.loop-e.k c.loop-e.at some (omega (arith, c.loop-e-test.false)) c.loop-e.invariant

pub place-returns-clause-few : goal.place-returns-clause-few
place-returns-clause-few t c =
    place_few c.args.self.now.arrays.now c.args.self.now.env.now c.args.dims.now c.args.indices.now c.args.steps.now c.loop-e.steps c.loop-e.at (place-returns-clause-laid t c)

pub kind-returns-in-Choose : goal.kind-returns-in-Choose
kind-returns-in-Choose t c = c.choose.ensures

pub kind-returns-in-Element : goal.kind-returns-in-Element
kind-returns-in-Element t c = c.element.ensures

pub one_place-returns-else-dim-clause-laid : goal.one_place-returns-else-dim-clause-laid
one_place-returns-else-dim-clause-laid t c =
    let p = piece c.args.self.now.arrays.now c.args.self.now.env.now c.args.e.now in
    subst (λ (first : Bool). IfOk c.next_place.result (IsLaid (one_place first c.args.dim.at c.args.dim.size p) c.args.self.now.env.now c.args.steps.now c.next_place.new.steps)) (sym c.if-dim.false) c.next_place.ensures.laid

pub one_place-returns-then-dim-clause-laid : goal.one_place-returns-then-dim-clause-laid
one_place-returns-then-dim-clause-laid t c =
    let p = piece c.args.self.now.arrays.now c.args.self.now.env.now c.args.e.now in
    subst (λ (first : Bool). IfOk c.index.result (IsLaid (one_place first c.args.dim.at c.args.dim.size p) c.args.self.now.env.now c.args.steps.now c.index.new.steps)) (sym c.if-dim.true) c.index.ensures.laid
