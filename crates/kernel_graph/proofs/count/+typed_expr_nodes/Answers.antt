use Rattle.std.proofs.Common.{min, sym, ◌∙◌, ap}
use Rattle.c_ast.specs.declared.typed.TypedExprKind.TheVariants.{Cast}
use Rattle.c_ast.specs.Nodes.{typed_kind_nodes, typed_expr_nodes, typed_exprs_nodes}
use Rattle.c_ast.proofs.TypedNodeEquations.{typed_element, typed_unary, typed_implied, typed_written, typed_binary, typed_choice}
use Rattle.kernel_graph.proofs.Counted.{most, of_one, of_two, of_three}
use Rattle.kernel_graph.proofs.count.+typed_expr_nodes.Goals as goal

pub of_expr-returns-in-Element : goal.of_expr-returns-in-Element
of_expr-returns-in-Element t c =
    of_one (typed_expr_nodes c.args.expr.now) (typed_exprs_nodes c.in-Element.indices) c.of_exprs.result c.node-in-Element.result
    (ap typed_kind_nodes c.in-Element.is ∙ typed_element c.in-Element.array c.in-Element.indices) (c.of_exprs.ensures ∙ ap (λ es. min (typed_exprs_nodes es) most) c.as_slice.ensures) c.node-in-Element.ensures

pub of_expr-returns-in-Unary : goal.of_expr-returns-in-Unary
of_expr-returns-in-Unary t c =
    of_one (typed_expr_nodes c.args.expr.now) (typed_expr_nodes c.in-Unary.arg) c.of_expr.result c.node-in-Unary.result
    (ap typed_kind_nodes c.in-Unary.is ∙ typed_unary c.in-Unary.field-0 c.in-Unary.arg) (c.of_expr.ensures ∙ ap (λ e. min (typed_expr_nodes e) most) c.get.ensures) c.node-in-Unary.ensures

pub of_expr-returns-then-implied : goal.of_expr-returns-then-implied
of_expr-returns-then-implied t c =
    c.of_expr-of_arg.ensures ∙ (ap (λ e. min (typed_expr_nodes e) most) c.get-in-Cast.ensures
    ∙ sym (ap (λ n. min n most) (ap typed_kind_nodes c.in-Cast.is ∙ (ap (λ b. typed_kind_nodes (Cast b c.in-Cast.arg)) c.if-implied.true ∙ typed_implied c.in-Cast.arg))))

pub of_expr-returns-else-implied : goal.of_expr-returns-else-implied
of_expr-returns-else-implied t c =
    of_one (typed_expr_nodes c.args.expr.now) (typed_expr_nodes c.in-Cast.arg) c.of_expr-of_arg.result c.node-else-implied.result
    (ap typed_kind_nodes c.in-Cast.is ∙ (ap (λ b. typed_kind_nodes (Cast b c.in-Cast.arg)) c.if-implied.false ∙ typed_written c.in-Cast.arg)) (c.of_expr-of_arg.ensures ∙ ap (λ e. min (typed_expr_nodes e) most) c.get-in-Cast.ensures)
    c.node-else-implied.ensures

pub of_expr-returns-in-Binary : goal.of_expr-returns-in-Binary
of_expr-returns-in-Binary t c =
    of_two (typed_expr_nodes c.args.expr.now) (typed_expr_nodes c.in-Binary.left) (typed_expr_nodes c.in-Binary.right) c.of_expr-in-Binary.result c.of_expr-in-Binary-2.result c.node-in-Binary.result
    (ap typed_kind_nodes c.in-Binary.is ∙ typed_binary c.in-Binary.field-0 c.in-Binary.left c.in-Binary.right) (c.of_expr-in-Binary.ensures ∙ ap (λ e. min (typed_expr_nodes e) most) c.get-in-Binary.ensures)
    (c.of_expr-in-Binary-2.ensures ∙ ap (λ e. min (typed_expr_nodes e) most) c.get-in-Binary-2.ensures) c.node-in-Binary.ensures

pub of_expr-returns-in-Choose : goal.of_expr-returns-in-Choose
of_expr-returns-in-Choose t c =
    of_three (typed_expr_nodes c.args.expr.now) (typed_expr_nodes c.in-Choose.cond) (typed_expr_nodes c.in-Choose.yes) (typed_expr_nodes c.in-Choose.no) c.of_expr-in-Choose.result c.of_expr-in-Choose-2.result
    c.of_expr-in-Choose-3.result c.node-in-Choose.result (ap typed_kind_nodes c.in-Choose.is ∙ typed_choice c.in-Choose.cond c.in-Choose.yes c.in-Choose.no)
    (c.of_expr-in-Choose.ensures ∙ ap (λ e. min (typed_expr_nodes e) most) c.get-in-Choose.ensures) (c.of_expr-in-Choose-2.ensures ∙ ap (λ e. min (typed_expr_nodes e) most) c.get-in-Choose-2.ensures)
    (c.of_expr-in-Choose-3.ensures ∙ ap (λ e. min (typed_expr_nodes e) most) c.get-in-Choose-3.ensures) c.node-in-Choose.ensures
