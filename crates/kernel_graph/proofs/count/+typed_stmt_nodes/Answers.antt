use Rattle.std.proofs.Common.{min, ◌∙◌, ap}
use Rattle.c_ast.specs.Nodes.{act_nodes, typed_expr_nodes, typed_opt_nodes, typed_stmt_nodes, typed_stmts_nodes, typed_held_nodes}
use Rattle.c_ast.proofs.TypedNodeEquations.{act_choice, act_while_loop, act_for_loop}
use Rattle.kernel_graph.proofs.Counted.{most, of_two, of_three, of_four}
use Rattle.kernel_graph.proofs.count.+typed_stmt_nodes.Goals as goal

pub of_stmt-returns-in-If : goal.of_stmt-returns-in-If
of_stmt-returns-in-If t c =
    of_three (typed_stmt_nodes c.args.stmt.now) (typed_expr_nodes c.in-If.cond) (typed_stmt_nodes c.in-If.then) (typed_held_nodes c.in-If.other) c.of_expr-in-If.result c.of_stmt.result c.of_held.result c.node-in-If.result
    (ap act_nodes c.in-If.is ∙ act_choice c.in-If.cond c.in-If.then c.in-If.other) c.of_expr-in-If.ensures (c.of_stmt.ensures ∙ ap (λ s. min (typed_stmt_nodes s) most) c.get.ensures) c.of_held.ensures c.node-in-If.ensures

pub of_stmt-returns-in-While : goal.of_stmt-returns-in-While
of_stmt-returns-in-While t c =
    of_two (typed_stmt_nodes c.args.stmt.now) (typed_expr_nodes c.in-While.cond) (typed_stmt_nodes c.in-While.body) c.of_expr-in-While.result c.of_stmt-in-While.result c.node-in-While.result
    (ap act_nodes c.in-While.is ∙ act_while_loop c.in-While.cond c.in-While.body) c.of_expr-in-While.ensures (c.of_stmt-in-While.ensures ∙ ap (λ s. min (typed_stmt_nodes s) most) c.get-in-While.ensures) c.node-in-While.ensures

pub of_stmt-returns-in-For : goal.of_stmt-returns-in-For
of_stmt-returns-in-For t c =
    of_four (typed_stmt_nodes c.args.stmt.now) (typed_stmts_nodes c.in-For.first) (typed_opt_nodes c.in-For.cond) (typed_held_nodes c.in-For.step) (typed_stmt_nodes c.in-For.body) c.of_stmts-in-For.result
    c.of_option-in-For.result c.of_held-in-For.result c.of_stmt-in-For.result c.node-in-For.result (ap act_nodes c.in-For.is ∙ act_for_loop c.in-For.first c.in-For.cond c.in-For.step c.in-For.body)
    (c.of_stmts-in-For.ensures ∙ ap (λ ss. min (typed_stmts_nodes ss) most) c.as_slice-in-For.ensures) c.of_option-in-For.ensures c.of_held-in-For.ensures
    (c.of_stmt-in-For.ensures ∙ ap (λ s. min (typed_stmt_nodes s) most) c.get-in-For.ensures) c.node-in-For.ensures
