use Rattle.std.proofs.Common.{length, arith, refl, sym, ap, ◌∙◌}
use Rattle.std.proofs.lemmas.List.Sums.{get_or-le-sum_by}
use Rattle.std.proofs.lemmas.Result.{IfOk-weaker}
use Rattle.c_ast.specs.Nodes.{typed_exprs_nodes, typed_stmt_nodes}
use Rattle.c_ast.specs.declared.typed.TypedTarget.{TypedTarget}
use Rattle.c_ast.specs.declared.typed.TypedStmtKind.TheVariants as act
use Rattle.c_norm.specs.Code.{stmts_form}
use Rattle.c_norm.proofs.Coded.{part_room, room_next}
use Rattle.c_norm.proofs.MadeArms.{few_stmt, few_stmts, last_made, left_alone, stands_alone, block_made, held_none, held_some, block_arm, declare_arm, return_arm, if_arm, while_arm, do_arm, for_arm, stmts_first, stmts_next, stmts_end, nodes_block, nodes_declare, nodes_assign, nodes_step, nodes_if, nodes_while, nodes_do, nodes_for, nodes_return}
use Rattle.c_norm.proofs.forms.Normalizer.+form.Goals as goal

pub form-returns-clause-made : goal.form-returns-clause-made
form-returns-clause-made t c = last_made _ c.args.stmt.now.at c.args.out.now c.args.vars.now _ _ _ _ c.in_ok-kind.ensures c.in_ok-put.ensures

pub form-returns-clause-few : goal.form-returns-clause-few
form-returns-clause-few t c = few_stmt c.args.self.now.typed.now c.args.stmt.now c.args.out.now c.args.vars.now _ _ (form-returns-clause-made t c)

pub kind-block-requires : goal.kind-block-requires
kind-block-requires t c =
    (omega (arith, c.decreases, nodes_block c.args.stmt.now c.as_slice.result.now (c.in-Block.is ∙ ap act.Block (sym c.as_slice.ensures))), omega (arith, c.requires, nodes_block c.args.stmt.now c.as_slice.result.now (c.in-Block.is ∙ ap act.Block (sym c.as_slice.ensures))))

pub kind-returns-in-Block : goal.kind-returns-in-Block
kind-returns-in-Block t c = IfOk-weaker _ _ _ (λ r h. stands_alone c.args.self.now.typed.now c.args.stmt.now _ c.args.out.now c.args.vars.now _ r (c.in-Block.is ∙ ap act.Block (sym c.as_slice.ensures)) h) c.block.ensures

pub kind-optional-requires : goal.kind-optional-requires
kind-optional-requires t c = omega (arith, c.requires, nodes_declare c.args.stmt.now c.in-Declare.var c.in-Declare.init c.in-Declare.is)

pub kind-returns-in_ok-init-in-Declare : goal.kind-returns-in_ok-init-in-Declare
kind-returns-in_ok-init-in-Declare t c = declare_arm c.args.self.now.typed.now c.args.stmt.now _ _ c.args.out.now c.args.vars.now _ _ _ c.in-Declare.is c.in_ok-init-in-Declare.ensures.expanded

pub kind-plain-requires : goal.kind-plain-requires
kind-plain-requires t c = omega (arith, c.requires, nodes_assign c.args.stmt.now c.in-Assign.target c.in-Assign.op c.in-Assign.value c.in-Assign.is)

pub kind-compound-requires : goal.kind-compound-requires
kind-compound-requires t c = omega (arith, c.requires, nodes_assign c.args.stmt.now c.in-Assign.target c.in-Assign.op c.in-Assign.value c.in-Assign.is, ap (λ (z : TypedTarget). typed_exprs_nodes z.indices) c.new-update.ensures.target)

pub kind-step-requires : goal.kind-step-requires
kind-step-requires t c = omega (arith, c.requires, nodes_step c.args.stmt.now c.in-Step.target c.in-Step.up c.in-Step.is, ap (λ (z : TypedTarget). typed_exprs_nodes z.indices) c.new-update-in-Step.ensures.target)

pub kind-choice-requires : goal.kind-choice-requires
kind-choice-requires t c =
    let is = c.in-If.is ∙ ap (λ x. act.If c.in-If.cond x c.in-If.other) (sym c.get.ensures) in
    (omega (arith, c.decreases, nodes_if c.args.stmt.now c.in-If.cond c.get.result.now c.in-If.other is), omega (arith, c.requires, nodes_if c.args.stmt.now c.in-If.cond c.get.result.now c.in-If.other is))

pub kind-returns-in-If : goal.kind-returns-in-If
kind-returns-in-If t c =
    let is = c.in-If.is ∙ ap (λ x. act.If c.in-If.cond x c.in-If.other) (sym c.get.ensures) in
    IfOk-weaker _ _ _ (λ r h. stands_alone c.args.self.now.typed.now c.args.stmt.now _ c.args.out.now c.args.vars.now _ r is h) c.choice.ensures

pub kind-while_loop-requires : goal.kind-while_loop-requires
kind-while_loop-requires t c =
    let is = c.in-While.is ∙ ap (λ x. act.While c.in-While.cond x) (sym c.get-in-While.ensures) in
    (omega (arith, c.decreases, nodes_while c.args.stmt.now c.in-While.cond c.get-in-While.result.now is), omega (arith, c.requires, nodes_while c.args.stmt.now c.in-While.cond c.get-in-While.result.now is))

pub kind-returns-in-While : goal.kind-returns-in-While
kind-returns-in-While t c =
    let is = c.in-While.is ∙ ap (λ x. act.While c.in-While.cond x) (sym c.get-in-While.ensures) in
    IfOk-weaker _ _ _ (λ r h. stands_alone c.args.self.now.typed.now c.args.stmt.now _ c.args.out.now c.args.vars.now _ r is h) c.while_loop.ensures

pub kind-do_loop-requires : goal.kind-do_loop-requires
kind-do_loop-requires t c =
    let is = c.in-DoWhile.is ∙ ap (λ x. act.DoWhile x c.in-DoWhile.cond) (sym c.get-in-DoWhile.ensures) in
    (omega (arith, c.decreases, nodes_do c.args.stmt.now c.get-in-DoWhile.result.now c.in-DoWhile.cond is), omega (arith, c.requires, nodes_do c.args.stmt.now c.get-in-DoWhile.result.now c.in-DoWhile.cond is))

pub kind-returns-in-DoWhile : goal.kind-returns-in-DoWhile
kind-returns-in-DoWhile t c =
    let is = c.in-DoWhile.is ∙ ap (λ x. act.DoWhile x c.in-DoWhile.cond) (sym c.get-in-DoWhile.ensures) in
    IfOk-weaker _ _ _ (λ r h. stands_alone c.args.self.now.typed.now c.args.stmt.now _ c.args.out.now c.args.vars.now _ r is h) c.do_loop.ensures

pub kind-for_loop-requires : goal.kind-for_loop-requires
kind-for_loop-requires t c =
    let is = c.in-For.is ∙ ap (λ xs. act.For xs c.in-For.cond c.in-For.step c.in-For.body) (sym c.as_slice-in-For.ensures) ∙ ap (λ x. act.For c.as_slice-in-For.result.now c.in-For.cond c.in-For.step x) (sym c.get-in-For.ensures) in
    (omega (arith, c.decreases, nodes_for c.args.stmt.now c.as_slice-in-For.result.now c.in-For.cond c.in-For.step c.get-in-For.result.now is), omega (arith, c.requires, nodes_for c.args.stmt.now c.as_slice-in-For.result.now c.in-For.cond c.in-For.step c.get-in-For.result.now is))

pub kind-returns-in-For : goal.kind-returns-in-For
kind-returns-in-For t c =
    let is = c.in-For.is ∙ ap (λ xs. act.For xs c.in-For.cond c.in-For.step c.in-For.body) (sym c.as_slice-in-For.ensures) ∙ ap (λ x. act.For c.as_slice-in-For.result.now c.in-For.cond c.in-For.step x) (sym c.get-in-For.ensures) in
    IfOk-weaker _ _ _ (λ r h. stands_alone c.args.self.now.typed.now c.args.stmt.now _ c.args.out.now c.args.vars.now _ r is h) c.for_loop.ensures

pub kind-returns-in-Break : goal.kind-returns-in-Break
kind-returns-in-Break t c = left_alone c.args.self.now.typed.now c.args.stmt.now act.Break _ c.args.out.now c.args.vars.now c.in-Break.is refl

pub kind-returns-in-Continue : goal.kind-returns-in-Continue
kind-returns-in-Continue t c = left_alone c.args.self.now.typed.now c.args.stmt.now act.Continue _ c.args.out.now c.args.vars.now c.in-Continue.is refl

pub kind-returns-in-Empty : goal.kind-returns-in-Empty
kind-returns-in-Empty t c = left_alone c.args.self.now.typed.now c.args.stmt.now act.Empty _ c.args.out.now c.args.vars.now c.in-Empty.is refl

pub kind-optional-requires-in-Return : goal.kind-optional-requires-in-Return
kind-optional-requires-in-Return t c = omega (arith, c.requires, nodes_return c.args.stmt.now c.in-Return.value c.in-Return.is)

pub kind-returns-in_ok-value-in-Return : goal.kind-returns-in_ok-value-in-Return
kind-returns-in_ok-value-in-Return t c = return_arm c.args.self.now.typed.now c.args.stmt.now _ c.args.out.now c.args.vars.now _ _ _ c.in-Return.is c.in_ok-value-in-Return.ensures.expanded

pub forms-loop-stmt-init : goal.forms-loop-stmt-init
forms-loop-stmt-init t c = record { goes = stmts_first (stmts_form c.args.self.now.typed.now (length c.args.vars.now) c.args.stmts.now) c.args.out.now c.args.vars.now; room = omega arith }

pub forms-form-requires : goal.forms-form-requires
forms-form-requires t c = (
  omega (arith, c.decreases, get_or-le-sum_by typed_stmt_nodes c.args.stmts.now c.loop-stmt.stmt-index c.stmt-item.result c.loop-stmt-test.true, ap typed_stmt_nodes c.stmt-item.is),
  part_room typed_stmt_nodes c.args.stmts.now c.loop-stmt.stmt-index c.stmt-item.result c.args.vars.now c.loop-stmt.vars c.loop-stmt-test.true c.stmt-item.is c.loop-stmt.invariant.room c.requires,
)

pub forms-loop-stmt-preserved : goal.forms-loop-stmt-preserved
forms-loop-stmt-preserved t c = record {
  goes = stmts_next c.args.self.now.typed.now c.args.stmts.now c.loop-stmt.stmt-index c.stmt-item.result _ _ _ _ c.loop-stmt.vars _ _ c.loop-stmt-test.true c.stmt-item.is c.loop-stmt.invariant.goes c.in_ok-form.ensures.made;
  room = room_next typed_stmt_nodes c.args.stmts.now c.loop-stmt.stmt-index c.stmt-item.result c.args.vars.now c.loop-stmt.vars _ c.loop-stmt-test.true c.stmt-item.is c.loop-stmt.invariant.room c.in_ok-form.ensures.few;
}

pub forms-returns-clause-made : goal.forms-returns-clause-made
forms-returns-clause-made t c = stmts_end c.args.self.now.typed.now c.args.stmts.now c.loop-stmt.stmt-index _ _ _ _ _ _ (omega (arith, c.loop-stmt-test.false)) c.loop-stmt.invariant.goes

pub forms-returns-clause-few : goal.forms-returns-clause-few
forms-returns-clause-few t c = few_stmts c.args.self.now.typed.now c.args.stmts.now c.args.out.now c.args.vars.now _ _ (forms-returns-clause-made t c)

pub inside-returns-clause-made : goal.inside-returns-clause-made
inside-returns-clause-made t c = block_made c.args.self.now.typed.now c.args.stmt.now _ _ c.args.vars.now _ _ c.new-stmts.ensures c.in_ok-form.ensures.made c.in_ok-boxed.ensures

pub held-returns-in-None-clause-made : goal.held-returns-in-None-clause-made
held-returns-in-None-clause-made t c = held_none c.args.self.now.typed.now _ _ c.args.vars.now c.in-None.is refl

pub held-returns-in_ok-block-in-Some-clause-made : goal.held-returns-in_ok-block-in-Some-clause-made
held-returns-in_ok-block-in-Some-clause-made t c = held_some c.args.self.now.typed.now _ _ _ _ c.args.vars.now _ _ c.in-Some.is c.get.ensures c.in_ok-block-in-Some.ensures.made refl

pub block-returns : goal.block-returns
block-returns t c = block_arm c.args.self.now.typed.now c.args.stmts.now c.args.vars.now _ _ _ c.new-made.ensures c.in_ok-forms.ensures.made

pub choice-returns : goal.choice-returns
choice-returns t c =
    if_arm c.args.self.now.typed.now c.args.cond.now c.args.then.now c.args.other.now c.args.vars.now _ _ _ _ _ _ _ _ _ c.new-before.ensures c.in_ok-test.ensures.expanded c.in_ok-then.ensures.made c.in_ok-other.ensures.made

pub while_loop-returns : goal.while_loop-returns
while_loop-returns t c =
    while_arm c.args.self.now.typed.now c.args.cond.now c.args.body.now c.args.vars.now _ _ _ _ _ _ _ c.new-before.ensures c.in_ok-test.ensures.expanded c.in_ok-body.ensures.made

pub do_loop-returns : goal.do_loop-returns
do_loop-returns t c =
    do_arm c.args.self.now.typed.now c.args.body.now c.args.cond.now c.args.vars.now _ _ _ _ _ _ _ c.in_ok-body.ensures.made c.new-before.ensures c.in_ok-test.ensures.expanded

pub for_loop-returns : goal.for_loop-returns
for_loop-returns t c =
    for_arm c.args.self.now.typed.now c.args.first.now c.args.cond.now c.args.step.now c.args.body.now c.args.vars.now _ _ _ _ _ _ _ _ _ _ _ c.new-opening.ensures c.in_ok-forms.ensures.made c.new-before.ensures c.in_ok-cond.ensures.expanded
    c.in_ok-step.ensures.made c.in_ok-body.ensures.made
