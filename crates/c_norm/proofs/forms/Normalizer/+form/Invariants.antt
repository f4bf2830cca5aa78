use Rattle.std.proofs.Common.{◌+◌, ◌*◌, ◌≤◌, length, drop}
use Rattle.c_ast.specs.Nodes.{typed_stmt_nodes, typed_stmts_nodes, typed_held_nodes}
use Rattle.c_norm.specs.Code.{stmts_form, StmtsGoOn}
use Rattle.c_norm.proofs.forms.Normalizer.+form.Given as goal

abbrev pub decreases-kind : goal.decreases-kind
decreases-kind l = 5 * typed_stmt_nodes l.stmt.now

abbrev pub decreases-form : goal.decreases-form
decreases-form l = 5 * typed_stmt_nodes l.stmt.now + 1

abbrev pub decreases-forms : goal.decreases-forms
decreases-forms l = 5 * typed_stmts_nodes l.stmts.now + 2

abbrev pub decreases-inside : goal.decreases-inside
decreases-inside l = 5 * typed_stmt_nodes l.stmt.now + 2

abbrev pub decreases-held : goal.decreases-held
decreases-held l = 5 * typed_held_nodes l.stmt.now + 3

abbrev pub decreases-block : goal.decreases-block
decreases-block l = 5 * typed_stmts_nodes l.stmts.now + 3

abbrev pub decreases-choice : goal.decreases-choice
decreases-choice l = 5 * (typed_stmt_nodes l.then.now + typed_held_nodes l.other.now) + 4

abbrev pub decreases-while_loop : goal.decreases-while_loop
decreases-while_loop l = 5 * typed_stmt_nodes l.body.now + 4

abbrev pub decreases-do_loop : goal.decreases-do_loop
decreases-do_loop l = 5 * typed_stmt_nodes l.body.now + 4

abbrev pub decreases-for_loop : goal.decreases-for_loop
decreases-for_loop l = 5 * (typed_stmts_nodes l.first.now + typed_held_nodes l.step.now + typed_stmt_nodes l.body.now) + 4

abbrev pub invariant-forms-loop-stmt : goal.invariant-forms-loop-stmt
invariant-forms-loop-stmt l = record {
  goes : StmtsGoOn (stmts_form l.self.typed.now (length l.vars) (drop l.stmt-index l.stmts)) (stmts_form l.self.typed.now (length l.fn.vars) l.stmts) l.fn.out l.fn.vars l.out l.vars;
  room : length l.vars + typed_stmts_nodes (drop l.stmt-index l.stmts) ≤ length l.fn.vars + typed_stmts_nodes l.stmts;
}
