use Rattle.std.proofs.Common.{◌+◌, ◌*◌, length, drop}
use Rattle.std.specs.Prelude.{slice_get}
use Rattle.c_inline.specs.Making.{ExprsFit, StmtsFit, GoesOn, StmtsGoOn, outs_of, stmts_of}
use Rattle.c_inline.proofs.Weights.{weight_at, weights_of, expr_weight, exprs_weight, option_weight, stmt_weight, stmts_weight, held_weight, helper_weight}
use Rattle.c_inline.proofs.walk.Inliner.+walk.Given as goal

abbrev pub decreases-expr : goal.decreases-expr
decreases-expr l = 8 * expr_weight (weights_of l.self.now.helpers.now) l.e.now

abbrev pub decreases-boxed : goal.decreases-boxed
decreases-boxed l = 8 * expr_weight (weights_of l.self.now.helpers.now) l.e.now + 1

abbrev pub decreases-exprs : goal.decreases-exprs
decreases-exprs l = 8 * exprs_weight (weights_of l.self.now.helpers.now) l.list.now + 2

abbrev pub decreases-option : goal.decreases-option
decreases-option l = 8 * option_weight (weights_of l.self.now.helpers.now) l.e.now + 2

abbrev pub decreases-call : goal.decreases-call
decreases-call l = 8 * (exprs_weight (weights_of l.self.now.helpers.now) l.call.args.now + weight_at (slice_get (weights_of l.self.now.helpers.now) l.call.helper)) + 5

abbrev pub decreases-written : goal.decreases-written
decreases-written l = 8 * helper_weight (weights_of l.self.now.helpers.now) l.helper.now + 1

abbrev pub decreases-stmt : goal.decreases-stmt
decreases-stmt l = 8 * stmt_weight (weights_of l.self.now.helpers.now) l.stmt.now + 2

abbrev pub decreases-stmts : goal.decreases-stmts
decreases-stmts l = 8 * stmts_weight (weights_of l.self.now.helpers.now) l.list.now + 5

abbrev pub decreases-boxed_stmt : goal.decreases-boxed_stmt
decreases-boxed_stmt l = 8 * stmt_weight (weights_of l.self.now.helpers.now) l.one.now + 3

abbrev pub decreases-held : goal.decreases-held
decreases-held l = 8 * held_weight (weights_of l.self.now.helpers.now) l.one.now + 4

abbrev pub decreases-declare : goal.decreases-declare
decreases-declare l = 8 * stmt_weight (weights_of l.self.now.helpers.now) l.stmt.now + 1

abbrev pub decreases-give : goal.decreases-give
decreases-give l = 8 * stmt_weight (weights_of l.self.now.helpers.now) l.stmt.now + 1

abbrev pub decreases-assign : goal.decreases-assign
decreases-assign l = 8 * stmt_weight (weights_of l.self.now.helpers.now) l.stmt.now + 1

abbrev pub decreases-step : goal.decreases-step
decreases-step l = 8 * stmt_weight (weights_of l.self.now.helpers.now) l.stmt.now + 1

abbrev pub decreases-choice : goal.decreases-choice
decreases-choice l = 8 * stmt_weight (weights_of l.self.now.helpers.now) l.stmt.now + 1

abbrev pub decreases-while_loop : goal.decreases-while_loop
decreases-while_loop l = 8 * stmt_weight (weights_of l.self.now.helpers.now) l.stmt.now + 1

abbrev pub decreases-do_loop : goal.decreases-do_loop
decreases-do_loop l = 8 * stmt_weight (weights_of l.self.now.helpers.now) l.stmt.now + 1

abbrev pub decreases-for_loop : goal.decreases-for_loop
decreases-for_loop l = 8 * stmt_weight (weights_of l.self.now.helpers.now) l.stmt.now + 1

abbrev pub invariant-exprs-loop-e : goal.invariant-exprs-loop-e
invariant-exprs-loop-e l = record {
  goes : GoesOn (outs_of l.self.helpers.now l.self.base (length l.vars) (drop l.e-index l.list)) (outs_of l.self.helpers.now l.self.base (length l.fn.vars) l.list) l.fn.before l.fn.vars l.before l.vars l.rests;
  fits : ExprsFit l.self.helpers.now l.self.base l.vars (drop l.e-index l.list);
}

abbrev pub invariant-stmts-loop-one : goal.invariant-stmts-loop-one
invariant-stmts-loop-one l = record {
  goes : StmtsGoOn (stmts_of l.self.helpers.now l.self.base (length l.vars) (drop l.one-index l.list)) (stmts_of l.self.helpers.now l.self.base (length l.fn.vars) l.list) l.fn.out l.fn.vars l.out l.vars;
  fits : StmtsFit l.self.helpers.now l.self.base l.vars (drop l.one-index l.list);
}
