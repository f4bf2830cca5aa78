use Rattle.std.proofs.Common.{sym, ◌∙◌, arith}
use Rattle.c_parse.proofs.Rules.{if_ok}
use Rattle.c_parse.proofs.Lengths.{declaration_shorter, stmt_shorter}
use Rattle.c_parse.proofs.StmtRules.{adds_item, adds_stmt}
use Rattle.c_parse.proofs.Chains.{stopped}
use Rattle.c_parse.proofs.HelperItems.{declared_before, stated_before, statement_stops_before, added_where}
use Rattle.c_parse.proofs.cursor.Cursor.plain_item.Goals as goal

pub returns-then-is_at_type : goal.returns-then-is_at_type
returns-then-is_at_type c = record {
  added = if_ok _ _ _ (λ x a. adds_item _ _ _ _ a) c.declaration.ensures.derived;
  shorter = if_ok _ _ _ (λ x a. declaration_shorter _ _ _ _ a) c.declaration.ensures.derived;
  judged = λ behind begins free some. declared_before behind _ _ _ _ _ (sym c.is_at_type.ensures ∙ c.if-is_at_type.true) begins free (added_where _ _ c.declaration.ensures.derived) (c.declaration.ensures.judged 1 (omega arith));
}

pub returns-in_err-stmt-clause-judged : goal.returns-in_err-stmt-clause-judged
returns-in_err-stmt-clause-judged c = λ behind begins free some. rw (stopped _ _ c.from_residual.ensures.1) (statement_stops_before behind _ _ (sym c.is_at_type.ensures ∙ c.if-is_at_type.false) some begins free (c.in_err-stmt.ensures.judged 1 (omega arith)))

pub returns : goal.returns
returns c = record {
  added = adds_stmt _ _ _ _ _ c.in_ok-stmt.ensures.derived c.in_ok-push.ensures.ok;
  shorter = stmt_shorter _ _ _ c.in_ok-stmt.ensures.derived;
  judged = λ behind begins free some. stated_before _ behind _ _ (sym c.is_at_type.ensures ∙ c.if-is_at_type.false) some begins free c.in_ok-stmt.ensures.derived (c.in_ok-stmt.ensures.judged 1 (omega arith));
}
