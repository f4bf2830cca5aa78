use Rattle.c_parse.proofs.Lengths.{stmt_shorter}
use Rattle.c_parse.proofs.StmtRules.{reads_empty, adds_stmt}
use Rattle.c_parse.proofs.JudgedStmts.{empty_item}
use Rattle.c_parse.proofs.cursor.Cursor.semicolon.Goals as goal

pub returns : goal.returns
returns c = record {
  added = adds_stmt _ _ _ _ _ (reads_empty _ _ _ c.in_ok-at.ensures.read) c.in_ok-push.ensures.ok;
  shorter = stmt_shorter _ _ _ (reads_empty _ _ _ c.in_ok-at.ensures.read);
  judged = λ n small next. (empty_item n _ _ _ small c.in_ok-at.ensures.read).holds;
}
