use Rattle.c_parse.specs.Reads.{InParens}
use Rattle.c_parse.proofs.Rules.{reads_boxed}
use Rattle.c_parse.proofs.cursor.Cursor.condition.Goals as goal

pub returns : goal.returns
returns c = record {
  derived = reads_boxed (λ e ts. InParens ts e) _ _ _ _ c.in_ok-inner.ensures.derived c.in_ok-new.ensures;
  judged = c.in_ok-inner.ensures.judged;
}
