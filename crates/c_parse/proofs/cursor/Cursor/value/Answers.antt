use Rattle.c_ast.specs.Derives.{DerivesExpr}
use Rattle.c_parse.proofs.Rules.{reads_boxed}
use Rattle.c_parse.proofs.cursor.Cursor.value.Goals as goal

pub returns : goal.returns
returns c = record {
  derived = reads_boxed (λ e ts. DerivesExpr 0 ts e) _ _ _ _ c.in_ok-value.ensures.derived c.in_ok-new.ensures;
  judged = c.in_ok-value.ensures.judged;
}
