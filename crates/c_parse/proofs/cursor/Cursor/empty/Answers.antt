use Rattle.std.proofs.Common.{[], ◌∷◌, refl}
use Rattle.c_parse.specs.Symbols.{Symbol}
use Rattle.c_parse.proofs.StmtRules.{reads_empty}
use Rattle.c_parse.proofs.Chains.{went, same_then, same_takes, same_reduces}
use Rattle.c_parse.proofs.cursor.Cursor.empty.Goals as goal

pub returns : goal.returns
returns c = record {
  derived = reads_empty _ _ _ c.in_ok-at.ensures.read;
  judged = λ n small next. went (Symbol.statement n ∷ []) [] (same_then (same_takes c.in_ok-at.ensures.read refl small) same_reduces);
}
