use Rattle.std.proofs.Common.{[], ◌∷◌, arith}
use Rattle.c_ast.specs.Derives.{DerivesTarget}
use Rattle.c_parse.specs.Symbols.{Symbol}
use Rattle.c_parse.specs.Parts.{target_symbols}
use Rattle.c_parse.proofs.Rules.{reads_boxed}
use Rattle.c_parse.proofs.StmtRules.{reads_target}
use Rattle.c_parse.proofs.Chains.{stopped, told, went, same_then, same_part, same_name, same_reduces, fails_then, part_fails, name_fails}
use Rattle.c_parse.proofs.cursor.Cursor.target.Goals as goal

pub returns-in_err-name-clause-judged : goal.returns-in_err-name-clause-judged
returns-in_err-name-clause-judged c = λ n deep. rw (stopped _ _ c.from_residual.ensures.1) (told (target_symbols n) (name_fails c.in_err-name.ensures.refused))

pub returns-in_err-indices-clause-judged : goal.returns-in_err-indices-clause-judged
returns-in_err-indices-clause-judged c = λ n deep. rw (stopped _ _ c.from_residual-in_err-indices.ensures.1) (told (target_symbols n) (fails_then (same_name (omega arith) c.in_ok-name.ensures.read) (fails_then same_reduces (part_fails (Symbol.indices n ∷ []) _ (c.in_err-indices.ensures.judged n deep)))))

pub returns : goal.returns
returns c = record {
  derived = reads_boxed (λ t ts. DerivesTarget ts t) _ _ _ _ (reads_target _ _ _ _ _ _ _ c.in_ok-name.ensures.read c.in_ok-indices.ensures.derived c.place.ensures) c.in_ok-new.ensures;
  judged = λ n deep. went (target_symbols n) [] (same_then (same_name (omega arith) c.in_ok-name.ensures.read) (same_then same_reduces (same_then (same_part (Symbol.indices n ∷ []) (c.in_ok-indices.ensures.judged n deep)) same_reduces)));
}
