use Rattle.std.proofs.Common.{rules, [], ◌∷◌}
use Rattle.c_parse.proofs.Rules.{reads_type_word, reads_with_int}
use Rattle.c_parse.specs.Symbols.{Symbol}
use Rattle.c_parse.proofs.Chains.{stopped, told, went}
use Rattle.c_parse.proofs.JudgedExprs.{same_type, same_int_type, type_fails}
use Rattle.c_parse.proofs.cursor.Cursor.ty.Goals as goal

pub returns-in_err-key-clause-judged : goal.returns-in_err-key-clause-judged
returns-in_err-key-clause-judged c = λ n small. rw (stopped _ _ c.from_residual.ensures.1) (told (Symbol.a_type n ∷ []) (type_fails c.in_err-key.ensures.refused))

pub returns-then-not-takes_int-clause-derived : goal.returns-then-not-takes_int-clause-derived
returns-then-not-takes_int-clause-derived c = reads_type_word _ _ _ _ c.in_ok-key.ensures.read

pub returns-then-not-takes_int-clause-judged : goal.returns-then-not-takes_int-clause-judged
returns-then-not-takes_int-clause-judged c = λ n small. went (Symbol.a_type n ∷ []) [] (same_type small c.in_ok-key.ensures.read (search rules))

pub returns-clause-derived : goal.returns-clause-derived
returns-clause-derived c = reads_with_int _ _ _ _ _ c.in_ok-key.ensures.read (search rules) c.skip_int.ensures

pub returns-clause-judged : goal.returns-clause-judged
returns-clause-judged c = λ n small. went (Symbol.a_type n ∷ []) [] (same_int_type small c.in_ok-key.ensures.read (search rules) c.skip_int.ensures)
