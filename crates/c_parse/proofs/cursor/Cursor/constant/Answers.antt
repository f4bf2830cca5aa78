use Rattle.std.proofs.Common.{[], ◌∷◌, refl}
use Rattle.c_parse.specs.Symbols.{Symbol}
use Rattle.c_parse.specs.Stops.{Refuses}
use Rattle.c_parse.proofs.Rules.{reads_constant}
use Rattle.c_parse.proofs.Refusing.{no_number}
use Rattle.c_parse.proofs.Chains.{stopped, told, went, same_takes, number_fails}
use Rattle.c_parse.proofs.JudgedExprs.{number_taken}
use Rattle.c_parse.proofs.cursor.Cursor.constant.Goals as goal

pub returns-in_err-token-clause-judged : goal.returns-in_err-token-clause-judged
returns-in_err-token-clause-judged c = λ n small. rw (stopped _ _ c.from_residual.ensures.1) (told (Symbol.a_number n ∷ []) (number_fails (Refuses.ended c.in_err-token.ensures.none_left c.in_err-token.ensures.ended)))

pub returns-in_default-clause-judged : goal.returns-in_default-clause-judged
returns-in_default-clause-judged c = λ n small. told (Symbol.a_number n ∷ []) (number_fails (Refuses.unfit _ _ c.in_ok-token.ensures.read (no_number _ c.in_default.not-Number) refl))

pub returns-in-Number-clause-derived : goal.returns-in-Number-clause-derived
returns-in-Number-clause-derived c = reads_constant _ _ _ _ _ c.in_ok-token.ensures.read c.in-Number.is

pub returns-in-Number-clause-judged : goal.returns-in-Number-clause-judged
returns-in-Number-clause-judged c = λ n small. went (Symbol.a_number n ∷ []) [] (same_takes c.in_ok-token.ensures.read (number_taken n _ _ _ c.in-Number.is) small)
