-- A call that fails has no result, and one that lacks memory tells no verdict.
use Rattle.std.proofs.Common.{◌≡◌, List, ◌++◌, Result, Ok, Err, IfOk, IsErrAnd, sym, subst}
use Rattle.c_ast.specs.declared.token.Token.{Token}
use Rattle.c_parse.specs.declared.refusal.Stop.{Stop}
use Rattle.c_parse.specs.declared.refusal.Stop.TheVariants as stop
use Rattle.c_parse.specs.Symbols.{Symbol}
use Rattle.c_parse.specs.Traces.{judge}
use Rattle.c_parse.specs.Verdicts.{Tells, Judges}

pub no_result : {A E : Type 0} (P : A → Type 0) (Q : E → Type 0) (r : Result A E) → IsErrAnd r Q → IfOk r P
no_result P Q (Err e) h = tt
no_result P Q (Ok x) h = absurd h

pub no_verdict : {A : Type 0} (part left : List Symbol) (before after : List Token) (r : Result A Stop) → IsErrAnd r (λ e. e ≡ stop.Memory) → Judges part left before after r
no_verdict part left before after (Err e) h = λ symbols. subst (λ x. Tells x (judge (part ++ symbols) before)) (sym h) tt
no_verdict part left before after (Ok x) h = absurd h
